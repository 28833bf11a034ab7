use Rattle.std.proofs.Common.{◌∙◌, sym, inl, inr}
use Rattle.std.proofs.lemmas.Bool.{true≢false, not-true, not-false}
use Rattle.buffer_tests.proofs.Feeds.{due, carried}
use Rattle.buffer_tests.proofs.buffers.carry_out.Goals.{then-is_own, else-is_own}
use Rattle.buffer_tests.proofs.buffers.carry_out.Goals as goal

pub sign_off-requires-clause-due : goal.sign_off-requires-clause-due
sign_off-requires-clause-due g c =
    let u = c.requires.place in
    due _ _ _ _ c.requires.fed.3 _ _ u (sym (c.is_due.ensures u.cell u.among u.place) ∙ c.if-not-is_due.false) c.requires.fed.4

pub sign_off-requires-clause-behind : goal.sign_off-requires-clause-behind
sign_off-requires-clause-behind g c =
    let u = c.requires.place in
    record {
      cell = u.cell;
      among = u.among;
      place = u.place;
      either = elim c.if-is_own.branch [
        | then-is_own w ↦ inr (sym c.is_own.ensures ∙ w.if-is_own.true)
        | else-is_own w ↦ inl (not-true _ (sym (w.is_closed.ensures u.cell u.among u.place) ∙ (sym w.value-is ∙ c.if-is_closed.true)))
      ];
    }

pub sign_ahead-requires-clause-due : goal.sign_ahead-requires-clause-due
sign_ahead-requires-clause-due g c =
    let u = c.requires.place in
    due _ _ _ _ c.requires.fed.3 _ _ u (sym (c.is_due.ensures u.cell u.among u.place) ∙ c.if-not-is_due.false) c.requires.fed.4

pub sign_ahead-requires-clause-ahead : goal.sign_ahead-requires-clause-ahead
sign_ahead-requires-clause-ahead g c =
    let u = c.requires.place in
    elim c.if-is_own.branch [
      | then-is_own w ↦ absurd (true≢false (sym w.if-is_own.true ∙ (sym w.value-is ∙ c.if-is_closed.false)))
      | else-is_own w ↦ record {
        cell = u.cell;
        among = u.among;
        place = u.place;
        is_open = not-false _ (sym (w.is_closed.ensures u.cell u.among u.place) ∙ (sym w.value-is ∙ c.if-is_closed.false));
        steps = sym c.is_own.ensures ∙ w.if-is_own.false;
      }
    ]

pub returns-in_ok-sign_off : goal.returns-in_ok-sign_off
returns-in_ok-sign_off g c plan reader projector f i =
    carried plan reader projector _ f _ i _ _ c.in_ok-sign_off.ensures.stands c.in_ok-sign_off.ensures.signed.places

pub returns-in_ok-sign_ahead : goal.returns-in_ok-sign_ahead
returns-in_ok-sign_ahead g c plan reader projector f i =
    carried plan reader projector _ f _ i _ _ c.in_ok-sign_ahead.ensures.stands c.in_ok-sign_ahead.ensures.signed.places
