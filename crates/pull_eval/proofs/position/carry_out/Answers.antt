use Rattle.std.proofs.Common.{sym, ◌∙◌, inl, inr}
use Rattle.std.proofs.lemmas.Bool.{not-true, not-false, true≢false}
use Rattle.pull_eval.proofs.position.carry_out.Goals.{then-is_closed, else-is_closed}
use Rattle.pull_eval.proofs.position.carry_out.Goals as goal

pub sign_off-requires-clause-behind : goal.sign_off-requires-clause-behind
sign_off-requires-clause-behind g c =
    let d = c.requires.due in
    let told = c.is_closed.ensures d.cell d.among d.place in
    elim c.if-is_closed.branch [
      | then-is_closed w ↦ record { cell = d.cell; among = d.among; place = d.place; either = inl (not-true d.cell.row.is_open (sym told ∙ w.if-is_closed.true)) }
      | else-is_closed w ↦ record { cell = d.cell; among = d.among; place = d.place; either = inr (sym w.is_own.ensures ∙ (sym w.value-is ∙ c.if-is_own.true)) }
    ]

pub sign_ahead-requires-clause-ahead : goal.sign_ahead-requires-clause-ahead
sign_ahead-requires-clause-ahead g c =
    let d = c.requires.due in
    let told = c.is_closed.ensures d.cell d.among d.place in
    elim c.if-is_closed.branch [
      | then-is_closed w ↦ absurd (true≢false (sym w.if-is_closed.true ∙ (sym w.value-is ∙ c.if-is_own.false)))
      | else-is_closed w ↦ record { cell = d.cell; among = d.among; place = d.place; is_open = not-false d.cell.row.is_open (sym told ∙ w.if-is_closed.false); steps = sym w.is_own.ensures ∙ (sym w.value-is ∙ c.if-is_own.false) }
    ]
