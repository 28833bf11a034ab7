use Rattle.std.proofs.Common.{◌≡◌, ◌<◌, ℕ, Bool, List, [], sym, ◌∙◌, ap, subst, arith}
use Rattle.std.specs.FinSet.{FinSet}
use Rattle.std.specs.Ordering.{nat_cmp}
use Rattle.gcx_model.specs.Held.{taken, roles_taken}
use Rattle.matcher.specs.Ahead.{AreTaken}
use Rattle.matcher.specs.Calls.{GivesCount, GivesNewly, GivesPlainly, GivesSet}
use Rattle.matcher.specs.View.{MatcherView, frame_of, matcher_view}
use Rattle.matcher.specs.declared.signs.Sign.{Sign}
use Rattle.matcher.proofs.Aheads.{innermost_same}
use Rattle.matcher.proofs.Framing.{frame_last}
use Rattle.matcher.proofs.HereGiven.{newly_framed, newly_idle, set_framed, set_idle}
use Rattle.matcher.proofs.Taking.{none_signed, taken_none, roles_are_taken}
use Rattle.matcher.proofs.matcher.Matcher.plain_sets.Goals as goal

-- where no statement is signed, none of the roles is taken back already
plainly : (m : MatcherView) (roles kept : FinSet nat_cmp) (count : ℕ) → m.signs ≡ [] → GivesSet m roles count → GivesNewly m kept → GivesPlainly m roles kept count
plainly m roles kept count none gives newly = record {
  gives = gives;
  newly = newly;
  ahead = λ past text n s here.
      let test : ℕ → Bool = taken past.plan past.tree past.acts s.here in
      roles_are_taken m past text s [] (subst (λ (z : List Sign). AreTaken test z []) (sym none) (taken_none test)) ∙ ap (roles_taken past.plan past.tree past.acts) (innermost_same past.tree text s.here n s.innermost here);
  unsigned = λ past text n b o s here i u. none_signed m past text s none n b o here i u;
}

pub returns-then-self-gt0 : goal.returns-then-self-gt0
returns-then-self-gt0 c = λ count g.
    let seen = matcher_view c.self.inside.states c.self.inside.frames c.self.inside.idle c.self.inside.text c.self.inside.signs.items in
    let f = frame_last c.self.inside.states c.self.inside.frames c.self.invariant c.here-state.result.now c.here-state.ensures.is in
    let some : 0 < c.self.inside.idle = (let g = c.if-self-gt0.true in omega arith) in
    let h : GivesCount seen count = subst (λ (m : MatcherView). GivesCount m count) (sym c.self.view_is) g in
    subst (λ (m : MatcherView). GivesPlainly m c.whole_set.result.now c.empty.result.now count) c.self.view_is
    (plainly seen c.whole_set.result.now c.empty.result.now count h.unsigned
    (set_idle seen c.here-state.result.now f.0 f.2 c.here-state.ensures.made some count h c.whole_set.result.now c.whole_set.ensures)
    (newly_idle seen (frame_of c.here-state.result.now f.0) f.2 some c.empty.result.now c.empty.ensures))

pub returns : goal.returns
returns c = λ count g.
    let seen = matcher_view c.self.inside.states c.self.inside.frames c.self.inside.idle c.self.inside.text c.self.inside.signs.items in
    let f = frame_last c.self.inside.states c.self.inside.frames c.self.invariant c.here-state.result.now c.here-state.ensures.is in
    let none : c.self.inside.idle ≡ 0 = (let g = c.if-self-gt0.false in omega arith) in
    let h : GivesCount seen count = subst (λ (m : MatcherView). GivesCount m count) (sym c.self.view_is) g in
    let found = (h.told.framed (frame_of c.here-state.result.now f.0) f.2 none).0 in
    let made = c.here-state.ensures.made in
    subst (λ (m : MatcherView). GivesPlainly m c.roles.result.now c.kept.result.now count) c.self.view_is
    (plainly seen c.roles.result.now c.kept.result.now count h.unsigned
    (set_framed seen c.here-state.result.now f.0 f.2 made none count h c.roles.result.now c.roles.ensures)
    (newly_framed seen c.here-state.result.now f.0 f.2 made none found c.kept.result.now c.kept.ensures))
