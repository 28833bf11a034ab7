use Rattle.std.proofs.Common.{◌≡◌, ℕ, Bool, List, [], sym, ◌∙◌, ap, subst}
use Rattle.std.specs.Prelude.{map}
use Rattle.gcx_base.specs.declared.ids.Role.{Role}
use Rattle.gcx_model.specs.Held.{taken, roles_taken}
use Rattle.matcher.specs.Ahead.{AreTaken}
use Rattle.matcher.specs.View.{MatcherView}
use Rattle.matcher.specs.declared.signs.Sign.{Sign}
use Rattle.path_states.proofs.Looking.{none_of}
use Rattle.matcher.proofs.Aheads.{innermost_same}
use Rattle.matcher.proofs.Taking.{taken_none, roles_are_taken}
use Rattle.matcher.proofs.matcher.Matcher.ahead.Goals as goal

pub returns-then-is_empty : goal.returns-then-is_empty
returns-then-is_empty c = λ past text n s here.
    let none : c.args.self.now.signs ≡ [] = sym (ap (λ (m : MatcherView). m.signs) c.self.view_is) ∙ (sym c.as_slice.ensures.value ∙ none_of c.as_slice.result.now (sym c.is_empty.ensures ∙ c.if-is_empty.true)) in
    let test : ℕ → Bool = taken past.plan past.tree past.acts s.here in
    ap (map (λ (r : Role). r.0)) c.new.ensures
    ∙ (roles_are_taken c.args.self.now past text s [] (subst (λ (z : List Sign). AreTaken test z []) (sym none) (taken_none test))
    ∙ ap (roles_taken past.plan past.tree past.acts) (innermost_same past.tree text s.here n s.innermost here))

pub returns : goal.returns
returns c = λ past text n s here.
    roles_are_taken c.args.self.now past text s (map (λ (r : Role). r.0) c.in_ok-given.given) (c.in_ok-given.ensures past text s)
    ∙ ap (roles_taken past.plan past.tree past.acts) (innermost_same past.tree text s.here n s.innermost here)
