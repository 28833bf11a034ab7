use Rattle.std.proofs.Common.{◌≡◌, ℕ, List, ◌++◌, map, sym, ◌∙◌, ap, subst}
use Rattle.gcx_base.specs.declared.ids.Role.{Role}
use Rattle.path_states.specs.Lists.{Climbs, From, Gains}
use Rattle.path_states.proofs.Looking.{none_of}
use Rattle.matcher.specs.Frames.{IsRoleOf}
use Rattle.matcher.proofs.GivenRoles.{both_alone, both_by}
use Rattle.matcher.proofs.roles.given_with.Goals as goal

pub returns-then-is_empty : goal.returns-then-is_empty
returns-then-is_empty c = λ h.
    both_alone c.args.roles.now c.args.found.now (map (λ (r : Role). r.0) c.in_ok-given.given) (none_of c.args.found.now (sym c.is_empty.ensures ∙ c.if-is_empty.true)) h (c.in_ok-given.ensures h)

pub returns : goal.returns
returns c = λ h.
    let start : c.extend_from_slice.new.self.items ≡ c.args.roles.now = c.in_ok-extend_from_slice.ensures.items ∙ ap (λ (z : List ℕ). z ++ c.args.roles.now) c.new-all.ensures.items in
    let climbs = c.in_ok-put_first.ensures.climbs (subst Climbs (sym start) h) in
    let gains = subst (λ (z : List ℕ). Gains z c.put_first.new.roles.items (From c.args.found.now IsRoleOf)) start c.in_ok-put_first.ensures.gains in
    let e : map (λ (r : Role). r.0) c.in_ok-both.both ≡ c.put_first.new.roles.items = c.in_ok-both.ensures (subst Climbs (sym c.deref.ensures.value) climbs) ∙ c.deref.ensures.value in
    both_by c.args.roles.now c.args.found.now c.put_first.new.roles.items (map (λ (r : Role). r.0) c.in_ok-both.both) e climbs gains
