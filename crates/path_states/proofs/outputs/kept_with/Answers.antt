use Rattle.std.proofs.Common.{ℕ, true, List, subst}
use Rattle.std.specs.Prelude.{◌≡◌, ◌↔◌}
use Rattle.std.specs.FinSet.{contains}
use Rattle.gcx_model.specs.Members.{In}
use Rattle.path_states.proofs.outputs.kept_with.Goals as goal

pub returns : goal.returns
returns c = λ r.
    let k = subst (λ (z : List ℕ). contains c.in_ok-kept.kept r ≡ true ↔ In r z) c.as_slice.ensures.value (c.in_ok-kept.ensures r) in
    let g = c.in_ok-given.ensures.holds.has r in
    (λ h. g.0 (k.0 h), λ h. k.1 (g.1 h))
