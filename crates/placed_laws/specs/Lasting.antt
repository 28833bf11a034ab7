-- What a node was given.
use Rattle.std.specs.Prelude.{◌≡◌}
use Rattle.std.specs.Prelude.{ℕ}
use Rattle.gcx_model.specs.Tree.{Node}
use Rattle.gcx_model.specs.Tree.{Tree}
use Rattle.gcx_model.specs.Tree.{opening}
use Rattle.gcx_model.specs.Members.{In}
use Rattle.gcx_model.specs.Core.{PlanTree}
use Rattle.gcx_model.specs.Held.{given}
use Rattle.gcx_model.specs.Growth.{Leads}

-- What a node was given stays as it is while tokens come,
abbrev pub GivenStays : Type 0
GivenStays = (plan : PlanTree) (P Q : Tree) → Leads opening P → Leads P Q → (n : Node) (r : ℕ) → In n P.nodes → given plan Q n r ≡ given plan P n r
