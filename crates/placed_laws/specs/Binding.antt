-- What a copy in progress copies.
use Rattle.std.specs.Prelude.{ℕ, List, ◌∷◌, ◌++◌}
use Rattle.gcx_model.specs.Tree.{Tree}
use Rattle.gcx_model.specs.Paths.{matches}
use Rattle.gcx_model.specs.Members.{In}
use Rattle.gcx_model.specs.Core.{BodyTree, PlanTree}
use Rattle.gcx_model.specs.Truth.{Env}
use Rattle.gcx_model.specs.Cores.{Good}
use Rattle.gcx_model.specs.Placed.{Placed}
use Rattle.gcx_model.specs.Held.{path_of}
use Rattle.gcx_model.specs.Points.{CoreState, Frame, CopyPart, PointAt, Bound_in}

-- The node that a copy in progress copies is one of the tree, its variable is bound to it below, and it is a match of the variable's path.
abbrev pub CopyBoundLaw : Type 0
CopyBoundLaw = (core : BodyTree) → Good core → (plan : PlanTree) → Placed core plan → (P : Tree) (k : ℕ) → CoreState plan P k → (top below : List Frame) (x : ℕ) (env : Env) (made : ℕ)
    → PointAt plan P k (top ++ CopyPart x env made ∷ below) → In (env x) P.nodes × Bound_in x (env x) below × In (env x) (matches P 0 (path_of plan x))
