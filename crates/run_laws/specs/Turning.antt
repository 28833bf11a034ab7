-- Turns of the two actors and core states.
use Rattle.std.specs.Prelude.{◌≡◌, ℕ, ◌≤◌, true, List, [], ◌∷◌, ◌++◌, length}
use Rattle.gcx_model.specs.Tree.{Tree, TreeToken, opening}
use Rattle.gcx_model.specs.Core.{PlanTree}
use Rattle.gcx_model.specs.Growth.{may_all}
use Rattle.gcx_model.specs.Points.{CoreState}
use Rattle.gcx_model.specs.Turning.{Turn, tree_fed, turn, turned}

-- Turns reach a core state, whatever their order,
abbrev pub TurnsReach : Type 0
TurnsReach = (plan : PlanTree) (ts : List TreeToken) (turns : List Turn) → may_all ts opening ≡ true
    → CoreState plan (tree_fed ts (turned plan ts turns)) (turned plan ts turns).acted × ((turned plan ts turns).fed ≤ length ts)

-- each core state is reached by some turns, over some tokens,
abbrev pub TurnsReachAll : Type 0
TurnsReachAll = (plan : PlanTree) (P : Tree) (k : ℕ) → CoreState plan P k
    → (ts : List TreeToken) × (turns : List Turn) × (may_all ts opening ≡ true) × (tree_fed ts (turned plan ts turns) ≡ P) × ((turned plan ts turns).acted ≡ k)

-- and one turn more goes on from what those before it reach.
abbrev pub OneTurnMore : Type 0
OneTurnMore = (plan : PlanTree) (ts : List TreeToken) (turns : List Turn) (t : Turn) → turned plan ts (turns ++ t ∷ []) ≡ turn plan ts t (turned plan ts turns)
