-- Which variables are bound at a point, and that the document node is held there.
use Rattle.std.specs.Prelude.{◌≡◌, ℕ, ◌<◌, true, false, List, [], ◌∷◌, ◌++◌, length, ◌⊎◌}
use Rattle.gcx_base.specs.declared.steps.Step.{Step}
use Rattle.gcx_model.specs.Tree.{Node, Root, Tree, opening}
use Rattle.gcx_model.specs.Members.{In}
use Rattle.gcx_model.specs.Core.{BodyTree, Then, For, PlanTree}
use Rattle.gcx_model.specs.Truth.{Env}
use Rattle.gcx_model.specs.Run.{idle, run, env0}
use Rattle.gcx_model.specs.Cores.{Good}
use Rattle.gcx_model.specs.Placed.{Placed}
use Rattle.gcx_model.specs.Held.{held}
use Rattle.gcx_model.specs.Growth.{Leads}
use Rattle.gcx_model.specs.Points.{actions, so_far, CoreState, Frame, Rest, LoopRound, PointAt, Bound_in}

-- The variable isn't 0, and no frame below binds it.
abbrev pub IsFree : ℕ → List Frame → Type 0
IsFree x below = (x ≡ 0 → ⊥) × ((z : ℕ) (m : Node) → Bound_in z m below → z ≡ x → ⊥)

-- So it is of the variable of a loop that comes next: to bind it leaves what the others are bound to;
abbrev pub LoopVariableFree : Type 0
LoopVariableFree = (core : BodyTree) → Good core → (plan : PlanTree) → Placed core plan → (P : Tree) (k : ℕ) → (top below : List Frame) (x y : ℕ) (s : Step) (e d : BodyTree) (env : Env)
    → PointAt plan P k (top ++ Rest (Then (For x y s e) d) env ∷ below) → IsFree x below

-- and of that of a round, below it.
abbrev pub RoundVariableFree : Type 0
RoundVariableFree = (core : BodyTree) → Good core → (plan : PlanTree) → Placed core plan → (P : Tree) (k : ℕ) → (top below : List Frame) (x y : ℕ) (s : Step) (e : BodyTree) (env : Env) (n : Node)
    → PointAt plan P k (top ++ LoopRound x y s e env n ∷ below) → IsFree x below

-- A plan's run isn't over without an action: its last one takes back the document node's own role. So the document node is held while an action is left or the run isn't done;
-- before the first action; and at each point at which the whole body is left.
abbrev pub PlanActs : Type 0
PlanActs = (core : BodyTree) → Good core → (plan : PlanTree) → Placed core plan → (P : Tree)
    → (run plan.body env0 P ≡ idle true → ⊥)
    × (Leads opening P → In Root (held plan P []))
    × ((k : ℕ) → CoreState plan P k
    → ((k < length (actions plan P)) ⊎ ((run plan.body env0 P).done ≡ false) → In Root (held plan P (so_far plan P k)))
    × (PointAt plan P k (Rest plan.body env0 ∷ []) → In Root (held plan P (so_far plan P k))))
