-- What points need, and what the held nodes tell.
use Rattle.std.specs.Prelude.{◌≡◌}
use Rattle.std.specs.Prelude.{ℕ}
use Rattle.std.specs.Prelude.{List}
use Rattle.std.specs.Prelude.{[]}
use Rattle.std.specs.Prelude.{◌∷◌}
use Rattle.std.specs.Prelude.{◌++◌}
use Rattle.gcx_base.specs.declared.steps.Step.{Step}
use Rattle.gcx_model.specs.Tree.{Node}
use Rattle.gcx_model.specs.Tree.{serial_of}
use Rattle.gcx_model.specs.Tree.{Tree}
use Rattle.gcx_model.specs.Paths.{matches}
use Rattle.gcx_model.specs.Members.{In}
use Rattle.gcx_model.specs.Core.{CondTree}
use Rattle.gcx_model.specs.Core.{BodyTree}
use Rattle.gcx_model.specs.Core.{Then}
use Rattle.gcx_model.specs.Core.{For}
use Rattle.gcx_model.specs.Core.{If}
use Rattle.gcx_model.specs.Core.{OffTree}
use Rattle.gcx_model.specs.Core.{PlanTree}
use Rattle.gcx_model.specs.Core.{ItemTree}
use Rattle.gcx_model.specs.Core.{SignOff}
use Rattle.gcx_model.specs.Truth.{Env}
use Rattle.gcx_model.specs.Truth.{truth}
use Rattle.gcx_model.specs.Run.{Offed}
use Rattle.gcx_model.specs.Run.{copy}
use Rattle.gcx_model.specs.Cores.{Good}
use Rattle.gcx_model.specs.Placed.{Placed}
use Rattle.gcx_model.specs.Held.{path_of}
use Rattle.gcx_model.specs.Held.{held}
use Rattle.gcx_model.specs.Held.{held_tree}
use Rattle.gcx_model.specs.Points.{so_far}
use Rattle.gcx_model.specs.Points.{CoreState}
use Rattle.gcx_model.specs.Points.{Frame}
use Rattle.gcx_model.specs.Points.{Rest}
use Rattle.gcx_model.specs.Points.{LoopRound}
use Rattle.gcx_model.specs.Points.{CopyPart}
use Rattle.gcx_model.specs.Points.{later}
use Rattle.gcx_model.specs.Points.{PointAt}
use Rattle.gcx_model.specs.Points.{Bound_in}
use Rattle.gcx_model.specs.Needs.{Needs}
use Rattle.gcx_model.specs.Needs.{Uses}

-- Need law: in every core state what its points need is held
abbrev pub NeedLaw : Type 0
NeedLaw = (core : BodyTree) → Good core → (plan : PlanTree) → Placed core plan → (P : Tree) (k : ℕ) → CoreState plan P k → (fs : List Frame) → PointAt plan P k fs
    → (m : Node) → In m P.nodes → Needs P [] fs m → In m (held plan P (so_far plan P k))

-- At a point each variable that the item uses with which a body goes on is bound below, to a match of its path,
abbrev pub BoundLaw : Type 0
BoundLaw = (core : BodyTree) → Good core → (plan : PlanTree) → Placed core plan → (P : Tree) (k : ℕ) → CoreState plan P k → (top below : List Frame) (i : ItemTree) (d : BodyTree) (env : Env)
    → PointAt plan P k (top ++ Rest (Then i d) env ∷ below) → (x : ℕ) → Uses i x → Bound_in x (env x) below × In (env x) (matches P 0 (path_of plan x))

-- the present match of a loop is one of its parent's node, which is bound below, and of the variable's path,
abbrev pub TurnLaw : Type 0
TurnLaw = (core : BodyTree) → Good core → (plan : PlanTree) → Placed core plan → (P : Tree) (k : ℕ) → CoreState plan P k → (top below : List Frame) (x y : ℕ) (s : Step) (e : BodyTree) (env : Env) (n : Node)
    → PointAt plan P k (top ++ LoopRound x y s e env n ∷ below) → Bound_in y (env y) below × In n (matches P (serial_of (env y)) (s ∷ [])) × In n (matches P 0 (path_of plan x))

-- and a statement with which a body goes on isn't carried out yet at its base's node.
abbrev pub UnsignedLaw : Type 0
UnsignedLaw = (core : BodyTree) → Good core → (plan : PlanTree) → Placed core plan → (P : Tree) (k : ℕ) → CoreState plan P k → (top below : List Frame) (o : OffTree) (d : BodyTree) (env : Env)
    → PointAt plan P k (top ++ Rest (Then (SignOff o) d) env ∷ below) → In (Offed o (serial_of (env o.base))) (so_far plan P k) → ⊥

-- So over the held nodes the evaluator finds what it would find over the whole tree, wherever a frame stands among the others: the truth of a condition with which a body goes on,
abbrev pub TruthHeld : Type 0
TruthHeld = (core : BodyTree) → Good core → (plan : PlanTree) → Placed core plan → (P : Tree) (k : ℕ) → CoreState plan P k → (top below : List Frame) (c : CondTree) (a b d : BodyTree) (env : Env)
    → PointAt plan P k (top ++ Rest (Then (If c a b) d) env ∷ below) → truth c env (held_tree plan P (so_far plan P k)) ≡ truth c env P

-- the later matches of a loop,
abbrev pub TurnsHeld : Type 0
TurnsHeld = (core : BodyTree) → Good core → (plan : PlanTree) → Placed core plan → (P : Tree) (k : ℕ) → CoreState plan P k → (top below : List Frame) (x y : ℕ) (s : Step) (e : BodyTree) (env : Env) (n : Node)
    → PointAt plan P k (top ++ LoopRound x y s e env n ∷ below) → later n (matches (held_tree plan P (so_far plan P k)) (serial_of (env y)) (s ∷ [])) ≡ later n (matches P (serial_of (env y)) (s ∷ []))

-- all matches of a loop that comes next,
abbrev pub LoopHeld : Type 0
LoopHeld = (core : BodyTree) → Good core → (plan : PlanTree) → Placed core plan → (P : Tree) (k : ℕ) → CoreState plan P k → (top below : List Frame) (x y : ℕ) (s : Step) (e d : BodyTree) (env : Env)
    → PointAt plan P k (top ++ Rest (Then (For x y s e) d) env ∷ below) → matches (held_tree plan P (so_far plan P k)) (serial_of (env y)) (s ∷ []) ≡ matches P (serial_of (env y)) (s ∷ [])

-- and a copy.
abbrev pub CopyHeld : Type 0
CopyHeld = (core : BodyTree) → Good core → (plan : PlanTree) → Placed core plan → (P : Tree) (k : ℕ) → CoreState plan P k → (top below : List Frame) (x : ℕ) (env : Env) (made most : ℕ)
    → PointAt plan P k (top ++ CopyPart x env made ∷ below) → copy most (held_tree plan P (so_far plan P k)) (env x) ≡ copy most P (env x)
