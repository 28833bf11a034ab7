-- How a point goes on: one law for each small step of an evaluator, whatever stands below the frames that it speaks of.
use Rattle.std.specs.Prelude.{◌≡◌, ℕ, suc, ◌<◌, ◌≤◌, Bool, true, false, List, [], ◌∷◌, ◌++◌, length}
use Rattle.gcx_base.specs.declared.steps.Step.{Step}
use Rattle.gcx_model.specs.Tree.{Node, serial_of, Tree, opening, is_closed}
use Rattle.gcx_model.specs.Paths.{matches}
use Rattle.gcx_model.specs.Core.{CondTree, OffTree, Write, For, If, SignOff, BodyTree, Nil, Then, PlanTree}
use Rattle.gcx_model.specs.declared.truth.Truth.TheVariants.{True, False, Unknown}
use Rattle.gcx_model.specs.Truth.{Env, bind_var, truth}
use Rattle.gcx_model.specs.Run.{Action, Wrote, Offed, run, env0}
use Rattle.gcx_model.specs.Growth.{Leads}
use Rattle.gcx_model.specs.Points.{actions, so_far, Frame, Rest, LoopRound, CopyPart, later, PointAt}

-- behind k actions of the run this one is the next
pub record IsNext (plan : PlanTree) (P : Tree) (k : ℕ) (a : Action) : Type 0 where
  pub left : k < length (actions plan P)
  pub taken : so_far plan P (suc k) ≡ so_far plan P k ++ a ∷ []

-- behind k actions of the run none is left; whether it is done
pub record NoneLeft (plan : PlanTree) (P : Tree) (k : ℕ) (done : Bool) : Type 0 where
  pub over : length (actions plan P) ≤ k
  pub all : so_far plan P k ≡ actions plan P
  pub is_done : (run plan.body env0 P).done ≡ done

-- these frames are the point behind k actions, over an open tree that has grown so far
pub record AtPoint (plan : PlanTree) (P : Tree) (k : ℕ) (fs : List Frame) : Type 0 where
  pub grown : Leads opening P
  pub point : PointAt plan P k fs

-- A run begins with the plan's body.
abbrev pub OpeningPoint : Type 0
OpeningPoint = (plan : PlanTree) (P : Tree) → PointAt plan P 0 (Rest plan.body env0 ∷ [])

-- Bytes are written: that is the next action.
abbrev pub WriteMove : Type 0
WriteMove = (plan : PlanTree) (P : Tree) (k : ℕ) (b : List ℕ) (d : BodyTree) (env : Env) (fs : List Frame)
    → AtPoint plan P k (Rest (Then (Write b) d) env ∷ fs) → IsNext plan P k (Wrote b) × PointAt plan P (suc k) (Rest d env ∷ fs)

-- A statement is carried out at the node of its base: that is the next action.
abbrev pub OffMove : Type 0
OffMove = (plan : PlanTree) (P : Tree) (k : ℕ) (o : OffTree) (d : BodyTree) (env : Env) (fs : List Frame)
    → AtPoint plan P k (Rest (Then (SignOff o) d) env ∷ fs) → IsNext plan P k (Offed o (serial_of (env o.base))) × PointAt plan P (suc k) (Rest d env ∷ fs)

-- A condition is true, or false: that branch is taken, with no action.
abbrev pub BranchMove : Type 0
BranchMove = (plan : PlanTree) (P : Tree) (k : ℕ) (c : CondTree) (a b d : BodyTree) (env : Env) (fs : List Frame)
    → AtPoint plan P k (Rest (Then (If c a b) d) env ∷ fs)
    → (truth c env P ≡ True → PointAt plan P k (Rest a env ∷ Rest d env ∷ fs)) × (truth c env P ≡ False → PointAt plan P k (Rest b env ∷ Rest d env ∷ fs))

-- A loop has a match: its body begins with the first one, with no action.
abbrev pub FirstRound : Type 0
FirstRound = (plan : PlanTree) (P : Tree) (k : ℕ) (x y : ℕ) (s : Step) (e d : BodyTree) (env : Env) (fs : List Frame) (n : Node) (post : List Node)
    → AtPoint plan P k (Rest (Then (For x y s e) d) env ∷ fs) → matches P (serial_of (env y)) (s ∷ []) ≡ n ∷ post
    → PointAt plan P k (Rest e (bind_var env x n) ∷ LoopRound x y s e env n ∷ Rest d env ∷ fs)

-- It has none, and none comes: it is over, with no action.
abbrev pub NoRound : Type 0
NoRound = (plan : PlanTree) (P : Tree) (k : ℕ) (x y : ℕ) (s : Step) (e d : BodyTree) (env : Env) (fs : List Frame)
    → AtPoint plan P k (Rest (Then (For x y s e) d) env ∷ fs) → matches P (serial_of (env y)) (s ∷ []) ≡ [] → is_closed P (env y) ≡ true
    → PointAt plan P k (Rest d env ∷ fs)

-- A round's body is over, and the loop has a later match: the body begins again with the first of these, with no action.
abbrev pub NextRound : Type 0
NextRound = (plan : PlanTree) (P : Tree) (k : ℕ) (v : Env) (x y : ℕ) (s : Step) (e : BodyTree) (env : Env) (n : Node) (fs : List Frame) (m : Node) (post : List Node)
    → AtPoint plan P k (Rest Nil v ∷ LoopRound x y s e env n ∷ fs) → later n (matches P (serial_of (env y)) (s ∷ [])) ≡ m ∷ post
    → PointAt plan P k (Rest e (bind_var env x m) ∷ LoopRound x y s e env m ∷ fs)

-- It has none, and none comes: the loop is over, with no action.
abbrev pub LastRound : Type 0
LastRound = (plan : PlanTree) (P : Tree) (k : ℕ) (v : Env) (x y : ℕ) (s : Step) (e : BodyTree) (env : Env) (n : Node) (fs : List Frame)
    → AtPoint plan P k (Rest Nil v ∷ LoopRound x y s e env n ∷ fs) → later n (matches P (serial_of (env y)) (s ∷ [])) ≡ [] → is_closed P (env y) ≡ true
    → PointAt plan P k fs

-- An empty rest above another one, as at the end of a branch, goes, with no action. Above a round it is the end of its body, and goes with the next round or the last one.
abbrev pub EmptyRest : Type 0
EmptyRest = (plan : PlanTree) (P : Tree) (k : ℕ) (v : Env) (d : BodyTree) (env : Env) (fs : List Frame)
    → AtPoint plan P k (Rest Nil v ∷ Rest d env ∷ fs) → PointAt plan P k (Rest d env ∷ fs)

-- Where a condition isn't known, no action is left, and the run isn't done;
abbrev pub BranchWaits : Type 0
BranchWaits = (plan : PlanTree) (P : Tree) (k : ℕ) (c : CondTree) (a b d : BodyTree) (env : Env) (fs : List Frame)
    → AtPoint plan P k (Rest (Then (If c a b) d) env ∷ fs) → truth c env P ≡ Unknown → NoneLeft plan P k false

-- so where a loop has no match yet,
abbrev pub LoopWaits : Type 0
LoopWaits = (plan : PlanTree) (P : Tree) (k : ℕ) (x y : ℕ) (s : Step) (e d : BodyTree) (env : Env) (fs : List Frame)
    → AtPoint plan P k (Rest (Then (For x y s e) d) env ∷ fs) → matches P (serial_of (env y)) (s ∷ []) ≡ [] → is_closed P (env y) ≡ false → NoneLeft plan P k false

-- and where it has no later one yet.
abbrev pub RoundWaits : Type 0
RoundWaits = (plan : PlanTree) (P : Tree) (k : ℕ) (v : Env) (x y : ℕ) (s : Step) (e : BodyTree) (env : Env) (n : Node) (fs : List Frame)
    → AtPoint plan P k (Rest Nil v ∷ LoopRound x y s e env n ∷ fs) → later n (matches P (serial_of (env y)) (s ∷ [])) ≡ [] → is_closed P (env y) ≡ false → NoneLeft plan P k false

-- each frame is an empty rest
abbrev pub AllEmpty : List Frame → Type 0
AllEmpty [] = Unit {0}
AllEmpty (Rest Nil env ∷ fs) = AllEmpty fs
AllEmpty (Rest (Then i d) env ∷ fs) = ⊥
AllEmpty (LoopRound x y s e env n ∷ fs) = ⊥
AllEmpty (CopyPart x env made ∷ fs) = ⊥

-- Where only empty rests are left, no action is left, and the run is done.
abbrev pub RunIsDone : Type 0
RunIsDone = (plan : PlanTree) (P : Tree) (k : ℕ) (fs : List Frame) → AtPoint plan P k fs → AllEmpty fs → NoneLeft plan P k true

-- The frames of a point: at the bottom the plan's rest, with its variables; on a rest a branch of it with the same variables, a round's body with the round's variable bound to its node, or a copy of a node of these variables.
pub data IsStack (outer : Env) : List Frame → Type 0 where
  Bottom : (d : BodyTree) → IsStack outer (Rest d outer ∷ [])
  InBranch : (a d : BodyTree) (env : Env) (fs : List Frame) → IsStack outer (Rest d env ∷ fs) → IsStack outer (Rest a env ∷ Rest d env ∷ fs)
  InRound : (a e d : BodyTree) (env : Env) (x y : ℕ) (s : Step) (n : Node) (fs : List Frame) → IsStack outer (Rest d env ∷ fs) → IsStack outer (Rest a (bind_var env x n) ∷ LoopRound x y s e env n ∷ Rest d env ∷ fs)
  InNodeCopy : (x : ℕ) (d : BodyTree) (env : Env) (made : ℕ) (fs : List Frame) → IsStack outer (Rest d env ∷ fs) → IsStack outer (CopyPart x env made ∷ Rest d env ∷ fs)

-- So it is at each point.
abbrev pub PointsAreStacks : Type 0
PointsAreStacks = (plan : PlanTree) (P : Tree) (k : ℕ) (fs : List Frame) → PointAt plan P k fs → IsStack env0 fs
