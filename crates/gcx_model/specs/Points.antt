-- The point behind some actions of a run, as a stack of frames, and what is still to come from there (this project's).
use Rattle.std.specs.Prelude.{◌≡◌, ℕ, suc, ◌<◌, true, List, [], ◌∷◌, ◌++◌, length, filter, take, drop, nat_lt, ◌⊎◌}
use Rattle.gcx_base.specs.declared.steps.Step.{Step}
use Rattle.gcx_model.specs.Tree.{Node, Root, serial_of, Tree, opening, is_closed}
use Rattle.gcx_model.specs.Paths.{matches}
use Rattle.gcx_model.specs.Core.{CondTree, ItemTree, Copy, For, If, BodyTree, Then, PlanTree}
use Rattle.gcx_model.specs.declared.truth.Truth.TheVariants.{True, False}
use Rattle.gcx_model.specs.Truth.{Env, bind_var, truth}
use Rattle.gcx_model.specs.Run.{Action, Out, idle, seq, loop, copy, run_item, run, env0}
use Rattle.gcx_model.specs.Growth.{Grow}

-- all actions of the plan's run
abbrev pub actions : PlanTree → Tree → List Action
actions plan P = (run plan.body env0 P).acts

-- the first k of them
abbrev pub so_far : PlanTree → Tree → ℕ → List Action
so_far plan P k = take k (actions plan P)

-- what Feeds and Acts reach from the state (P0, k0)
pub data ReachedFrom (plan : PlanTree) (P0 : Tree) (k0 : ℕ) : Tree → ℕ → Type 0 where
  here : ReachedFrom plan P0 k0 P0 k0
  fed : {P Q : Tree} {k : ℕ} → ReachedFrom plan P0 k0 P k → Grow P Q → ReachedFrom plan P0 k0 Q k
  acted : {P : Tree} {k : ℕ} → ReachedFrom plan P0 k0 P k → k < length (actions plan P) → ReachedFrom plan P0 k0 P (suc k)

-- (P, k) is a core state: Feeds and Acts reach it from the opening state
abbrev pub CoreState : PlanTree → Tree → ℕ → Type 0
CoreState plan P k = ReachedFrom plan opening 0 P k

-- what is left of a body; a round of a loop, with the present match; a copy of which so many actions are taken
pub data Frame : Type 0 where
  Rest : (d : BodyTree) (env : Env) → Frame
  LoopRound : (x y : ℕ) (s : Step) (e : BodyTree) (env : Env) (present : Node) → Frame
  CopyPart : (x : ℕ) (env : Env) (made : ℕ) → Frame

-- the matches behind the present one
abbrev pub later : Node → List Node → List Node
later n ms = filter (λ m. nat_lt (serial_of n) (serial_of m)) ms

-- a loop's body, run for one node
abbrev pub body_at : BodyTree → ℕ → Env → Tree → Node → Out
body_at e x env P n = run e (bind_var env x n) P

-- an output without its first k actions
abbrev pub behind : ℕ → Out → Out
behind k o = record { acts = drop k o.acts; done = o.done }

-- what is still to come, of the frames from the top
abbrev pub to_come : Tree → List Frame → Out
to_come P [] = idle true
to_come P (Rest d env ∷ fs) = seq (run d env P) (to_come P fs)
to_come P (LoopRound x y s e env n ∷ fs) = seq (loop (body_at e x env P) (later n (matches P (serial_of (env y)) (s ∷ []))) (is_closed P (env y))) (to_come P fs)
to_come P (CopyPart x env k ∷ fs) = seq (behind k (copy (length P.nodes) P (env x))) (to_come P fs)

-- these frames are a point behind the actions `before` of the run of a body
pub data IsPoint (P : Tree) : BodyTree → Env → (before : List Action) → List Frame → Type 0 where
  Begins : {d : BodyTree} {env : Env} → IsPoint P d env [] (Rest d env ∷ [])
  PastItem : {i : ItemTree} {d : BodyTree} {env : Env} {before : List Action} {fs : List Frame} → (run_item i env P).done ≡ true → IsPoint P d env before fs → IsPoint P (Then i d) env ((run_item i env P).acts ++ before) fs
  InLoop : {x y : ℕ} {s : Step} {e d : BodyTree} {env : Env} {before : List Action} {fs : List Frame} → (pre : List Node) (n : Node) (post : List Node) → matches P (serial_of (env y)) (s ∷ []) ≡ pre ++ n ∷ post → (loop (body_at e x env P) pre true).done ≡ true → IsPoint P e (bind_var env x n) before fs → IsPoint P (Then (For x y s e) d) env ((loop (body_at e x env P) pre true).acts ++ before) (fs ++ LoopRound x y s e env n ∷ Rest d env ∷ [])
  InYes : {c : CondTree} {a b d : BodyTree} {env : Env} {before : List Action} {fs : List Frame} → truth c env P ≡ True → IsPoint P a env before fs → IsPoint P (Then (If c a b) d) env before (fs ++ Rest d env ∷ [])
  InNo : {c : CondTree} {a b d : BodyTree} {env : Env} {before : List Action} {fs : List Frame} → truth c env P ≡ False → IsPoint P b env before fs → IsPoint P (Then (If c a b) d) env before (fs ++ Rest d env ∷ [])
  InCopy : {x : ℕ} {d : BodyTree} {env : Env} (before rest : List Action) → (copy (length P.nodes) P (env x)).acts ≡ before ++ rest → IsPoint P (Then (Copy x) d) env before (CopyPart x env (length before) ∷ Rest d env ∷ [])

-- Behind the first k actions of a plan's run: what follows on them is what is still to come.
abbrev pub PointAt : PlanTree → Tree → ℕ → List Frame → Type 0
PointAt plan P k fs = IsPoint P plan.body env0 (so_far plan P k) fs

-- the variable is bound to the node, by the nearest round of its loop in these frames; variable 0 is bound to the document node behind them all
abbrev pub Bound_in : ℕ → Node → List Frame → Type 0
Bound_in x n [] = (x ≡ 0) × (n ≡ Root)
Bound_in x n (Rest d env ∷ fs) = Bound_in x n fs
Bound_in x n (LoopRound z y s e env m ∷ fs) = ((z ≡ x) × (m ≡ n)) ⊎ Bound_in x n fs
Bound_in x n (CopyPart z env k ∷ fs) = Bound_in x n fs
