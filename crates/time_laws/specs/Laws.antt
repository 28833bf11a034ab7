-- The laws of runs by times.
use Rattle.std.specs.Prelude.{◌≡◌, ℕ, ◌≤◌, not, ◌||◌, true, List, [], ◌∷◌, ◌++◌, length, None, nat_le, nat_lt}
use Rattle.gcx_model.specs.Tree.{Node, serial_of, Tree, TreeToken, End, opening, grow, grow_all}
use Rattle.gcx_model.specs.Members.{In}
use Rattle.gcx_model.specs.Core.{BodyTree, PlanTree}
use Rattle.gcx_model.specs.Cores.{Good}
use Rattle.gcx_model.specs.Placed.{Placed}
use Rattle.gcx_model.specs.Growth.{may_all}
use Rattle.gcx_model.specs.Run.{Action}
use Rattle.gcx_model.specs.Held.{is_live, is_held}
use Rattle.gcx_model.specs.Points.{actions, so_far}
use Rattle.gcx_model.specs.Demand.{trace_lines}
use Rattle.time_laws.specs.Times.{Clock, IsClock, clock_of, tree_at, TimedAction, timed_acts, due}
use Rattle.time_laws.specs.Leaving.{count_offs, last_of, freed_of, told_by_times}

-- At each time the actions of the run over the tree of the tokens so far are those that are due.
abbrev pub RunByTimes : Type 0
RunByTimes = (c : Clock) (ts : List TreeToken) (C : Tree) (most : ℕ) → IsClock c ts C most
    → (plan : PlanTree) (j : ℕ) → j ≤ most
    → actions plan (tree_at ts j) ≡ due j (timed_acts c C plan)

-- Tokens that leave no node open have a clock.
abbrev pub ClockOfTokens : Type 0
ClockOfTokens = (ts : List TreeToken) → (grow_all ts opening).at ≡ None
    → IsClock (clock_of ts) ts (grow_all ts opening) (length ts)

-- A role is live at a node until the last statement that reaches the node is carried out.
abbrev pub LiveByTimes : Type 0
LiveByTimes = (core : BodyTree) → Good core → (plan : PlanTree) → Placed core plan
    → (ts : List TreeToken) → may_all ts opening ≡ true → (grow_all ts opening).at ≡ None
    → (j k : ℕ) → j ≤ length ts → k ≤ length (actions plan (tree_at ts j))
    → (n : Node) → In n (tree_at ts j).nodes
    → is_live plan (tree_at ts j) (so_far plan (tree_at ts j) k) n
    ≡ nat_lt
    (count_offs (so_far plan (tree_at ts j) k))
    (last_of (grow_all ts opening) (actions plan (grow_all ts opening)) n)

-- A node is held until it is closed and the last statement that reaches its subtree is carried out.
abbrev pub HeldByTimes : Type 0
HeldByTimes = (core : BodyTree) → Good core → (plan : PlanTree) → Placed core plan
    → (ts : List TreeToken) → may_all ts opening ≡ true → (grow_all ts opening).at ≡ None
    → (c : Clock) → IsClock c ts (grow_all ts opening) (length ts)
    → (j k : ℕ) → j ≤ length ts → k ≤ length (actions plan (tree_at ts j))
    → (n : Node) → In n (tree_at ts j).nodes
    → is_held plan (tree_at ts j) (so_far plan (tree_at ts j) k) n
    ≡ (not (nat_le (c.closed (serial_of n)) j)
    || nat_lt
    (count_offs (so_far plan (tree_at ts j) k))
    (freed_of (grow_all ts opening) (actions plan (grow_all ts opening)) n))

-- So the lines of the demand run are told by the times alone: us are tokens that close what ts leave open.
abbrev pub TraceByTimes : Type 0
TraceByTimes = (core : BodyTree) → Good core → (plan : PlanTree) → Placed core plan
    → (ts us : List TreeToken) → may_all (ts ++ us) opening ≡ true → (grow_all (ts ++ us) opening).at ≡ None
    → (c : Clock) → IsClock c (ts ++ us) (grow_all (ts ++ us) opening) (length (ts ++ us))
    → trace_lines plan ts
    ≡ told_by_times plan c
    (grow_all (ts ++ us) opening)
    (timed_acts c (grow_all (ts ++ us) opening) plan)
    (actions plan (grow_all (ts ++ us) opening))
    ts

-- Before any token there is no root, so no tokens that may come close the document node alone; the lines are told as
-- though its end came next.
abbrev pub TraceBeforeTokens : Type 0
TraceBeforeTokens = (plan : PlanTree) (all : List Action) (c : Clock) → IsClock c (End ∷ []) (grow End opening) 1
    → trace_lines plan []
    ≡ told_by_times plan c (grow End opening) (timed_acts c (grow End opening) plan) all []

-- no time is above a later one
abbrev pub NeverFall : List TimedAction → Type 0
NeverFall [] = Unit {0}
NeverFall (a ∷ more) = ((b : TimedAction) → In b more → a.at ≤ b.at) × NeverFall more

-- The times of the actions never fall, so those that are due are the first ones.
abbrev pub TimesRise : Type 0
TimesRise = (c : Clock) (C : Tree) (plan : PlanTree) → NeverFall (timed_acts c C plan)
