-- The demand run by its events, what its trace tells of each, and what its peak is.
use Rattle.std.specs.Prelude.{◌≡◌, ℕ, suc, ◌<◌, ◌≤◌, true, List, [], ◌∷◌, ◌++◌, length, map, ◌↔◌, ◌⊎◌, Some}
use Rattle.gcx_model.specs.Tree.{Node, Root, serial_of, kind_of, Tree, TreeToken, opening, grow, grow_all}
use Rattle.gcx_model.specs.Members.{In}
use Rattle.gcx_model.specs.Nodes.{Rising, Grown}
use Rattle.gcx_model.specs.Core.{PlanTree}
use Rattle.gcx_model.specs.Run.{Action}
use Rattle.gcx_model.specs.Held.{roles_given, held, departed}
use Rattle.gcx_model.specs.Growth.{may_all}
use Rattle.gcx_model.specs.Points.{actions, so_far, CoreState}
use Rattle.gcx_model.specs.Demand.{Line, Opened, Closed, Left, line_kind, action_line, opened_line, trace_lines, peak_of}
use Rattle.tree_laws.specs.Departing.{Falling}

-- An event: a token is fed to the tree P, or the next action of the run over P is taken; k actions were taken before.
pub data Event : Type 0 where
  FeedEvent : (t : TreeToken) (P : Tree) (k : ℕ) → Event
  ActEvent : (P : Tree) (k : ℕ) → Event

abbrev pub tree_before : Event → Tree
tree_before (FeedEvent t P k) = P
tree_before (ActEvent P k) = P

abbrev pub taken_before : Event → ℕ
taken_before (FeedEvent t P k) = k
taken_before (ActEvent P k) = k

abbrev pub tree_behind : Event → Tree
tree_behind (FeedEvent t P k) = grow t P
tree_behind (ActEvent P k) = P

abbrev pub taken_behind : Event → ℕ
taken_behind (FeedEvent t P k) = k
taken_behind (ActEvent P k) = suc k

-- The demand run over these tokens, from the state (P, k): while an action is left it is taken, else the next token is fed.
pub data DemandRun (plan : PlanTree) : (P : Tree) (k : ℕ) (ts : List TreeToken) → List Event → Type 0 where
  acts : {P : Tree} {k : ℕ} {ts : List TreeToken} {es : List Event} → k < length (actions plan P) → DemandRun plan P (suc k) ts es → DemandRun plan P k ts (ActEvent P k ∷ es)
  feeds : {P : Tree} {k : ℕ} {t : TreeToken} {ts : List TreeToken} {es : List Event} → k ≡ length (actions plan P) → DemandRun plan (grow t P) k ts es → DemandRun plan P k (t ∷ ts) (FeedEvent t P k ∷ es)
  ends : {P : Tree} {k : ℕ} → k ≡ length (actions plan P) → DemandRun plan P k [] []

-- There is one demand run over tokens each of which may come,
abbrev pub OneDemandRun : Type 0
OneDemandRun = (plan : PlanTree) (ts : List TreeToken) → may_all ts opening ≡ true → (es : List Event) × DemandRun plan opening 0 ts es × ((fs : List Event) → DemandRun plan opening 0 ts fs → fs ≡ es)

-- and its events go from core states to core states.
abbrev pub EventsAreReached : Type 0
EventsAreReached = (plan : PlanTree) (ts : List TreeToken) → may_all ts opening ≡ true → (es : List Event) → DemandRun plan opening 0 ts es
    → (e : Event) → In e es → CoreState plan (tree_before e) (taken_before e) × CoreState plan (tree_behind e) (taken_behind e)

abbrev pub held_before : PlanTree → Event → List Node
held_before plan e = held plan (tree_before e) (so_far plan (tree_before e) (taken_before e))

abbrev pub held_behind : PlanTree → Event → List Node
held_behind plan e = held plan (tree_behind e) (so_far plan (tree_behind e) (taken_behind e))

-- The line of an event: of a token, that of the node that it opened, or else of the innermost open node, which it closed; of an action, that of the action with the number k.
abbrev pub IsLine : PlanTree → Event → Line → Type 0
IsLine plan (FeedEvent t P k) l =
    ((n : Node) × ((grow t P).nodes ≡ P.nodes ++ n ∷ []) × (l ≡ Opened (serial_of n) (line_kind (kind_of n)) (roles_given plan (grow t P) n)))
    ⊎ (((grow t P).nodes ≡ P.nodes) × ((p : Node) × (P.at ≡ Some p) × (l ≡ Closed (serial_of p))))
IsLine plan (ActEvent P k) l = (before rest : List Action) × (a : Action) × (actions plan P ≡ before ++ a ∷ rest) × (length before ≡ k) × (l ≡ action_line a)

-- the node was held before the event, or is opened by it, and isn't held behind it
abbrev pub Leaves : PlanTree → Event → Node → Type 0
Leaves plan e n = (In n (held_before plan e) ⊎ (In n (tree_behind e).nodes × (In n (tree_before e).nodes → ⊥))) × (In n (held_behind plan e) → ⊥)

-- the serials of the nodes that leave at the event, by falling serial
pub record AreLeaving (plan : PlanTree) (e : Event) (ss : List ℕ) : Type 0 where
  pub falling : Falling ss
  pub each : (s : ℕ) → In s ss ↔ ((n : Node) × (serial_of n ≡ s) × Leaves plan e n)

-- These lines tell of these events, in their order: of each its own line, and behind it one for each node that leaves.
abbrev pub Tell : PlanTree → List Event → List Line → Type 0
Tell plan [] ls = ls ≡ []
Tell plan (e ∷ es) ls = (l : Line) × (ss : List ℕ) × (rest : List Line) × IsLine plan e l × AreLeaving plan e ss × Tell plan es rest × (ls ≡ l ∷ (map Left ss ++ rest))

-- The trace begins with the line of the document node; the others tell of the demand run's events,
abbrev pub TraceByEvents : Type 0
TraceByEvents = (plan : PlanTree) (ts : List TreeToken) → may_all ts opening ≡ true → (es : List Event) → DemandRun plan opening 0 ts es
    → (rest : List Line) × Tell plan es rest × (trace_lines plan ts ≡ opened_line plan opening Root ∷ rest)

-- and no other lines do.
abbrev pub OneTelling : Type 0
OneTelling = (plan : PlanTree) (es : List Event) (ls ms : List Line) → Tell plan es ls → Tell plan es ms → ls ≡ ms

-- The nodes that are held behind the token t, fed where every action of the run over the tree of the tokens before it is taken.
abbrev pub held_at : PlanTree → (before : List TreeToken) (t : TreeToken) → List Node
held_at plan before t = held plan (grow t (grow_all before opening)) (actions plan (grow_all before opening))

-- The peak is reached in the opening state or behind some token, and passed in none of these states.
abbrev pub PeakIsGreatest : Type 0
PeakIsGreatest = (plan : PlanTree) (ts : List TreeToken)
    → ((length (held plan opening []) ≡ peak_of plan ts) ⊎ ((before after : List TreeToken) × (t : TreeToken) × (ts ≡ before ++ t ∷ after) × (length (held_at plan before t) ≡ peak_of plan ts)))
    × (length (held plan opening []) ≤ peak_of plan ts)
    × ((before after : List TreeToken) (t : TreeToken) → ts ≡ before ++ t ∷ after → length (held_at plan before t) ≤ peak_of plan ts)
