-- How many nodes are held behind a token and behind an action, and how the peak goes on.
use Rattle.std.specs.Prelude.{◌≡◌, ℕ, ◌+◌, ◌-◌, ◌≤◌, true, List, [], ◌∷◌, ◌++◌, length, max}
use Rattle.gcx_model.specs.Tree.{Tree, TreeToken, opening, grow, grow_all}
use Rattle.gcx_model.specs.Core.{BodyTree, PlanTree}
use Rattle.gcx_model.specs.Run.{Action}
use Rattle.gcx_model.specs.Cores.{Good}
use Rattle.gcx_model.specs.Placed.{Placed}
use Rattle.gcx_model.specs.Held.{held}
use Rattle.gcx_model.specs.Growth.{Leads, may_all}
use Rattle.gcx_model.specs.Points.{actions, so_far}
use Rattle.gcx_model.specs.Demand.{peak_of}
use Rattle.run_laws.specs.Trace.{held_at}

-- One token more: the peak is that so far, or the nodes that are held behind the token, if these are more. Of more tokens it isn't less.
abbrev pub PeakStep : Type 0
PeakStep = (plan : PlanTree) (ts : List TreeToken)
    → ((t : TreeToken) → peak_of plan (ts ++ t ∷ []) ≡ max (peak_of plan ts) (length (held_at plan ts t)))
    × ((us : List TreeToken) → peak_of plan ts ≤ peak_of plan (ts ++ us))

-- No more nodes are held than there are. Behind a token at most as many more are held as it opens, and behind actions no more than before.
abbrev pub HeldCounts : Type 0
HeldCounts = (core : BodyTree) → Good core → (plan : PlanTree) → Placed core plan → (P : Tree) (A : List Action)
    → (length (held plan P A) ≤ length P.nodes)
    × (Leads opening P → (t : TreeToken) → length (held plan (grow t P) A) ≤ length (held plan P A) + (length (grow t P).nodes - length P.nodes))
    × ((t : TreeToken) → length (grow t P).nodes ≤ length P.nodes + 1)
    × ((B : List Action) → length (held plan P (A ++ B)) ≤ length (held plan P A))

-- Where a token comes before some actions are taken, the nodes held behind it are no fewer than the peak counts.
-- Where some tokens come with no action between them, behind all actions of the tree before them, the nodes held are at most as many more than the peak as there are tokens behind the first one.
abbrev pub PeakWithin : Type 0
PeakWithin = (core : BodyTree) → Good core → (plan : PlanTree) → Placed core plan → (ts : List TreeToken) → may_all ts opening ≡ true
    → ((t : TreeToken) (k : ℕ) → peak_of plan (ts ++ t ∷ []) ≤ max (peak_of plan ts) (length (held plan (grow t (grow_all ts opening)) (so_far plan (grow_all ts opening) k))))
    × ((us : List TreeToken) → may_all us (grow_all ts opening) ≡ true
    → length (held plan (grow_all us (grow_all ts opening)) (actions plan (grow_all ts opening))) ≤ peak_of plan (ts ++ us) + (length us - 1))
