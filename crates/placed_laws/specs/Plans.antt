-- Plans that are placed for a core: that there is one, its statements, and what it writes.
use Rattle.std.specs.Prelude.{◌≡◌}
use Rattle.std.specs.Prelude.{ℕ}
use Rattle.std.specs.Prelude.{Bool}
use Rattle.std.specs.Prelude.{true}
use Rattle.std.specs.Prelude.{false}
use Rattle.std.specs.Prelude.{List}
use Rattle.std.specs.Prelude.{filter}
use Rattle.std.specs.Prelude.{flat_map}
use Rattle.gcx_model.specs.Tree.{Node}
use Rattle.gcx_model.specs.Tree.{serial_of}
use Rattle.gcx_model.specs.Tree.{Tree}
use Rattle.gcx_model.specs.Members.{In}
use Rattle.gcx_model.specs.Query.{ExprTree}
use Rattle.gcx_model.specs.Core.{BodyTree}
use Rattle.gcx_model.specs.Core.{OffTree}
use Rattle.gcx_model.specs.Core.{PlanTree}
use Rattle.gcx_model.specs.Run.{Action}
use Rattle.gcx_model.specs.Run.{Wrote}
use Rattle.gcx_model.specs.Run.{Offed}
use Rattle.gcx_model.specs.Run.{run}
use Rattle.gcx_model.specs.Run.{env0}
use Rattle.gcx_model.specs.Run.{bytes_of}
use Rattle.gcx_model.specs.Cores.{Good}
use Rattle.gcx_model.specs.Placed.{offs_in}
use Rattle.gcx_model.specs.Placed.{Placed}
use Rattle.gcx_model.specs.Placed.{plan_of}
use Rattle.gcx_model.specs.Held.{path_of}
use Rattle.gcx_model.specs.Points.{actions}
use Rattle.gcx_model.specs.Normal.{normal}
use Rattle.gcx_model.specs.Normal.{known}
use Rattle.std.specs.Prelude.{◌↔◌}
use Rattle.std.specs.Prelude.{Some}
use Rattle.gcx_model.specs.Variables.{path_in}
use Rattle.gcx_model.specs.Held.{statement_of}
use Rattle.gcx_model.specs.Held.{signed}

-- Of the plans that are placed for a core there is one.
abbrev pub PlacedOnce : Type 0
PlacedOnce = (core : BodyTree) → Good core → Placed core (plan_of core) × ((plan : PlanTree) → Placed core plan → plan ≡ plan_of core)

-- The path of a variable, read from the rows of a plan, is that of the variable tree.
abbrev pub PathsByRows : Type 0
PathsByRows = (core : BodyTree) → Good core → (plan : PlanTree) → Placed core plan → (x : ℕ) → path_of plan x ≡ path_in core x

-- The plan has one statement for each role, and the statement of a role is the one that it tells.
abbrev pub OneStatement : Type 0
OneStatement = (core : BodyTree) → Good core → (plan : PlanTree) → Placed core plan → (r : ℕ) (o : OffTree) → (statement_of plan r ≡ Some o) ↔ (In o (offs_in plan.body) × (o.role ≡ r))

-- Where the actions have statements of the plan alone, a statement's role tells it from the others.
abbrev pub SignedByRole : Type 0
SignedByRole = (core : BodyTree) → Good core → (plan : PlanTree) → Placed core plan → (A : List Action) → ((o : OffTree) (n : ℕ) → In (Offed o n) A → In o (offs_in plan.body))
    → (s : OffTree) (m : Node) → In s (offs_in plan.body) → (signed A s m ≡ true) ↔ ((o : OffTree) × In (Offed o (serial_of m)) A × (o.role ≡ s.role))

abbrev pub is_write : Action → Bool
is_write (Wrote b) = true
is_write (Offed o n) = false

-- A plan writes what its core writes: the same Write actions in order, and the one is done exactly where the other is.
abbrev pub PlanWrites : Type 0
PlanWrites = (core : BodyTree) → Good core → (plan : PlanTree) → Placed core plan → (P : Tree)
    → (filter is_write (actions plan P) ≡ filter is_write (run core env0 P).acts) × ((run plan.body env0 P).done ≡ (run core env0 P).done)

-- So what a plan of Normal(q) writes is Known(q, P),
abbrev pub PlanBytes : Type 0
PlanBytes = (q : List ExprTree) (plan : PlanTree) → Placed (normal q) plan → (P : Tree) → flat_map bytes_of (actions plan P) ≡ known q P
