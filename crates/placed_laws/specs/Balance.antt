-- Roles given and taken, and the nodes that are held.
use Rattle.std.specs.Prelude.{◌≡◌}
use Rattle.std.specs.Prelude.{ℕ}
use Rattle.std.specs.Prelude.{Bool}
use Rattle.std.specs.Prelude.{true}
use Rattle.std.specs.Prelude.{false}
use Rattle.std.specs.Prelude.{List}
use Rattle.std.specs.Prelude.{[]}
use Rattle.std.specs.Prelude.{◌∷◌}
use Rattle.std.specs.Prelude.{◌++◌}
use Rattle.std.specs.Prelude.{filter}
use Rattle.std.specs.Prelude.{length}
use Rattle.std.specs.Prelude.{drop}
use Rattle.gcx_model.specs.Tree.{Node}
use Rattle.gcx_model.specs.Tree.{serial_of}
use Rattle.gcx_model.specs.Tree.{Tree}
use Rattle.gcx_model.specs.Tree.{opening}
use Rattle.gcx_model.specs.Tree.{TreeToken}
use Rattle.gcx_model.specs.Tree.{grow}
use Rattle.gcx_model.specs.Paths.{matches}
use Rattle.gcx_model.specs.Members.{In}
use Rattle.gcx_model.specs.Members.{Once}
use Rattle.gcx_model.specs.Core.{BodyTree}
use Rattle.gcx_model.specs.Core.{OffTree}
use Rattle.gcx_model.specs.Core.{PlanTree}
use Rattle.gcx_model.specs.Run.{Action}
use Rattle.gcx_model.specs.Run.{Wrote}
use Rattle.gcx_model.specs.Run.{Offed}
use Rattle.gcx_model.specs.Cores.{Good}
use Rattle.gcx_model.specs.Placed.{offs_in}
use Rattle.gcx_model.specs.Placed.{Placed}
use Rattle.gcx_model.specs.Held.{path_of}
use Rattle.gcx_model.specs.Held.{given}
use Rattle.gcx_model.specs.Held.{taken}
use Rattle.gcx_model.specs.Held.{held}
use Rattle.gcx_model.specs.Held.{is_held}
use Rattle.gcx_model.specs.Growth.{Leads}
use Rattle.gcx_model.specs.Points.{actions}
use Rattle.gcx_model.specs.Points.{so_far}
use Rattle.gcx_model.specs.Points.{ReachedFrom}
use Rattle.gcx_model.specs.Points.{CoreState}
use Rattle.tree_laws.specs.Growth.{AllClosed}

-- Balance law
abbrev pub BalanceLaw : Type 0
BalanceLaw = (core : BodyTree) → Good core → (plan : PlanTree) → Placed core plan → (P : Tree) → Leads opening P → AllClosed P
    → (n : Node) (r : ℕ) → taken plan P (actions plan P) n r ≡ given plan P n r

-- So nothing is held at the end.
abbrev pub EmptyAtEnd : Type 0
EmptyAtEnd = (core : BodyTree) → Good core → (plan : PlanTree) → Placed core plan → (P : Tree) → Leads opening P → AllClosed P → held plan P (actions plan P) ≡ []

-- carries out a statement
abbrev pub is_taking : Action → Bool
is_taking (Wrote b) = false
is_taking (Offed o n) = true

-- Once law: no two of the actions of a core state are the same Off
abbrev pub OnceLaw : Type 0
OnceLaw = (core : BodyTree) → Good core → (plan : PlanTree) → Placed core plan → (P : Tree) (k : ℕ) → CoreState plan P k → Once (filter is_taking (so_far plan P k))

-- each of them is a statement of the plan, at a match of its base's path
abbrev pub OffsAtMatches : Type 0
OffsAtMatches = (core : BodyTree) → Good core → (plan : PlanTree) → Placed core plan → (P : Tree) (k : ℕ) → CoreState plan P k
    → (s : OffTree) (m : ℕ) → In (Offed s m) (so_far plan P k) → In s (offs_in plan.body) × ((n : Node) × In n (matches P 0 (path_of plan s.base)) × (serial_of n ≡ m))

-- and what is taken in a core state is taken in each that Feeds and Acts reach from there.
abbrev pub TakenStays : Type 0
TakenStays = (core : BodyTree) → Good core → (plan : PlanTree) → Placed core plan → (P : Tree) (k : ℕ) → CoreState plan P k → (Q : Tree) (j : ℕ) → ReachedFrom plan P k Q j
    → (n : Node) (r : ℕ) → In n P.nodes → taken plan P (so_far plan P k) n r ≡ true → taken plan Q (so_far plan Q j) n r ≡ true

-- and a node that isn't held in a core state is held in none that Feeds and Acts reach from there.
abbrev pub GoneStays : Type 0
GoneStays = (core : BodyTree) → Good core → (plan : PlanTree) → Placed core plan → (P : Tree) (k : ℕ) → CoreState plan P k → (Q : Tree) (j : ℕ) → ReachedFrom plan P k Q j
    → (n : Node) → In n P.nodes → In n (held plan Q (so_far plan Q j)) → In n (held plan P (so_far plan P k))

-- The nodes held behind a token come from those held before it and the new one,
abbrev pub HeldByFeed : Type 0
HeldByFeed = (core : BodyTree) → Good core → (plan : PlanTree) → Placed core plan → (P : Tree) → Leads opening P → (t : TreeToken) (A : List Action)
    → held plan (grow t P) A ≡ filter (is_held plan (grow t P) A) (held plan P A ++ drop (length P.nodes) (grow t P).nodes)

-- and those held behind an action from those held before it.
abbrev pub HeldByAct : Type 0
HeldByAct = (core : BodyTree) → Good core → (plan : PlanTree) → Placed core plan → (P : Tree) (A : List Action) (a : Action) → held plan P (A ++ a ∷ []) ≡ filter (is_held plan P (A ++ a ∷ [])) (held plan P A)
