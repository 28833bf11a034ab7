-- What is the same over fewer nodes, and what stays the same while tokens come.
use Rattle.std.specs.Prelude.{◌≡◌, ℕ, ◌≤◌, Bool, true, List, filter, length, Some}
use Rattle.gcx_base.specs.declared.steps.Step.{Step}
use Rattle.gcx_model.specs.Tree.{Node, serial_of, within, Tree, opening, is_closed}
use Rattle.gcx_model.specs.Paths.{matches, first, value}
use Rattle.gcx_model.specs.Members.{In}
use Rattle.gcx_model.specs.Nodes.{Grown}
use Rattle.gcx_model.specs.Core.{CondTree, PlanTree}
use Rattle.gcx_model.specs.Truth.{Env, truth}
use Rattle.gcx_model.specs.Run.{copy}
use Rattle.gcx_model.specs.Growth.{Leads}
use Rattle.gcx_model.specs.Points.{actions, so_far, ReachedFrom, CoreState, Frame, later, PointAt}
use Rattle.gcx_model.specs.Needs.{Cond_needs}

-- the tree with those of its nodes alone that are kept
abbrev pub only : (keep : Node → Bool) → Tree → Tree
only keep P = record { nodes = filter keep P.nodes; at = P.at }

-- Where what a condition needs is kept, its truth is that over the whole tree.
abbrev pub TruthKept : Type 0
TruthKept = (P : Tree) → Grown P → (keep : Node → Bool) (c : CondTree) (env : Env)
    → ((m : Node) → In m P.nodes → Cond_needs P env c m → keep m ≡ true) → truth c env (only keep P) ≡ truth c env P

-- Where the subtree of a node is kept, so is its copy.
abbrev pub CopyKept : Type 0
CopyKept = (P : Tree) → Grown P → (keep : Node → Bool) (n : Node) → In n P.nodes
    → ((m : Node) → In m P.nodes → within (serial_of n) m ≡ true → keep m ≡ true) → (most : ℕ) → copy most (only keep P) n ≡ copy most P n

-- Where the matches of a path are kept, they are those over the whole tree,
abbrev pub MatchesKept : Type 0
MatchesKept = (P : Tree) (keep : Node → Bool) (n : ℕ) (path : List Step)
    → ((m : Node) → In m (matches P n path) → keep m ≡ true) → matches (only keep P) n path ≡ matches P n path

-- where those behind a node are kept, so are these,
abbrev pub LaterKept : Type 0
LaterKept = (P : Tree) (keep : Node → Bool) (n : ℕ) (path : List Step) (present : Node)
    → ((m : Node) → In m (later present (matches P n path)) → keep m ≡ true) → later present (matches (only keep P) n path) ≡ later present (matches P n path)

-- and where the first of them is kept, so is this one; where there is none, there is none.
abbrev pub FirstKept : Type 0
FirstKept = (P : Tree) (keep : Node → Bool) (n : ℕ) (path : List Step)
    → ((m : Node) → first P n path ≡ Some m → keep m ≡ true) → first (only keep P) n path ≡ first P n path

-- A closed node stays closed while tokens come, and keeps the matches of each path from it and its value.
abbrev pub ClosedStays : Type 0
ClosedStays = (P Q : Tree) → Leads opening P → Leads P Q → (n : Node) → In n P.nodes → is_closed P n ≡ true
    → (is_closed Q n ≡ true) × ((path : List Step) → matches Q (serial_of n) path ≡ matches P (serial_of n) path) × (value Q n ≡ value P n)

-- What Feeds and Acts reach is a tree that has grown, with no fewer actions taken.
abbrev pub ReachedGrows : Type 0
ReachedGrows = (plan : PlanTree) (P Q : Tree) (k j : ℕ) → ReachedFrom plan P k Q j → Leads P Q × (k ≤ j)

-- In a core state no more actions are taken than the run has,
abbrev pub TakenAreThere : Type 0
TakenAreThere = (plan : PlanTree) (P : Tree) (k : ℕ) → CoreState plan P k → k ≤ length (actions plan P)

-- those that are taken stay while tokens come,
abbrev pub SoFarStays : Type 0
SoFarStays = (plan : PlanTree) (P Q : Tree) (k : ℕ) → Leads opening P → Leads P Q → k ≤ length (actions plan P) → so_far plan Q k ≡ so_far plan P k

-- and a point behind them stays one.
abbrev pub PointStays : Type 0
PointStays = (plan : PlanTree) (P Q : Tree) (k : ℕ) → Leads opening P → Leads P Q → k ≤ length (actions plan P) → (fs : List Frame) → PointAt plan P k fs → PointAt plan Q k fs
