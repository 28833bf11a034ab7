-- Over which rows a condition is asked, and what is answered (this project's).
use Rattle.std.specs.Prelude.{◌≡◌, ℕ, Bool, true, List, filter, map, length, Option, Some}
use Rattle.std.specs.FinMap.{get}
use Rattle.gcx_base.specs.declared.kind.Kind.{Kind}
use Rattle.gcx_model.specs.Tree.{Node, serial_of, kind_of, above, Tree, opening, is_open_at}
use Rattle.gcx_model.specs.Members.{In}
use Rattle.gcx_model.specs.Core.{CondTree, Always, Exists, Compare, Not, AllOf, AnyOf, RoleRowTree}
use Rattle.gcx_model.specs.declared.truth.Truth.{Truth}
use Rattle.gcx_model.specs.Truth.{Env, truth}
use Rattle.gcx_model.specs.Roles.{cond_rows}
use Rattle.gcx_model.specs.Needs.{Cond_needs}
use Rattle.gcx_model.specs.Past.{parent_serial}
use Rattle.gcx_model.specs.Growth.{Leads}
use Rattle.buf_tree.specs.Shape.{Cell, num}
use Rattle.buf_tree.specs.View.{View}
use Rattle.buf_tree.specs.Stands.{parent_seen}
use Rattle.cond_eval.specs.Bindings.{Bindings}

-- what a row tells of its node beside its roles
pub record Facts : Type 0 where
  pub serial : ℕ
  pub parent : Option ℕ
  pub kind : Kind
  pub is_open : Bool

abbrev pub facts : Cell → Facts
facts c = record { serial = num c; parent = parent_seen c.row; kind = c.row.kind; is_open = c.row.is_open }

abbrev pub node_facts : Tree → Node → Facts
node_facts P n = record { serial = serial_of n; parent = parent_serial n; kind = kind_of n; is_open = is_open_at P.at (serial_of n) }

-- The rows are those of the nodes that are kept, in document order. With a node those above it are kept.
pub record RowsOf (rows : List Cell) (P : Tree) (keep : Node → Bool) : Type 0 where
  pub grown : Leads opening P
  pub rows_are : map facts rows ≡ map (node_facts P) (filter keep P.nodes)
  pub up : (n m : Node) → In n P.nodes → keep n ≡ true → In m (above n) → keep m ≡ true

-- the row of this serial, where there is one, stands at the place
abbrev pub PlacedAt : List Cell → (serial place : ℕ) → Type 0
PlacedAt rows s p = (c : Cell) → In c rows → num c ≡ s → c.place ≡ p

-- the variable is bound to the node of the row
pub record IsBound (rows : List Cell) (bound : Bindings) (x : ℕ) (n : Node) : Type 0 where
  pub place : ℕ
  pub pair : get bound x ≡ Some (place, serial_of n)
  pub at : PlacedAt rows (serial_of n) place

-- A condition is asked over these rows: what it needs is kept, and its variables are bound to nodes that are.
pub record Asked (rows : List Cell) (bound : Bindings) (c : CondTree) (P : Tree) (env : Env) : Type 0 where
  pub keep : Node → Bool
  pub rows_of : RowsOf rows P keep
  pub needed : (m : Node) → In m P.nodes → Cond_needs P env c m → keep m ≡ true
  pub there : (r : RoleRowTree) → In r (cond_rows c) → In (env r.var) P.nodes × (keep (env r.var) ≡ true)
  pub bound_to : (r : RoleRowTree) → In r (cond_rows c) → IsBound rows bound r.var (env r.var)

-- among the trees for which a value stands those of so many nodes
abbrev pub Over : (nodes : ℕ) → (Tree → Type 0) → Tree → Type 0
Over n stands P = stands P × (length P.nodes ≡ n)

-- it may be asked, of a value that stands for such a tree
pub record MayAsk (stands : Tree → Type 0) (rows : List Cell) (bound : Bindings) (c : CondTree) : Type 0 where
  pub tree : Tree
  pub env : Env
  pub stand : stands tree
  pub asked : Asked rows bound c tree env

-- what is answered, and that the value stands for the same trees afterwards
abbrev pub Answers : (before after : Tree → Type 0) → List Cell → Bindings → CondTree → Truth → Type 0
Answers before after rows bound c t = (P : Tree) (env : Env) → before P → Asked rows bound c P env → (t ≡ truth c env P) × after P

-- the same over a buffer, of the trees that have as many nodes as it tells
abbrev pub MayAskOver : (v : View) → (stands : Tree → Type 0) → Bindings → CondTree → Type 0
MayAskOver v stands bound c = MayAsk (Over v.nodes stands) v.rows bound c

abbrev pub AnswersOver : (v : View) → (before after : Tree → Type 0) → Bindings → CondTree → Truth → Type 0
AnswersOver v before after bound c t = Answers (Over v.nodes before) (Over v.nodes after) v.rows bound c t

-- it has no parts
abbrev pub IsLeaf : CondTree → Type 0
IsLeaf Always = ⊥
IsLeaf (Exists x steps) = Unit {0}
IsLeaf (Compare l rel r) = Unit {0}
IsLeaf (Not c) = ⊥
IsLeaf (AllOf cs) = ⊥
IsLeaf (AnyOf cs) = ⊥
