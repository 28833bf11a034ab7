-- What the rows tell of the tops among new nodes. This follows the code: private functions alone speak of it.
use Rattle.std.specs.Prelude.{◌≡◌, ◌⊎◌, ◌↔◌, ◌+◌, ◌≤◌, ◌<◌, ℕ, Bool, true, List, [], ◌∷◌, Option, Some, None, cond, is_some, length, map, option_map, slice_index_or}
use Rattle.std.specs.Ordering.{nat_cmp}
use Rattle.std.specs.FinSet as set
use Rattle.gcx_model.specs.declared.item.Off.{Off}
use Rattle.gcx_model.specs.Core.{OffTree, VarRowTree}
use Rattle.gcx_model.specs.Held.{paths_from}
use Rattle.gcx_model.specs.ItemView.{off_tree}
use Rattle.gcx_model.specs.Members.{In}
use Rattle.gcx_model.specs.Past.{token_for}
use Rattle.gcx_model.specs.Paths.{hits}
use Rattle.gcx_base.specs.declared.kind.Kind.{Kind}
use Rattle.gcx_model.specs.Tree.{Node, Under, serial_of, above}
use Rattle.gcx_model.specs.Variables.{all_child}
use Rattle.buf_tree.specs.PassedCalls.{MayOpenWith}
use Rattle.buf_tree.specs.Row.{Row}
use Rattle.buf_tree.specs.Rows.{is_bare}
use Rattle.buf_tree.specs.Shape.{Cell}
use Rattle.buf_tree.specs.Spread.{is_spread_in, SpreadView}
use Rattle.buf_tree.specs.View.{View}
use Rattle.buf_tree.specs.Ways.{NodeOf, is_waiting}

-- the statement's steps lead to n, a new child of p, from a row of p or of a node above it, of a base at which the statement isn't signed
pub record HitFromAbove (xs : List Cell) (top : Off) (p n : Node) : Type 0 where
  pub place : ℕ
  pub base : Node
  pub at : NodeOf xs place base
  pub up : In base (above p)
  pub waits : is_waiting at.cell.row top ≡ true
  pub hit : hits (serial_of base) top.rel n ≡ true

-- The new node, which has these roles, is a top of the statement: a base itself, where there are no steps, or hit from a row above.
abbrev pub IsNewTop : List Cell → Off → set.FinSet nat_cmp → (p n : Node) → Type 0
IsNewTop xs top roles p n = ((top.rel ≡ []) × (set.contains roles top.own.0 ≡ true)) ⊎ HitFromAbove xs top p n

-- Of each new child of the row at the place, of this kind: R holds of its parent and of it. It comes behind its parent.
abbrev pub ForNew : List Cell → (place : ℕ) → Kind → ((p n : Node) → Type 0) → Type 0
ForNew xs place kind R = (p : Node) (k : ℕ) → NodeOf xs place p → serial_of p < k → R p (Under p k kind)

-- each statement of the table is its role's, and there is room for the walk with its steps
abbrev pub HasTopRoom : List (Option Off) → (capacity : ℕ) → Type 0
HasTopRoom tops capacity = (r : ℕ) (top : Off) → slice_index_or tops r None ≡ Some top → (top.role.0 ≡ r) × (length top.rel + 1 ≤ capacity)

-- the bases' own roles aren't in the table
abbrev pub OwnApart : List (Option Off) → Type 0
OwnApart tops = (r : ℕ) (top : Off) → slice_index_or tops r None ≡ Some top → slice_index_or tops top.own.0 None ≡ None

-- the test tells which of the roles that the new node has are kept at it
pub record StaysAt (xs : List Cell) (tops : List (Option Off)) (roles : set.FinSet nat_cmp) (p n : Node) (stays : ℕ → Bool) : Type 0 where
  pub others : (r : ℕ) → slice_index_or tops r None ≡ None → stays r ≡ true
  pub at_tops : (r : ℕ) (top : Off) → slice_index_or tops r None ≡ Some top → (stays r ≡ true) ↔ IsNewTop xs top roles p n

-- Of the roles of a new child of the row at the place, of this kind and serial, these are kept at it: all of them where no role is spread.
abbrev pub KeptOf : Option SpreadView → List Cell → (place : ℕ) → Kind → (serial : ℕ) → (roles kept : set.FinSet nat_cmp) → Type 0
KeptOf None xs place kind serial roles kept = kept ≡ roles
KeptOf (Some s) xs place kind serial roles kept = (p : Node) → NodeOf xs place p → serial_of p < serial → (stays : ℕ → Bool) → StaysAt xs s.tops roles p (Under p serial kind) stays → kept ≡ set.retain roles stays

-- A node is opened below the row at the place: it may come with these roles, of which these are kept at it, and `bare` says whether it is gone at once.
pub record OpensAs (v : View) (place : ℕ) (kind : Kind) (bare : Bool) (roles kept : set.FinSet nat_cmp) : Type 0 where
  pub gone : bare ≡ is_bare kind roles
  pub may : MayOpenWith v (token_for kind) roles
  pub keeps : KeptOf v.spread v.kept place kind v.nodes roles kept

-- the roles without the statement's, unless it stays
abbrev pub kept_by : Option Off → (stays : ℕ → Bool) → set.FinSet nat_cmp → set.FinSet nat_cmp
kept_by None stays roles = roles
kept_by (Some top) stays roles = cond (stays top.role.0) roles (set.remove roles top.role.0)

-- for each new child of the row at the place, of this kind: of its roles those that are kept at it stay
abbrev pub KeepsTops : List Cell → (place : ℕ) → Kind → List (Option Off) → (before after : set.FinSet nat_cmp) → Type 0
KeepsTops xs place kind tops before after =
    ForNew xs place kind (λ p n. (stays : ℕ → Bool) → StaysAt xs tops before p n stays → after ≡ set.retain before stays)

-- the statement's role stays if it is kept at it, by a test of all roles
abbrev pub KeepsSlot : List Cell → (place : ℕ) → Kind → Option Off → (before after : set.FinSet nat_cmp) → Type 0
KeepsSlot xs place kind slot before after =
    ForNew xs place kind (λ p n. (stays : ℕ → Bool) → ((top : Off) → slot ≡ Some top → (stays top.role.0 ≡ true) ↔ IsNewTop xs top before p n) → after ≡ kept_by slot stays before)

-- the same by a test of this role alone
abbrev pub KeepsTop : List Cell → (place : ℕ) → Kind → Off → (before after : set.FinSet nat_cmp) → Type 0
KeepsTop xs place kind top before after =
    ForNew xs place kind (λ p n. (stays : Bool) → (stays ≡ true) ↔ IsNewTop xs top before p n → after ≡ cond stays before (set.remove before top.role.0))

-- the roles with the statement's too
abbrev pub role_given : Option Off → set.FinSet nat_cmp → set.FinSet nat_cmp
role_given None roles = roles
role_given (Some top) roles = set.insert roles top.role.0

-- the statements of a table as plain trees
abbrev pub trees_of : List (Option Off) → List (Option OffTree)
trees_of tops = map (option_map off_tree) tops

-- room for the walk with the steps of each statement of the table
abbrev pub HasRoomFor : List (Option Off) → (capacity : ℕ) → Type 0
HasRoomFor tops capacity = (r : ℕ) (top : Off) → slice_index_or tops r None ≡ Some top → length top.rel + 1 ≤ capacity

-- for each variable of these rows whether its path has no descendant step
abbrev pub alone_by : List VarRowTree → List Bool
alone_by rows = map all_child (paths_from ([] ∷ []) rows)

-- roles are spread, and the row or one above it keeps such a role
abbrev pub KeepsSpread : Option SpreadView → Row → Type 0
KeepsSpread s row = (is_some s ≡ true) × ((row.covered ≡ true) ⊎ ((k : ℕ) × (is_spread_in s k ≡ true) × (set.contains row.roles k ≡ true)))
