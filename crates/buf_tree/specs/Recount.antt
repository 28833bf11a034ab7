-- What a statement takes from whole subtrees, where roles are spread. This follows the code: private functions alone speak of it.
use Rattle.std.specs.Prelude.{◌≡◌, ◌&&◌, ◌++◌, ◌↔◌, ◌⊎◌, not, cond, leb, ℕ, Bool, true, false, List, Option, Some, None, map, filter, length, IsSome}
use Rattle.std.specs.FinMap.{get}
use Rattle.std.specs.FinSet as set
use Rattle.gcx_model.specs.declared.item.Off.{Off}
use Rattle.gcx_model.specs.Members.{In}
use Rattle.gcx_model.specs.Tree.{Tree}
use Rattle.buf_tree.specs.Shape.{Store, Cell, num, cells, Shaped}
use Rattle.node_store.specs.Rows.{changed_at, paid_by}
use Rattle.buf_tree.specs.Rows.{covered_by}
use Rattle.buf_tree.specs.Match.{IsChild}
use Rattle.buf_tree.specs.Walk.{Inside}
use Rattle.buf_tree.specs.Spread.{SpreadView, is_spread_in, roles_at, seen_rows, TellsCovered}
use Rattle.buf_tree.specs.Sweep.{LosesBy, taken_by}
use Rattle.buf_tree.specs.Purge.{PurgedBut}
use Rattle.buf_tree.specs.Ways.{TreeOf}

-- the test tells which rows keep the role of `top` no more: those below the base that keep it, and to which no other base leads; bases have another role
pub record Recounting (xs : List Cell) (p : ℕ) (top : Off) (others : Bool) : Type 0 where
  pub tree : Tree
  pub base : Cell
  pub loses : Cell → Bool
  pub told : TreeOf xs tree
  pub among : In base xs
  pub place : base.place ≡ p
  pub each : LosesBy xs tree top others base loses
  pub apart : top.own.0 ≡ top.role.0 → ⊥

abbrev pub uncovered : Cell → Cell
uncovered c = record { place = c.place; row = record c.row { covered = false } }

-- the row had the role k, and has it no more among these rows
abbrev pub is_lost : (k : ℕ) → (now : List Cell) → Cell → Bool
is_lost k now c = set.contains c.row.roles k && not (set.contains (roles_at now (num c)) k)

-- From m0 to m: the role k isn't kept any more at these rows, each row tells again whether it is covered, and the rows that lost the role are counted.
pub record Recounted (s : Option SpreadView) (m0 m : Store) (loses : Cell → Bool) (k : ℕ) (count : ℕ) : Type 0 where
  pub shape : Shaped m
  pub rows : map uncovered (cells m) ≡ map uncovered (taken_by loses k (cells m0))
  pub covers : TellsCovered s (cells m)
  pub taken : count ≡ length (filter (is_lost k (seen_rows s (cells m))) (seen_rows s (cells m0)))

-- and so for each test that tells which rows keep the statement's role no more
abbrev pub RecountedBy : Option SpreadView → (m0 m : Store) → (top : Off) → (others : Bool) → (place count : ℕ) → Type 0
RecountedBy s m0 m top others place count =
    (T : Tree) (c : Cell) (loses : Cell → Bool) → TreeOf (cells m0) T → In c (cells m0) → c.place ≡ place → LosesBy (cells m0) T top others c loses → Recounted s m0 m loses top.role.0 count

-- From m0 to m: those rows below the base at this place that nothing keeps went, their serials falling.
pub record Dropped (m0 m : Store) (place : ℕ) (g0 g : List ℕ) : Type 0 where
  pub shape : Shaped m
  pub there : IsSome (get m place)
  pub left : (left : List ℕ) × (g ≡ g0 ++ left) × PurgedBut (Some place) (cells m0) (cells m) left

-- A recount, and then such departures.
pub record SpreadSwept (s : Option SpreadView) (m0 m : Store) (place : ℕ) (loses : Cell → Bool) (k : ℕ) (g0 g : List ℕ) (count : ℕ) : Type 0 where
  pub between : Store
  pub recounted : Recounted s m0 between loses k count
  pub dropped : Dropped between m place g0 g

-- The row that keeps a role, for the next row in document order, which lies below the node with serial `parent`: it stays as long as that is below it; else it is that row, if this keeps the role.
abbrev pub span_else : (serial : ℕ) → (keeps : Bool) → Option ℕ
span_else serial keeps = cond keeps (Some serial) None

abbrev pub span_on : Option ℕ → (serial parent : ℕ) → (keeps : Bool) → Option ℕ
span_on None serial parent keeps = span_else serial keeps
span_on (Some top) serial parent keeps = cond (leb top parent) (Some top) (span_else serial keeps)

-- the number is the serial of c's parent, if it has one
abbrev pub TellsParent : ℕ → Cell → Type 0
TellsParent k c = (num c ≡ 0 → ⊥) → k ≡ c.row.parent

-- a row above c that keeps the role k has this serial, or there is none
abbrev pub KeptAbove : List Cell → (k : ℕ) → Cell → Option ℕ → Type 0
KeptAbove xs k c None = (a : Cell) → In a xs → Inside xs a c → set.contains a.row.roles k ≡ true → ⊥
KeptAbove xs k c (Some s) = (a : Cell) × In a xs × (num a ≡ s) × Inside xs a c × (set.contains a.row.roles k ≡ true)

-- from m0 to m: the row c says whether it is covered, which it is exactly where its parent is or keeps a spread role
pub record CoversOne (s : Option SpreadView) (m0 m : Store) (c : Cell) : Type 0 where
  pub covered : Bool
  pub rows : m ≡ changed_at (paid_by (covered_by covered)) c.place m0
  pub told : (e : Cell) → In e (cells m0) → IsChild e c → (covered ≡ true) ↔ ((e.row.covered ≡ true) ⊎ ((k : ℕ) × (is_spread_in s k ≡ true) × (set.contains e.row.roles k ≡ true)))

-- that of the row at the place, if there is one; else nothing changed
abbrev pub CoveredAnew : Option SpreadView → (m0 m : Store) → Option ℕ → Type 0
CoveredAnew s m0 m None = m ≡ m0
CoveredAnew s m0 m (Some p) = (c : Cell) → In c (cells m0) → c.place ≡ p → CoversOne s m0 m c
