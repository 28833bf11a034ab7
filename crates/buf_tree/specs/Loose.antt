-- Open elements without a role that have no row yet, and what a buffer stands for that has passed them.
use Rattle.std.specs.Prelude.{◌≡◌, ◌+◌, ◌<◌, ℕ, true, cond, List, [], ◌∷◌, ◌++◌, length, Option, Some, None}
use Rattle.std.specs.FinSet as set
use Rattle.gcx_base.specs.declared.kind.Kind.TheVariants.{Element}
use Rattle.gcx_model.specs.Members.{In}
use Rattle.gcx_model.specs.Tree.{Node, TreeToken, Start, Chars, End, grow}
use Rattle.gcx_model.specs.Growth.{may_come}
use Rattle.gcx_model.specs.Held.{roles_given}
use Rattle.gcx_model.specs.Past.{Past, past_fed, Opens}
use Rattle.buf_tree.specs.Rows.{below_row}
use Rattle.buf_tree.specs.Shape.{Cell, CellsRise, num}
use Rattle.buf_tree.specs.View.{View, Innermost, num_in, level_in}
use Rattle.buf_tree.specs.Stands.{StandsFor}

-- an open element without a role that has no row yet
pub record Passed : Type 0 where
  pub name : List ℕ
  pub serial : ℕ

-- the last open one of the rows, or the given one where none of them is open
abbrev pub open_among : Option Cell → List Cell → Option Cell
open_among o [] = o
open_among o (c ∷ cs) = open_among (cond c.row.is_open (Some c) o) cs

abbrev pub last_open : List Cell → Option Cell
last_open cs = open_among None cs

-- the row that it will have, at the place, as a child of the node with this serial and level
abbrev pub passed_cell : (parent level place : ℕ) → Passed → Cell
passed_cell parent level place x = record { place = place; row = below_row parent level x.serial (Element x.name) set.empty }

-- the rows that they will have, each below the one before it, at these places
abbrev pub passed_cells : (parent level : ℕ) → (places : List ℕ) → List Passed → List Cell
passed_cells parent level places [] = []
passed_cells parent level [] (x ∷ xs) = []
passed_cells parent level (p ∷ places) (x ∷ xs) = passed_cell parent level p x ∷ passed_cells x.serial (level + 1) places xs

-- those below the last open one of the rows
abbrev pub cells_passed : List ℕ → List Passed → List Cell → List Cell
cells_passed places xs rows = passed_cells (num_in (last_open rows)) (level_in (last_open rows)) places xs

-- the view with these rows too
abbrev pub with_passed : List ℕ → List Passed → View → View
with_passed places xs v = record v { rows = v.rows ++ cells_passed places xs v.rows; kept = v.kept ++ cells_passed places xs v.rows }

-- whatever places they get
abbrev pub Loosely : (View → Type 0) → List Passed → View → Type 0
Loosely R xs v = (places : List ℕ) → length places ≡ length xs → R (with_passed places xs v)

-- Stands loosely: with the rows that the passed elements will have, it stands for the past.
abbrev pub StandsLoosely : List Passed → View → Past → Type 0
StandsLoosely xs v past = Loosely (λ w. StandsFor w past) xs v

-- the node that the token opens, if it opens one, is given no role
abbrev pub GivesNone : Past → TreeToken → Type 0
GivesNone past t = (n : Node) → Opens past.tree t n → roles_given past.plan (grow t past.tree) n ≡ []

-- from v to w an element is passed that is given no role: it gets the next serial
abbrev pub ElementPassed : (v w : View) → Type 0
ElementPassed v w = (xs : List Passed) (past : Past) (name : List ℕ) → StandsLoosely xs v past → v.waiting ≡ []
    → may_come (Start name) past.tree ≡ true → GivesNone past (Start name)
    → StandsLoosely (xs ++ record { name = name; serial = v.nodes } ∷ []) w (past_fed (Start name) past)

-- and a text: it is gone at once
abbrev pub TextPassed : (v w : View) → Type 0
TextPassed v w = (xs : List Passed) (past : Past) (bytes : List ℕ) → StandsLoosely xs v past → v.waiting ≡ []
    → may_come (Chars bytes) past.tree ≡ true → GivesNone past (Chars bytes) → StandsLoosely xs w (past_fed (Chars bytes) past)

-- one node more, and no row
abbrev pub one_passed : View → View
one_passed v = record v { nodes = v.nodes + 1 }

-- An element that is given no role is passed by counting it.
abbrev pub PassesElement : Type 0
PassesElement = (v : View) → ElementPassed v (one_passed v)

-- So is a text that is given no role.
abbrev pub PassesText : Type 0
PassesText = (v : View) → TextPassed v (one_passed v)

-- The end of the innermost passed element takes its row away, and no other.
abbrev pub EndsPassed : Type 0
EndsPassed = (v : View) (xs : List Passed) (x : Passed) (past : Past) → StandsLoosely (xs ++ x ∷ []) v past → v.waiting ≡ []
    → may_come End past.tree ≡ true → StandsLoosely xs v (past_fed End past)

-- The row of the outermost passed element may be made, at any place: the others are passed below it.
abbrev pub SettlesOne : Type 0
SettlesOne = (v : View) (x : Passed) (xs : List Passed) (p : ℕ) (places : List ℕ)
    → with_passed (p ∷ places) (x ∷ xs) v ≡ with_passed places xs (record v { rows = v.rows ++ cells_passed (p ∷ []) (x ∷ []) v.rows; kept = v.kept ++ cells_passed (p ∷ []) (x ∷ []) v.rows })

-- With no element passed nothing is loose.
abbrev pub SettlesNone : Type 0
SettlesNone = (v : View) (places : List ℕ) → with_passed places [] v ≡ v

-- Of rows in document order the last open one is that of the innermost open node.
abbrev pub LastIsInnermost : Type 0
LastIsInnermost = (rows : List Cell) (place : ℕ) → CellsRise rows → (i : Innermost rows place) → last_open rows ≡ Some i.cell

-- The rows of a view that stands loosely are in document order and below the number of nodes, those that are still to come too.
abbrev pub RowsRise : Type 0
RowsRise = (v : View) (xs : List Passed) (past : Past) → StandsLoosely xs v past → (places : List ℕ) → length places ≡ length xs
    → CellsRise (with_passed places xs v).rows × ((c : Cell) → In c (with_passed places xs v).rows → num c < v.nodes)

-- With one passed element more there is one row more, the last one, with its serial and at its place.
abbrev pub OneRowMore : Type 0
OneRowMore = (v : View) (xs : List Passed) (x : Passed) (places : List ℕ) (p : ℕ) → length places ≡ length xs
    → (c : Cell) × (c.place ≡ p) × (num c ≡ x.serial) × ((with_passed (places ++ p ∷ []) (xs ++ x ∷ []) v).rows ≡ (with_passed places xs v).rows ++ c ∷ [])

-- While a node is open, one of the rows that are there is open: below the innermost of these the passed elements stand.
abbrev pub RowThere : Type 0
RowThere = (v : View) (xs : List Passed) (past : Past) (a : Node) → StandsLoosely xs v past → past.tree.at ≡ Some a → (place : ℕ) × Innermost v.rows place
