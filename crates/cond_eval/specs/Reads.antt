-- What reading the rows tells of the nodes that are kept (this project's).
use Rattle.std.specs.Prelude.{◌≡◌, ◌<◌, ℕ, Bool, true, false, List, [], ◌∷◌, ◌++◌, map, filter, flat_map}
use Rattle.gcx_base.specs.declared.steps.Axis.TheVariants.{Descendant}
use Rattle.gcx_base.specs.declared.steps.Test.TheVariants.{AnyText}
use Rattle.gcx_base.specs.declared.steps.Step.{Step}
use Rattle.gcx_model.specs.Tree.{Node, serial_of, kind_of, above, within, Tree}
use Rattle.gcx_model.specs.Paths.{any, reach, matches, text_of, value}
use Rattle.gcx_model.specs.Members.{In}
use Rattle.move_laws.specs.Kept.{only}
use Rattle.gcx_base.specs.Kinds.{is_text}
use Rattle.buf_tree.specs.Shape.{Cell, num}
use Rattle.buf_tree.specs.View.{InUse}
use Rattle.cond_eval.specs.Asking.{RowsOf, PlacedAt}
use Rattle.cond_eval.specs.declared.sets.Member.{Member}

-- the row at the place is that of the node
pub record NodeAt (rows : List Cell) (P : Tree) (keep : Node → Bool) (p : ℕ) (n : Node) : Type 0 where
  pub rows_of : RowsOf rows P keep
  pub among : In n P.nodes
  pub kept : keep n ≡ true
  pub cell : Cell
  pub cell_among : In cell rows
  pub at : cell.place ≡ p
  pub number : num cell ≡ serial_of n

-- all of the node's subtree is kept
abbrev pub IsWhole : Tree → (Node → Bool) → Node → Type 0
IsWhole P keep n = (m : Node) → In m P.nodes → within (serial_of n) m ≡ true → keep m ≡ true

-- the bytes are the node's value, where its subtree is kept
abbrev pub IsValue : List Cell → ℕ → List ℕ → Type 0
IsValue rows p v = (P : Tree) (keep : Node → Bool) (n : Node) → NodeAt rows P keep p n → IsWhole P keep n → v ≡ value P n

-- the members are these nodes, each with its place
pub record AreNodes (rows : List Cell) (ms : List Member) (ns : List Node) : Type 0 where
  pub serials : map (λ (m : Member). m.serial) ms ≡ map serial_of ns
  pub places : (m : Member) → In m ms → PlacedAt rows m.serial m.place

-- the members are what the steps reach from the row at the place among the kept nodes
abbrev pub AreReached : List Cell → ℕ → List Step → List Member → Type 0
AreReached rows p steps ms = (P : Tree) (keep : Node → Bool) (n : Node) → NodeAt rows P keep p n → AreNodes rows ms (matches (only keep P) (serial_of n) steps)

-- ---- sets

-- each number is below the later ones
abbrev pub Ascends : List ℕ → Type 0
Ascends [] = Unit {0}
Ascends (k ∷ ks) = ((j : ℕ) → In j ks → k < j) × Ascends ks

-- the member is the row at its place
pub record IsMember (rows : List Cell) (m : Member) : Type 0 where
  pub used : InUse rows m.place
  pub number : (c : Cell) → In c rows → c.place ≡ m.place → num c ≡ m.serial

abbrev pub AreMembers : List Cell → List Member → Type 0
AreMembers rows ms = (m : Member) → In m ms → IsMember rows m

abbrev pub serials : List Member → List ℕ
serials ms = map (λ m. m.serial) ms

-- the step leads to the node from one of the members
abbrev pub is_next : List Member → Step → Node → Bool
is_next ms s j = any (λ m. reach m.serial s j) ms

-- members are appended: what the step reaches from the row at the place
pub record Puts (rows : List Cell) (p : ℕ) (s : Step) (old new : List Member) : Type 0 where
  pub more : List Member
  pub new_is : new ≡ old ++ more
  pub members : AreMembers rows more
  pub told : (P : Tree) (keep : Node → Bool) (n : Node) → NodeAt rows P keep p n → serials more ≡ map serial_of (matches (only keep P) (serial_of n) (s ∷ []))

-- the members are what the step reaches from those of the set, which stands by rising serials
pub record AreNext (rows : List Cell) (set : List Member) (s : Step) (ms : List Member) : Type 0 where
  pub members : AreMembers rows ms
  pub told : (P : Tree) (keep : Node → Bool) → RowsOf rows P keep → Ascends (serials set) → serials ms ≡ map serial_of (filter (is_next set s) (filter keep P.nodes))

-- the member's node is that of `top` or below it, where the node of `last` is and stands before it
abbrev pub TellsInside : List Cell → (member last top : Member) → Bool → Type 0
TellsInside rows m last top b = (P : Tree) (keep : Node → Bool) (l n t : Node) → NodeAt rows P keep m.place n → In l P.nodes → In t (above l) → serial_of l ≡ last.serial → serial_of t ≡ top.serial → serial_of l < serial_of n → b ≡ within (serial_of t) n

-- ---- values

-- the bytes of a row's text
abbrev pub bytes_of : Cell → List ℕ
bytes_of c = text_of c.row.kind

-- the value of the row's node is the bytes of the row at the place q, where the subtree of the node is kept
pub record IsOnly (rows : List Cell) (p q : ℕ) : Type 0 where
  pub used : InUse rows q
  pub told : (P : Tree) (keep : Node → Bool) (n : Node) → NodeAt rows P keep p n → IsWhole P keep n → (m : Node) × NodeAt rows P keep q m × (value P n ≡ text_of (kind_of m))

-- the row at the place is no text
abbrev pub NoText : List Cell → ℕ → Type 0
NoText rows p = (c : Cell) → In c rows → c.place ≡ p → is_text c.row.kind ≡ false

-- the step to all texts below a node
abbrev pub texts_below : Step
texts_below = record { axis = Descendant; test = AnyText }

-- the bytes are the texts below the row's node that are kept
abbrev pub AreTexts : List Cell → ℕ → List ℕ → Type 0
AreTexts rows p v = (P : Tree) (keep : Node → Bool) (n : Node) → NodeAt rows P keep p n → v ≡ flat_map (λ m. text_of (kind_of m)) (matches (only keep P) (serial_of n) (texts_below ∷ []))
