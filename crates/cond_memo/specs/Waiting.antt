-- Matches that are open, and the last of the steps (this project's).
use Rattle.std.specs.Prelude.{◌≡◌, ◌<◌, ℕ, Bool, true, false, List, [], ◌∷◌, Option, Some, None}
use Rattle.gcx_base.specs.declared.ids.Serial.{Serial}
use Rattle.gcx_base.specs.declared.steps.Axis.TheVariants.{Descendant}
use Rattle.gcx_base.specs.declared.steps.Step.{Step}
use Rattle.gcx_model.specs.Members.{In}
use Rattle.gcx_model.specs.Paths.{hits}
use Rattle.gcx_model.specs.Tree.{Node, serial_of, above, Tree, is_closed}
use Rattle.buf_tree.specs.Match.{IsChild}
use Rattle.buf_tree.specs.Shape.{Cell, num}
use Rattle.buf_tree.specs.View.{InUse, serial_at}
use Rattle.cond_eval.specs.Reads.{NodeAt}

-- ---- open nodes

-- the node is the open one of this serial or above it
abbrev pub WasOpen : Tree → Option Serial → Node → Type 0
WasOpen P None j = ⊥
WasOpen P (Some s) j = (o : Node) × In o P.nodes × (serial_of o ≡ s.0) × In j (above o)

-- the match that is kept is still open
abbrev pub IsOpenNow : Tree → Option Serial → Type 0
IsOpenNow P waiting = (s : Serial) → waiting ≡ Some s → (o : Node) → In o P.nodes → serial_of o ≡ s.0 → is_closed P o ≡ false

-- ---- the last step

-- as a descendant step it is the last of the steps
abbrev pub EndsAs : List Step → Step → Type 0
EndsAs [] last = Unit {0}
EndsAs (s ∷ []) last = (last.axis ≡ Descendant) × (last.test ≡ s.test)
EndsAs (s ∷ t ∷ rest) last = EndsAs (t ∷ rest) last

-- so it is, or it is the only one
abbrev pub Fits : List Step → Step → Type 0
Fits [] last = Unit {0}
Fits (s ∷ []) last = last ≡ s
Fits (s ∷ t ∷ rest) last = EndsAs (t ∷ rest) last

-- ---- what the calls tell. Private functions alone speak of it.

-- the nearest match above o, of those from n
abbrev pub NextAbove : List Step → (n o : Node) → Option Serial → Type 0
NextAbove steps n o None = (j : Node) → In j (above o) → (serial_of j ≡ serial_of o → ⊥) → hits (serial_of n) steps j ≡ true → ⊥
NextAbove steps n o (Some s) = (u : Node) × In u (above o) × (serial_of u ≡ s.0) × (hits (serial_of n) steps u ≡ true)
    × ((j : Node) → In j (above o) → (serial_of j ≡ serial_of o → ⊥) → hits (serial_of n) steps j ≡ true → In j (above u))

-- the row at the place is the one of this serial, and closed
pub record IsShut (rows : List Cell) (waiting : Option Serial) (p : ℕ) : Type 0 where
  pub serial : Serial
  pub is : waiting ≡ Some serial
  pub at_serial : serial_at p rows ≡ serial.0
  pub cell : Cell
  pub among : In cell rows
  pub place : cell.place ≡ p
  pub number : num cell ≡ serial.0
  pub closed : cell.row.is_open ≡ false

-- no node that is kept, below that at the place, has this serial and is closed
abbrev pub StillOpen : List Cell → (p : ℕ) → Option Serial → Type 0
StillOpen rows p waiting = (s : Serial) → waiting ≡ Some s → (P : Tree) (keep : Node → Bool) (n m : Node) → NodeAt rows P keep p n → In m P.nodes → keep m ≡ true → serial_of m ≡ s.0 → In n (above m) → is_closed P m ≡ false

-- the row at the place is that of the document node
abbrev pub HasNoParent : List Cell → (p : ℕ) → Type 0
HasNoParent rows p = (c : Cell) → In c rows → c.place ≡ p → num c ≡ 0

-- its parent is the row at the place q
pub record IsParentAt (rows : List Cell) (p q : ℕ) : Type 0 where
  pub used : InUse rows q
  pub lower : serial_at q rows < serial_at p rows
  pub parent : (c : Cell) → In c rows → c.place ≡ p → (d : Cell) × In d rows × IsChild d c × (d.place ≡ q)

-- no two rows share a place
abbrev pub AreApart : List Cell → Type 0
AreApart rows = (c d : Cell) → In c rows → In d rows → c.place ≡ d.place → c ≡ d
