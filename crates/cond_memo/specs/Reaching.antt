-- The row of a serial, below a row. Private functions alone speak of it.
use Rattle.std.specs.Prelude.{◌≡◌, ◌<◌, ◌≤◌, ℕ, Bool, true, List, Option, MatchOption}
use Rattle.gcx_model.specs.Tree.{Node, serial_of, above, Tree}
use Rattle.gcx_model.specs.Members.{In}
use Rattle.buf_tree.specs.Shape.{Cell, num}
use Rattle.buf_tree.specs.Match.{IsChild}
use Rattle.cond_eval.specs.Reads.{NodeAt}

-- no child of the row has a serial up to this one
abbrev pub NoChildUpTo : List Cell → Cell → (serial : ℕ) → Type 0
NoChildUpTo rows c s = (d : Cell) → In d rows → IsChild c d → s < num d

-- the row at the place is the last of the children that do
pub record LastChildUpTo (rows : List Cell) (c : Cell) (serial p : ℕ) : Type 0 where
  pub child : Cell
  pub among : In child rows
  pub place : child.place ≡ p
  pub is_child : IsChild c child
  pub low : num child ≤ serial
  pub last : (d : Cell) → In d rows → IsChild c d → num d ≤ serial → num d ≤ num child

-- the last child of the row at the place `p` that has a serial up to this one was found where there is one; it stands at `at found`
abbrev pub FindsChildUpTo : {A : Type 0} → List Cell → (p serial : ℕ) → Option A → (A → Type 0) → (at : A → ℕ) → Type 0
FindsChildUpTo rows p s found IsTold at = (c : Cell) → In c rows → c.place ≡ p
    → MatchOption found (NoChildUpTo rows c s) (λ a. IsTold a × LastChildUpTo rows c s (at a))

-- of no node that is kept and has this serial the node of the row is above it
abbrev pub NotBelow : List Cell → (p serial : ℕ) → Type 0
NotBelow rows p s = (P : Tree) (keep : Node → Bool) (n m : Node) → NodeAt rows P keep p n → In m P.nodes → keep m ≡ true → serial_of m ≡ s → In n (above m) → ⊥

-- the row at the place q has this serial
pub record HasSerial (rows : List Cell) (serial q : ℕ) : Type 0 where
  pub cell : Cell
  pub among : In cell rows
  pub place : cell.place ≡ q
  pub number : num cell ≡ serial
