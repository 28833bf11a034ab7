-- What leaves with a node that nothing keeps any more. Public clauses speak of `Purged` and the buffer's invariant of `Tidy`; the rest follows the code.
use Rattle.std.specs.Prelude.{◌≡◌, ◌==◌, ◌<◌, ◌⊎◌, ℕ, Bool, true, not, List, [], ◌∷◌, ◌++◌, Option, Some, filter, IsSome}
use Rattle.gcx_model.specs.Members.{In}
use Rattle.gcx_model.specs.Paths.{any}
use Rattle.std.specs.FinMap.{get}
use Rattle.buf_tree.specs.Rows.{IsDead}
use Rattle.buf_tree.specs.Shape.{Store, Cell, num, cells, Shaped, is_under}

abbrev pub is_gone : List ℕ → Cell → Bool
is_gone gone c = any (λ k. num c == k) gone

-- something keeps the row: it is open, has a role, or has a child
abbrev pub Keeps : List Cell → Cell → Type 0
Keeps xs c = (IsDead c.row → ⊥) ⊎ ((d : Cell) × In d xs × (is_under (num c) d ≡ true))

abbrev pub Tidy : List Cell → Type 0
Tidy xs = (c : Cell) → In c xs → Keeps xs c

-- but for the row at one place
abbrev pub TidyBut : Option ℕ → List Cell → Type 0
TidyBut o xs = (c : Cell) → In c xs → (o ≡ Some c.place → ⊥) → Keeps xs c

abbrev pub Falling : List ℕ → Type 0
Falling [] = Unit {0}
Falling (k ∷ ks) = ((j : ℕ) → In j ks → j < k) × Falling ks

-- of the rows xs those stay that aren't gone
pub record Leaves (xs ys : List Cell) (gone : List ℕ) : Type 0 where
  pub rows : ys ≡ filter (λ c. not (is_gone gone c)) xs
  pub dead : (c : Cell) → In c xs → is_gone gone c ≡ true → IsDead c.row
  pub down : (c d : Cell) → In c xs → In d xs → is_gone gone c ≡ true → is_under (num c) d ≡ true → is_gone gone d ≡ true
  pub falling : Falling gone
  pub known : (k : ℕ) → In k gone → (c : Cell) × In c xs × (num c ≡ k)

-- and what isn't kept doesn't stay
pub record Purged (xs ys : List Cell) (gone : List ℕ) : Type 0 where
  pub leaves : Leaves xs ys gone
  pub tidy : Tidy ys

pub record PurgedBut (at : Option ℕ) (xs ys : List Cell) (gone : List ℕ) : Type 0 where
  pub leaves : Leaves xs ys gone
  pub tidy : TidyBut at ys
  pub low : (c : Cell) → In c ys → at ≡ Some c.place → (k : ℕ) → In k gone → num c < k

-- the state of a purge on its way up, at the place that is looked at next
pub record Climb (m0 m : Store) (at : Option ℕ) (g0 g : List ℕ) : Type 0 where
  pub shape : Shaped m
  pub left : (left : List ℕ) × (g ≡ g0 ++ left) × PurgedBut at (cells m0) (cells m) left
  pub there : (p : ℕ) → at ≡ Some p → IsSome (get m p)

-- a purge from m0 to m, which appends to the departures g0
pub record Cleared (m0 m : Store) (g0 g : List ℕ) : Type 0 where
  pub shape : Shaped m
  pub left : (left : List ℕ) × (g ≡ g0 ++ left) × Purged (cells m0) (cells m) left
