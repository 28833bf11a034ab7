-- What the walks over the rows answer. This follows the code: only private functions and the buffer's invariant, which has `Nested`, speak of it.
use Rattle.std.specs.Prelude.{◌≡◌, ◌<◌, ◌≤◌, ◌⊎◌, ℕ, suc, true, ltb, List, length, filter, Option, Some, None}
use Rattle.gcx_base.specs.declared.steps.Test.{Test}
use Rattle.gcx_base.specs.Tests.{passes}
use Rattle.gcx_model.specs.Members.{In}
use Rattle.buf_tree.specs.Shape.{Cell, num, at_place}

-- what stands between a row and its parent lies below the parent
abbrev pub Nested : List Cell → Type 0
Nested xs = (b c : Cell) → In b xs → In c xs → c.row.parent < num b → num b < num c → c.row.parent ≤ b.row.parent

-- d lies below c: no row from there to d is a child of a row before c
pub record Inside (xs : List Cell) (c d : Cell) : Type 0 where
  pub behind : num c < num d
  pub block : (x : Cell) → In x xs → num c < num x → num x ≤ num d → num c ≤ x.row.parent

-- d is c or lies below it
abbrev pub Within : List Cell → Cell → Cell → Type 0
Within xs c d = (c ≡ d) ⊎ Inside xs c d

-- all that is behind t and below c lies below t
pub record Deeper (xs : List Cell) (c t : Cell) : Type 0 where
  pub here : Within xs c t
  pub rest : (x : Cell) → In x xs → Inside xs c x → num t < num x → Inside xs t x

-- t is the last of c's subtree
pub record IsLast (xs : List Cell) (c t : Cell) : Type 0 where
  pub here : Within xs c t
  pub rest : (x : Cell) → In x xs → Inside xs c x → num x ≤ num t

-- t is the row just before h
pub record JustBefore (xs : List Cell) (t h : Cell) : Type 0 where
  pub low : num t < num h
  pub none : (x : Cell) → In x xs → num x < num h → num x ≤ num t

-- g is the row just behind h
pub record JustBehind (xs : List Cell) (h g : Cell) : Type 0 where
  pub high : num h < num g
  pub none : (x : Cell) → In x xs → num h < num x → num g ≤ num x

-- on the way up from h to the row t, nothing behind h lies below t
pub record Climbs (xs : List Cell) (c h t : Cell) : Type 0 where
  pub low : Within xs c t
  pub here : Within xs t h
  pub none : (x : Cell) → In x xs → num h < num x → Inside xs t x → ⊥

-- the place is that of the greatest of these rows before k, or there is none
abbrev pub BeforeIn : List Cell → (Cell → Type 0) → ℕ → Option ℕ → Type 0
BeforeIn xs R k None = (x : Cell) → In x xs → R x → num x < k → ⊥
BeforeIn xs R k (Some p) = (t : Cell) × In t xs × (t.place ≡ p) × R t × (num t < k) × ((x : Cell) → In x xs → R x → num x < k → num x ≤ num t)

-- the place is that of the least of these rows behind k, or there is none
abbrev pub BehindIn : List Cell → (Cell → Type 0) → ℕ → Option ℕ → Type 0
BehindIn xs R k None = (x : Cell) → In x xs → R x → k < num x → ⊥
BehindIn xs R k (Some p) = (t : Cell) × In t xs × (t.place ≡ p) × R t × (k < num t) × ((x : Cell) → In x xs → R x → k < num x → num t ≤ num x)

-- the place is that of the first of these rows from `edge` on that passes the test, and is above `bound`, or none passes
abbrev pub Found : List Cell → (Cell → Type 0) → Test → (bound edge : ℕ) → Option ℕ → Type 0
Found xs R t bound edge None = (x : Cell) → In x xs → R x → edge ≤ num x → passes t x.row.kind ≡ true → ⊥
Found xs R t bound edge (Some p) =
    (d : Cell) × In d xs × (d.place ≡ p) × R d × (passes t d.row.kind ≡ true) × (bound < num d) × (edge ≤ num d) × ((x : Cell) → In x xs → R x → edge ≤ num x → passes t x.row.kind ≡ true → num d ≤ num x)

-- a search from the last row back, at this place
abbrev pub Back : List Cell → (Cell → Type 0) → Test → (bound : ℕ) → (at found : Option ℕ) → Type 0
Back xs R t bound at found = (edge : ℕ) × BeforeIn xs R edge at × Found xs R t bound edge found

-- a search on from a row, at this place
abbrev pub On : List Cell → (Cell → Type 0) → Test → (bound : ℕ) → (at : Option ℕ) → Type 0
On xs R t bound at = (k : ℕ) × (bound ≤ k) × BehindIn xs R k at × ((x : Cell) → In x xs → R x → bound < num x → num x ≤ k → passes t x.row.kind ≡ true → ⊥)

abbrev pub serial_in : List Cell → Option Cell → ℕ
serial_in xs None = 0
serial_in xs (Some c) = num c

-- how many serials are before the row at the place
abbrev pub low_at : List Cell → Option ℕ → ℕ
low_at xs None = 0
low_at xs (Some p) = suc (serial_in xs (at_place p xs))

abbrev pub rows_behind : List Cell → ℕ → ℕ
rows_behind xs k = length (filter (λ d. ltb k (num d)) xs)

-- how many rows are behind the row at the place
abbrev pub high_at : List Cell → Option ℕ → ℕ
high_at xs None = 0
high_at xs (Some p) = suc (rows_behind xs (serial_in xs (at_place p xs)))
