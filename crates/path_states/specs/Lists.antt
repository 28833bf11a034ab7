-- What lists gain, and rising lists (this project's).
use Rattle.std.specs.Prelude.{◌<◌, ◌≤◌, ◌⊎◌, ◌↔◌, ℕ, List, [], ◌∷◌, length, take, drop}
use Rattle.gcx_model.specs.Members.{In}

-- y comes from some member of the list
pub record From {X Y : Type 0} (xs : List X) (R : X → Y → Type 0) (y : Y) : Type 0 where
  pub of : X
  pub member : In of xs
  pub is : R of y

-- the members now are those before and those of Q
pub record Gains {Y : Type 0} (before now : List Y) (Q : Y → Type 0) : Type 0 where
  pub has : (y : Y) → In y now ↔ (In y before ⊎ Q y)

-- the members are those of Q
pub record Holds {Y : Type 0} (now : List Y) (Q : Y → Type 0) : Type 0 where
  pub has : (y : Y) → In y now ↔ Q y

-- each number is below the later ones
abbrev pub Climbs : List ℕ → Type 0
Climbs [] = Unit {0}
Climbs (x ∷ xs) = ((y : ℕ) → In y xs → x < y) × Climbs xs

-- the first i of the numbers are below x, and the others are not
pub record Parted (xs : List ℕ) (i x : ℕ) : Type 0 where
  pub within : i ≤ length xs
  pub before : (y : ℕ) → In y (take i xs) → y < x
  pub behind : (y : ℕ) → In y (drop i xs) → x ≤ y
