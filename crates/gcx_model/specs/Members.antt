-- Members of lists.
use Rattle.std.specs.Prelude.{◌≡◌, ℕ, zero, suc, ◌⊎◌, List, [], ◌∷◌}

-- m is a member
abbrev pub In : {X : Type 0} → X → List X → Type 0
In m [] = ⊥
In m (x ∷ xs) = (x ≡ m) ⊎ In m xs

-- no member twice
abbrev pub Once : {X : Type 0} → List X → Type 0
Once [] = Unit {0}
Once (x ∷ xs) = (In x xs → ⊥) × Once xs

-- n numbers from k on
abbrev pub count : ℕ → ℕ → List ℕ
count k zero = []
count k (suc n) = k ∷ count (suc k) n
