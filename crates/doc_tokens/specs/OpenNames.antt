-- These definitions follow the code; no public clause speaks of them.
-- The names of open elements in one list of bytes.
use Rattle.std.specs.Prelude.{ℕ, ◌≡◌, List, [], ◌∷◌, take, drop}

-- the names that begin at these places, the last one first
abbrev pub names_of : (starts : List ℕ) → (bytes : List ℕ) → List (List ℕ)
names_of [] bytes = []
names_of (s ∷ starts) bytes = drop s bytes ∷ names_of starts (take s bytes)

-- the same list without its first element, if it has one
abbrev pub WithoutFirst : List (List ℕ) → List (List ℕ) → Type 0
WithoutFirst [] new = new ≡ []
WithoutFirst (n ∷ rest) new = new ≡ rest

-- No bytes lie there but those of names: the first name begins at 0, and without names there are no bytes.
abbrev pub AreNamesOnly : (starts : List ℕ) → (bytes : List ℕ) → Type 0
AreNamesOnly [] bytes = bytes ≡ []
AreNamesOnly (s ∷ starts) bytes = s ≡ 0
