-- This follows the code, for its proofs: no public clause speaks of it.
-- Where a name stands first among those that clauses bind.
use Rattle.std.specs.Prelude.{ℕ, suc, ◌==◌, List, [], ◌∷◌, Option, Some, None, bytes_eq, if◌then◌else◌}

-- in a list of which the first has the place `at`
abbrev pub first_from : (at : ℕ) → List ℕ → List (List ℕ) → Option ℕ
first_from at name [] = None
first_from at name (n ∷ ns) = if bytes_eq name n then Some at else first_from (suc at) name ns

abbrev pub first_of : List ℕ → List (List ℕ) → Option ℕ
first_of name ns = first_from 0 name ns

-- the first place, or else the second
abbrev pub place_or_else : Option ℕ → Option ℕ → Option ℕ
place_or_else None b = b
place_or_else (Some k) b = Some k

-- the place, unless it is this one
abbrev pub unless_at : (place : ℕ) → Option ℕ → Option ℕ
unless_at place None = None
unless_at place (Some k) = if k == place then None else Some k

-- the place of the name q, where `name` gets this place unless it had one
abbrev pub place_put : (name : List ℕ) (place : ℕ) (q : List ℕ) → Option ℕ → Option ℕ
place_put name place q had = place_or_else had (if bytes_eq q name then Some place else None)

-- and where that place of `name` is taken back
abbrev pub place_taken : (name : List ℕ) (place : ℕ) (q : List ℕ) → Option ℕ → Option ℕ
place_taken name place q had = if bytes_eq q name then unless_at place had else had
