-- Byte lists in byte order.
use Rattle.std.specs.Prelude.{◌≡◌, ◌≤◌, ◌+◌, ◌*◌, ◌^◌, ℕ, List, [], ◌∷◌}
use Rattle.std.specs.Ordering.{nat_cmp}
use Rattle.std.specs.Cmp.Lexicographic.{slice_cmp}
use Rattle.std.specs.declared.cmp.Ordering.TheVariants.{Less}
use Rattle.gcx_model.specs.Members.{In}

-- v stands before w, by bytes
abbrev pub IsBelowByBytes : List ℕ → List ℕ → Type 0
IsBelowByBytes v w = slice_cmp nat_cmp v w ≡ Less

-- each stands before the later ones
abbrev pub RisesByBytes : List (List ℕ) → Type 0
RisesByBytes [] = Unit {0}
RisesByBytes (v ∷ vs) = ((w : List ℕ) → In w vs → IsBelowByBytes v w) × RisesByBytes vs

-- a number of steps that is enough to find a value among n
abbrev pub IsEnough : (n steps : ℕ) → Type 0
IsEnough n p = 2 ^ p ≤ 2 * n + 1
