-- Cells that lie anywhere in memory, each with what it holds. This follows the code: only private functions and types
-- speak of it.
use Rattle.std.specs.Prelude.{◌≡◌, ℕ, zero, suc, ◌^◌, Bool, true, false, ◌&&◌, ◌==◌, ◌-◌, ◌*◌, ◌≤◌, length, drop, if◌then◌else◌, List, [], ◌∷◌, map, Option, Some, None}
use Rattle.std.specs.List.{IsDistinct}
use Rattle.raw_nodes.specs.Places.{somes}
use base.Fraction.{full_share}
use base.Fml.{Lft, Fml, ftrue, fsep, flt, feq}
use Rattle.std.specs.Mem.{type_size}
use denote.RattleType.{RattleType}
use denote.Sharing.{nothing, beside}
use denote.RawPtr.{Ptr, block_ptr, null_ptr, InBlock, Testable, lies_at, ◌+ₚ◌}
use denote.Struct.Lending.{lent_at}

pub record Spot (X : Type 0) : Type 0 where
  pub at : Ptr
  pub held : X

-- whether two pointers are the same
abbrev pub same_ptr : Ptr → Ptr → Bool
same_ptr (block_ptr b o) (block_ptr c p) = (b == c) && (o == p)
same_ptr (block_ptr b o) null_ptr = false
same_ptr null_ptr (block_ptr c p) = false
same_ptr null_ptr null_ptr = true

module _ {X : Type 0} where
  -- where the cells lie
  abbrev pub places : List (Spot X) → List Ptr
  places = map (λ s. s.at)

  -- no two cells lie at one pointer
  abbrev pub IsApart : List (Spot X) → Type 0
  IsApart cells = IsDistinct same_ptr (places cells)

  -- what the cell at a pointer holds
  abbrev pub found : List (Spot X) → Ptr → Option X
  found [] p = None
  found (s ∷ ss) p = if same_ptr s.at p then Some s.held else found ss p

  -- the cells, with w in the one at p
  abbrev pub written : List (Spot X) → Ptr → X → List (Spot X)
  written [] p w = []
  written (s ∷ ss) p w = if same_ptr s.at p then record { at = s.at; held = w } ∷ ss else s ∷ written ss p w

  -- the cells, with what the one at p holds changed by f
  abbrev pub updated : (X → X) → List (Spot X) → Ptr → List (Spot X)
  updated f [] p = []
  updated f (s ∷ ss) p = if same_ptr s.at p then record { at = s.at; held = f s.held } ∷ ss else s ∷ updated f ss p

  -- values side by side from p on, each of which takes so many bytes
  abbrev pub spots : ℕ → Ptr → List X → List (Spot X)
  spots size p [] = []
  spots size p (x ∷ xs) = record { at = p; held = x } ∷ spots size (p +ₚ size) xs

  -- every place holds a value
  abbrev pub IsFull : List (Option X) → Type 0
  IsFull cs = cs ≡ map Some (somes cs)

  -- the last cells lie at these places
  abbrev pub IsLast : List Ptr → List (Spot X) → Type 0
  IsLast ps cells = (length ps ≤ length cells) × (places (drop (length cells - length ps) cells) ≡ ps)

-- the pointer lies in a block
abbrev pub IsIn : Ptr → Type 0
IsIn p = (b : ℕ) × (o : ℕ) × (p ≡ block_ptr b o)

-- the pointer lies in a block, and may be compared with null
abbrev pub IsInSomeBlock : Ptr → Type 0
IsInSomeBlock p = InBlock p × Testable p

-- where the cell at the index lies
abbrev pub cell_ptr : ℕ → Ptr → ℕ → Ptr
cell_ptr size p index = p +ₚ (index * size)

-- so many places side by side from p on
abbrev pub run_places : ℕ → Ptr → ℕ → List Ptr
run_places size p zero = []
run_places size p (suc n) = p ∷ run_places size (p +ₚ size) n

module _ (R : RattleType) where
  -- that the places lie side by side, and fit in a block
  abbrev pub run_owns : Ptr → List Ptr → Fml
  run_owns p ps = fsep (flt (length ps * type_size R) (2 ^ 63)) (feq (List Ptr) ps (run_places (type_size R) p (length ps)))

  abbrev pub spots_own : List (Spot R.Denot) → Fml
  spots_own [] = ftrue
  spots_own (s ∷ ss) = fsep (lies_at R full_share s.at s.held) (spots_own ss)

  abbrev pub spots_lent : List (Spot R.Denot) → Lft → Fml
  spots_lent [] = nothing
  spots_lent (s ∷ ss) = beside (lent_at R s.at s.held) (spots_lent ss)
