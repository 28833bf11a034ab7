-- Four bytes in a row.
use Rattle.std.specs.Prelude.{ℕ, ◌+◌, List, [], ◌∷◌, slice_index}

-- those from this index on
abbrev pub four_at : List ℕ → ℕ → List ℕ
four_at bs i = slice_index bs i ∷ slice_index bs (i + 1) ∷ slice_index bs (i + 2) ∷ slice_index bs (i + 3) ∷ []
