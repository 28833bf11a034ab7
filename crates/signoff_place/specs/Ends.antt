-- This follows the code, for its proofs: no public clause speaks of it.
-- A body with statements at its end, as lists of items (this project's).
use Rattle.std.specs.Prelude.{ℕ, List, [], map, slice_index_or}
use Rattle.gcx_model.specs.declared.item.Off.{Off}
use Rattle.gcx_model.specs.Core.{OffTree}
use Rattle.gcx_model.specs.ItemView.{off_tree}

-- the statements at the end of each body, by the variables from 0
abbrev pub ends_of : List (List Off) → ℕ → List OffTree
ends_of ends x = map off_tree (slice_index_or ends x [])
