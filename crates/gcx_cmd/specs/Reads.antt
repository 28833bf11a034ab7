-- How the reading of a file of a shelf stands (this project's).
use Rattle.std.specs.Prelude.{◌≡◌, ◌⊎◌, ◌+◌, ◌<◌, ◌≤◌, ℕ, List, [], ◌∷◌, ◌++◌, length, map, slice_get, Some, All}
use Rattle.std.specs.Io.KnownBytes.{Consumes, IsAtEnd}
use Rattle.gcx_io.specs.Causes.{Rose}
use Rattle.gcx_io.specs.Shelf.{IsMissing, content_of}
use Rattle.gcx_io.specs.Views.{Gave, HandleView, ShelfView, missed}
use Rattle.gcx_io.specs.Writing.{IsSomeBytes, joined}
use Rattle.run_words.specs.Stops.{Stop, More, EndAnswered, last_call, IsCalm}

-- The handle was opened by the name; its reads, which asked for so many bytes each, gave these pieces, none empty, and
-- stopped so. No call came after the end or a fault.
pub record ReadsAsking (asked : ℕ) (name : List ℕ) (h : ℕ) (a b : ShelfView) (pieces : List (List ℕ)) (stop : Stop) : Type 0 where
  pub handle : HandleView
  pub at : slice_get b.given h ≡ Some handle
  pub named : handle.name ≡ name
  pub some : All IsSomeBytes pieces
  pub calls : handle.calls ≡ map (Gave asked) pieces ++ last_call asked stop
  pub told : Consumes (content_of a.names name) handle.left (joined pieces)
  pub at_end : stop ≡ EndAnswered → IsAtEnd handle.left

-- so DOC and TRACE are read,
abbrev pub Reads : (name : List ℕ) → (h : ℕ) → (a b : ShelfView) → (pieces : List (List ℕ)) → Stop → Type 0
Reads name h a b pieces stop = ReadsAsking 65536 name h a b pieces stop

-- and so QUERY
abbrev pub ReadsQuery : (name : List ℕ) → (h : ℕ) → (a b : ShelfView) → (pieces : List (List ℕ)) → Stop → Type 0
ReadsQuery name h a b pieces stop = ReadsAsking 4096 name h a b pieces stop

-- n handles were given in this call, and no attach failed
pub record Opens (n : ℕ) (a b : ShelfView) : Type 0 where
  pub count : length b.given ≡ length a.given + n
  pub refused : b.refused ≡ a.refused

-- n handles were given in this call, and then the attach of this name failed
pub record Misses (n : ℕ) (name : List ℕ) (a b : ShelfView) : Type 0 where
  pub count : length b.given ≡ length a.given + n
  pub refused : b.refused ≡ a.refused ++ missed name (length a.given + n) ∷ []

-- the most bytes of a query
abbrev pub most_of_query : ℕ
most_of_query = 1048576

-- no more than a query may have
abbrev pub Within : List (List ℕ) → Type 0
Within pieces = length (joined pieces) ≤ most_of_query

-- Only the last piece goes past what a query may have.
pub record PassesIn (pieces : List (List ℕ)) : Type 0 where
  pub before : List (List ℕ)
  pub last : List ℕ
  pub split : pieces ≡ before ++ last ∷ []
  pub within : Within before
  pub past : most_of_query < length (joined pieces)
  pub short : length last ≤ 4096

-- no read failed, and none came after what a query may have
abbrev pub Calmly : List (List ℕ) → Stop → Type 0
Calmly pieces stop = (IsCalm stop × Within pieces) ⊎ ((stop ≡ More) × PassesIn pieces)

-- What stays of a shelf: the names and what they hold, the handles that were given before, and its faults and write faults.
pub record KeepsShelf (a b : ShelfView) : Type 0 where
  pub names : b.names ≡ a.names
  pub given : (k : ℕ) → k < length a.given → slice_get b.given k ≡ slice_get a.given k
  pub faults : a.faults ≤ b.faults
  pub write_faults : b.write_faults ≡ a.write_faults

-- Why a file isn't read: the count rose, or the shelf tells its names, this one isn't there, and its attach failed.
abbrev pub CausesFault : List ℕ → ShelfView → ShelfView → Type 0
CausesFault name a b = Rose a.faults b.faults ⊎ (IsMissing a.names name × (n : ℕ) × (b.refused ≡ a.refused ++ missed name n ∷ []))
