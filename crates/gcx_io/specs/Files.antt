-- How files in memory and their handles are seen (this project's).
use Rattle.std.specs.Prelude.{◌≡◌, ◌<◌, ◌≤◌, ℕ, zero, suc, ◌+◌, List, [], ◌∷◌, ◌++◌, Bool, true, false, length, map, slice_get, slice_set, IsSome}
use Rattle.std.proofs.Common.{arith, refl, ap}
use Rattle.std.specs.declared.option.Option.{Option}
use Rattle.std.specs.declared.option.Option.TheVariants.{Some, None}
use Rattle.gcx_io.specs.Held.{File, held, held_or_none, room_of, with_file, mapped, OpenHandle, name_at, read_at, noted_at}
use Rattle.gcx_io.specs.Shelf.{Names, IsTelling}
use Rattle.gcx_io.specs.Views.{Call, Took, Miss, missed, HandleView, ShelfView}

-- the files, the handles, whether all the bytes that were taken are kept, and the names at which `attach` or `create`
-- failed
pub record OpenFiles : Type 0 where
  pub files : List File
  pub openings : List OpenHandle
  pub whole : Bool
  pub refused : List Miss

-- no file, and no handle
abbrev pub no_files : OpenFiles
no_files = record { files = []; openings = []; whole = true; refused = [] }

-- told while all that was taken is kept
abbrev pub while_whole : {A : Type 0} → Bool → Option A → Option A
while_whole true told = told
while_whole false told = None

-- what each name holds
abbrev pub held_names : OpenFiles → Names
held_names s = while_whole s.whole (Some (held s.files))

-- the same where every name is there
abbrev pub all_names : OpenFiles → Names
all_names s = while_whole s.whole (Some (λ name. Some (held_or_none s.files name)))

-- what the handles have left
abbrev pub rests_of : List OpenHandle → List (List ℕ)
rests_of openings = map (λ o. o.rest) openings

-- what each handle has left, where it is told
abbrev pub told_rest : Bool → List OpenHandle → ℕ → Option (List ℕ)
told_rest whole openings k = while_whole whole (slice_get (rests_of openings) k)

abbrev pub rests : OpenFiles → ℕ → Option (List ℕ)
rests s = told_rest s.whole s.openings

-- the names of the handles
abbrev pub names_of : List OpenHandle → List (List ℕ)
names_of openings = map (λ o. o.name) openings

-- the name of each handle
abbrev pub owners : OpenFiles → ℕ → Option (List ℕ)
owners s = slice_get (names_of s.openings)

-- how many handles were given
abbrev pub handle_count : OpenFiles → ℕ
handle_count s = length s.openings

-- a handle more, of this name, which has these bytes left
abbrev pub opened : List ℕ → List ℕ → List OpenHandle → List OpenHandle
opened name rest openings = openings ++ record { name = name; rest = rest; calls = [] } ∷ []

-- the name holds these bytes, with room for so many more, and nothing else is changed in the files
pub record Sets (before after : List File) (name bytes : List ℕ) (least : ℕ) : Type 0 where
  pub room : ℕ
  pub enough : least ≤ room
  pub set : after ≡ with_file (record { name = name; bytes = bytes; room = room }) before

-- The piece stands behind what the name held, or it isn't kept, and then it is longer than the room.
abbrev pub KeepsInFile : (kept : Bool) → (before after : List File) → (name piece : List ℕ) → Type 0
KeepsInFile true before after name piece = (room : ℕ) × (room_of before name ≤ room + length piece)
    × (after ≡ with_file (record { name = name; bytes = held_or_none before name ++ piece; room = room }) before)
KeepsInFile false before after name piece =
    ((n : List ℕ) → held after n ≡ held before n) × (room_of before name < length piece)

-- the same for the name of a handle, while all that was taken is kept
abbrev pub KeepsPiece : (before after : OpenFiles) → (handle : ℕ) → (piece : List ℕ) → Type 0
KeepsPiece before after handle piece = before.whole ≡ true
    → KeepsInFile after.whole before.files after.files (name_at before.openings handle) piece

-- the place of the first file of a name
pub record IsPlaceOf (name : List ℕ) (files : List File) (i : ℕ) : Type 0 where
  pub file : File
  pub within : i < length files
  pub at : slice_get files i ≡ Some file
  pub is_named : file.name ≡ name
  pub bytes : held files name ≡ Some file.bytes
  pub room : room_of files name ≡ file.room
  pub set : (f : File) → f.name ≡ name → with_file f files ≡ slice_set files i f

-- no file has the name
pub record IsNewTo (name : List ℕ) (files : List File) : Type 0 where
  pub bytes : held files name ≡ None
  pub room : room_of files name ≡ 0
  pub set : (f : File) → f.name ≡ name → with_file f files ≡ files ++ f ∷ []

-- a handle that was given has a name
pub owner_told : (openings : List OpenHandle) (k : ℕ) → k < length openings → IsSome (slice_get (names_of openings) k)
owner_told [] k given = absurd (omega arith)
owner_told (o ∷ os) zero given = refl
owner_told (o ∷ os) (suc k) given = owner_told os k (omega arith)

-- a handle that was given has something left where that is told, if only no bytes
rest_told : (openings : List OpenHandle) (k : ℕ) → k < length openings → IsSome (slice_get (rests_of openings) k)
rest_told [] k given = absurd (omega arith)
rest_told (o ∷ os) zero given = refl
rest_told (o ∷ os) (suc k) given = rest_told os k (omega arith)

-- the name is listed as missed
abbrev pub after_miss : List ℕ → OpenFiles → OpenFiles
after_miss name s = record s { refused = s.refused ++ missed name (length s.openings) ∷ [] }

-- the name holds these bytes, whatever it held
abbrev pub after_put : (name bytes : List ℕ) → (room : ℕ) → OpenFiles → OpenFiles
after_put name bytes room s = record s { files = mapped name bytes room s.files }

-- a handle more of this name, which has left what the name holds, no bytes where it isn't mapped
abbrev pub after_attach : List ℕ → OpenFiles → OpenFiles
after_attach name s = record s { openings = opened name (held_or_none s.files name) s.openings }

-- n bytes more were read of this handle, by a read that asked for so many
abbrev pub after_read : (handle asked n : ℕ) → OpenFiles → OpenFiles
after_read handle asked n s = record s { openings = read_at s.openings handle asked n }

-- one call more of this handle, which read nothing
abbrev pub after_call : (handle : ℕ) → Call → OpenFiles → OpenFiles
after_call handle call s = record s { openings = noted_at s.openings handle call }

-- what a `create` leaves, with room for so many bytes
abbrev pub Makes : List ℕ → (least : ℕ) → OpenFiles → OpenFiles → Type 0
Makes name least before after = Sets before.files after.files name [] least
    × (after.openings ≡ opened name [] before.openings) × (after.whole ≡ before.whole)

-- what a write into this handle leaves: where something was lost before, nothing more is kept
abbrev pub TakesPiece : (handle : ℕ) → (piece : List ℕ) → OpenFiles → OpenFiles → Type 0
TakesPiece handle piece before after = KeepsPiece before after handle piece
    × (before.whole ≡ false → after ≡ after_call handle (Took piece) before)
    × (after.openings ≡ noted_at before.openings handle (Took piece))

-- how handles are seen
abbrev pub view_of : Bool → OpenHandle → HandleView
view_of whole o = record { name = o.name; calls = o.calls; left = while_whole whole (Some o.rest) }

abbrev pub views : Bool → List OpenHandle → List HandleView
views whole openings = map (view_of whole) openings

-- how a shelf of these files is seen
abbrev pub files_seen : Names → (faults write_faults : ℕ) → OpenFiles → ShelfView
files_seen names faults write_faults s =
    record {
      names = names;
      given = views s.whole s.openings;
      refused = s.refused;
      faults = faults;
      write_faults = write_faults;
    }

-- ---- what is seen of handles is what the members tell

pub views_count : (whole : Bool) (openings : List OpenHandle) → length (views whole openings) ≡ length openings
views_count whole [] = refl
views_count whole (o ∷ os) = ap suc (views_count whole os)

pub views_left : (whole : Bool) (openings : List OpenHandle) (k : ℕ) (v : HandleView)
    → slice_get (views whole openings) k ≡ Some v
    → told_rest whole openings k ≡ v.left
views_left whole [] k v there = cc
views_left whole (o ∷ os) zero v there = cc
views_left whole (o ∷ os) (suc k) v there = views_left whole os k v there

pub views_name : (whole : Bool) (openings : List OpenHandle) (k : ℕ) (v : HandleView)
    → slice_get (views whole openings) k ≡ Some v
    → slice_get (names_of openings) k ≡ Some v.name
views_name whole [] k v there = cc
views_name whole (o ∷ os) zero v there = cc
views_name whole (o ∷ os) (suc k) v there = views_name whole os k v there

-- a shelf that tells its names tells what each handle has left
pub rests_told : (whole : Bool) (holds : List ℕ → Option (List ℕ)) (openings : List OpenHandle) (k : ℕ)
    → k < length openings
    → IsTelling (while_whole whole (Some holds)) → IsSome (told_rest whole openings k)
rests_told true holds openings k given telling = rest_told openings k given
rests_told false holds openings k given telling = absurd telling
