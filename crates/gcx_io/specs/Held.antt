-- Files in memory: names and what they hold, and what each handle has left (this project's).
use Rattle.std.specs.Prelude.{◌≡◌, ◌≤◌, ℕ, zero, suc, ◌+◌, List, [], ◌∷◌, ◌++◌, length, take, drop, unwrap_or}
use Rattle.std.specs.Prelude.{if◌then◌else◌}
use Rattle.std.specs.Str.{bytes_eq}
use Rattle.std.specs.declared.option.Option.{Option}
use Rattle.std.specs.declared.option.Option.TheVariants.{Some, None}
use Rattle.gcx_io.specs.Views.{Call, Gave}

-- a name and what it holds, and how many more bytes there is surely room for
pub record File : Type 0 where
  pub name : List ℕ
  pub bytes : List ℕ
  pub room : ℕ

-- the file holds the piece too, behind what it held
abbrev pub FileGrows : (before after : File) → (piece : List ℕ) → Type 0
FileGrows before after piece = (after.bytes ≡ before.bytes ++ piece) × (before.room ≤ after.room + length piece)

-- a file more, of this name and these bytes, behind the others
abbrev pub HasOneMore : (before after : List File) → (name bytes : List ℕ) → Type 0
HasOneMore before after name bytes =
    (room : ℕ) × (after ≡ before ++ record { name = name; bytes = bytes; room = room } ∷ [])

-- what a name holds: the bytes of the first file of that name, None where there is none
abbrev pub held : List File → List ℕ → Option (List ℕ)
held [] name = None
held (file ∷ files) name = if bytes_eq file.name name then Some file.bytes else held files name

-- the same where every name is there: one that isn't mapped holds no bytes
abbrev pub held_or_none : List File → List ℕ → List ℕ
held_or_none files name = unwrap_or (held files name) []

-- the room of the first file of that name, none where there is none
abbrev pub room_of : List File → List ℕ → ℕ
room_of [] name = 0
room_of (file ∷ files) name = if bytes_eq file.name name then file.room else room_of files name

-- the name holds these bytes now, whatever it held, and the others hold what they held
abbrev pub mapped : List ℕ → List ℕ → (room : ℕ) → List File → List File
mapped name bytes room files = record { name = name; bytes = bytes; room = room } ∷ files

-- the same, in the place of the first file of that name, or behind the others
abbrev pub with_file : File → List File → List File
with_file file [] = file ∷ []
with_file file (f ∷ fs) = if bytes_eq f.name file.name then file ∷ fs else f ∷ with_file file fs

-- a handle: its name, what it has left, and its calls
pub record OpenHandle : Type 0 where
  pub name : List ℕ
  pub rest : List ℕ
  pub calls : List Call

-- what the handle of this number has left, [] where there is no such handle
abbrev pub rest_at : List OpenHandle → ℕ → List ℕ
rest_at [] handle = []
rest_at (o ∷ os) zero = o.rest
rest_at (o ∷ os) (suc handle) = rest_at os handle

-- the name of the handle of this number, [] where there is no such handle
abbrev pub name_at : List OpenHandle → ℕ → List ℕ
name_at [] handle = []
name_at (o ∷ os) zero = o.name
name_at (o ∷ os) (suc handle) = name_at os handle

-- n bytes more were read of the handle, by a read that asked for so many
abbrev pub read_opening : (asked n : ℕ) → OpenHandle → OpenHandle
read_opening asked n o =
    record { name = o.name; rest = drop n o.rest; calls = o.calls ++ Gave asked (take n o.rest) ∷ [] }

-- one call more of the handle, which read nothing
abbrev pub noted_opening : Call → OpenHandle → OpenHandle
noted_opening call o = record { name = o.name; rest = o.rest; calls = o.calls ++ call ∷ [] }

-- the same of the handle of this number
abbrev pub read_at : List OpenHandle → ℕ → (asked n : ℕ) → List OpenHandle
read_at [] handle asked n = []
read_at (o ∷ os) zero asked n = read_opening asked n o ∷ os
read_at (o ∷ os) (suc handle) asked n = o ∷ read_at os handle asked n

-- one call more of the handle of this number, which read nothing
abbrev pub noted_at : List OpenHandle → ℕ → Call → List OpenHandle
noted_at [] handle call = []
noted_at (o ∷ os) zero call = noted_opening call o ∷ os
noted_at (o ∷ os) (suc handle) call = o ∷ noted_at os handle call
