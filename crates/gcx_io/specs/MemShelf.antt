-- How a shelf in memory with calls that fail is seen (this project's).
use Rattle.std.specs.Prelude.{◌≡◌, ◌⊎◌, ℕ, List, ◌++◌, take, drop, length, min, Bool, true, false}
use Rattle.std.specs.declared.option.Option.{Option}
use Rattle.std.specs.declared.option.Option.TheVariants.{Some, None}
use Rattle.std.specs.declared.result.Result.{Result}
use Rattle.std.specs.declared.result.Result.TheVariants.{Ok, Err}
use Rattle.gcx_io.specs.declared.shelf.Handle.{Handle}
use Rattle.gcx_io.specs.declared.fault.AttachFault.{AttachFault}
use Rattle.gcx_io.specs.declared.fault.AttachFault.TheVariants as attach
use Rattle.gcx_io.specs.Held.{held, rest_at}
use Rattle.gcx_io.specs.Tallies.{Tally, IsToFail, no_calls, passed, call_failed}
use Rattle.gcx_io.specs.Files.{OpenFiles, held_names, rests, owners, handle_count, files_seen, Makes, TakesPiece}
use Rattle.gcx_io.specs.Files.{no_files, after_put, after_attach, after_miss, after_read, after_call}
use Rattle.gcx_io.specs.Shelf.{Names, AddsName, WriteExtends, OthersStay}
use Rattle.gcx_io.specs.Views.{ShelfView, Denied, Failed as FailedCall}

-- the files and handles, the room of a file that is made, the most bytes that one call moves, the calls with the faults
-- of `attach` and `read`, and how often `create` or `write` failed
pub record ShelfState : Type 0 where
  pub kept : OpenFiles
  pub room : ℕ
  pub most : ℕ
  pub calls : Tally
  pub write_faults : ℕ

-- what each name holds
abbrev pub shelf_names : ShelfState → Names
shelf_names s = held_names s.kept

-- what each handle has left
abbrev pub shelf_left : ShelfState → ℕ → Option (List ℕ)
shelf_left s = rests s.kept

-- the name of each handle
abbrev pub shelf_named : ShelfState → ℕ → Option (List ℕ)
shelf_named s = owners s.kept

-- the handle has this name, and the others have theirs
abbrev pub NamesHandle : ShelfState → ShelfState → List ℕ → (handle : ℕ) → Type 0
NamesHandle a b name handle = AddsName (shelf_names a) (shelf_named a) (shelf_named b) name handle

abbrev pub shelf_handles : ShelfState → ℕ
shelf_handles s = handle_count s.kept

abbrev pub shelf_faults : ShelfState → ℕ
shelf_faults s = s.calls.faults

-- a name at which an `attach` fails: by the number of the call, or since it isn't there
abbrev pub FailsAt : List ℕ → ShelfState → Type 0
FailsAt name s = IsToFail s.calls ⊎ (held s.kept.files name ≡ None)

-- no name is mapped
abbrev pub new_shelf : (room most : ℕ) → (fails : List ℕ) → ShelfState
new_shelf room most fails =
    record { kept = no_files; room = room; most = most; calls = no_calls fails; write_faults = 0 }

-- the name holds these bytes, whatever it held
abbrev pub with_put : (name bytes : List ℕ) → (room : ℕ) → ShelfState → ShelfState
with_put name bytes room s = record s { kept = after_put name bytes room s.kept }

-- what a write does to the names, and to what the handles of other names have left
abbrev pub NamesExtend : {E : Type 0} → (handle : ℕ) → ShelfState → ShelfState → Result ℕ E → (piece : List ℕ) → Type 0
NamesExtend handle a b result piece = WriteExtends (shelf_names a) (shelf_names b) (shelf_named a handle) result piece

abbrev pub OtherHandlesStay : (handle : ℕ) → ShelfState → ShelfState → Type 0
OtherHandlesStay handle a b = OthersStay (shelf_named a) (shelf_left a) (shelf_left b) (shelf_handles a) handle

-- the calls behind an `attach` of a name that isn't there: it is no fault where the shelf tells its names
abbrev pub after_missing : (whole : Bool) → Tally → Tally
after_missing true calls = passed calls
after_missing false calls = call_failed calls

-- the calls behind an `attach` that failed, by what the name holds
abbrev pub after_refusal : Option (List ℕ) → (whole : Bool) → Tally → Tally
after_refusal None whole calls = after_missing whole calls
after_refusal (Some bytes) whole calls = call_failed calls

-- what an `attach` leaves
abbrev pub AttachLeaves : List ℕ → ShelfState → ShelfState → Result Handle AttachFault → Type 0
AttachLeaves name a b (Ok handle) = b ≡ record a { kept = after_attach name a.kept; calls = passed a.calls }
AttachLeaves name a b (Err attach.Failed) = b ≡ record a
    { kept = after_miss name a.kept; calls = after_refusal (held a.kept.files name) a.kept.whole a.calls }
AttachLeaves name a b (Err attach.Memory) = b ≡ record a { calls = passed a.calls }

-- what a read leaves: n bytes at the front of the buffer, as many as there are, fit, and may be moved in one call
abbrev pub ReadLeaves : {E : Type 0} → (handle : ℕ) → ShelfState → ShelfState → Result ℕ E → (before after : List ℕ)
    → Type 0
ReadLeaves handle a b (Ok n) before after =
    (n ≡ min (min (length (rest_at a.kept.openings handle)) (length before)) a.most)
    × (after ≡ take n (rest_at a.kept.openings handle) ++ drop n before)
    × (b ≡ record a { kept = after_read handle (length after) n a.kept; calls = passed a.calls })
ReadLeaves handle a b (Err e) before after = (after ≡ before)
    × (b ≡ record a { kept = after_call handle FailedCall a.kept; calls = call_failed a.calls })

-- one call of `create` or `write` was made
abbrev pub CountsWrite : ShelfState → ShelfState → Type 0
CountsWrite a b = b ≡ record a { kept = b.kept; calls = passed a.calls; write_faults = b.write_faults }

-- what a `create` leaves
abbrev pub CreateLeaves : List ℕ → ShelfState → ShelfState → Result Handle AttachFault → Type 0
CreateLeaves name a b (Ok handle) = CountsWrite a b × Makes name a.room a.kept b.kept
CreateLeaves name a b (Err attach.Failed) = CountsWrite a b × (b.kept ≡ after_miss name a.kept)
CreateLeaves name a b (Err attach.Memory) = CountsWrite a b × (b.kept ≡ a.kept)

-- what a write leaves: it takes as many bytes as may be moved in one call
abbrev pub WriteLeaves : {E : Type 0} → (handle : ℕ) → ShelfState → ShelfState → Result ℕ E → (piece : List ℕ) → Type 0
WriteLeaves handle a b (Ok n) piece = CountsWrite a b × (n ≡ min (length piece) a.most)
    × TakesPiece handle (take n piece) a.kept b.kept
WriteLeaves handle a b (Err e) piece = CountsWrite a b × (b.kept ≡ after_call handle (Denied piece) a.kept)

abbrev pub shelf_seen : ShelfState → ShelfView
shelf_seen s = files_seen (shelf_names s) (shelf_faults s) s.write_faults s.kept
