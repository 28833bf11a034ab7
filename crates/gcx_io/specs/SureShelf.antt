-- How a shelf is seen that never fails and holds every name (this project's).
use Rattle.std.specs.Prelude.{ℕ, List}
use Rattle.std.specs.declared.option.Option.{Option}
use Rattle.std.specs.declared.result.Result.{Result}
use Rattle.gcx_io.specs.Files.{OpenFiles, all_names, rests, owners, handle_count, files_seen, after_put}
use Rattle.gcx_io.specs.Shelf.{Names, AddsName, WriteExtends, OthersStay}
use Rattle.gcx_io.specs.Views.{ShelfView}

-- the files that it was given and the handles, and the room of a file that is made
pub record SureShelfState : Type 0 where
  pub kept : OpenFiles
  pub room : ℕ

-- what each name holds: one that the shelf wasn't given holds no bytes
abbrev pub sure_names : SureShelfState → Names
sure_names s = all_names s.kept

-- what each handle has left
abbrev pub sure_left : SureShelfState → ℕ → Option (List ℕ)
sure_left s = rests s.kept

-- the name of each handle
abbrev pub sure_named : SureShelfState → ℕ → Option (List ℕ)
sure_named s = owners s.kept

-- the handle has this name, and the others have theirs
abbrev pub SureNamesHandle : SureShelfState → SureShelfState → List ℕ → (handle : ℕ) → Type 0
SureNamesHandle a b name handle = AddsName (sure_names a) (sure_named a) (sure_named b) name handle

abbrev pub sure_handles : SureShelfState → ℕ
sure_handles s = handle_count s.kept

-- the name holds these bytes, whatever it held
abbrev pub sure_with_put : (name bytes : List ℕ) → (room : ℕ) → SureShelfState → SureShelfState
sure_with_put name bytes room s = record s { kept = after_put name bytes room s.kept }

-- what a write does to the names, and to what the handles of other names have left
abbrev pub SureNamesExtend : {E : Type 0} → (handle : ℕ) → SureShelfState → SureShelfState → Result ℕ E → (piece : List ℕ)
    → Type 0
SureNamesExtend handle a b result piece = WriteExtends (sure_names a) (sure_names b) (sure_named a handle) result piece

abbrev pub SureHandlesStay : (handle : ℕ) → SureShelfState → SureShelfState → Type 0
SureHandlesStay handle a b = OthersStay (sure_named a) (sure_left a) (sure_left b) (sure_handles a) handle

abbrev pub sure_shelf_seen : SureShelfState → ShelfView
sure_shelf_seen s = files_seen (sure_names s) 0 0 s.kept
