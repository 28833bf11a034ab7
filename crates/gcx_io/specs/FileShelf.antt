-- How the shelf of the file system is seen: it tells no contents (this project's).
use Rattle.std.specs.Prelude.{◌≡◌, Option, ℕ, zero, suc, List, [], ◌∷◌, ◌++◌, Some, None, length, map, slice_get, refl}
use Rattle.std.proofs.Common.{ap}
use Rattle.gcx_io.specs.Views.{Call, HandleCalls, Miss, missed, HandleView, ShelfView}
use Rattle.gcx_io.specs.System.{Opening}
use Rattle.gcx_io.specs.declared.stream.Stream.{Stream}
use Rattle.gcx_io.specs.declared.stream.Stream.TheVariants.{Reading, Writing}

-- each handle's name and calls, the names at which `attach` or `create` failed, how often `attach` or `read` failed, how
-- often `create` or `write` did, and what the system was asked to open
pub record FileShelfState : Type 0 where
  pub given : List HandleCalls
  pub refused : List Miss
  pub faults : ℕ
  pub write_faults : ℕ
  pub asked : Option (List Opening)

-- a handle more of this name, with no calls
abbrev pub with_handle : List ℕ → FileShelfState → FileShelfState
with_handle name s = record s { given = s.given ++ record { name = name; calls = [] } ∷ [] }

-- the name is listed as missed
abbrev pub with_miss : List ℕ → FileShelfState → FileShelfState
with_miss name s = record s { refused = s.refused ++ missed name (length s.given) ∷ [] }

-- what a stream answered
abbrev pub stream_calls : {T : Type 0} → Stream T → List Call
stream_calls (Reading s) = s.history.calls
stream_calls (Writing s) = s.history.calls

-- a handle that tells nothing of what it has left
abbrev pub untold : HandleCalls → HandleView
untold h = record { name = h.name; calls = h.calls; left = None }

abbrev pub file_shelf_seen : FileShelfState → ShelfView
file_shelf_seen s =
    record {
      names = None;
      given = map untold s.given;
      refused = s.refused;
      faults = s.faults;
      write_faults = s.write_faults;
    }

pub untold_count : (given : List HandleCalls) → length (map untold given) ≡ length given
untold_count [] = refl
untold_count (h ∷ hs) = ap suc (untold_count hs)

pub untold_left : (given : List HandleCalls) (k : ℕ) (v : HandleView) → slice_get (map untold given) k ≡ Some v
    → None ≡ v.left
untold_left [] k v there = cc
untold_left (h ∷ hs) zero v there = cc
untold_left (h ∷ hs) (suc k) v there = untold_left hs k v there
