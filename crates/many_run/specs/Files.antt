-- The files that a run of several plans reads and writes, by their handles (this project's).
use Rattle.std.specs.Prelude.{◌≡◌, ◌≢◌, ◌<◌, ◌≤◌, ℕ, suc, List, [], ◌∷◌, ◌++◌, length, map, slice_get, unwrap_or, Option, Some, None, ⊤, All}
use Rattle.std.specs.Io.KnownBytes.{Consumes, IsAtEnd}
use Rattle.gcx_io.specs.Shelf.{IsTelling, Names}
use Rattle.gcx_io.specs.Views.{Call, Gave, Took, Denied, Failed, HandleView, ShelfView, SinkView, calls_at}
use Rattle.gcx_io.specs.Writing.{IsSomeBytes, joined}
use Rattle.gcx_io.specs.declared.shelf.Handle.{Handle}
use Rattle.run_words.specs.Reading.{CountsFault}
use Rattle.run_words.specs.Stops.{Stop, EndAnswered, last_call}

-- the name of the handle of this number
abbrev pub name_of_handle : List HandleView → ℕ → Option (List ℕ)
name_of_handle given h = name_in (slice_get given h)
  where
    name_in : Option HandleView → Option (List ℕ)
    name_in None = None
    name_in (Some v) = Some v.name

-- how many of the calls are writes that failed
abbrev pub failures : List Call → ℕ
failures [] = 0
failures (Gave asked bytes ∷ calls) = failures calls
failures (Took bytes ∷ calls) = failures calls
failures (Denied bytes ∷ calls) = suc (failures calls)
failures (Failed ∷ calls) = failures calls

-- what the name of a handle holds where that is told, no bytes where it isn't there
abbrev pub bytes_in : Names → Option (List ℕ) → Option (List ℕ)
bytes_in None name = None
bytes_in (Some holds) None = None
bytes_in (Some holds) (Some name) = Some (unwrap_or (holds name) [])

-- A handle that is written to, seen as a sink: its calls, what its name holds, and how many of its writes failed.
abbrev pub sink_at : ℕ → ShelfView → SinkView
sink_at h s =
    record {
      calls = calls_at s.given h;
      taken = bytes_in s.names (name_of_handle s.given h);
      faults = failures (calls_at s.given h);
    }

-- The handles were given, none is written to twice or read, and where the shelf tells its names theirs are apart, too.
pub record HandlesApart (s : ShelfView) (doc : Handle) (outs : List Handle) : Type 0 where
  pub doc_given : doc.0 < length s.given
  pub given : (i : ℕ) (o : Handle) → slice_get outs i ≡ Some o → o.0 < length s.given
  pub from_doc : (i : ℕ) (o : Handle) → slice_get outs i ≡ Some o → (o.0 ≢ doc.0) × (IsTelling s.names → name_of_handle s.given o.0 ≢ name_of_handle s.given doc.0)
  pub from_others : (i j : ℕ) (o p : Handle) → slice_get outs i ≡ Some o → slice_get outs j ≡ Some p → i ≢ j
      → (o.0 ≢ p.0) × (IsTelling s.names → name_of_handle s.given o.0 ≢ name_of_handle s.given p.0)

-- The handle gave these pieces, none empty, to reads that asked for 65,536 bytes each, and its reads stopped so. No call came after
-- the end or a fault. What it has left is known while the shelf tells its names.
pub record HandleGave (h : ℕ) (a b : ShelfView) (pieces : List (List ℕ)) (stop : Stop) : Type 0 where
  pub old : HandleView
  pub new : HandleView
  pub was : slice_get a.given h ≡ Some old
  pub is : slice_get b.given h ≡ Some new
  pub name : new.name ≡ old.name
  pub some : All IsSomeBytes pieces
  pub calls : new.calls ≡ old.calls ++ map (Gave 65536) pieces ++ last_call 65536 stop
  pub told : IsTelling b.names → Consumes old.left new.left (joined pieces)
  pub at_end : IsTelling b.names → stop ≡ EndAnswered → IsAtEnd new.left
  pub faults : CountsFault stop a.faults b.faults

-- none of the handles has this number
abbrev pub IsNoneOf : List Handle → ℕ → Type 0
IsNoneOf outs k = (i : ℕ) (o : Handle) → slice_get outs i ≡ Some o → k ≢ o.0

-- none has this name
abbrev pub HaveOtherNames : ShelfView → List Handle → List ℕ → Type 0
HaveOtherNames s outs name = (i : ℕ) (o : Handle) → slice_get outs i ≡ Some o → name_of_handle s.given o.0 ≢ Some name

-- Where names are told afterwards they were told before, none went, and those that aren't of these handles hold what they held.
abbrev pub NamesStay : (others : List ℕ → Type 0) → (before after : Names) → Type 0
NamesStay others before None = ⊤
NamesStay others None (Some after) = ⊥
NamesStay others (Some before) (Some after) =
    ((name : List ℕ) → after name ≡ None → before name ≡ None) × ((name : List ℕ) → others name → after name ≡ before name)

-- No handle was given and no name missed. But for the handle that is read and those that are written to, each handle has made the
-- calls that it had made. But for those of the names that are written to it has left what it had, while the shelf tells its names. No
-- count falls.
pub record LeavesTheRest (IsRead : ℕ → Type 0) (outs : List Handle) (a b : ShelfView) : Type 0 where
  pub count : length b.given ≡ length a.given
  pub refused : b.refused ≡ a.refused
  pub names : NamesStay (HaveOtherNames a outs) a.names b.names
  pub names_of : (k : ℕ) → name_of_handle b.given k ≡ name_of_handle a.given k
  pub calls : (k : ℕ) → (IsRead k → ⊥) → IsNoneOf outs k → calls_at b.given k ≡ calls_at a.given k
  pub left : IsTelling b.names → (k : ℕ) (v w : HandleView) → (IsRead k → ⊥) → slice_get a.given k ≡ Some v → slice_get b.given k ≡ Some w
      → HaveOtherNames a outs v.name → w.left ≡ v.left
  pub faults : a.faults ≤ b.faults
  pub write_faults : a.write_faults ≤ b.write_faults
