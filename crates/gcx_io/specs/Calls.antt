-- What one call does to what is seen (this project's).
use Rattle.std.specs.Prelude.{◌≡◌, ◌⊎◌, ℕ, List, [], ◌∷◌, ◌++◌, length, map, take, slice_get, slice_set, Some, OnOk}
use Rattle.std.specs.declared.option.Option.{Option}
use Rattle.std.specs.declared.result.Result.{Result}
use Rattle.std.specs.declared.result.Result.TheVariants.{Ok, Err}
use Rattle.std.specs.Io.KnownBytes.{ReadConsumes}
use Rattle.gcx_io.specs.declared.shelf.Handle.{Handle}
use Rattle.gcx_io.specs.declared.fault.AttachFault.{AttachFault}
use Rattle.gcx_io.specs.declared.fault.AttachFault.TheVariants as attach
use Rattle.gcx_io.specs.Bytes.{WriteGrows}
use Rattle.gcx_io.specs.Causes.{Rose, HasCause}
use Rattle.gcx_io.specs.Shelf.{content_of, IsMissing}
use Rattle.gcx_io.specs.Views.{Call, Gave, Took, Denied, Failed, missed, SourceView, SinkView, HandleView, ShelfView, calls_of}

-- what a read of this result did, which asked for as many bytes as the buffer holds
abbrev pub read_call : {E : Type 0} → Result ℕ E → List ℕ → Call
read_call (Ok n) buf = Gave (length buf) (take n buf)
read_call (Err e) buf = Failed

-- what a write of this result did, which was offered the piece
abbrev pub write_call : {E : Type 0} → Result ℕ E → List ℕ → Call
write_call (Ok n) piece = Took (take n piece)
write_call (Err e) piece = Denied piece

-- one read of a source
pub record ReadsSource {E : Type 0} (a b : SourceView) (result : Result ℕ E) (buf : List ℕ) : Type 0 where
  pub calls : b.calls ≡ a.calls ++ read_call result buf ∷ []
  pub left : ReadConsumes a.left b.left result buf
  pub faults : HasCause a.faults b.faults result
  pub calm : OnOk result (b.faults ≡ a.faults)

-- one write
pub record WritesOnce {E : Type 0} (a b : SinkView) (result : Result ℕ E) (piece : List ℕ) : Type 0 where
  pub calls : b.calls ≡ a.calls ++ write_call result piece ∷ []
  pub taken : WriteGrows a.taken b.taken result piece
  pub faults : HasCause a.faults b.faults result
  pub calm : OnOk result (b.faults ≡ a.faults)

-- a handle that was opened by this name now, with these bytes left
abbrev pub fresh : List ℕ → Option (List ℕ) → HandleView
fresh name left = record { name = name; calls = []; left = left }

-- a handle more, behind those that were given
pub record GivesHandle (name : List ℕ) (left : Option (List ℕ)) (a b : ShelfView) (handle : ℕ) : Type 0 where
  pub number : handle ≡ length a.given
  pub given : b.given ≡ a.given ++ fresh name left ∷ []
  pub refused : b.refused ≡ a.refused
  pub faults : b.faults ≡ a.faults
  pub write_faults : b.write_faults ≡ a.write_faults

-- no handle more, and the name is listed
pub record MissesName (name : List ℕ) (a b : ShelfView) : Type 0 where
  pub given : b.given ≡ a.given
  pub names : b.names ≡ a.names
  pub refused : b.refused ≡ a.refused ++ missed name (length a.given) ∷ []

-- one `attach`
abbrev pub Attaches : List ℕ → ShelfView → ShelfView → Result Handle AttachFault → Type 0
Attaches name a b (Ok handle) = GivesHandle name (content_of a.names name) a b handle.0 × (b.names ≡ a.names)
Attaches name a b (Err attach.Failed) = MissesName name a b × (b.write_faults ≡ a.write_faults)
    × (Rose a.faults b.faults ⊎ (IsMissing a.names name × (b.faults ≡ a.faults)))
Attaches name a b (Err attach.Memory) = b ≡ a

-- one `create`
abbrev pub Creates : List ℕ → ShelfView → ShelfView → Result Handle AttachFault → Type 0
Creates name a b (Ok handle) = GivesHandle name (content_of b.names name) a b handle.0
Creates name a b (Err attach.Failed) = MissesName name a b × (b.faults ≡ a.faults) × Rose a.write_faults b.write_faults
Creates name a b (Err attach.Memory) = b ≡ a

-- one read of this handle
pub record ReadsOnce {E : Type 0} (h : ℕ) (a b : ShelfView) (result : Result ℕ E) (buf : List ℕ) : Type 0 where
  pub old : HandleView
  pub new : HandleView
  pub was : slice_get a.given h ≡ Some old
  pub given : b.given ≡ slice_set a.given h new
  pub name : new.name ≡ old.name
  pub calls : new.calls ≡ old.calls ++ read_call result buf ∷ []
  pub left : ReadConsumes old.left new.left result buf
  pub names : b.names ≡ a.names
  pub refused : b.refused ≡ a.refused
  pub faults : HasCause a.faults b.faults result
  pub calm : OnOk result (b.faults ≡ a.faults)
  pub write_faults : b.write_faults ≡ a.write_faults

-- One write into this handle. Of what the handles have left it says nothing: `write` itself does.
pub record WritesHandle {E : Type 0} (h : ℕ) (a b : ShelfView) (result : Result ℕ E) (piece : List ℕ) : Type 0 where
  pub old : HandleView
  pub was : slice_get a.given h ≡ Some old
  pub given : map calls_of b.given
      ≡ slice_set (map calls_of a.given) h
      (record { name = old.name; calls = old.calls ++ write_call result piece ∷ [] })
  pub refused : b.refused ≡ a.refused
  pub faults : b.faults ≡ a.faults
  pub write_faults : HasCause a.write_faults b.write_faults result
  pub calm : OnOk result (b.write_faults ≡ a.write_faults)
