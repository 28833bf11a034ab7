-- What a system was asked to open, where it tells (this project's).
use Rattle.std.specs.Prelude.{◌≡◌, ◌≢◌, ℕ, List, [], ◌∷◌, ◌++◌, codes, ⊤}
use Rattle.std.specs.declared.option.Option.{Option}
use Rattle.std.specs.declared.option.Option.TheVariants.{Some, None}
use Rattle.std.specs.declared.result.Result.{Result}
use Rattle.std.specs.declared.result.Result.TheVariants.{Ok, Err}
use Rattle.gcx_io.specs.declared.shelf.Handle.{Handle}
use Rattle.gcx_io.specs.declared.fault.AttachFault.{AttachFault}
use Rattle.gcx_io.specs.declared.fault.AttachFault.TheVariants as attach

-- the file of this name was to be opened for reading, or to be made anew
pub data Opening : Type 0 where
  ToRead : List ℕ → Opening
  ToWrite : List ℕ → Opening

-- This opening was asked for too, and no other. The system may stop telling.
abbrev pub AddsOpening : Opening → (before after : Option (List Opening)) → Type 0
AddsOpening opening None after = after ≡ None
AddsOpening opening (Some before) None = ⊤
AddsOpening opening (Some before) (Some after) = after ≡ before ++ opening ∷ []

-- the file of this name was asked for once, or nothing was, where the name is `-`, standard input
pub record AsksOnce (opening : List ℕ → Opening) (name : List ℕ) (before after : Option (List Opening)) : Type 0 where
  pub file : name ≢ codes "-" → AddsOpening (opening name) before after
  pub standard : name ≡ codes "-" → after ≡ before

-- What a `create` asks for: that the file of this name be made, once. Where memory is wanting nothing is asked for.
abbrev pub CreateAsks : (name : List ℕ) → (before after : Option (List Opening)) → Result Handle AttachFault → Type 0
CreateAsks name before after (Ok handle) = AsksOnce ToWrite name before after
CreateAsks name before after (Err attach.Failed) = AsksOnce ToWrite name before after
CreateAsks name before after (Err attach.Memory) = after ≡ before
