-- What holds of every command (this project's).
use Rattle.std.specs.Prelude.{◌≡◌, ◌⊎◌, ◌<◌, ◌≤◌, ℕ, List, length, slice_get, Some, ⊤}
use Rattle.gcx_io.specs.Causes.{Rose}
use Rattle.gcx_io.specs.Shelf.{IsTelling}
use Rattle.gcx_io.specs.Views.{HandleView, ShelfView, calls_at}
use Rattle.gcx_model.specs.Members.{In}
use Rattle.gcx_words.specs.declared.command.Command.{Command}
use Rattle.many_run.specs.Files.{NamesStay}
use Rattle.gcx_cmd.specs.Commands.{IsMany, IsTraced, LacksFile, outs_of}
use Rattle.gcx_cmd.specs.Main.{HasNoMemory}
use Rattle.gcx_cmd.specs.World.{World}
use Rattle.gcx_cmd.specs.declared.status.Status.{Status}
use Rattle.gcx_cmd.specs.declared.status.Status.TheVariants as status

-- A read fault comes only where the shelf's count rose or the file whose attach failed isn't there; a write fault only where that of
-- the output rose, with a trace that of the diagnoses, or of `many` the shelf's count of write faults.
abbrev pub HasCauses : Command → Status → World → World → Type 0
HasCauses c status.Ok a b = ⊤
HasCauses c status.Usage a b = ⊤
HasCauses c (status.QueryRefused f) a b = ⊤
HasCauses c (status.DocumentRefused f) a b = ⊤
HasCauses c status.ReadFault a b = Rose a.shelf.faults b.shelf.faults ⊎ LacksFile c a.shelf b.shelf
HasCauses c status.WriteFault a b = Rose a.out.faults b.out.faults
    ⊎ ((IsTraced c × Rose a.err.faults b.err.faults) ⊎ (IsMany c × Rose a.shelf.write_faults b.shelf.write_faults))
HasCauses c status.Memory a b = ⊤
HasCauses c (status.TraceRefused n) a b = ⊤

-- no count falls
pub record Counts (a b : World) : Type 0 where
  pub shelf : a.shelf.faults ≤ b.shelf.faults
  pub write_faults : a.shelf.write_faults ≤ b.shelf.write_faults
  pub out : a.out.faults ≤ b.out.faults
  pub err : a.err.faults ≤ b.err.faults

-- Every name but these holds what it held. No handle that was given before makes a call, and while the shelf tells its names those
-- of other names than these have left what they had.
pub record KeepsFiles (outs : List (List ℕ)) (a b : ShelfView) : Type 0 where
  pub names : NamesStay (λ name. In name outs → ⊥) a.names b.names
  pub calls : (k : ℕ) → k < length a.given → calls_at b.given k ≡ calls_at a.given k
  pub left : IsTelling b.names → (k : ℕ) (v w : HandleView) → slice_get a.given k ≡ Some v → slice_get b.given k ≡ Some w
      → (In v.name outs → ⊥) → w.left ≡ v.left

-- The files of a command other than `many`: the names hold what they held, no handle is written into, and the handles that were given
-- before stand as they did.
pub record KeepsAlike (a b : ShelfView) : Type 0 where
  pub names : b.names ≡ a.names
  pub unwritten : b.write_faults ≡ a.write_faults
  pub given : (k : ℕ) → k < length a.given → slice_get b.given k ≡ slice_get a.given k

pub record Keeps (c : Command) (s : Status) (a b : World) : Type 0 where
  pub all : (IsMany c → ⊥) → KeepsAlike a.shelf b.shelf
  pub files : KeepsFiles (outs_of c) a.shelf b.shelf
  pub counts : Counts a b
  pub causes : HasCauses c s a b
  pub memory : HasNoMemory s
