-- What is seen of a source, a sink and a shelf: what each tells, and the calls that it answered (this project's).
use Rattle.std.specs.Prelude.{ℕ, List, slice_get, []}
use Rattle.std.specs.declared.option.Option.{Option}
use Rattle.std.specs.declared.option.Option.TheVariants.{Some, None}
pub use Rattle.call_history.specs.Calls.{Call, Gave, Took, Denied, Failed, HandleCalls, Miss, missed}
use Rattle.gcx_io.specs.Shelf.{Names}

-- a source: its calls, what it has left where that is told, and its faults
pub record SourceView : Type 0 where
  pub calls : List Call
  pub left : Option (List ℕ)
  pub faults : ℕ

-- a sink: its calls, the bytes that it took where they are told, and its faults
pub record SinkView : Type 0 where
  pub calls : List Call
  pub taken : Option (List ℕ)
  pub faults : ℕ

-- a handle: the name that it was opened by, its calls, and what it has left where that is told
pub record HandleView : Type 0 where
  pub name : List ℕ
  pub calls : List Call
  pub left : Option (List ℕ)

-- A shelf: what each name holds where that is told, the handles that it gave, the names at which `attach` or `create`
-- failed, the faults of `attach` and `read`, and those of `create` and `write`. It has a function, so it isn't the Value
-- of a type.
pub record ShelfView : Type 0 where
  pub names : Names
  pub given : List HandleView
  pub refused : List Miss
  pub faults : ℕ
  pub write_faults : ℕ

-- the calls of a handle, behind its name
abbrev pub calls_of : HandleView → HandleCalls
calls_of v = record { name = v.name; calls = v.calls }

-- the calls of the handle of this number, none where there is no such handle
abbrev pub calls_at : List HandleView → ℕ → List Call
calls_at given h = calls_in (slice_get given h)
  where
    calls_in : Option HandleView → List Call
    calls_in None = []
    calls_in (Some v) = v.calls
