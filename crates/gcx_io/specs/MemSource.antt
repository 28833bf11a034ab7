-- How a source in memory is seen (this project's).
use Rattle.std.specs.Prelude.{ℕ, List, Some}
use Rattle.std.specs.declared.option.Option.{Option}
use Rattle.gcx_io.specs.Tallies.{Tally}
use Rattle.gcx_io.specs.Views.{Call, SourceView}

-- the bytes that are left, the most that one call moves, the calls by number, and what they did
pub record SourceState : Type 0 where
  pub left : List ℕ
  pub most : ℕ
  pub calls : Tally
  pub history : List Call

-- what is left, as each source tells it
abbrev pub told_left : SourceState → Option (List ℕ)
told_left s = Some s.left

abbrev pub source_faults : SourceState → ℕ
source_faults s = s.calls.faults

abbrev pub source_seen : SourceState → SourceView
source_seen s = record { calls = s.history; left = told_left s; faults = source_faults s }
