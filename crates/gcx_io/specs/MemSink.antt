-- How a sink in memory is seen (this project's).
use Rattle.std.specs.Prelude.{ℕ, List}
use Rattle.std.specs.declared.option.Option.{Option}
use Rattle.gcx_io.specs.Tallies.{Tally}
use Rattle.gcx_io.specs.Views.{Call, SinkView}

-- all the bytes taken so far, None where they aren't whole, how many more bytes there is surely room for,
-- the most that one call moves, the calls by number, and what they did
pub record SinkState : Type 0 where
  pub taken : Option (List ℕ)
  pub room : ℕ
  pub most : ℕ
  pub calls : Tally
  pub history : List Call

-- the bytes taken, as each sink tells them
abbrev pub sink_taken : SinkState → Option (List ℕ)
sink_taken s = s.taken

abbrev pub sink_faults : SinkState → ℕ
sink_faults s = s.calls.faults

abbrev pub sink_seen : SinkState → SinkView
sink_seen s = record { calls = s.history; taken = sink_taken s; faults = sink_faults s }
