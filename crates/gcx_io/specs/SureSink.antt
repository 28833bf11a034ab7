-- How a sink is seen that never fails (this project's).
use Rattle.std.specs.Prelude.{ℕ, List}
use Rattle.std.specs.declared.option.Option.{Option}
use Rattle.gcx_io.specs.Views.{Call, SinkView}

-- all the bytes taken so far, None where they aren't whole, how many more bytes there is surely room for, and what the
-- calls did
pub record SureSinkState : Type 0 where
  pub taken : Option (List ℕ)
  pub room : ℕ
  pub history : List Call

-- the bytes taken, as each sink tells them
abbrev pub told_taken : SureSinkState → Option (List ℕ)
told_taken s = s.taken

abbrev pub sure_sink_seen : SureSinkState → SinkView
sure_sink_seen s = record { calls = s.history; taken = s.taken; faults = 0 }
