-- How sinks are seen that tell no contents: standard output, standard error, and the one that keeps nothing (this
-- project's).
use Rattle.std.specs.Prelude.{ℕ, List, None}
use Rattle.gcx_io.specs.Views.{Call, SinkView}

-- the calls, and how many of them failed
pub record StreamState : Type 0 where
  pub calls : List Call
  pub faults : ℕ

abbrev pub stream_seen : StreamState → SinkView
stream_seen s = record { calls = s.calls; taken = None; faults = s.faults }

-- one that never fails
abbrev pub null_seen : List Call → SinkView
null_seen calls = record { calls = calls; taken = None; faults = 0 }
