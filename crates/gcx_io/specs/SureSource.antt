-- How a source is seen that never fails (this project's).
use Rattle.std.specs.Prelude.{ℕ, List, Some}
use Rattle.gcx_io.specs.Views.{Call, SourceView}

-- the bytes that are left, and what the calls did
pub record SureSourceState : Type 0 where
  pub left : List ℕ
  pub history : List Call

abbrev pub sure_source_seen : SureSourceState → SourceView
sure_source_seen s = record { calls = s.history; left = Some s.left; faults = 0 }
