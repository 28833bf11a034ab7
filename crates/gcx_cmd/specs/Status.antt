-- The status of a run's end, and the exit status of the program (this project's).
use Rattle.std.specs.Prelude.{ℕ}
use Rattle.engine.specs.declared.report.Ended.{Ended}
use Rattle.engine.specs.declared.report.Ended.TheVariants as end
use Rattle.gcx_cmd.specs.declared.status.Status.{Status}
use Rattle.gcx_cmd.specs.declared.status.Status.TheVariants as statuses

abbrev pub code_of : Status → ℕ
code_of statuses.Ok = 0
code_of statuses.Usage = 2
code_of (statuses.QueryRefused f) = 3
code_of (statuses.DocumentRefused f) = 4
code_of statuses.ReadFault = 5
code_of statuses.WriteFault = 6
code_of statuses.Memory = 7
code_of (statuses.TraceRefused n) = 8

abbrev pub ended_status : Ended → Status
ended_status end.Ok = statuses.Ok
ended_status (end.Refused f) = statuses.DocumentRefused f
ended_status end.ReadFault = statuses.ReadFault
ended_status end.WriteFault = statuses.WriteFault
ended_status end.Memory = statuses.Memory
