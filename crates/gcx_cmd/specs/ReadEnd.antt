-- The status of a file that can't be attached, of a query that isn't accepted, of a document that isn't read, and of a trace that
-- is judged (this project's).
use Rattle.std.specs.Prelude.{ℕ}
use Rattle.std.specs.declared.result.Result.{Result}
use Rattle.std.specs.declared.result.Result.TheVariants.{Ok, Err}
use Rattle.gcx_io.specs.declared.fault.AttachFault.{AttachFault}
use Rattle.gcx_io.specs.declared.fault.AttachFault.TheVariants as attach
use Rattle.gcx_model.specs.declared.fault.QueryFault.{QueryFault}
use Rattle.gcx_model.specs.declared.fault.QueryFault.TheVariants as query
use Rattle.tree_read.specs.declared.reading.DocumentEnd.{DocumentEnd}
use Rattle.tree_read.specs.declared.reading.DocumentEnd.TheVariants as document
use Rattle.trace_check.specs.declared.checked.Checked.{Checked}
use Rattle.trace_check.specs.declared.checked.Checked.TheVariants as checked
use Rattle.gcx_cmd.specs.declared.status.Status.{Status}
use Rattle.gcx_cmd.specs.declared.status.Status.TheVariants as status

-- why a file isn't read that can't be attached
abbrev pub attach_status : AttachFault → Status
attach_status attach.Failed = status.ReadFault
attach_status attach.Memory = status.Memory

abbrev pub document_status : DocumentEnd → Status
document_status (document.Refused f) = status.DocumentRefused f
document_status document.Fault = status.ReadFault
document_status document.Memory = status.Memory

-- the status of a query that isn't accepted
abbrev pub query_status : QueryFault → Status
query_status query.Memory = status.Memory
query_status f = status.QueryRefused f

-- the number of lines of a trace that is the run's, or the status to end with
abbrev pub verdict : Checked → Result ℕ Status
verdict (checked.Yes lines) = Ok lines
verdict (checked.No line) = Err (status.TraceRefused line)
verdict checked.ReadFault = Err status.ReadFault
verdict checked.Memory = Err status.Memory
