-- These definitions follow the code; no public clause speaks of them.
-- Why reading stops (this project's).
use Rattle.gcx_model.specs.Faults.{DocumentRefusal as Fault, AtSyntax, AtDepth, AtName, AtText, fault_of}
use Rattle.gcx_model.specs.declared.fault.DocFault.{DocFault}
use Rattle.gcx_model.specs.declared.fault.DocFault.TheVariants.{Memory as out_of_memory}
use Rattle.doc_machine.specs.declared.stop.Refusal.{Refusal}
use Rattle.doc_machine.specs.declared.stop.Refusal.TheVariants.{Syntax, Depth, NameLong, TextLong}
use Rattle.doc_machine.specs.declared.stop.Stop.{Stop}
use Rattle.doc_machine.specs.declared.stop.Stop.TheVariants.{Refused, Memory}

abbrev pub fault : Refusal → Fault
fault (Syntax k) = AtSyntax k
fault (Depth k) = AtDepth k
fault (NameLong k) = AtName k
fault (TextLong k) = AtText k

abbrev pub stop_fault : Stop → DocFault
stop_fault (Refused r) = fault_of (fault r)
stop_fault Memory = out_of_memory
