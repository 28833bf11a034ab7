-- A run over DOC, from what its source gave.
use Rattle.std.proofs.Common.{◌≡◌, inr, ℕ, Bool, List, refl}
use Rattle.gcx_io.specs.Views.{SourceView}
use Rattle.gcx_model.specs.Query.{ExprTree}
use Rattle.engine.specs.declared.report.Ended.{Ended}
use Rattle.engine.specs.declared.report.Ended.TheVariants as end
use Rattle.engine.specs.declared.report.Report.{Report}
use Rattle.gcx_cmd.proofs.FileRead.{FileRead}
use Rattle.gcx_cmd.specs.DocumentDoes.{OverDoc}
use Rattle.gcx_cmd.specs.World.{World, sinks_of}
use Rattle.gcx_cmd.specs.RunDoes.{EndsBy, HoldsSeen}
use Rattle.gcx_cmd.specs.Running.{UnlessOutOfMemory}
use Rattle.gcx_cmd.specs.Runs.{DocumentRuns, SourceRuns}
use Rattle.gcx_cmd.specs.Status.{ended_status}
use Rattle.gcx_cmd.specs.declared.status.Status.TheVariants as status

module _ (tracing : Bool) (ahead : ℕ) (x : List ExprTree) (d : List ℕ) (a b : World) (s t : SourceView) (f : FileRead d a.shelf b.shelf s t) where
  over : (r : Report) → SourceRuns tracing ahead x r s t a.out b.out a.err b.err b.store
      → OverDoc d (λ pieces stop. EndsBy x tracing (ended_status r.ended) pieces stop (sinks_of a) (sinks_of b)
      × UnlessOutOfMemory (ended_status r.ended) (HoldsSeen x ahead pieces stop b.store)) a.shelf b.shelf
  over r w = record {
    pieces = w.pieces;
    stop = w.stop;
    one = f.opens;
    doc = f.reads w.pieces w.stop w.gave;
    reads_on = w.reads_on;
    says = (w.ends, w.holds);
  }

  pub document_runs : (r : Report) → SourceRuns tracing ahead x r s t a.out b.out a.err b.err b.store → DocumentRuns tracing ahead x d (ended_status r.ended) a b
  document_runs r w = by_end r.ended (over r w)
    where
      by_end : (y : Ended) → OverDoc d (λ pieces stop. EndsBy x tracing (ended_status y) pieces stop (sinks_of a) (sinks_of b)
          × UnlessOutOfMemory (ended_status y) (HoldsSeen x ahead pieces stop b.store)) a.shelf b.shelf → DocumentRuns tracing ahead x d (ended_status y) a b
      by_end end.Ok o = o
      by_end (end.Refused g) o = o
      by_end end.ReadFault o = inr o
      by_end end.WriteFault o = o
      by_end end.Memory o = inr o

-- the status of a read fault is that of no other end
pub ended_fault : (x : Ended) → ended_status x ≡ status.ReadFault → x ≡ end.ReadFault
ended_fault end.Ok is = cc
ended_fault (end.Refused f) is = cc
ended_fault end.ReadFault is = refl
ended_fault end.WriteFault is = cc
ended_fault end.Memory is = cc
