use Rattle.std.proofs.Common.{◌-◌, length}
use Rattle.many_run.proofs.Writing.{Turned}
use Rattle.many_run.proofs.running.write_waiting.Given as goal

abbrev pub invariant-outputs : goal.invariant-outputs
invariant-outputs g l = Turned l.fn.many l.many l.outs (g.F.Shelf.seen l.fn.files) (g.F.Shelf.seen l.files) l.query

abbrev pub decreases-outputs : goal.decreases-outputs
decreases-outputs g l = length l.outs - l.query
