use Rattle.std.proofs.Common.{◌≤◌, ◌-◌}
use Rattle.gcx_gen.proofs.Written.{Written}
use Rattle.gcx_gen.proofs.pieces.write_document.Given as goal

abbrev pub invariant-pieces : goal.invariant-pieces
invariant-pieces g l = record {
  within : l.from ≤ l.count;
  written : Written (g.O.Sink.seen l.fn.out) (g.O.Sink.seen l.out) l.seed l.from;
  later : g.O.Sink.faults l.fn.out ≤ g.O.Sink.faults l.out;
}

abbrev pub decreases-pieces : goal.decreases-pieces
decreases-pieces g l = l.count - l.from
