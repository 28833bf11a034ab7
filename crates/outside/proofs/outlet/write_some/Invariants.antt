use Rattle.std.proofs.Common.{◌≤◌, ◌-◌, length, take}
use Rattle.gcx_io.specs.Writing.{Takes}
use Rattle.outside.proofs.outlet.write_some.Given as goal

abbrev pub invariant-writing : goal.invariant-writing
invariant-writing g l = record {
  bound : l.at ≤ length l.bytes;
  took : Takes (g.O.Sink.seen l.fn.sink) (g.O.Sink.seen l.sink) (take l.at l.bytes);
}

abbrev pub decreases-writing : goal.decreases-writing
decreases-writing g l = length l.bytes - l.at
