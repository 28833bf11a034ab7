use Rattle.std.proofs.Common.{◌≡◌, ◌≤◌, ◌-◌, length, take}
use Rattle.gcx_io.specs.Writing.{Takes}
use Rattle.many_run.specs.Files.{sink_at}
use Rattle.many_run.specs.Runs.{WritesOnly}
use Rattle.many_run.proofs.running.write_out.Given as goal

abbrev pub invariant-pieces : goal.invariant-pieces
invariant-pieces g l = record {
  within : l.at ≤ length l.bytes;
  took : Takes (sink_at l.handle.0 (g.F.Shelf.seen l.fn.files)) (sink_at l.handle.0 (g.F.Shelf.seen l.files)) (take l.at l.bytes);
  only : WritesOnly l.handle.0 (g.F.Shelf.seen l.fn.files) (g.F.Shelf.seen l.files);
  calm : (g.F.Shelf.seen l.files).write_faults ≡ (g.F.Shelf.seen l.fn.files).write_faults;
}

abbrev pub decreases-pieces : goal.decreases-pieces
decreases-pieces g l = length l.bytes - l.at
