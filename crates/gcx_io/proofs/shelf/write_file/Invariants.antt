use Rattle.std.proofs.Common.{◌≡◌, length, take, ◌-◌, ◌≤◌}
use Rattle.gcx_io.specs.Shelf.{AppendsAll, OthersStay}
use Rattle.gcx_io.specs.Writing.{TakesInto}
use Rattle.gcx_io.proofs.shelf.write_file.Given as goal

abbrev pub invariant-loop-at : goal.invariant-loop-at
invariant-loop-at g l = record {
  within : l.at ≤ length l.bytes;
  appends : AppendsAll (g.F.Shelf.names l.initial.files) (g.F.Shelf.names l.files) (g.F.Shelf.named l.initial.files l.handle.0) (take l.at l.bytes);
  others : OthersStay (g.F.Shelf.named l.initial.files) (g.F.Shelf.left l.initial.files) (g.F.Shelf.left l.files) (g.F.Shelf.handles l.initial.files) l.handle.0;
  handles : g.F.Shelf.handles l.files ≡ g.F.Shelf.handles l.initial.files;
  named : g.F.Shelf.named l.files ≡ g.F.Shelf.named l.initial.files;
  later : g.F.Shelf.write_faults l.initial.files ≤ g.F.Shelf.write_faults l.files;
  reads : g.F.Shelf.faults l.files ≡ g.F.Shelf.faults l.initial.files;
  takes : TakesInto l.handle.0 (g.F.Shelf.seen l.initial.files) (g.F.Shelf.seen l.files) (take l.at l.bytes);
}

abbrev pub decreases-loop-at : goal.decreases-loop-at
decreases-loop-at g l = length l.bytes - l.at
