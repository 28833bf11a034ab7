use Rattle.std.proofs.Common.{◌-◌, ◌+◌, ◌≤◌}
use Rattle.doc_reader.specs.Standing.{IsOpen}
use Rattle.tree_read.specs.Document.{HasGrown}
use Rattle.tree_read.proofs.Stopping.{HasRead}
use Rattle.tree_read.proofs.reading.read_tree.Given as goal

abbrev pub invariant-reading : goal.invariant-reading
invariant-reading g l = record {
  so_far : HasRead (HasGrown l.reader l.tree) (g.S.Source.seen l.initial.source) (g.S.Source.seen l.source) l.count;
  is_open : IsOpen l.reader;
  kept : g.S.Source.keeps l.initial.source l.source;
  later : g.S.Source.faults l.initial.source ≤ g.S.Source.faults l.source;
}

abbrev pub decreases-reading : goal.decreases-reading
decreases-reading g l = l.limits.bytes + 1 - l.count
