use Rattle.std.proofs.Common.{◌≤◌, ◌+◌, ◌-◌, length}
use Rattle.trace_check.proofs.Compared.{HasCompared}
use Rattle.trace_check.proofs.check.compare.Given as goal

abbrev pub invariant-reading : goal.invariant-reading
invariant-reading g l = record {
  so_far : HasCompared l.text (g.D.Source.seen l.initial.trace) (g.D.Source.seen l.trace) l.at;
  kept : g.D.Source.keeps l.initial.trace l.trace;
  later : g.D.Source.faults l.initial.trace ≤ g.D.Source.faults l.trace;
}

abbrev pub decreases-reading : goal.decreases-reading
decreases-reading g l = length l.text + 1 - l.at
