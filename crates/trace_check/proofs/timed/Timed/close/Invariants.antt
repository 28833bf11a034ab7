use Rattle.std.proofs.Common.{◌≡◌}
use Rattle.trace_check.specs.Timing.{IsLong}
use Rattle.trace_check.proofs.TakenAll.{HasEnded, open_nodes}
use Rattle.trace_check.proofs.timed.Timed.close.Given as goal

abbrev pub invariant-ends : goal.invariant-ends
invariant-ends l = record {
  ended : HasEnded l.initial.self l.self;
  long : IsLong l.self;
  told : l.self.told ≡ l.initial.self.told;
}

abbrev pub decreases-ends : goal.decreases-ends
decreases-ends l = open_nodes l.self.tree.at
