use Rattle.std.proofs.Common.{◌≡◌, true, length, map}
use Rattle.gcx_model.specs.Growth.{may_all}
use Rattle.doc_reader.specs.Standing.{said_of}
use Rattle.trace_check.specs.Timing.{IsLong}
use Rattle.trace_check.proofs.TakenAll.{HasTakenSome}
use Rattle.trace_check.proofs.timed.Timed.take_all.Given as goal

abbrev pub invariant-tokens : goal.invariant-tokens
invariant-tokens l = record {
  some : HasTakenSome l.initial.self l.self (map said_of l.initial.tokens.items) (map said_of l.tokens.items);
  come : may_all (map said_of l.tokens.items) l.self.tree ≡ true;
  long : IsLong l.self;
}

abbrev pub decreases-tokens : goal.decreases-tokens
decreases-tokens l = length l.tokens.items
