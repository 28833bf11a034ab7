use Rattle.std.proofs.Common.{false}
use Rattle.engine_tests.specs.Taking.{TookGiven}
use Rattle.engine_tests.proofs.engines.takes.take_pieces.Given as goal

abbrev pub invariant-loop-piece : goal.invariant-loop-piece
invariant-loop-piece g l = TookGiven g.O.Outside.may g.O.Outside.most false l.reader l.part l.to
