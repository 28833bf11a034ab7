use Rattle.engine_tests.specs.Demand.{Demands}
use Rattle.engine_tests.proofs.engines.demand.demanded.Given as goal

abbrev pub invariant-loop-turn : goal.invariant-loop-turn
invariant-loop-turn l = Demands l.pair.projector l.pair.machine.position l.pair.buffer l.pair.tokens.items
