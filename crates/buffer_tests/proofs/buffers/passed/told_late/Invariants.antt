use Rattle.buffer_tests.specs.Passed.{HasTop}
use Rattle.buffer_tests.proofs.buffers.passed.told_late.Given as goal

abbrev pub invariant-loop-letter : goal.invariant-loop-letter
invariant-loop-letter g l = HasTop l.buffer l.top.place.0 l.top.last
