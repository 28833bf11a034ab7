use Rattle.buffer_tests.specs.Passed.{HasTop}
use Rattle.buffer_tests.proofs.buffers.passed.settle.Given as goal

abbrev pub invariant-loop-element : goal.invariant-loop-element
invariant-loop-element g l = HasTop l.buffer l.top.place.0 l.top.last
