use Rattle.buffer_tests.proofs.buffers.+off_of.Given as goal

abbrev pub invariant-loop-item : goal.invariant-loop-item
invariant-loop-item l = Unit {0}
