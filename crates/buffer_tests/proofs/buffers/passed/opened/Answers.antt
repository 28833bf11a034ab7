use Rattle.std.proofs.Common.{inl}
use Rattle.buffer_tests.proofs.buffers.passed.opened.Goals as goal

pub open_kept-requires-clause-spread : goal.open_kept-requires-clause-spread
open_kept-requires-clause-spread g c = inl c.requires.plain
