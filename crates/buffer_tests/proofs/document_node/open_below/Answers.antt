use Rattle.std.proofs.Common.{inl}
use Rattle.buf_tree.proofs.Reading.{root_innermost}
use Rattle.buffer_tests.proofs.document_node.open_below.Goals as goal

pub open_node-requires-clause-parent : goal.open_node-requires-clause-parent
open_node-requires-clause-parent c = root_innermost _ _ _ c.requires.1 c.in-Some.ensures

pub open_node-requires-clause-spread : goal.open_node-requires-clause-spread
open_node-requires-clause-spread c = inl c.requires.2
