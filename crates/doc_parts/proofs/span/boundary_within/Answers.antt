use Rattle.std.proofs.Common.{arith}
use Rattle.doc_parts.proofs.Fronts.{not_start}
use Rattle.doc_parts.proofs.span.boundary_within.Goals as goal

pub overflow_sub-end : goal.overflow_sub-end
overflow_sub-end c = let some = not_start c.args.text.now c.loop-end.end c.is_char_boundary.result c.utf8.text c.is_char_boundary.ensures.test c.loop-end-test.true in omega (arith, some)

pub loop-end-smaller : goal.loop-end-smaller
loop-end-smaller c = let some = not_start c.args.text.now c.loop-end.end c.is_char_boundary.result c.utf8.text c.is_char_boundary.ensures.test c.loop-end-test.true in omega (arith, some)
