use Rattle.std.proofs.Common.{rules, arith, ◌+◌}
use Rattle.xq_lex.proofs.Encoding.{size_step, split_size}
use Rattle.xq_lex.proofs.lexer.size_of.Goals as goal

pub loop-c-preserved : goal.loop-c-preserved
loop-c-preserved c =
    omega (arith, size_step c.args.text.now c.loop-c.c-index c.c-item.result (search rules) c.c-item.is, c.loop-c.invariant, c.len_utf8.ensures.len)

pub overflow_add-size : goal.overflow_add-size
overflow_add-size c =
    omega (arith, size_step c.args.text.now c.loop-c.c-index c.c-item.result (search rules) c.c-item.is, c.loop-c.invariant, c.len_utf8.ensures.len, split_size (c.loop-c.c-index + 1) c.args.text.now, c.requires)
