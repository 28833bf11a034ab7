use Rattle.std.proofs.Common.{false}
use Rattle.gcx_base.specs.Limits.{full_limits}
use Rattle.tree_read.proofs.Keeping.{whole_given}
use Rattle.tree_read.proofs.tokens.keep_end.Goals as goal

pub returns-clause-whole : goal.returns-clause-whole
returns-clause-whole c = λ b h.
    whole_given c.args.reader.now c.finish.new.self c.args.tokens.now.items c.keep_waiting.new.tokens.items b _ h
    (c.in_ok-finish.ensures.document full_limits b false c.args.tokens.now.items h.stands) (c.in_ok-finish.ensures.stands full_limits b false c.args.tokens.now.items h.stands)
    c.in_ok-finish.ensures.answer (c.in_ok-finish.ensures.exact full_limits b false c.args.tokens.now.items h.stands) c.in_ok-keep_waiting.ensures.tokens
