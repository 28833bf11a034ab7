use Rattle.std.proofs.Common.{false}
use Rattle.gcx_base.specs.Limits.{full_limits}
use Rattle.tree_read.proofs.Documents.{whole_grown}
use Rattle.tree_read.proofs.reading.take_end.Goals as goal

pub returns-clause-whole : goal.returns-clause-whole
returns-clause-whole c = λ b h.
    whole_grown c.args.reader.now c.finish.new.self c.args.tree.now c.take_waiting.new.tree b h
    (c.in_ok-finish.ensures.document full_limits b false h.given h.stands) (c.in_ok-finish.ensures.exact full_limits b false h.given h.stands) c.in_ok-take_waiting.ensures.tree
