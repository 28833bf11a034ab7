use Rattle.std.proofs.Common.{sym, ◌∙◌}
use Rattle.cond_memo.proofs.MarkTrees.{not_empty}
use Rattle.cond_memo.proofs.PathRows.{empty_is}
use Rattle.cond_memo.proofs.UntakenRows.{above_ok, at_used, none_above}
use Rattle.cond_memo.proofs.taken.Taken.above.Goals as goal

pub returns-then-is_empty : goal.returns-then-is_empty
returns-then-is_empty g c = none_above c.args.buffer.now c.args.self.now c.args.node.0 c.args.place.0 (sym c.items.ensures ∙ empty_is c.items.result.now c.is_empty.result c.is_empty.ensures c.if-is_empty.true)

pub match_above-requires : goal.match_above-requires
match_above-requires g c = at_used c.args.buffer.now c.args.self.now c.args.node.0 c.args.place.0 c.requires

pub returns : goal.returns
returns g c =
    above_ok c.args.buffer.now c.args.self.now c.args.node.0 c.args.place.0 c.items-2.result.now c.items-2.ensures (λ e. not_empty c.items.result.now c.is_empty.result c.is_empty.ensures c.if-is_empty.false (c.items.ensures ∙ e))
    c.match_above.result c.match_above.ensures.above c.match_above.ensures.lower
