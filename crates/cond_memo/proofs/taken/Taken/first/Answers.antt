use Rattle.std.proofs.Common.{sym, ◌∙◌}
use Rattle.std.proofs.lemmas.Result.{IfOk-weaker}
use Rattle.cond_memo.proofs.MarkTrees.{not_empty}
use Rattle.cond_memo.proofs.PathRows.{empty_is, first_from}
use Rattle.cond_memo.proofs.taken.Taken.first.Goals as goal

pub itself-requires-clause-steps : goal.itself-requires-clause-steps
itself-requires-clause-steps g c = sym c.items.ensures ∙ empty_is c.items.result.now c.is_empty.result c.is_empty.ensures c.if-is_empty.true

pub match_from-requires-clause-some : goal.match_from-requires-clause-some
match_from-requires-clause-some g c e = not_empty c.items.result.now c.is_empty.result c.is_empty.ensures c.if-is_empty.false (c.items.ensures ∙ e)

pub match_from-requires-clause-from : goal.match_from-requires-clause-from
match_from-requires-clause-from g c = record { after = c.first_row-row.ensures.after; finds = c.first_row-row.ensures.finds }

pub returns : goal.returns
returns g c =
    IfOk-weaker c.match_from.result _ _
    (λ r f. first_from c.args.buffer.now c.args.node.0 c.args.self.now.steps c.args.self.now.last (λ e. not_empty c.items.result.now c.is_empty.result c.is_empty.ensures c.if-is_empty.false (c.items.ensures ∙ e)) c.args.self.now.below c.first_row-row.result r c.first_row-row.ensures
    (f c.first_row-row.ensures.after c.first_row-row.ensures.finds))
    c.match_from.ensures
