use Rattle.std.proofs.Common.{sym, ◌∙◌}
use Rattle.std.proofs.lemmas.Result.{IfOk-weaker}
use Rattle.cond_memo.proofs.MarkTrees.{not_empty}
use Rattle.cond_memo.proofs.PathRows.{empty_is, match_behind_it, none_behind, row_behind}
use Rattle.cond_memo.proofs.taken.Taken.behind.Goals as goal

pub returns-then-is_empty : goal.returns-then-is_empty
returns-then-is_empty g c = none_behind c.args.buffer.now c.args.node.0 c.args.place.0 c.args.self.now.steps (sym c.items.ensures ∙ empty_is c.items.result.now c.is_empty.result c.is_empty.ensures c.if-is_empty.true)

pub match_from-requires-clause-used : goal.match_from-requires-clause-used
match_from-requires-clause-used g c = c.requires.from.top

pub match_from-requires-clause-some : goal.match_from-requires-clause-some
match_from-requires-clause-some g c e = not_empty c.items.result.now c.is_empty.result c.is_empty.ensures c.if-is_empty.false (c.items.ensures ∙ e)

pub match_from-requires-clause-from : goal.match_from-requires-clause-from
match_from-requires-clause-from g c = row_behind c.args.buffer.now c.args.node.0 c.args.place.0 c.args.self.now.steps c.args.self.now.last c.requires.from c.match_behind-row.result c.match_behind-row.ensures.found c.match_behind-row.ensures.serial

pub returns : goal.returns
returns g c =
    IfOk-weaker c.match_from.result _ _
    (λ r f. match_behind_it c.args.buffer.now c.args.node.0 c.args.place.0 c.args.self.now.steps c.args.self.now.last c.requires.from c.match_behind-row.result c.match_behind-row.ensures.found c.match_behind-row.ensures.serial r f)
    c.match_from.ensures
