use Rattle.std.proofs.Common.{sym, ◌∙◌}
use Rattle.cond_eval.proofs.Comparisons.{empty_of}
use Rattle.cond_eval.proofs.Pairing.{no_left, no_right, taken_tell}
use Rattle.cond_eval.proofs.pairs.some_pair_satisfies.Goals as goal

pub returns-then-is_empty : goal.returns-then-is_empty
returns-then-is_empty g c = no_left c.args.buffer.now.rows c.args.lefts.now c.args.rights.now c.args.rel (empty_of c.args.lefts.now (sym c.is_empty.ensures ∙ c.if-is_empty.true))

pub returns-then-is_empty-2 : goal.returns-then-is_empty-2
returns-then-is_empty-2 g c = no_right c.args.buffer.now.rows c.args.lefts.now c.args.rights.now c.args.rel (empty_of c.args.rights.now (sym c.is_empty-2.ensures ∙ c.if-is_empty-2.true))

pub returns : goal.returns
returns g c =
    taken_tell c.args.buffer.now.rows c.args.lefts.now c.args.rights.now c.args.rel c.new-compared.result c.take_values.new.compared c.take_values-2.new.compared
    c.new-compared.ensures c.in_ok-take_values.ensures c.in_ok-take_values-2.ensures c.found.result c.found.ensures
