use Rattle.std.proofs.lemmas.Option.{IfSome_then}
use Rattle.pull_eval.specs.Guards.{left_path, right_path}
use Rattle.pull_eval.proofs.Guarding.{asks_for, asks_if}
use Rattle.pull_eval.proofs.guard.+first_guard.Goals as goal

pub returns-in-If-clause-asks : goal.returns-in-If-clause-asks
returns-in-If-clause-asks t c =
    IfSome_then c.guard_in.result c.guard_in.ensures.asks
    (λ g h. asks_if (left_path g) (right_path g) c.args.body.now c.in-Some.item.now c.in-If.cond c.in-If.then c.in-If.other c.in-Some.ensures.value c.in-If.is h)

pub returns-in-For-clause-asks : goal.returns-in-For-clause-asks
returns-in-For-clause-asks t c =
    IfSome_then c.first_guard.result c.first_guard.ensures.asks
    (λ g h. asks_for (left_path g) (right_path g) c.args.body.now c.in-Some.item.now c.in-For.var c.in-For.from c.in-For.step c.in-For.body c.items.result.now c.in-Some.ensures.value c.in-For.is c.items.ensures.trees h)
