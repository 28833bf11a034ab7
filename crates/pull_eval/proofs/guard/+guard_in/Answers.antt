use Rattle.std.proofs.lemmas.Option.{IfSome_then}
use Rattle.pull_eval.specs.Guards.{left_path, right_path}
use Rattle.pull_eval.proofs.Guarding.{member_rows}
use Rattle.pull_eval.proofs.guard.+guard_in.Goals as goal

pub returns-then-is_some-clause-asks : goal.returns-then-is_some-clause-asks
returns-then-is_some-clause-asks t c =
    IfSome_then c.guard_in-found.result c.guard_in-found.ensures.asks
    (λ g h. member_rows (left_path g) (right_path g) c.args.cond.now c.in-All.conds c.items-inner-items.result.now c.loop-inner.inner-index c.inner-item.result c.in-All.is c.items-inner-items.ensures.trees c.loop-inner-test.true c.inner-item.is h)
