use Rattle.pull_eval.specs.Guards.{left_path, right_path}
use Rattle.pull_eval.proofs.Guarding.{guarded_all, guarded_for, guarded_more}
use Rattle.pull_eval.proofs.guard.+guarded.Goals as goal

pub is_guarded-loop-item-preserved : goal.is_guarded-loop-item-preserved
is_guarded-loop-item-preserved t c =
    guarded_more (left_path c.args.guard.now) (right_path c.args.guard.now) c.args.body.now c.loop-item.item-index c.item-item.result c.loop-item-test.true c.item-item.is c.loop-item.invariant
    (c.is_item_guarded.ensures c.if-not-is_item_guarded.false)

pub is_guarded-returns : goal.is_guarded-returns
is_guarded-returns t c = λ h. guarded_all (left_path c.args.guard.now) (right_path c.args.guard.now) c.args.body.now c.loop-item.item-index c.loop-item-test.false c.loop-item.invariant

pub is_item_guarded-returns-then-not-has_path_from : goal.is_item_guarded-returns-then-not-has_path_from
is_item_guarded-returns-then-not-has_path_from t c = λ e.
    guarded_for (left_path c.args.guard.now) (right_path c.args.guard.now) c.args.item.now c.in-For.var c.in-For.from c.in-For.step c.in-For.body c.items-then-not-has_path_from.result.now c.in-For.is c.items-then-not-has_path_from.ensures.trees
    (c.has_path_from.ensures c.if-not-has_path_from.true) (c.is_guarded.ensures e)
