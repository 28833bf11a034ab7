use Rattle.std.proofs.Common.{map, arith}
use Rattle.gcx_model.specs.PlanView.{role_row_tree}
use Rattle.proj_tree.proofs.Reading.{cond_more}
use Rattle.proj_tree.proofs.rows.+read_conditions.Goals as goal

pub put_conds-loop-cond-preserved : goal.put_conds-loop-cond-preserved
put_conds-loop-cond-preserved t c =
    cond_more (map role_row_tree c.args.out.now) (map role_row_tree c.loop-cond.out) (map role_row_tree c.put_cond.new.out) c.items-cond-items.result.now c.loop-cond.cond-index c.cond-item.result
    (omega arith) c.cond-item.is c.loop-cond.invariant c.in_ok-put_cond.ensures
