use Rattle.std.proofs.Common.{◌≡◌, ◌++◌, drop, map}
use Rattle.gcx_model.specs.PlanView.{var_row_tree}
use Rattle.gcx_model.specs.Variables.{var_rows}
use Rattle.xq_normal.proofs.Behind.{body_in}
use Rattle.xq_normal.proofs.rows.+rows.Given as goal

abbrev pub invariant-put_rows-loop-item : goal.invariant-put_rows-loop-item
invariant-put_rows-loop-item l = map var_row_tree l.rows ++ var_rows (body_in (drop l.item-index l.item-items)) ≡ map var_row_tree l.fn.rows ++ var_rows (body_in l.item-items)
