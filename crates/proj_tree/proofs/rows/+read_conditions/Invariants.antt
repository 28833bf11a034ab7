use Rattle.std.proofs.Common.{◌≡◌, ◌++◌, map, take}
use Rattle.gcx_model.specs.CondView.{core_cond_tree, core_conds_of}
use Rattle.gcx_model.specs.PlanView.{role_row_tree}
use Rattle.gcx_model.specs.Roles.{conds_rows}
use Rattle.proj_tree.proofs.rows.+read_conditions.Given as goal

abbrev pub invariant-put_conds-loop-cond : goal.invariant-put_conds-loop-cond
invariant-put_conds-loop-cond l = map role_row_tree l.out ≡ map role_row_tree l.fn.out ++ conds_rows (core_conds_of (map core_cond_tree (take l.cond-index l.cond-items)))
