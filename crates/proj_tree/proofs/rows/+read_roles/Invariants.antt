use Rattle.std.proofs.Common.{◌≡◌, ◌++◌, map, take}
use Rattle.gcx_model.specs.ItemView.{body_of, item_tree}
use Rattle.gcx_model.specs.PlanView.{role_row_tree}
use Rattle.gcx_model.specs.Roles.{rows}
use Rattle.proj_tree.proofs.rows.+read_roles.Given as goal

abbrev pub invariant-put_body-loop-item : goal.invariant-put_body-loop-item
invariant-put_body-loop-item l = map role_row_tree l.out ≡ map role_row_tree l.fn.out ++ rows (body_of (map item_tree (take l.item-index l.item-items)))
