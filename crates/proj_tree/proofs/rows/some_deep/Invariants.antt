use Rattle.std.proofs.Common.{◌≡◌, false, map, take}
use Rattle.gcx_model.specs.Paths.{any}
use Rattle.gcx_model.specs.PlanView.{role_row_tree}
use Rattle.proj_tree.proofs.Falls.{seems_deep}
use Rattle.proj_tree.proofs.rows.some_deep.Given as goal

abbrev pub invariant-loop-row : goal.invariant-loop-row
invariant-loop-row l = any (seems_deep l.known) (map role_row_tree (take l.row-index l.rows)) ≡ false
