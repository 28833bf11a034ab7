use Rattle.std.proofs.Common.{◌≡◌, [], ◌∷◌, map, take}
use Rattle.gcx_model.specs.PlanView.{var_row_tree}
use Rattle.proj_tree.specs.Depths.{with_rows}
use Rattle.proj_tree.proofs.depth.depths.Given as goal

abbrev pub invariant-loop-row : goal.invariant-loop-row
invariant-loop-row l = l.depths.items ≡ with_rows (0 ∷ []) (map var_row_tree (take l.row-index l.vars))
