use Rattle.std.proofs.Common.{◌≡◌, map, take}
use Rattle.gcx_model.specs.PlanView.{var_row_tree}
use Rattle.trace_check.specs.Wanting.{lists_in, matches_by, row_paths}
use Rattle.trace_check.proofs.given.matches_of.Given as goal

abbrev pub invariant-loop-row : goal.invariant-loop-row
invariant-loop-row l = lists_in l.matches.items ≡ matches_by l.tree (row_paths (map var_row_tree (take l.row-index l.vars)))
