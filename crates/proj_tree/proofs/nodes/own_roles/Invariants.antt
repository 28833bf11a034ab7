use Rattle.std.proofs.Common.{◌≡◌, map, take}
use Rattle.gcx_model.specs.PlanView.{role_row_tree}
use Rattle.proj_tree.specs.Own.{own_list}
use Rattle.proj_tree.proofs.nodes.own_roles.Given as goal

abbrev pub invariant-loop-i : goal.invariant-loop-i
invariant-loop-i l = map (λ r. r.0) l.own.items ≡ own_list 0 (map role_row_tree (take l.i l.roles))
