use Rattle.std.proofs.Common.{◌≡◌, ◌++◌, map, take, string_bytes}
use Rattle.gcx_model.specs.PlanView.{role_row_tree}
use Rattle.signoff_place.specs.Explained.{role_lines}
use Rattle.signoff_place.proofs.text.put_roles.Given as goal

abbrev pub invariant-loop-i : goal.invariant-loop-i
invariant-loop-i l = string_bytes l.out ≡ string_bytes l.fn.out ++ role_lines 0 (map role_row_tree (take l.i l.rows))
