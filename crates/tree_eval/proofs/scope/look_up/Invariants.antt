use Rattle.std.proofs.Common.{◌≡◌, drop, None}
use Rattle.tree_eval.specs.Scopes.{bound_in}
use Rattle.tree_eval.proofs.scope.look_up.Given as goal

abbrev pub invariant-loop-binding : goal.invariant-loop-binding
invariant-loop-binding l = bound_in l.found l.name (drop l.binding-index l.scope) ≡ bound_in None l.name l.scope
