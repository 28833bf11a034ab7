use Rattle.std.proofs.Common.{◌≡◌, drop}
use Rattle.xq_normal.specs.Scopes.{bound_in}
use Rattle.xq_normal.proofs.scope.look_up.Given as goal

abbrev pub invariant-loop-binding : goal.invariant-loop-binding
invariant-loop-binding l = bound_in l.found.0 l.name (drop l.binding-index l.scope) ≡ bound_in 0 l.name l.scope
