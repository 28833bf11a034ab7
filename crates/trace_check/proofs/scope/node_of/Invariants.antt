use Rattle.std.proofs.Common.{◌≡◌, drop}
use Rattle.trace_check.specs.Scopes.{bound_in}
use Rattle.trace_check.proofs.scope.node_of.Given as goal

abbrev pub invariant-loop-binding : goal.invariant-loop-binding
invariant-loop-binding l = bound_in l.node l.var.0 (drop l.binding-index l.scope) ≡ bound_in 0 l.var.0 l.scope
