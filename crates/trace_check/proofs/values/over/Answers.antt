use Rattle.std.proofs.Common.{sym, ◌∙◌, ap}
use Rattle.gcx_model.specs.CondView.{operand_tree}
use Rattle.gcx_model.specs.declared.cond.Operand.{Operand}
use Rattle.time_laws.specs.Times.{over_at}
use Rattle.trace_check.specs.Scopes.{env_of}
use Rattle.trace_check.specs.Timing.{clock_in}
use Rattle.trace_check.proofs.Bound.{bound_number}
use Rattle.trace_check.proofs.values.over.Goals as goal

pub returns-in-Path : goal.returns-in-Path
returns-in-Path c =
    let C = c.args.timed.now.tree in
    let bs = c.args.scope.now in
    c.closed_at.ensures ∙ (ap (clock_in c.args.timed.now).closed (c.node_of.ensures ∙ sym (bound_number C bs c.requires c.in-Path.var.0))
    ∙ ap (λ (o : Operand). over_at (clock_in c.args.timed.now) (env_of C bs) (operand_tree o)) (sym c.in-Path.is))
