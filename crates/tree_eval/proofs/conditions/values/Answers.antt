use Rattle.std.proofs.Common.{map, sym, ◌∙◌, ap}
use Rattle.gcx_model.specs.Answer.{values}
use Rattle.tree_eval.specs.Scopes.{scope_of}
use Rattle.tree_eval.specs.Operands.{values_at}
use Rattle.tree_eval.proofs.Operands.{values_found}
use Rattle.tree_eval.proofs.conditions.values.Goals as goal

pub returns-in_ok-found-in-Path : goal.returns-in_ok-found-in-Path
returns-in_ok-found-in-Path c =
    c.in_ok-found-in-Path.ensures ∙ (ap (map (values_at c.args.tree.now)) c.deref.ensures.value
    ∙ (values_found c.args.tree.now c.in_ok-nodes-in-Path.nodes.items _ c.in_ok-nodes-in-Path.ensures
    ∙ sym (ap (λ o. values o (scope_of c.args.tree.now c.args.scope.now) c.args.tree.now) c.in-Path.is)))
