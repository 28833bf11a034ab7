use Rattle.std.proofs.Common.{ap, ◌∙◌}
use Rattle.std.proofs.lemmas.Result.{IfOk-weaker}
use Rattle.gcx_model.specs.ItemView.{body_tree}
use Rattle.gcx_model.specs.Normal.{one, start_var}
use Rattle.xq_normal.specs.Scopes.{names_of}
use Rattle.xq_normal.proofs.Folds.{fold_Copy}
use Rattle.xq_normal.proofs.Building.{path_put}
use Rattle.xq_normal.proofs.bodies.path_body.Goals as goal

pub returns-clause-body : goal.returns-clause-body
returns-clause-body c =
    IfOk-weaker c.nested.result _ _
    (λ loops e. path_put c.start_of-from.result.0 (start_var (names_of c.args.scope.now) c.args.path.now.start) c.items-steps.result.now c.args.path.now.steps c.args.next.now c.innermost.result.0 (body_tree c.in_ok-copy.copy) (body_tree loops)
    c.start_of-from.ensures c.items-steps.ensures (c.in_ok-copy.ensures ∙ ap one (fold_Copy c.innermost.result)) c.innermost.ensures e)
    c.nested.ensures
