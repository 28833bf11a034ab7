use Rattle.std.proofs.Common.{◌≡◌, ◌≤◌, length, ap, subst, ◌∙◌}
use Rattle.gcx_model.specs.Core.{BodyTree}
use Rattle.gcx_model.specs.ItemView.{body_tree}
use Rattle.gcx_model.specs.Normal.{normal}
use Rattle.gcx_model.specs.Placed.{plan_of}
use Rattle.gcx_model.specs.PlanView.{CoreTree}
use Rattle.gcx_model.specs.Query.{query_trees}
use Rattle.gcx_model.specs.Roles.{roles_of}
use Rattle.signoff_place.proofs.Sizes.{sized}
use Rattle.signoff_place.proofs.compiler.compile.Goals as goal

pub returns-clause-sized : goal.returns-clause-sized
returns-clause-sized c =
    let body : body_tree c.in_ok-core.core.body ≡ normal (query_trees c.args.query.now) = ap (λ (t : CoreTree). t.body) c.in_ok-core.ensures.core in
    sized (normal (query_trees c.args.query.now)) c.in_ok-plan.plan (c.in_ok-plan.ensures ∙ ap plan_of body) c.in_ok-core.ensures.within
    (subst (λ (d : BodyTree). length (roles_of d) ≤ 2000) body c.in_ok-rows.ensures.few)
