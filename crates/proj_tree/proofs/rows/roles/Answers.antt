use Rattle.std.proofs.Common.{false}
use Rattle.gcx_model.specs.ItemView.{body_tree}
use Rattle.proj_tree.proofs.Falls.{few_roles, deep_roles, none_passed}
use Rattle.proj_tree.proofs.rows.roles.Goals as goal

pub returns-clause-within : goal.returns-clause-within
returns-clause-within c =
    none_passed (body_tree c.args.core.now.body)
    (few_roles (body_tree c.args.core.now.body) c.in_ok-rows.rows c.items.result.now c.items.ensures c.in_ok-rows.ensures c.if-items-gt-MOST_ROLES.false)
    (deep_roles (body_tree c.args.core.now.body) c.in_ok-rows.rows c.items-2.result.now c.in_ok-deep.deep false c.items-2.ensures c.in_ok-rows.ensures c.in_ok-deep.ensures c.if-deep.false)
