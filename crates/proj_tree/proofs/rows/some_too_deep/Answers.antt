use Rattle.std.proofs.Common.{[], ◌∷◌, map, ap, ◌∙◌}
use Rattle.gcx_model.specs.ItemView.{body_tree}
use Rattle.gcx_model.specs.PlanView.{role_row_tree, var_row_tree}
use Rattle.proj_tree.specs.Depths.{is_deep, with_rows}
use Rattle.proj_tree.proofs.Falls.{seems_deep, deep_known, any_same}
use Rattle.proj_tree.proofs.rows.some_too_deep.Goals as goal

pub returns : goal.returns
returns c =
    c.some_deep.ensures
    ∙ any_same (seems_deep c.deref.result.now) (is_deep (body_tree c.args.core.now.body))
    (deep_known (body_tree c.args.core.now.body) c.requires.good c.deref.result.now
    (c.deref.ensures.value ∙ (c.in_ok-known.ensures ∙ ap (with_rows (0 ∷ [])) (ap (map var_row_tree) c.items.ensures ∙ c.requires.rows)))) (map role_row_tree c.args.rows.now)
