use Rattle.std.proofs.Common.{◌++◌, map, string_bytes, ◌∙◌}
use Rattle.gcx_base.specs.declared.ids.VarId.{VarId}
use Rattle.gcx_model.specs.ItemView.{body_tree}
use Rattle.gcx_model.specs.PlanView.{role_row_tree, var_row_tree}
use Rattle.signoff_place.specs.Explained.{body_text, role_lines, var_lines}
use Rattle.signoff_place.proofs.Texts.{plan_put}
use Rattle.signoff_place.proofs.text.explain.Goals as goal

pub returns : goal.returns
returns c =
    c.from_string.ensures
    ∙ plan_put (string_bytes c.new-out.result) (string_bytes c.push_str.new.self) (string_bytes c.put_vars.new.out) (string_bytes c.put_roles.new.out) (string_bytes c.push_str-2.new.self) (string_bytes c.put_body.new.out)
    (var_lines 1 (map var_row_tree c.args.plan.now.vars) c.args.plan.now.straight (map (λ (x : VarId). x.0) c.args.plan.now.fsa)) (role_lines 0 (map role_row_tree c.args.plan.now.roles)) (body_text (body_tree c.args.plan.now.body) 0)
    c.new-out.ensures.bytes c.in_ok-push_str.ensures.bytes
    (c.in_ok-put_vars.ensures ∙ (λ i. string_bytes c.push_str.new.self ++ var_lines 1 (map var_row_tree (c.items.ensures i)) (c.items-2.ensures i) (map (λ (x : VarId). x.0) (c.items-3.ensures i))))
    (c.in_ok-put_roles.ensures ∙ (λ i. string_bytes c.put_vars.new.out ++ role_lines 0 (map role_row_tree (c.items-4.ensures i))))
    c.in_ok-push_str-2.ensures.bytes c.in_ok-put_body.ensures
