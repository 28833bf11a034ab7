use Rattle.std.proofs.Common.{◌≡◌, ◌++◌, map, ap, sym, ◌∙◌}
use Rattle.std.proofs.lemmas.Result.{on_ok_weaker}
use Rattle.gcx_model.specs.CondView.{core_cond_tree}
use Rattle.gcx_model.specs.ItemView.{body_tree, item_tree}
use Rattle.gcx_model.specs.PlanView.{var_row_tree}
use Rattle.gcx_model.specs.Variables.{var_rows, item_var_rows}
use Rattle.gcx_model.proofs.Folds.{fold_For, fold_If}
use Rattle.xq_normal.proofs.Building.{loop_rows, branch_rows}
use Rattle.xq_normal.proofs.rows.+rows.Goals as goal

pub put_item_rows-returns-in_ok-push-in-For : goal.put_item_rows-returns-in_ok-push-in-For
put_item_rows-returns-in_ok-push-in-For t c =
    on_ok_weaker c.put_rows.result
    (λ (put : map var_row_tree c.put_rows.new.rows ≡ map var_row_tree c.push.new.self ++ var_rows (body_tree c.in-For.body)).
    loop_rows c.args.rows.now c.push.new.self c.put_rows.new.rows (record { parent = c.in-For.from; step = c.in_ok-step-in-For.step }) c.in-For.var.0 c.in-For.step (body_tree c.in-For.body)
    c.in_ok-push-in-For.ensures.ok c.in_ok-step-in-For.ensures put
    ∙ ap (λ i. map var_row_tree c.args.rows.now ++ item_var_rows i) (sym (ap item_tree c.in-For.is ∙ fold_For c.in-For.var c.in-For.from c.in-For.step c.in-For.body)))
    c.put_rows.ensures

pub put_item_rows-returns-in_ok-put_rows-in-If : goal.put_item_rows-returns-in_ok-put_rows-in-If
put_item_rows-returns-in_ok-put_rows-in-If t c =
    on_ok_weaker c.put_rows-in-If-2.result
    (λ (put : map var_row_tree c.put_rows-in-If-2.new.rows ≡ map var_row_tree c.put_rows-in-If.new.rows ++ var_rows (body_tree c.in-If.other)).
    branch_rows (map var_row_tree c.args.rows.now) (map var_row_tree c.put_rows-in-If.new.rows) (map var_row_tree c.put_rows-in-If-2.new.rows) (core_cond_tree c.in-If.cond) (body_tree c.in-If.then) (body_tree c.in-If.other) c.in_ok-put_rows-in-If.ensures put
    ∙ ap (λ i. map var_row_tree c.args.rows.now ++ item_var_rows i) (sym (ap item_tree c.in-If.is ∙ fold_If c.in-If.cond c.in-If.then c.in-If.other)))
    c.put_rows-in-If-2.ensures
