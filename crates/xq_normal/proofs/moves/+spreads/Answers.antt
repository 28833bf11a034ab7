use Rattle.std.proofs.Common.{◌≡◌, ap, sym, ◌∙◌}
use Rattle.std.proofs.lemmas.Result.{on_ok_weaker}
use Rattle.gcx_model.specs.declared.item.Item.TheViews as item
use Rattle.gcx_model.specs.Core.{BodyTree, Then}
use Rattle.gcx_model.specs.CondView.{core_cond_tree}
use Rattle.gcx_model.specs.ItemView.{body_tree, item_tree}
use Rattle.gcx_model.specs.Normal.{join, one}
use Rattle.xq_normal.specs.Raw.{spread_on}
use Rattle.gcx_model.proofs.Folds.{fold_For}
use Rattle.xq_normal.proofs.Behind.{loop_spread}
use Rattle.xq_normal.proofs.moves.+spreads.Goals as goal

pub spread_item-returns-in_ok-body-in-For : goal.spread_item-returns-in_ok-body-in-For
spread_item-returns-in_ok-body-in-For t c =
    on_ok_weaker c.put_item.result
    (λ (put : body_tree c.put_item.new.out ≡ join (body_tree c.flush.new.out) (one (item_tree (item.For c.in-For.var c.in-For.from c.in-For.step c.in_ok-body-in-For.body)))) (rest : BodyTree).
    loop_spread (core_cond_tree c.args.cond.now) c.args.first (body_tree c.args.out.now) (body_tree c.flush.new.out) (body_tree c.put_item.new.out) (body_tree c.args.run.now) (body_tree c.flush.new.run)
    c.in-For.var.0 c.in-For.from.0 c.in-For.step (body_tree c.in-For.body) (body_tree c.in_ok-body-in-For.body)
    c.in_ok-flush-in-For.ensures.empty c.in_ok-flush-in-For.ensures.put c.in_ok-body-in-For.ensures
    (put ∙ ap (λ i. join (body_tree c.flush.new.out) (one i)) (fold_For c.in-For.var c.in-For.from c.in-For.step c.in_ok-body-in-For.body)) rest
    ∙ ap (λ i. join (body_tree c.args.out.now) (spread_on (core_cond_tree c.args.cond.now) c.args.first (body_tree c.args.run.now) (Then i rest))) (sym (ap item_tree c.in-For.is ∙ fold_For c.in-For.var c.in-For.from c.in-For.step c.in-For.body)))
    c.put_item.ensures
