use Rattle.std.proofs.Common.{sym, subst, inl, inr}
use Rattle.std.specs.Prelude.{OnOk}
use Rattle.std.proofs.lemmas.Result.{on_ok_weaker}
use Rattle.gcx_model.specs.Core.{ItemTree}
use Rattle.gcx_model.specs.CondView.{core_cond_tree}
use Rattle.gcx_model.specs.ItemView.{body_tree}
use Rattle.join_index.specs.Equalities.{GathersAll, ItemHas}
use Rattle.join_index.proofs.Gathering.{in_Copy, in_For, in_If, in_Off, in_Write, item_if, item_none, items_all, items_more, items_none}
use Rattle.join_index.proofs.comparisons.+find_equalities.Goals as goal

pub put_item-returns-in-Write-clause-all : goal.put_item-returns-in-Write-clause-all
put_item-returns-in-Write-clause-all t c = elim c.in-Write.is [
  | inl w ↦ item_none c.args.item.now _ c.args.found.now.items (in_Write _ w.0 w.1) (λ l r h. h)
  | inr w ↦ elim w [
    | inl u ↦ item_none c.args.item.now _ c.args.found.now.items (in_Copy _ u.0 u.1) (λ l r h. h)
    | inr u ↦ item_none c.args.item.now _ c.args.found.now.items (in_Off _ u.0 u.1) (λ l r h. h)
  ]
]

pub put_item-returns-in-For-clause-all : goal.put_item-returns-in-For-clause-all
put_item-returns-in-For-clause-all t c =
    subst (λ (z : ItemTree). OnOk c.put_body.result (GathersAll c.args.found.now.items c.put_body.new.found.items (λ l r. ItemHas l r z)))
    (sym (in_For _ c.in-For.var c.in-For.from c.in-For.step c.in-For.body c.in-For.is)) c.put_body.ensures.all

pub put_body-loop-item-init : goal.put_body-loop-item-init
put_body-loop-item-init t c = record { all = items_none c.args.found.now.items; none = λ h. h }

pub put_body-loop-item-preserved : goal.put_body-loop-item-preserved
put_body-loop-item-preserved t c = record {
  all = items_more c.items-item-items.result.now c.loop-item.item-index c.item-item.result c.args.found.now.items c.loop-item.found.items c.put_item.new.found.items c.loop-item-test.true c.item-item.is c.loop-item.invariant.all c.in_ok-put_item.ensures.all;
  none = λ h. c.in_ok-put_item.ensures.none (c.loop-item.invariant.none h);
}

pub put_body-returns-clause-all : goal.put_body-returns-clause-all
put_body-returns-clause-all t c =
    items_all c.items-item-items.result.now c.loop-item.item-index c.args.body.now c.args.found.now.items c.loop-item.found.items c.loop-item-test.false c.items-item-items.ensures.trees c.loop-item.invariant.all

pub put_item-returns-in_ok-put_body-in-If-clause-all : goal.put_item-returns-in_ok-put_body-in-If-clause-all
put_item-returns-in_ok-put_body-in-If-clause-all t c =
    on_ok_weaker c.put_body-in-If-2.result
    (λ last. subst (λ (z : ItemTree). GathersAll c.args.found.now.items c.put_body-in-If-2.new.found.items (λ l r. ItemHas l r z))
    (sym (in_If c.args.item.now c.in-If.cond c.in-If.then c.in-If.other c.in-If.is))
    (item_if (core_cond_tree c.in-If.cond) (body_tree c.in-If.then) (body_tree c.in-If.other) c.args.found.now.items c.put_cond.new.found.items c.put_body-in-If.new.found.items c.put_body-in-If-2.new.found.items
    c.in_ok-put_cond-in-If.ensures.all c.in_ok-put_body-in-If.ensures.all last))
    c.put_body-in-If-2.ensures.all

pub put_item-returns-in_ok-put_body-in-If-clause-none : goal.put_item-returns-in_ok-put_body-in-If-clause-none
put_item-returns-in_ok-put_body-in-If-clause-none t c =
    on_ok_weaker c.put_body-in-If-2.result (λ last h. last (c.in_ok-put_body-in-If.ensures.none (c.in_ok-put_cond-in-If.ensures.none h))) c.put_body-in-If-2.ensures.none
