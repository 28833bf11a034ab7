use Rattle.std.proofs.Common.{◌≡◌, ap, map, sym, ◌∙◌, subst, inl, inr, arith}
use Rattle.std.specs.Prelude.{OnOk}
use Rattle.gcx_model.specs.Core.{AllOf, CondTree, Not}
use Rattle.gcx_model.specs.CondView.{core_cond_tree, core_conds_of}
use Rattle.gcx_model.specs.declared.cond.Cond.{the_lemmas}
use Rattle.cond_eval.proofs.Parts.{fold_All, fold_Any, fold_Exists}
use Rattle.join_index.specs.Equalities.{CondHas, GathersAll}
use Rattle.join_index.proofs.Gathering.{cond_none, conds_all, conds_more, conds_none, fold_Compare, fold_True}
use Rattle.join_index.proofs.comparisons.+put_cond.Goals as goal

pub returns-in-True-clause-all : goal.returns-in-True-clause-all
returns-in-True-clause-all t c = elim c.in-True.is [
  | inl e ↦ cond_none c.args.cond.now _ c.args.found.now.items (ap core_cond_tree e ∙ fold_True) (λ l r h. h)
  | inr w ↦ cond_none c.args.cond.now _ c.args.found.now.items (ap core_cond_tree w.2 ∙ fold_Exists w.0 w.1) (λ l r h. h)
]

pub returns-in-Compare-clause-all : goal.returns-in-Compare-clause-all
returns-in-Compare-clause-all t c =
    subst (λ (z : CondTree). OnOk c.put_comparison.result (GathersAll c.args.found.now.items c.put_comparison.new.found.items (λ l r. CondHas l r z)))
    (sym (ap core_cond_tree c.in-Compare.is ∙ fold_Compare c.in-Compare.left c.in-Compare.rel c.in-Compare.right)) c.put_comparison.ensures.all

pub returns-in-Not-clause-all : goal.returns-in-Not-clause-all
returns-in-Not-clause-all t c =
    let tree : core_cond_tree c.args.cond.now ≡ Not (core_cond_tree c.deref.result.now) = grind (arith, the_lemmas) in
    subst (λ (z : CondTree). OnOk c.put_cond.result (GathersAll c.args.found.now.items c.put_cond.new.found.items (λ l r. CondHas l r z))) (sym tree) c.put_cond.ensures.all

pub loop-inner-init : goal.loop-inner-init
loop-inner-init t c = record { all = conds_none c.args.found.now.items; none = λ h. h }

pub loop-inner-preserved : goal.loop-inner-preserved
loop-inner-preserved t c = record {
  all = conds_more c.items-inner-items.result.now c.loop-inner.inner-index c.inner-item.result c.args.found.now.items c.loop-inner.found.items c.put_cond-in-loop-inner.new.found.items c.loop-inner-test.true c.inner-item.is c.loop-inner.invariant.all c.in_ok-put_cond-in-All.ensures.all;
  none = λ h. c.in_ok-put_cond-in-All.ensures.none (c.loop-inner.invariant.none h);
}

pub returns-after-loop-inner-clause-all : goal.returns-after-loop-inner-clause-all
returns-after-loop-inner-clause-all t c =
    let members : GathersAll c.args.found.now.items c.loop-inner.found.items (λ l r. CondHas l r (AllOf (core_conds_of (map core_cond_tree c.in-All.conds.members.items)))) =
    conds_all c.items-inner-items.result.now c.loop-inner.inner-index (map core_cond_tree c.in-All.conds.members.items) c.args.found.now.items c.loop-inner.found.items c.loop-inner-test.false c.items-inner-items.ensures.trees c.loop-inner.invariant.all in
    elim c.in-All.is [
      | inl e ↦ subst (λ (z : CondTree). GathersAll c.args.found.now.items c.loop-inner.found.items (λ l r. CondHas l r z)) (sym (ap core_cond_tree e ∙ fold_All c.in-All.conds)) members
      | inr e ↦ subst (λ (z : CondTree). GathersAll c.args.found.now.items c.loop-inner.found.items (λ l r. CondHas l r z)) (sym (ap core_cond_tree e ∙ fold_Any c.in-All.conds)) members
    ]
