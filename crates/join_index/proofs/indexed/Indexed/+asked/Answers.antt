use Rattle.std.proofs.Common.{◌≡◌, map, ap, sym, ◌∙◌, arith}
use Rattle.std.proofs.lemmas.Result.{IfOk-weaker}
use Rattle.gcx_model.specs.Core.{AllOf, AnyOf, Not}
use Rattle.gcx_model.specs.CondView.{core_cond_tree, core_conds_of}
use Rattle.gcx_model.specs.declared.cond.Cond.{the_lemmas}
use Rattle.gcx_model.specs.declared.truth.Truth.TheVariants.{True, False}
use Rattle.cond_eval.proofs.Parts.{alike, apart, fold_All, fold_Any}
use Rattle.join_index.proofs.Others.{always_tells, exists_leaf, exists_tells, not_tells}
use Rattle.join_index.proofs.Walks.{all_next, all_over, all_start, all_told, any_next, any_over, any_start, any_told}
use Rattle.join_index.proofs.indexed.Indexed.+asked.Goals as goal

pub returns-in-True : goal.returns-in-True
returns-in-True g t c = always_tells c.args.buffer.now c.args.env.now c.args.self.now c.args.cond.now c.in-True.is

pub by_marks-requires : goal.by_marks-requires
by_marks-requires g t c = record { may = c.requires; leaf = exists_leaf c.args.buffer.now c.args.env.now c.args.self.now c.args.cond.now c.in-Exists.var c.in-Exists.steps c.in-Exists.is }

pub returns-in-Exists : goal.returns-in-Exists
returns-in-Exists g t c =
    IfOk-weaker c.by_marks.result _ _
    (λ u told. exists_tells c.args.buffer.now c.args.env.now c.args.self.now c.args.cond.now c.in-Exists.var c.in-Exists.steps c.in-Exists.is c.by_marks.new.self u told)
    c.by_marks.ensures.tells

pub returns-in_ok-asked-in-Not : goal.returns-in_ok-asked-in-Not
returns-in_ok-asked-in-Not g t c =
    let tree : core_cond_tree c.args.cond.now ≡ Not (core_cond_tree c.deref.result.now) = grind (arith, the_lemmas) in
    not_tells c.args.buffer.now c.args.env.now c.args.self.now c.args.cond.now (core_cond_tree c.deref.result.now) tree c.asked.new.self c.in_ok-asked-in-Not.field-0 c.negate.result c.negate.ensures c.in_ok-asked-in-Not.ensures

pub loop-inner-init : goal.loop-inner-init
loop-inner-init g t c =
    let tree : core_cond_tree c.args.cond.now ≡ AllOf (core_conds_of (map core_cond_tree c.deref-inner-items.result.now)) = ap core_cond_tree c.in-All.is ∙ (fold_All c.in-All.conds ∙ ap (λ l. AllOf (core_conds_of (map core_cond_tree l))) (sym c.deref-inner-items.ensures.value)) in
    all_start c.args.buffer.now c.args.env.now c.args.self.now c.deref-inner-items.result.now c.args.cond.now c.requires tree

pub returns-then-ne : goal.returns-then-ne
returns-then-ne g t c =
    let tree : core_cond_tree c.args.cond.now ≡ AllOf (core_conds_of (map core_cond_tree c.deref-inner-items.result.now)) = ap core_cond_tree c.in-All.is ∙ (fold_All c.in-All.conds ∙ ap (λ l. AllOf (core_conds_of (map core_cond_tree l))) (sym c.deref-inner-items.ensures.value)) in
    all_told c.args.buffer.now c.args.env.now c.args.self.now c.deref-inner-items.result.now c.args.cond.now c.requires tree c.loop-inner.self c.asked-in-loop-inner.new.self c.loop-inner.inner-index c.inner-item.result c.in_ok-truth-in-All.truth c.loop-inner-test.true c.inner-item.is c.loop-inner.invariant c.in_ok-truth-in-All.ensures (apart c.in_ok-truth-in-All.truth True c.if-ne.ensures)

pub loop-inner-preserved : goal.loop-inner-preserved
loop-inner-preserved g t c =
    let tree : core_cond_tree c.args.cond.now ≡ AllOf (core_conds_of (map core_cond_tree c.deref-inner-items.result.now)) = ap core_cond_tree c.in-All.is ∙ (fold_All c.in-All.conds ∙ ap (λ l. AllOf (core_conds_of (map core_cond_tree l))) (sym c.deref-inner-items.ensures.value)) in
    all_next c.args.buffer.now c.args.env.now c.args.self.now c.deref-inner-items.result.now c.args.cond.now c.requires tree c.loop-inner.self c.asked-in-loop-inner.new.self c.loop-inner.inner-index c.inner-item.result c.in_ok-truth-in-All.truth c.loop-inner-test.true c.inner-item.is c.loop-inner.invariant c.in_ok-truth-in-All.ensures (alike c.in_ok-truth-in-All.truth True c.if-ne.ensures)

pub returns-after-loop-inner : goal.returns-after-loop-inner
returns-after-loop-inner g t c =
    let tree : core_cond_tree c.args.cond.now ≡ AllOf (core_conds_of (map core_cond_tree c.deref-inner-items.result.now)) = ap core_cond_tree c.in-All.is ∙ (fold_All c.in-All.conds ∙ ap (λ l. AllOf (core_conds_of (map core_cond_tree l))) (sym c.deref-inner-items.ensures.value)) in
    all_over c.args.buffer.now c.args.env.now c.args.self.now c.deref-inner-items.result.now c.args.cond.now c.requires tree c.loop-inner.self c.loop-inner.inner-index c.loop-inner-test.false c.loop-inner.invariant

pub loop-inner-2-init : goal.loop-inner-2-init
loop-inner-2-init g t c =
    let tree : core_cond_tree c.args.cond.now ≡ AnyOf (core_conds_of (map core_cond_tree c.deref-inner-items-in-Any.result.now)) = ap core_cond_tree c.in-Any.is ∙ (fold_Any c.in-Any.conds ∙ ap (λ l. AnyOf (core_conds_of (map core_cond_tree l))) (sym c.deref-inner-items-in-Any.ensures.value)) in
    any_start c.args.buffer.now c.args.env.now c.args.self.now c.deref-inner-items-in-Any.result.now c.args.cond.now c.requires tree

pub returns-then-ne-2 : goal.returns-then-ne-2
returns-then-ne-2 g t c =
    let tree : core_cond_tree c.args.cond.now ≡ AnyOf (core_conds_of (map core_cond_tree c.deref-inner-items-in-Any.result.now)) = ap core_cond_tree c.in-Any.is ∙ (fold_Any c.in-Any.conds ∙ ap (λ l. AnyOf (core_conds_of (map core_cond_tree l))) (sym c.deref-inner-items-in-Any.ensures.value)) in
    any_told c.args.buffer.now c.args.env.now c.args.self.now c.deref-inner-items-in-Any.result.now c.args.cond.now c.requires tree c.loop-inner-2.self c.asked-in-loop-inner-2.new.self c.loop-inner-2.inner-index c.inner-item-in-loop-inner-2.result c.in_ok-truth-in-Any.truth c.loop-inner-2-test.true c.inner-item-in-loop-inner-2.is c.loop-inner-2.invariant c.in_ok-truth-in-Any.ensures (apart c.in_ok-truth-in-Any.truth False c.if-ne-2.ensures)

pub loop-inner-2-preserved : goal.loop-inner-2-preserved
loop-inner-2-preserved g t c =
    let tree : core_cond_tree c.args.cond.now ≡ AnyOf (core_conds_of (map core_cond_tree c.deref-inner-items-in-Any.result.now)) = ap core_cond_tree c.in-Any.is ∙ (fold_Any c.in-Any.conds ∙ ap (λ l. AnyOf (core_conds_of (map core_cond_tree l))) (sym c.deref-inner-items-in-Any.ensures.value)) in
    any_next c.args.buffer.now c.args.env.now c.args.self.now c.deref-inner-items-in-Any.result.now c.args.cond.now c.requires tree c.loop-inner-2.self c.asked-in-loop-inner-2.new.self c.loop-inner-2.inner-index c.inner-item-in-loop-inner-2.result c.in_ok-truth-in-Any.truth c.loop-inner-2-test.true c.inner-item-in-loop-inner-2.is c.loop-inner-2.invariant c.in_ok-truth-in-Any.ensures (alike c.in_ok-truth-in-Any.truth False c.if-ne-2.ensures)

pub returns-after-loop-inner-2 : goal.returns-after-loop-inner-2
returns-after-loop-inner-2 g t c =
    let tree : core_cond_tree c.args.cond.now ≡ AnyOf (core_conds_of (map core_cond_tree c.deref-inner-items-in-Any.result.now)) = ap core_cond_tree c.in-Any.is ∙ (fold_Any c.in-Any.conds ∙ ap (λ l. AnyOf (core_conds_of (map core_cond_tree l))) (sym c.deref-inner-items-in-Any.ensures.value)) in
    any_over c.args.buffer.now c.args.env.now c.args.self.now c.deref-inner-items-in-Any.result.now c.args.cond.now c.requires tree c.loop-inner-2.self c.loop-inner-2.inner-index c.loop-inner-2-test.false c.loop-inner-2.invariant
