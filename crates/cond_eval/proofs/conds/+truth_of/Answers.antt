use Rattle.std.proofs.Common.{◌≡◌, map, ap, sym, ◌∙◌, subst, arith}
use Rattle.gcx_model.specs.Core.{CondTree, AllOf, AnyOf, Not}
use Rattle.gcx_model.specs.CondView.{core_cond_tree, core_conds_of}
use Rattle.gcx_model.specs.Truth.{negate, truth}
use Rattle.gcx_model.specs.declared.cond.Cond.{the_lemmas}
use Rattle.cond_eval.specs.Asking.{Asked, Over}
use Rattle.gcx_model.specs.declared.truth.Truth.TheVariants.{True, False}
use Rattle.cond_eval.proofs.Parts.{fold_All, fold_Any, apart, alike, asked_not, all_none, all_on, all_settled, all_end, any_none, any_on, any_settled, any_end}
use Rattle.cond_eval.proofs.conds.+truth_of.Goals as goal

pub loop-inner-init : goal.loop-inner-init
loop-inner-init g t c =
    let tree : core_cond_tree c.args.cond.now ≡ AllOf (core_conds_of (map core_cond_tree c.deref-inner-items.result.now)) = ap core_cond_tree c.in-All.is ∙ (fold_All c.in-All.conds ∙ ap (λ l. AllOf (core_conds_of (map core_cond_tree l))) (sym c.deref-inner-items.ensures.value)) in
    all_none (Over c.args.buffer.now.nodes (g.L.Leaves.holds_of c.args.leaves.now)) c.args.buffer.now.rows c.args.env.now c.deref-inner-items.result.now c.args.cond.now c.requires tree

pub returns-then-ne : goal.returns-then-ne
returns-then-ne g t c =
    let tree : core_cond_tree c.args.cond.now ≡ AllOf (core_conds_of (map core_cond_tree c.deref-inner-items.result.now)) = ap core_cond_tree c.in-All.is ∙ (fold_All c.in-All.conds ∙ ap (λ l. AllOf (core_conds_of (map core_cond_tree l))) (sym c.deref-inner-items.ensures.value)) in
    all_settled (Over c.args.buffer.now.nodes (g.L.Leaves.holds_of c.args.leaves.now)) c.args.buffer.now.rows c.args.env.now c.deref-inner-items.result.now c.args.cond.now c.requires tree (Over c.args.buffer.now.nodes (g.L.Leaves.holds_of c.loop-inner.leaves)) (Over c.args.buffer.now.nodes (g.L.Leaves.holds_of c.truth_of-in-loop-inner.new.leaves)) c.loop-inner.inner-index c.inner-item.result c.in_ok-truth-in-All.truth c.loop-inner-test.true c.inner-item.is c.loop-inner.invariant c.in_ok-truth-in-All.ensures (apart c.in_ok-truth-in-All.truth True c.if-ne.ensures)

pub loop-inner-preserved : goal.loop-inner-preserved
loop-inner-preserved g t c =
    let tree : core_cond_tree c.args.cond.now ≡ AllOf (core_conds_of (map core_cond_tree c.deref-inner-items.result.now)) = ap core_cond_tree c.in-All.is ∙ (fold_All c.in-All.conds ∙ ap (λ l. AllOf (core_conds_of (map core_cond_tree l))) (sym c.deref-inner-items.ensures.value)) in
    all_on (Over c.args.buffer.now.nodes (g.L.Leaves.holds_of c.args.leaves.now)) c.args.buffer.now.rows c.args.env.now c.deref-inner-items.result.now c.args.cond.now c.requires tree (Over c.args.buffer.now.nodes (g.L.Leaves.holds_of c.loop-inner.leaves)) (Over c.args.buffer.now.nodes (g.L.Leaves.holds_of c.truth_of-in-loop-inner.new.leaves)) c.loop-inner.inner-index c.inner-item.result c.in_ok-truth-in-All.truth c.loop-inner-test.true c.inner-item.is c.loop-inner.invariant c.in_ok-truth-in-All.ensures (alike c.in_ok-truth-in-All.truth True c.if-ne.ensures)

pub returns-after-loop-inner : goal.returns-after-loop-inner
returns-after-loop-inner g t c =
    let tree : core_cond_tree c.args.cond.now ≡ AllOf (core_conds_of (map core_cond_tree c.deref-inner-items.result.now)) = ap core_cond_tree c.in-All.is ∙ (fold_All c.in-All.conds ∙ ap (λ l. AllOf (core_conds_of (map core_cond_tree l))) (sym c.deref-inner-items.ensures.value)) in
    all_end (Over c.args.buffer.now.nodes (g.L.Leaves.holds_of c.args.leaves.now)) c.args.buffer.now.rows c.args.env.now c.deref-inner-items.result.now c.args.cond.now c.requires tree (Over c.args.buffer.now.nodes (g.L.Leaves.holds_of c.loop-inner.leaves)) c.loop-inner.inner-index c.loop-inner-test.false c.loop-inner.invariant

pub loop-inner-2-init : goal.loop-inner-2-init
loop-inner-2-init g t c =
    let tree : core_cond_tree c.args.cond.now ≡ AnyOf (core_conds_of (map core_cond_tree c.deref-inner-items-in-Any.result.now)) = ap core_cond_tree c.in-Any.is ∙ (fold_Any c.in-Any.conds ∙ ap (λ l. AnyOf (core_conds_of (map core_cond_tree l))) (sym c.deref-inner-items-in-Any.ensures.value)) in
    any_none (Over c.args.buffer.now.nodes (g.L.Leaves.holds_of c.args.leaves.now)) c.args.buffer.now.rows c.args.env.now c.deref-inner-items-in-Any.result.now c.args.cond.now c.requires tree

pub returns-then-ne-2 : goal.returns-then-ne-2
returns-then-ne-2 g t c =
    let tree : core_cond_tree c.args.cond.now ≡ AnyOf (core_conds_of (map core_cond_tree c.deref-inner-items-in-Any.result.now)) = ap core_cond_tree c.in-Any.is ∙ (fold_Any c.in-Any.conds ∙ ap (λ l. AnyOf (core_conds_of (map core_cond_tree l))) (sym c.deref-inner-items-in-Any.ensures.value)) in
    any_settled (Over c.args.buffer.now.nodes (g.L.Leaves.holds_of c.args.leaves.now)) c.args.buffer.now.rows c.args.env.now c.deref-inner-items-in-Any.result.now c.args.cond.now c.requires tree (Over c.args.buffer.now.nodes (g.L.Leaves.holds_of c.loop-inner-2.leaves)) (Over c.args.buffer.now.nodes (g.L.Leaves.holds_of c.truth_of-in-loop-inner-2.new.leaves)) c.loop-inner-2.inner-index c.inner-item-in-loop-inner-2.result c.in_ok-truth-in-Any.truth c.loop-inner-2-test.true c.inner-item-in-loop-inner-2.is c.loop-inner-2.invariant c.in_ok-truth-in-Any.ensures (apart c.in_ok-truth-in-Any.truth False c.if-ne-2.ensures)

pub loop-inner-2-preserved : goal.loop-inner-2-preserved
loop-inner-2-preserved g t c =
    let tree : core_cond_tree c.args.cond.now ≡ AnyOf (core_conds_of (map core_cond_tree c.deref-inner-items-in-Any.result.now)) = ap core_cond_tree c.in-Any.is ∙ (fold_Any c.in-Any.conds ∙ ap (λ l. AnyOf (core_conds_of (map core_cond_tree l))) (sym c.deref-inner-items-in-Any.ensures.value)) in
    any_on (Over c.args.buffer.now.nodes (g.L.Leaves.holds_of c.args.leaves.now)) c.args.buffer.now.rows c.args.env.now c.deref-inner-items-in-Any.result.now c.args.cond.now c.requires tree (Over c.args.buffer.now.nodes (g.L.Leaves.holds_of c.loop-inner-2.leaves)) (Over c.args.buffer.now.nodes (g.L.Leaves.holds_of c.truth_of-in-loop-inner-2.new.leaves)) c.loop-inner-2.inner-index c.inner-item-in-loop-inner-2.result c.in_ok-truth-in-Any.truth c.loop-inner-2-test.true c.inner-item-in-loop-inner-2.is c.loop-inner-2.invariant c.in_ok-truth-in-Any.ensures (alike c.in_ok-truth-in-Any.truth False c.if-ne-2.ensures)

pub returns-after-loop-inner-2 : goal.returns-after-loop-inner-2
returns-after-loop-inner-2 g t c =
    let tree : core_cond_tree c.args.cond.now ≡ AnyOf (core_conds_of (map core_cond_tree c.deref-inner-items-in-Any.result.now)) = ap core_cond_tree c.in-Any.is ∙ (fold_Any c.in-Any.conds ∙ ap (λ l. AnyOf (core_conds_of (map core_cond_tree l))) (sym c.deref-inner-items-in-Any.ensures.value)) in
    any_end (Over c.args.buffer.now.nodes (g.L.Leaves.holds_of c.args.leaves.now)) c.args.buffer.now.rows c.args.env.now c.deref-inner-items-in-Any.result.now c.args.cond.now c.requires tree (Over c.args.buffer.now.nodes (g.L.Leaves.holds_of c.loop-inner-2.leaves)) c.loop-inner-2.inner-index c.loop-inner-2-test.false c.loop-inner-2.invariant

pub returns-in_ok-truth-in-Not : goal.returns-in_ok-truth-in-Not
returns-in_ok-truth-in-Not g t c P env s a =
    let tree : core_cond_tree c.args.cond.now ≡ Not (core_cond_tree c.deref.result.now) = grind (arith, the_lemmas) in
    let r = c.in_ok-truth-in-Not.ensures P env s (asked_not c.args.buffer.now.rows c.args.env.now P env (core_cond_tree c.deref.result.now) (subst (λ (z : CondTree). Asked c.args.buffer.now.rows c.args.env.now z P env) tree a)) in
    (c.negate.ensures ∙ (ap negate r.0 ∙ ap (λ (z : CondTree). truth z env P) (sym tree)), r.1)
