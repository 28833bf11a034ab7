use Rattle.std.proofs.Common.{◌≡◌, List, ap, arith, rules, subst, sym}
use Rattle.gcx_model.specs.declared.cond.Cond.{the_lemmas}
use Rattle.gcx_model.specs.Core.{CondTree, Not, RoleRowTree}
use Rattle.gcx_model.specs.CondView.{core_cond_tree, operand_tree}
use Rattle.gcx_model.specs.Roles.{cond_rows, operand_rows}
use Rattle.pull_eval.specs.Guards.{EachAsked, IsBoundBelow, IsClosedBelow}
use Rattle.pull_eval.proofs.Guarding.{all_rows, asked_all, asked_both, asked_more, compare_rows, exists_asked, exists_told, member_asked, member_weighs, weigh_cond}
use Rattle.pull_eval.proofs.guard.+is_cond_settled.Goals as goal

pub is_closed-requires : goal.is_closed-requires
is_closed-requires g t c = exists_asked (IsBoundBelow c.args.buffer.now.rows c.args.env.now c.args.var.0) c.args.cond.now c.in-Exists.from c.in-Exists.steps c.in-Exists.is c.requires

pub returns-in-Exists : goal.returns-in-Exists
returns-in-Exists g t c = λ e. exists_told (IsClosedBelow c.args.buffer.now.rows c.args.env.now c.args.var.0) c.args.cond.now c.in-Exists.from c.in-Exists.steps c.in-Exists.is (c.is_closed.ensures e)

pub returns-then-is_operand_settled : goal.returns-then-is_operand_settled
returns-then-is_operand_settled g t c = λ e.
    subst (λ (z : List RoleRowTree). EachAsked (IsClosedBelow c.args.buffer.now.rows c.args.env.now c.args.var.0) z)
    (sym (compare_rows c.args.cond.now c.in-Compare.left c.in-Compare.right c.in-Compare.rel c.in-Compare.is))
    (asked_both (IsClosedBelow c.args.buffer.now.rows c.args.env.now c.args.var.0) (operand_rows (operand_tree c.in-Compare.left)) (operand_rows (operand_tree c.in-Compare.right))
    (c.is_operand_settled.ensures c.if-is_operand_settled.true) (c.is_operand_settled-then-is_operand_settled.ensures e))

pub is_cond_settled-requires : goal.is_cond_settled-requires
is_cond_settled-requires g t c κs within =
    let tree : core_cond_tree c.args.cond.now ≡ Not (core_cond_tree c.deref.result.now) = grind (arith, the_lemmas) in
    let h : EachAsked (IsBoundBelow c.args.buffer.now.rows c.args.env.now c.args.var.0) (cond_rows (core_cond_tree c.deref.result.now)) =
    subst (λ (z : CondTree). EachAsked (IsBoundBelow c.args.buffer.now.rows c.args.env.now c.args.var.0) (cond_rows z)) tree c.requires in
    let w = ap weigh_cond tree in
    let d = c.decreases in
    (omega (arith, w, d), search (rules, within, h))

pub returns-in-Not : goal.returns-in-Not
returns-in-Not g t c = λ e.
    let tree : core_cond_tree c.args.cond.now ≡ Not (core_cond_tree c.deref.result.now) = grind (arith, the_lemmas) in
    subst (λ (z : CondTree). EachAsked (IsClosedBelow c.args.buffer.now.rows c.args.env.now c.args.var.0) (cond_rows z)) (sym tree) (c.is_cond_settled.ensures e)

pub is_cond_settled-requires-in-loop-inner : goal.is_cond_settled-requires-in-loop-inner
is_cond_settled-requires-in-loop-inner g t c κs within =
    let h = member_asked (IsBoundBelow c.args.buffer.now.rows c.args.env.now c.args.var.0) c.args.cond.now c.in-All.conds c.items-inner-items.result.now c.loop-inner.inner-index c.inner-item.result c.in-All.is c.items-inner-items.ensures.trees
    c.loop-inner-test.true c.inner-item.is c.requires in
    let w = member_weighs c.args.cond.now c.in-All.conds c.items-inner-items.result.now c.loop-inner.inner-index c.inner-item.result c.in-All.is c.items-inner-items.ensures.trees c.loop-inner-test.true c.inner-item.is in
    let d = c.decreases in
    (omega (arith, w, d), search (rules, within, h))

pub loop-inner-preserved : goal.loop-inner-preserved
loop-inner-preserved g t c =
    asked_more (IsClosedBelow c.args.buffer.now.rows c.args.env.now c.args.var.0) c.items-inner-items.result.now c.loop-inner.inner-index c.inner-item.result c.loop-inner-test.true c.inner-item.is c.loop-inner.invariant
    (c.is_cond_settled-in-loop-inner.ensures c.if-not-is_cond_settled.false)

pub returns-after-loop-inner : goal.returns-after-loop-inner
returns-after-loop-inner g t c = λ e.
    subst (λ (z : List RoleRowTree). EachAsked (IsClosedBelow c.args.buffer.now.rows c.args.env.now c.args.var.0) z)
    (sym (all_rows c.args.cond.now c.in-All.conds c.items-inner-items.result.now c.in-All.is c.items-inner-items.ensures.trees))
    (asked_all (IsClosedBelow c.args.buffer.now.rows c.args.env.now c.args.var.0) c.items-inner-items.result.now c.loop-inner.inner-index c.loop-inner-test.false c.loop-inner.invariant)
