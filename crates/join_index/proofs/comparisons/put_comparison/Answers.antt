use Rattle.std.proofs.Common.{sym, subst, ◌∙◌, List}
use Rattle.gcx_model.specs.CondView.{operand_tree}
use Rattle.join_index.specs.declared.equality.Equality.{Equality}
use Rattle.join_index.specs.Equalities.{HasEquality}
use Rattle.join_index.proofs.Finding.{found_has}
use Rattle.join_index.proofs.Gathering.{already_there, made_is, none_added, one_added, rel_is}
use Rattle.join_index.proofs.comparisons.put_comparison.Goals as goal

pub returns-then-is_some-clause-all : goal.returns-then-is_some-clause-all
returns-then-is_some-clause-all c =
    already_there c.args.found.now.items c.args.rel (operand_tree c.args.left.now) (operand_tree c.args.right.now)
    (subst (λ (z : List Equality). HasEquality z (operand_tree c.args.left.now) (operand_tree c.args.right.now)) c.deref.ensures.value
    (found_has c.deref.result.now (operand_tree c.args.left.now) (operand_tree c.args.right.now) c.find.result c.find.ensures (sym c.is_some.ensures ∙ c.if-is_some.true)))

pub returns-in_ok-push-in-Some-clause-all : goal.returns-in_ok-push-in-Some-clause-all
returns-in_ok-push-in-Some-clause-all c =
    let made = made_is c.in_ok-equality.field-0 c.in-Some.equality (operand_tree c.args.left.now) (operand_tree c.args.right.now) c.in-Some.is c.in_ok-equality.ensures in
    one_added c.args.found.now.items c.push.new.self.items c.in-Some.equality c.args.rel (operand_tree c.args.left.now) (operand_tree c.args.right.now) c.in_ok-push-in-Some.ensures.items
    made.0 made.1 (rel_is c.args.rel c.if-ne.ensures)

pub returns-in_ok-push-in-Some-clause-none : goal.returns-in_ok-push-in-Some-clause-none
returns-in_ok-push-in-Some-clause-none c =
    let made = made_is c.in_ok-equality.field-0 c.in-Some.equality (operand_tree c.args.left.now) (operand_tree c.args.right.now) c.in-Some.is c.in_ok-equality.ensures in
    none_added c.args.found.now.items c.push.new.self.items c.in-Some.equality c.in_ok-push-in-Some.ensures.items made.2
