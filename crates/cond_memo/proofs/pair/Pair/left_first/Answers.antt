use Rattle.std.proofs.lemmas.Result.{IfOk-weaker}
use Rattle.cond_memo.proofs.PairTruths.{keeps_both, keeps_left, left_bare, left_both, left_met}
use Rattle.cond_memo.proofs.pair.Pair.left_first.Goals as goal

pub returns-then-branch-clause-frame : goal.returns-then-branch-clause-frame
returns-then-branch-clause-frame g c = keeps_left c.args.self.now c.take_values.new.self c.take_values.new.compared c.in_ok-take_values.ensures.frame

pub returns-then-branch-clause-found : goal.returns-then-branch-clause-found
returns-then-branch-clause-found g c =
    left_met c.args.buffer.now c.args.self.now c.args.node.0 c.args.other.0 c.take_values.new.self c.take_values.new.compared (rw c.if-branch.true at c.in_ok-take_values.ensures.values)

pub returns-then-is_empty-clause-frame : goal.returns-then-is_empty-clause-frame
returns-then-is_empty-clause-frame g c = keeps_left c.args.self.now c.take_values.new.self c.take_values.new.compared c.in_ok-take_values.ensures.frame

pub returns-then-is_empty-clause-found : goal.returns-then-is_empty-clause-found
returns-then-is_empty-clause-found g c =
    left_bare c.args.buffer.now c.args.self.now c.args.node.0 c.args.other.0 c.take_values.new.self c.take_values.new.compared (rw c.if-branch.false at c.in_ok-take_values.ensures.values)
    (λ rel vs ws t. (c.is_empty.ensures rel vs ws t).0 c.if-is_empty.true)

pub take_values-requires-2-clause-may : goal.take_values-requires-2-clause-may
take_values-requires-2-clause-may g c = c.requires.right

pub take_values-requires-2-clause-fits : goal.take_values-requires-2-clause-fits
take_values-requires-2-clause-fits g c = c.requires.right_fits

pub returns-clause-frame : goal.returns-clause-frame
returns-clause-frame g c =
    IfOk-weaker c.take_values-2.result _ _ (λ b frame. keeps_both c.args.self.now c.take_values.new.self c.take_values-2.new.self c.take_values-2.new.compared c.in_ok-take_values.ensures.frame frame) c.take_values-2.ensures.frame

pub returns-clause-found : goal.returns-clause-found
returns-clause-found g c =
    IfOk-weaker c.take_values-2.result _ _
    (λ b takes. left_both c.args.buffer.now c.args.self.now c.args.node.0 c.args.other.0 c.take_values.new.self c.take_values.new.compared (rw c.if-branch.false at c.in_ok-take_values.ensures.values)
    c.take_values-2.new.self c.take_values-2.new.compared b takes)
    c.take_values-2.ensures.values
