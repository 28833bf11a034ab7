use Rattle.std.proofs.lemmas.Result.{IfOk-weaker}
use Rattle.cond_memo.proofs.PairTruths.{keeps_itself, told_before, told_since}
use Rattle.cond_memo.proofs.pair.Pair.look.Goals as goal

pub returns-then-found-clause-frame : goal.returns-then-found-clause-frame
returns-then-found-clause-frame g c = keeps_itself c.args.self.now

pub returns-then-found-clause-found : goal.returns-then-found-clause-found
returns-then-found-clause-found g c = told_before c.args.buffer.now c.args.self.now c.args.node.0 c.args.other.0 (rw c.if-found.true at c.found.ensures)

pub returns-then-is_empty-clause-found : goal.returns-then-is_empty-clause-found
returns-then-is_empty-clause-found g c =
    IfOk-weaker c.right_first.result _ _ (λ b tells. told_since c.args.buffer.now c.args.self.now c.args.node.0 c.args.other.0 (rw c.if-found.false at c.found.ensures) c.right_first.new.self b tells) c.right_first.ensures.found

pub returns-clause-found : goal.returns-clause-found
returns-clause-found g c =
    IfOk-weaker c.left_first.result _ _ (λ b tells. told_since c.args.buffer.now c.args.self.now c.args.node.0 c.args.other.0 (rw c.if-found.false at c.found.ensures) c.left_first.new.self b tells) c.left_first.ensures.found
