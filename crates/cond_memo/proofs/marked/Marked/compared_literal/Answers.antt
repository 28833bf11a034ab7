use Rattle.std.proofs.lemmas.Result.{IfOk-weaker}
use Rattle.cond_memo.proofs.MarkAgain.{asked_last, literal_serves}
use Rattle.cond_memo.proofs.MarkAsks.{literal_may, literal_answers}
use Rattle.cond_memo.proofs.marked.Marked.compared_literal.Goals as goal

pub asked-requires : goal.asked-requires
asked-requires g c =
    literal_may c.args.buffer.now.rows c.args.buffer.now.nodes c.args.env.now c.args.self.now c.args.self.now c.in-Path.var c.in-Path.steps c.args.left.now c.args.right.now c.args.rel c.flipped.result c.in-Path.is c.requires.literal c.requires.may

pub returns-in-Path-clause-answers : goal.returns-in-Path-clause-answers
returns-in-Path-clause-answers g c =
    literal_answers c.args.buffer.now.rows c.args.buffer.now.nodes c.args.env.now c.args.self.now c.asked.new.self c.in-Path.var c.in-Path.steps c.args.left.now c.args.right.now c.args.rel c.flipped.result c.in-Path.is c.requires.literal c.flipped.ensures
    c.asked.result c.asked.ensures.answers

pub returns-in-Path-clause-last : goal.returns-in-Path-clause-last
returns-in-Path-clause-last g c =
    IfOk-weaker c.asked.result _ _
    (λ t h. asked_last c.asked.new.self c.in-Path.var c.in-Path.steps _ _ (literal_serves c.in-Path.var c.in-Path.steps c.args.left.now c.args.right.now c.args.rel c.flipped.result c.in-Path.is c.requires.literal c.flipped.ensures) h)
    c.asked.ensures.last
