use Rattle.std.proofs.lemmas.Result.{IfOk-weaker}
use Rattle.cond_memo.proofs.MarkAgain.{asked_last, exists_serves}
use Rattle.cond_memo.proofs.MarkAsks.{leaf_may, leaf_answers}
use Rattle.cond_memo.proofs.marked.MarkedLeaves.leaf.Goals as goal

pub asked-requires : goal.asked-requires
asked-requires g c =
    leaf_may c.args.buffer.now.rows c.args.buffer.now.nodes c.args.env.now c.args.self.now c.args.self.now c.in-Exists.var c.in-Exists.steps c.args.cond.now c.in-Exists.is c.requires.asked

pub returns-in-Exists-clause-answers : goal.returns-in-Exists-clause-answers
returns-in-Exists-clause-answers g c =
    leaf_answers c.args.buffer.now.rows c.args.buffer.now.nodes c.args.env.now c.args.self.now c.asked.new.self c.in-Exists.var c.in-Exists.steps c.args.cond.now c.in-Exists.is c.asked.result c.asked.ensures.answers

pub returns-in-Exists-clause-last : goal.returns-in-Exists-clause-last
returns-in-Exists-clause-last g c =
    IfOk-weaker c.asked.result _ _
    (λ t h. asked_last c.asked.new.self c.in-Exists.var c.in-Exists.steps _ _ (exists_serves c.in-Exists.var c.in-Exists.steps c.args.cond.now c.in-Exists.is) h)
    c.asked.ensures.last
