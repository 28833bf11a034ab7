use Rattle.std.proofs.lemmas.Result.{IfOk-weaker}
use Rattle.join_index.proofs.Others.{exists_tells}
use Rattle.join_index.proofs.indexed.IndexedConds.truth.Goals as goal

pub returns-in-Exists-clause-answers : goal.returns-in-Exists-clause-answers
returns-in-Exists-clause-answers g c =
    IfOk-weaker c.by_marks.result _ _
    (λ t told. (exists_tells c.args.buffer.now c.args.env.now c.args.self.now c.args.cond.now c.in-Exists.var c.in-Exists.steps c.in-Exists.is c.by_marks.new.self t told).answers)
    c.by_marks.ensures.tells

pub returns-in-Exists-clause-goes : goal.returns-in-Exists-clause-goes
returns-in-Exists-clause-goes g c =
    IfOk-weaker c.by_marks.result _ _
    (λ t told. (exists_tells c.args.buffer.now c.args.env.now c.args.self.now c.args.cond.now c.in-Exists.var c.in-Exists.steps c.in-Exists.is c.by_marks.new.self t told).goes)
    c.by_marks.ensures.tells
