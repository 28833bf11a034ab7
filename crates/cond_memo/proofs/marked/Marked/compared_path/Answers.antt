use Rattle.std.proofs.lemmas.Result.{IfOk-weaker}
use Rattle.cond_memo.proofs.MarkAgain.{asked_last, none_last, path_serves}
use Rattle.cond_memo.proofs.MarkAsks.{literal_of, path_may, path_answers}
use Rattle.cond_memo.proofs.PairAsks.{operands_answer, operands_may}
use Rattle.cond_memo.proofs.marked.Marked.compared_path.Goals as goal

pub asked-requires : goal.asked-requires
asked-requires g c =
    path_may c.args.buffer.now.rows c.args.buffer.now.nodes c.args.env.now c.args.self.now c.args.self.now c.args.var c.args.steps.now c.args.left.now c.args.right.now c.args.rel c.requires.path (literal_of c.args.right.now c.in_default.not-Path) c.requires.may

pub returns-in_default-clause-answers : goal.returns-in_default-clause-answers
returns-in_default-clause-answers g c =
    path_answers c.args.buffer.now.rows c.args.buffer.now.nodes c.args.env.now c.args.self.now c.asked.new.self c.args.var c.args.steps.now c.args.left.now c.args.right.now c.args.rel c.requires.path (literal_of c.args.right.now c.in_default.not-Path)
    c.asked.result c.asked.ensures.answers

pub returns-in_default-clause-last : goal.returns-in_default-clause-last
returns-in_default-clause-last g c =
    IfOk-weaker c.asked.result _ _
    (λ t h. asked_last c.asked.new.self c.args.var c.args.steps.now _ _ (path_serves c.args.var c.args.steps.now c.args.left.now c.args.right.now c.args.rel c.requires.path (literal_of c.args.right.now c.in_default.not-Path)) h)
    c.asked.ensures.last

pub paired-requires : goal.paired-requires
paired-requires g c =
    operands_may c.args.buffer.now c.args.env.now c.args.left.now c.args.right.now c.args.var c.in-Path.other c.args.steps.now c.in-Path.others c.requires.path c.in-Path.is c.args.rel c.args.self.now c.requires.may

pub returns-in-Path-clause-answers : goal.returns-in-Path-clause-answers
returns-in-Path-clause-answers g c =
    IfOk-weaker c.paired.result _ _
    (λ t tells. operands_answer c.args.buffer.now c.args.env.now c.args.left.now c.args.right.now c.args.var c.in-Path.other c.args.steps.now c.in-Path.others c.requires.path c.in-Path.is c.args.rel c.args.self.now c.paired.new.self t tells)
    c.paired.ensures.answers

pub returns-in-Path-clause-last : goal.returns-in-Path-clause-last
returns-in-Path-clause-last g c = IfOk-weaker c.paired.result _ _ (λ t e. none_last c.paired.new.self _ e) c.paired.ensures.last
