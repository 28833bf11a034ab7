use Rattle.std.proofs.Common.{Some}
use Rattle.buf_tree.specs.Shape.{num}
use Rattle.cond_eval.proofs.Finding.{finds}
use Rattle.pull_eval.proofs.loops.match_behind.Goals as goal

pub returns-in-Some-clause-learnt : goal.returns-in-Some-clause-learnt
returns-in-Some-clause-learnt g c = λ q d i j e f. finds c.args.buffer.now.rows q c.args.step.now (num d) (Some c.in-Some.place) (c.in-Some.ensures.found q d i j e f) c.in-Some.ensures.serial
