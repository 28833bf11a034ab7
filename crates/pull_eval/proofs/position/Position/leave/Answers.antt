use Rattle.pull_eval.proofs.RoundEnds.{is_over}
use Rattle.pull_eval.proofs.position.Position.leave.Goals as goal

pub returns-in-None-clause-moved : goal.returns-in-None-clause-moved
returns-in-None-clause-moved g c = λ past k out b. c.go_below.ensures.moved c.args.buffer.now past k out b (is_over c.args.self.now c.args.buffer.now past k b c.in-None.is)
