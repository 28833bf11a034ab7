use Rattle.pull_eval.proofs.TurnsChosen.{that_is}
use Rattle.pull_eval.proofs.turns.is_that.Goals as goal

pub returns-in-Some : goal.returns-in-Some
returns-in-Some c = that_is c.args.kept c.in-Some.other c.args.serial c.eq.result c.in-Some.is c.eq.ensures
