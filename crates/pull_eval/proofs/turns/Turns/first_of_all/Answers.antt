use Rattle.std.proofs.Common.{refl}
use Rattle.pull_eval.proofs.TurnsChosen.{first_leap, no_first}
use Rattle.pull_eval.proofs.turns.Turns.first_of_all.Goals as goal

pub returns-in-Some : goal.returns-in-Some
returns-in-Some c rows P a l = first_leap rows P c.args.self.now a l c.in-Some.hit c.in-Some.is _ refl

pub returns-in-None : goal.returns-in-None
returns-in-None c rows P a l = no_first rows P c.args.self.now a l c.in-None.is
