use Rattle.std.proofs.Common.{refl}
use Rattle.pull_eval.proofs.TurnsChosen.{no_turns}
use Rattle.pull_eval.proofs.turns.Turns.new.Goals as goal

pub returns-clause-stands : goal.returns-clause-stands
returns-clause-stands c rows P = no_turns rows P _ refl
