use Rattle.pull_eval.specs.Turns.{AreByText}
use Rattle.pull_eval.proofs.TurnsByText.{HitsFirst}
use Rattle.pull_eval.proofs.turns.hits_of.Given as goal

abbrev pub invariant-loop-member : goal.invariant-loop-member
invariant-loop-member g l = AreByText l.entries → HitsFirst l.buffer.rows l.set l.entries l.member-index l.hits.items
