use Rattle.std.proofs.Common.{◌-◌, length}
use Rattle.pull_eval.specs.Turns.{AreByText}
use Rattle.pull_eval.proofs.TurnsByText.{Equals}
use Rattle.pull_eval.proofs.turns.put_hits.Given as goal

abbrev pub invariant-equal : goal.invariant-equal
invariant-equal l = AreByText l.entries → Equals l.entries l.value l.fn.hits.items l.hits.items l.at

abbrev pub decreases-equal : goal.decreases-equal
decreases-equal l = length l.entries - l.at
