use Rattle.pull_eval.proofs.TurnsListed.{ListsFirst}
use Rattle.pull_eval.proofs.turns.entries_of.Given as goal

abbrev pub invariant-loop-hit : goal.invariant-loop-hit
invariant-loop-hit g l = ListsFirst l.buffer.rows l.steps l.matches l.hit-index l.entries.items
