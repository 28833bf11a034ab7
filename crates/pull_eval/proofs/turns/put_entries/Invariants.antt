use Rattle.pull_eval.proofs.TurnsListed.{PutsFirst}
use Rattle.pull_eval.proofs.turns.put_entries.Given as goal

abbrev pub invariant-loop-member : goal.invariant-loop-member
invariant-loop-member g l = PutsFirst l.buffer.rows l.set l.hit l.fn.entries.items l.entries.items l.member-index
