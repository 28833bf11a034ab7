use Rattle.std.specs.Prelude.{option_map}
use Rattle.buf_tree.specs.Walk.{high_at}
use Rattle.cond_eval.proofs.Nexts.{PutsTo}
use Rattle.cond_eval.proofs.sets.put_reached.Given as goal

abbrev pub invariant-matches : goal.invariant-matches
invariant-matches g l = PutsTo l.buffer.rows l.place.0 l.step l.fn.found.items l.found.items l.at

abbrev pub decreases-matches : goal.decreases-matches
decreases-matches g l = high_at l.buffer.rows (option_map (λ p. p.0) l.at)
