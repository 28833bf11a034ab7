use Rattle.std.specs.Prelude.{option_map, IsUtf8}
use Rattle.buf_tree.specs.Walk.{high_at}
use Rattle.cond_eval.proofs.Texts.{GathersTo}
use Rattle.cond_eval.proofs.values.gather.Given as goal

abbrev pub invariant-texts : goal.invariant-texts
invariant-texts g l = GathersTo l.buffer.rows l.place.0 l.step l.room.items l.at × IsUtf8 l.room.items

abbrev pub decreases-texts : goal.decreases-texts
decreases-texts g l = high_at l.buffer.rows (option_map (λ p. p.0) l.at)
