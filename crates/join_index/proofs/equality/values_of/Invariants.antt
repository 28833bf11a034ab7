use Rattle.join_index.proofs.Reading.{ValuesOf}
use Rattle.join_index.proofs.equality.values_of.Given as goal

abbrev pub invariant-loop-member : goal.invariant-loop-member
invariant-loop-member g l = ValuesOf l.buffer.rows l.set l.member-index l.texts.items
