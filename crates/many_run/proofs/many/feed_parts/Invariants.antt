use Rattle.std.proofs.Common.{◌-◌, length}
use Rattle.run_part.specs.Late.{said_lent}
use Rattle.run_part.specs.Part.{PartTakes}
use Rattle.many_run.proofs.Walking.{Walked}
use Rattle.many_run.proofs.many.feed_parts.Given as goal

abbrev pub invariant-parts : goal.invariant-parts
invariant-parts g l = Walked (λ p q. PartTakes g.C.Conds.stands p q (said_lent l.bytes l.tokens)) l.fn.parts.items l.parts.items l.index

abbrev pub decreases-parts : goal.decreases-parts
decreases-parts g l = length l.parts.items - l.index
