use Rattle.std.proofs.Common.{◌≡◌, ◌+◌, length}
use Rattle.xq_lex.specs.Names.{parts_at}
use Rattle.xq_lex.proofs.name.parts_at.Given as goal

abbrev pub invariant-loop-first : goal.invariant-loop-first
invariant-loop-first l = (l.len + length (parts_at l.rest) ≡ length (parts_at l.text)) × (l.len + length l.rest ≡ length l.text)

abbrev pub decreases-loop-first : goal.decreases-loop-first
decreases-loop-first l = length l.rest
