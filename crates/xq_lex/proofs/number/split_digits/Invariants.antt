use Rattle.std.proofs.Common.{◌≡◌, ◌+◌, length}
use Rattle.xq_lex.specs.Numbers.{digits_at}
use Rattle.xq_lex.proofs.number.split_digits.Given as goal

abbrev pub invariant-loop-first : goal.invariant-loop-first
invariant-loop-first l = (l.len + length (digits_at l.rest) ≡ length (digits_at l.text)) × (l.len + length l.rest ≡ length l.text)

abbrev pub decreases-loop-first : goal.decreases-loop-first
decreases-loop-first l = length l.rest
