use Rattle.std.proofs.Common.{◌-◌, length}
use Rattle.xq_lex.proofs.LexLaws.{ReadsTo}
use Rattle.xq_lex.proofs.lexer.tokens_of.Given as goal

abbrev pub invariant-loop-tokens : goal.invariant-loop-tokens
invariant-loop-tokens l = ReadsTo l.text l.tokens l.count l.place

abbrev pub decreases-loop-tokens : goal.decreases-loop-tokens
decreases-loop-tokens l = length l.text - l.count
