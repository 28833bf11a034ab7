use Rattle.std.proofs.Common.{inl, inr}
use Rattle.join_index.proofs.Others.{literals_none}
use Rattle.join_index.proofs.comparisons.is_other.Goals as goal

pub returns-then-is_literal : goal.returns-then-is_literal
returns-then-is_literal c e = literals_none c.args.left.now c.args.rel c.args.right.now (inl (c.is_literal.ensures c.if-is_literal.true))

pub returns-then-is_literal-2 : goal.returns-then-is_literal-2
returns-then-is_literal-2 c e = literals_none c.args.left.now c.args.rel c.args.right.now (inr (c.is_literal-2.ensures c.if-is_literal-2.true))
