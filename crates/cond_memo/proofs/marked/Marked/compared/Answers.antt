use Rattle.cond_memo.proofs.MarkAsks.{literal_of}
use Rattle.cond_memo.proofs.marked.Marked.compared.Goals as goal

pub compared_literal-requires-clause-literal : goal.compared_literal-requires-clause-literal
compared_literal-requires-clause-literal g c = literal_of c.args.left.now c.in_default.not-Path
