use Rattle.xq_parse.proofs.ScopeLaws.{extends_inner}
use Rattle.xq_parse.proofs.conditions.Parser.clauses.Goals as goal

pub returns-clause-scope : goal.returns-clause-scope
returns-clause-scope c = extends_inner _ _ _ _ c.loop-self.invariant.scope c.in_ok-first.ensures.scope
