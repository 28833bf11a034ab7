use Rattle.buf_tree.proofs.statements.take_all.Goals as goal

pub returns-in-Some-clause-swept : goal.returns-in-Some-clause-swept
returns-in-Some-clause-swept g c = rw c.in-Some.is c.take_spread.ensures.swept

pub returns-in-Some-clause-spread : goal.returns-in-Some-clause-spread
returns-in-Some-clause-spread g c = rw c.in-Some.is c.take_spread.ensures.spread
