use Rattle.path_states.proofs.remembered.find_same.Goals as goal

pub returns-then-is_same-clause-same : goal.returns-then-is_same-clause-same
returns-then-is_same-clause-same c = c.is_same.ensures.same c.if-is_same.true
