use Rattle.outside.proofs.takes.RefMutTakesTokens.take.Goals as goal

pub returns-clause-order : goal.returns-clause-order
returns-clause-order g c = λ none given s come base f o. let r = c.take.ensures.order none given s come base f (record { x = o.x; since = o.since; is = o.is }) in record { x = r.x; since = r.since; is = r.is }
