use Rattle.outside.proofs.takes.RefMutTakesTokens.write_out.Goals as goal

pub returns-clause-order : goal.returns-clause-order
returns-clause-order g c = λ none given s base f o. let r = c.write_out.ensures.order none given s base f (record { x = o.x; since = o.since; is = o.is }) in record { x = r.x; since = r.since; is = r.is }
