use Rattle.buf_tree.proofs.opened.keep_roles.Goals as goal

pub keep_tops-requires-clause-own : goal.keep_tops-requires-clause-own
keep_tops-requires-clause-own g c = c.requires.own _ c.in-Some.is

pub returns-in-Some-clause-held : goal.returns-in-Some-clause-held
returns-in-Some-clause-held g c k = rw c.in-Some.is (λ p. c.keep_tops.ensures.held p k)
