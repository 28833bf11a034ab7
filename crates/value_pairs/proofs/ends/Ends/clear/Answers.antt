use Rattle.value_pairs.proofs.ends.Ends.clear.Goals as goal

pub returns-in-Left : goal.returns-in-Left
returns-in-Left c = rw c.in-Left.is (λ rel vs ws took. record { relation = took.relation; left = c.clear.ensures; right = took.right })

pub returns-in-Right : goal.returns-in-Right
returns-in-Right c = rw c.in-Right.is (λ rel vs ws took. record { relation = took.relation; left = took.left; right = c.clear-in-Right.ensures })
