use Rattle.value_pairs.proofs.ends.Ends.is_empty.Goals as goal

pub returns-in-Left : goal.returns-in-Left
returns-in-Left c = rw c.in-Left.is (λ rel vs ws took. c.is_empty.ensures vs took.left)

pub returns-in-Right : goal.returns-in-Right
returns-in-Right c = rw c.in-Right.is (λ rel vs ws took. c.is_empty-in-Right.ensures vs took.right)
