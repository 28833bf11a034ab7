use Rattle.value_pairs.proofs.Passing.{on_ok}
use Rattle.value_pairs.proofs.ends.Ends.take.Goals as goal

pub returns-in-Left : goal.returns-in-Left
returns-in-Left c = rw c.in-Left.is (on_ok c.take.result (λ spans rel vs ws took. record { relation = took.relation; left = spans vs took.left; right = took.right }) c.take.ensures)

pub returns-in-Right : goal.returns-in-Right
returns-in-Right c = rw c.in-Right.is (on_ok c.take-in-Right.result (λ spans rel vs ws took. record { relation = took.relation; left = took.left; right = spans vs took.right }) c.take-in-Right.ensures)
