use Rattle.value_pairs.proofs.Holding.{empty_told}
use Rattle.value_pairs.proofs.shared.Shared.is_empty.Goals as goal

pub returns-in-Left : goal.returns-in-Left
returns-in-Left c = rw c.in-Left.is (λ vs ws took. empty_told c.args.self.now.left c.is_empty.result c.is_empty.ensures vs took.left)

pub returns-in-Right : goal.returns-in-Right
returns-in-Right c = rw c.in-Right.is (λ vs ws took. empty_told c.args.self.now.right c.is_empty-in-Right.result c.is_empty-in-Right.ensures vs took.right)
