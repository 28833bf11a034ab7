use Rattle.std.proofs.Common.{ℕ, List, [], subst}
use Rattle.value_pairs.specs.Taken.{TookBy}
use Rattle.value_pairs.specs.declared.compared.Compared.{Compared}
use Rattle.value_pairs.proofs.Hands.{equal_makes, other_makes}
use Rattle.value_pairs.proofs.compared.Compared.clear.Goals as goal

pub returns-in-Equal : goal.returns-in-Equal
returns-in-Equal c = λ rel vs ws took. equal_makes c.args.hand _ _ (λ (us : List (List ℕ)). []) c.clear.ensures rel vs ws (subst (λ (z : Compared). TookBy c.args.hand z rel vs ws) c.in-Equal.is took)

pub returns-in-Other : goal.returns-in-Other
returns-in-Other c = λ rel vs ws took. other_makes c.args.hand _ _ (λ (us : List (List ℕ)). []) c.clear-in-Other.ensures rel vs ws (subst (λ (z : Compared). TookBy c.args.hand z rel vs ws) c.in-Other.is took)
