use Rattle.std.proofs.Common.{subst}
use Rattle.value_pairs.specs.Taken.{TookBy}
use Rattle.value_pairs.specs.declared.compared.Compared.{Compared}
use Rattle.value_pairs.proofs.Hands.{of_equal, of_other}
use Rattle.value_pairs.proofs.compared.Compared.is_empty.Goals as goal

pub returns-in-Equal : goal.returns-in-Equal
returns-in-Equal c = λ rel vs ws took. c.is_empty.ensures vs ws (of_equal c.args.hand _ rel vs ws (subst (λ (z : Compared). TookBy c.args.hand z rel vs ws) c.in-Equal.is took)).0

pub returns-in-Other : goal.returns-in-Other
returns-in-Other c = λ rel vs ws took. c.is_empty-in-Other.ensures rel vs ws (of_other c.args.hand _ rel vs ws (subst (λ (z : Compared). TookBy c.args.hand z rel vs ws) c.in-Other.is took)).0
