use Rattle.std.proofs.Common.{subst}
use Rattle.value_pairs.specs.Taken.{TookBoth}
use Rattle.value_pairs.specs.declared.compared.Compared.{Compared}
use Rattle.value_pairs.proofs.compared.Compared.found.Goals as goal

pub returns-in-Other : goal.returns-in-Other
returns-in-Other c = λ rel ls rs t. let u = subst (λ (z : Compared). TookBoth z rel ls rs) c.in-Other.is t in c.found-in-Other.ensures rel ls rs u.0 u.1
