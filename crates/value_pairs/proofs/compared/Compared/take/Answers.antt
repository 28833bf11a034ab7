use Rattle.std.proofs.Common.{ℕ, List, ◌∷◌, subst}
use Rattle.value_pairs.specs.Taken.{TookBy}
use Rattle.value_pairs.specs.declared.compared.Compared.{Compared}
use Rattle.value_pairs.proofs.Hands.{equal_makes, other_makes}
use Rattle.value_pairs.proofs.Passing.{on_ok}
use Rattle.value_pairs.proofs.compared.Compared.take.Goals as goal

pub returns-in-Equal : goal.returns-in-Equal
returns-in-Equal c =
    on_ok c.take.result
    (λ makes rel vs ws took. equal_makes c.args.hand _ _ (λ (us : List (List ℕ)). c.args.value.now ∷ us) makes rel vs ws (subst (λ (z : Compared). TookBy c.args.hand z rel vs ws) c.in-Equal.is took))
    c.take.ensures

pub returns-in-Other : goal.returns-in-Other
returns-in-Other c =
    on_ok c.take-in-Other.result
    (λ makes rel vs ws took. other_makes c.args.hand _ _ (λ (us : List (List ℕ)). c.args.value.now ∷ us) makes rel vs ws (subst (λ (z : Compared). TookBy c.args.hand z rel vs ws) c.in-Other.is took))
    c.take-in-Other.ensures
