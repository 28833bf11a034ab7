-- Which values a comparison took, whatever its relation (this project's).
use Rattle.std.specs.Prelude.{◌≡◌, ℕ, List}
use Rattle.gcx_base.specs.declared.rel.Rel.{Rel}
use Rattle.gcx_base.specs.declared.rel.Rel.TheVariants.{Eq}
use Rattle.value_pairs.specs.Taking.{EndsOf}
use Rattle.value_pairs.specs.Sharing.{SharedOf}
use Rattle.value_pairs.specs.declared.hand.Hand.{Hand}
use Rattle.value_pairs.specs.declared.hand.Hand.TheVariants.{Left, Right}
use Rattle.value_pairs.specs.declared.compared.Compared.{Compared}
use Rattle.value_pairs.specs.declared.compared.Compared.TheVariants as form

-- it is for this relation, and these values of the left side and of the right side were taken
abbrev pub TookBoth : Compared → Rel → (ls rs : List (List ℕ)) → Type 0
TookBoth (form.Other e) rel ls rs = EndsOf e rel ls rs × (rel ≡ Eq → ⊥)
TookBoth (form.Equal s) rel ls rs = SharedOf s ls rs × (rel ≡ Eq)

-- it is for this relation, and these values of one side and of the other side were taken
abbrev pub TookBy : Hand → Compared → Rel → (these others : List (List ℕ)) → Type 0
TookBy Left c rel vs ws = TookBoth c rel vs ws
TookBy Right c rel vs ws = TookBoth c rel ws vs
