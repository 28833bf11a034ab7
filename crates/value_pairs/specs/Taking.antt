-- Which values a comparison other than an equality took (this project's).
use Rattle.std.specs.Prelude.{◌≡◌, ℕ, List}
use Rattle.gcx_base.specs.declared.rel.Rel.{Rel}
use Rattle.value_pairs.specs.Extremes.{Spans}
use Rattle.value_pairs.specs.declared.hand.Hand.{Hand}
use Rattle.value_pairs.specs.declared.hand.Hand.TheVariants.{Left, Right}
use Rattle.value_pairs.specs.declared.ends.Ends.{Ends}

-- it is for this relation, and these values of the left side and of the right side were taken
pub record EndsOf (c : Ends) (rel : Rel) (ls rs : List (List ℕ)) : Type 0 where
  pub relation : c.rel ≡ rel
  pub left : Spans c.left ls
  pub right : Spans c.right rs

-- it is for this relation, and these values of one side and of the other side were taken
abbrev pub EndsOfHand : Hand → Ends → Rel → (these others : List (List ℕ)) → Type 0
EndsOfHand Left c rel vs ws = EndsOf c rel vs ws
EndsOfHand Right c rel vs ws = EndsOf c rel ws vs
