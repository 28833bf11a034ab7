-- Which values an equality took (this project's).
use Rattle.std.specs.Prelude.{◌≡◌, ◌↔◌, ℕ, true, List}
use Rattle.gcx_base.specs.declared.rel.Rel.TheVariants.{Eq}
use Rattle.gcx_model.specs.Members.{In}
use Rattle.value_pairs.specs.Pairs.{SomePair}
use Rattle.value_pairs.specs.Sets.{values_in}
use Rattle.value_pairs.specs.declared.hand.Hand.{Hand}
use Rattle.value_pairs.specs.declared.hand.Hand.TheVariants.{Left, Right}
use Rattle.value_pairs.specs.declared.shared.Shared.{Shared}

-- these values of the left side and of the right side were taken
pub record SharedOf (s : Shared) (ls rs : List (List ℕ)) : Type 0 where
  pub left : (v : List ℕ) → In v (values_in s.left) ↔ In v ls
  pub right : (v : List ℕ) → In v (values_in s.right) ↔ In v rs
  pub found : s.found ≡ true ↔ SomePair Eq ls rs

-- these values of one side and of the other side were taken
abbrev pub SharedOfHand : Hand → Shared → (these others : List (List ℕ)) → Type 0
SharedOfHand Left s vs ws = SharedOf s vs ws
SharedOfHand Right s vs ws = SharedOf s ws vs
