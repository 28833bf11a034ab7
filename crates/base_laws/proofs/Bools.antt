-- Truth values.
use Rattle.std.proofs.Common.{◌≡◌, Bool, true, false, refl, sym}

-- two that follow from each other are the same
pub same_bools : (a b : Bool) → (a ≡ true → b ≡ true) → (b ≡ true → a ≡ true) → a ≡ b
same_bools true b f g = sym (f refl)
same_bools false true f g = g refl
same_bools false false f g = refl
