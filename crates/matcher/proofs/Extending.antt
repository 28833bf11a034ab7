-- Lists that stay the same up to their old ends.
use Rattle.std.proofs.Common.{◌≡◌, ℕ, ◌≤◌, List, [], ◌∷◌, ◌++◌, length, take, drop, refl, ◌∙◌, ap, arith}
use Rattle.std.proofs.lemmas.List.{take-append-le, take_all}

module _ {X : Type 0} where
  -- the first ones stay
  pub extends_first : (xs ys us : List X) (n : ℕ) → ys ≡ xs ++ us → n ≤ length xs → take n ys ≡ take n xs
  extends_first xs ys us n e l = ap (take n) e ∙ take-append-le n xs us l

  drop_front : (xs us : List X) → drop (length xs) (xs ++ us) ≡ us
  drop_front [] us = refl
  drop_front (x ∷ xs) us = drop_front xs us

  -- the part from the old end to the new one
  pub new_part : (xs ys us : List X) (from to : ℕ) → ys ≡ xs ++ us → from ≡ length xs → to ≡ length ys → drop from (take to ys) ≡ us
  new_part xs ys us from to e f t =
      let l : length ys ≤ to = omega arith in
      ap (drop from) (take_all to ys l) ∙ (ap (λ (n : ℕ). drop n ys) f ∙ (ap (drop (length xs)) e ∙ drop_front xs us))
