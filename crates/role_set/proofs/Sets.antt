-- Finite sets of numbers, and lists.
use Rattle.std.proofs.Common.{◌≡◌, ℕ, Bool, true, false, ◌||◌, List, [], ◌∷◌, sym, subst, refl, ◌∙◌, cond}
use Rattle.std.specs.Prelude.{filter}
use Rattle.std.specs.List.Retain.{RetainsInTurn}
use Rattle.std.specs.Ordering.{nat_cmp, eq_by_cmp}
use Rattle.std.specs.Cmp.{nat_cmp_total, Equal-is}
use Rattle.std.specs.FinSet.{FinSet, contains, insert, contains-insert, same_set, nat_cmp-IsAntisymmetric, contains_tied}

-- a member added again changes nothing
pub insert_member : (s : FinSet nat_cmp) (k : ℕ) → contains s k ≡ true → s ≡ insert s k
insert_member s k has = same_set nat_cmp_total nat_cmp-IsAntisymmetric s (insert s k) (λ q. sym (contains-insert nat_cmp_total s k q ∙ go q (eq_by_cmp nat_cmp q k) refl))
  where
    go : (q : ℕ) (b : Bool) → eq_by_cmp nat_cmp q k ≡ b → (b || contains s q) ≡ contains s q
    go q true e = sym has ∙ contains_tied nat_cmp_total s q k ((Equal-is (nat_cmp q k)).0 e)
    go q false e = refl

module _ {S X : Type 0} (R : S → X → Bool → S → X → Type 0) (test : X → Bool) (s : S) (says : (x : X) (b : Bool) (t : S) (y : X) → R s x b t y → (b ≡ test x) × (t ≡ s) × (y ≡ x)) where
  -- where no call changes the closure or an element, `retain` leaves what passes the test
  pub filter_from_retain : (xs ys : List X) → RetainsInTurn R s xs ys → ys ≡ filter test xs
  filter_from_retain [] ys h = h
  filter_from_retain (x ∷ xs) ys h =
      let said = says x h.0 h.1 h.2 h.3 in
      let rest = filter_from_retain xs h.4 (subst (λ g. RetainsInTurn R g xs h.4) said.1 h.5) in
      h.6 ∙ (λ i. cond (said.0 i) (said.2 i ∷ rest i) (rest i))
