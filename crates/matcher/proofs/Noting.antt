-- Contexts that get a match.
use Rattle.std.proofs.Common.{◌≡◌, ℕ, zero, suc, ◌+◌, ◌<◌, List, [], ◌∷◌, ◌++◌, length, take, set, get_or, refl, sym, ◌∙◌, ap, subst, inl, inr, ◌⊎◌, arith, Some}
use Rattle.std.specs.Prelude.{slice_get}
use Rattle.std.proofs.lemmas.List.{take_more}
use Rattle.std.proofs.Math.ListN.{length-set}
use Rattle.tree_laws.proofs.Lists.{In, In-left, In-right, In-append}
use Rattle.path_states.specs.Lists.{From}
use Rattle.matcher.specs.Parts.{IsOpen}
use Rattle.matcher.specs.Stacks.{Noted, OpenAt}
use Rattle.matcher.specs.declared.frames.Context.{Context}
use Rattle.path_states.proofs.Looking.{one_at}

module _ {X : Type 0} where
  set_at : (xs : List X) (i c : ℕ) (x y : X) → slice_get (set xs i x) c ≡ Some y → ((c ≡ i) × (y ≡ x)) ⊎ ((c ≡ i → ⊥) × (slice_get xs c ≡ Some y))
  set_at [] i c x y e = absurd (cc)
  set_at (w ∷ ws) zero zero x y e = let f : y ≡ x = cc in inl (refl, f)
  set_at (w ∷ ws) zero (suc c) x y e = inr (λ f. absurd (omega arith), e)
  set_at (w ∷ ws) (suc i) zero x y e = inr (λ f. absurd (omega arith), e)
  set_at (w ∷ ws) (suc i) (suc c) x y e = elim (set_at ws i c x y e) [
    | inl p ↦ inl (ap suc p.0, p.1)
    | inr p ↦ inr ((λ f. let g : c ≡ i = omega arith in p.0 g), p.1)
  ]

  set_here : (xs : List X) (i : ℕ) (x y : X) → slice_get xs i ≡ Some y → slice_get (set xs i x) i ≡ Some x
  set_here [] i x y e = absurd (cc)
  set_here (w ∷ ws) zero x y e = refl
  set_here (w ∷ ws) (suc i) x y e = set_here ws i x y e

  set_other : (xs : List X) (i c : ℕ) (x y : X) → (c ≡ i → ⊥) → slice_get xs c ≡ Some y → slice_get (set xs i x) c ≡ Some y
  set_other [] i c x y d e = absurd (cc)
  set_other (w ∷ ws) zero zero x y d e = absurd (d refl)
  set_other (w ∷ ws) zero (suc c) x y d e = e
  set_other (w ∷ ws) (suc i) zero x y d e = e
  set_other (w ∷ ws) (suc i) (suc c) x y d e = set_other ws i c x y (λ f. d (ap suc f)) e

pub noted_none : (xs : List Context) (Q : ℕ → ℕ → Type 0) → ((i r : ℕ) → OpenAt xs i r → Q i r → ⊥) → Noted xs xs Q
noted_none xs Q h = record { as_many = refl; has = λ i r. ((λ o. (o, h i r o)), (λ p. p.0)) }

pub noted_two : (xs ys zs : List Context) (Q R : ℕ → ℕ → Type 0) → Noted xs ys Q → Noted ys zs R → Noted xs zs (λ i r. Q i r ⊎ R i r)
noted_two xs ys zs Q R g h = record {
  as_many = h.as_many ∙ g.as_many;
  has = λ i r. (
    (λ o. (let a = (h.has i r).0 o in let b = (g.has i r).0 a.0 in (b.0, λ s. elim s [ inl q ↦ b.1 q | inr q ↦ a.1 q ]))),
    (λ p. (h.has i r).1 ((g.has i r).1 (p.0, λ q. p.1 (inl q)), λ q. p.1 (inr q))),
  );
}

pub noted_as : (xs ys : List Context) (Q R : ℕ → ℕ → Type 0) → ((i r : ℕ) → Q i r → R i r) → ((i r : ℕ) → R i r → Q i r) → Noted xs ys Q → Noted xs ys R
noted_as xs ys Q R f g h = record {
  as_many = h.as_many;
  has = λ i r. (
    (λ o. (let a = (h.has i r).0 o in (a.0, λ q. a.1 (g i r q)))),
    (λ p. (h.has i r).1 (p.0, λ q. p.1 (f i r q))),
  );
}

-- one context
pub noted_set : (xs ys : List Context) (i role : ℕ) (before now : Context) → slice_get xs i ≡ Some before → ys ≡ set xs i now
    → ((r : ℕ) → IsOpen r now → IsOpen r before × (role ≡ r → ⊥)) → ((r : ℕ) → IsOpen r before × (role ≡ r → ⊥) → IsOpen r now) → Noted xs ys (λ j r. (i ≡ j) × (role ≡ r))
noted_set xs ys i role before now at e to from = record {
  as_many = ap length e ∙ length-set xs i now;
  has = λ j r. (
    (λ o. elim (set_at xs i j now o.context (subst (λ (z : List Context). slice_get z j ≡ Some o.context) e o.at)) [
      | inl p ↦ (
          let a = to r (subst (λ (z : Context). IsOpen r z) p.1 o.is) in
          (record { context = before; at = subst (λ (z : ℕ). slice_get xs z ≡ Some before) (sym p.0) at; is = a.0 }, λ q. a.1 q.1))
      | inr p ↦ (record { context = o.context; at = p.1; is = o.is }, λ q. p.0 (sym q.0))
    ]),
    (λ p. back j r p.0 p.1 (same_or i j)),
  );
}
  where
    same_or : (a b : ℕ) → (a ≡ b) ⊎ (a ≡ b → ⊥)
    same_or zero zero = inl refl
    same_or zero (suc b) = inr (λ f. omega arith)
    same_or (suc a) zero = inr (λ f. omega arith)
    same_or (suc a) (suc b) = elim (same_or a b) [ inl f ↦ inl (ap suc f) | inr d ↦ inr (λ f. let g : a ≡ b = omega arith in d g) ]

    back : (j r : ℕ) (o : OpenAt xs j r) → ((i ≡ j) × (role ≡ r) → ⊥) → (i ≡ j) ⊎ (i ≡ j → ⊥) → OpenAt ys j r
    back j r o d (inl f) =
        let g : slice_get xs i ≡ Some o.context = subst (λ (z : ℕ). slice_get xs z ≡ Some o.context) (sym f) o.at in
        let same : o.context ≡ before = one_at xs i o.context before g at in
        record {
          context = now;
          at = subst (λ (z : ℕ). slice_get ys z ≡ Some now) f (subst (λ (z : List Context). slice_get z i ≡ Some now) (sym e) (set_here xs i now before at));
          is = from r (subst (λ (z : Context). IsOpen r z) same o.is, λ q. d (f, q));
        }
    back j r o d (inr n) = record {
      context = o.context;
      at = subst (λ (z : List Context). slice_get z j ≡ Some o.context) (sym e) (set_other xs i j now o.context (λ f. n (sym f)) o.at);
      is = o.is;
    }

-- what comes from the first i of a list, and from the next one
module _ {X : Type 0} (us : List X) (R : X → ℕ → Type 0) (i : ℕ) (x : X) (d : X) (l : i < length us) (e : x ≡ get_or us i d) where
  abbrev front : List X
  front = take (i + 1) us

  front_is : front ≡ take i us ++ x ∷ []
  front_is = take_more us i d l ∙ ap (λ (z : X). take i us ++ z ∷ []) (sym e)

  pub from_more : (y : ℕ) → From (take i us) R y ⊎ R x y → From (take (i + 1) us) R y
  from_more y (inl f) = record { of = f.of; member = subst (λ (z : List X). In f.of z) (sym front_is) (In-left f.of (take i us) (x ∷ []) f.member); is = f.is }
  from_more y (inr r) = record { of = x; member = subst (λ (z : List X). In x z) (sym front_is) (In-right x (take i us) (x ∷ []) (inl refl)); is = r }

  pub more_from : (y : ℕ) → From (take (i + 1) us) R y → From (take i us) R y ⊎ R x y
  more_from y f = elim (In-append f.of (take i us) (x ∷ []) (subst (λ (z : List X). In f.of z) front_is f.member)) [
    | inl j ↦ inl (record { of = f.of; member = j; is = f.is })
    | inr j ↦ elim j [ inl d ↦ inr (subst (λ (z : X). R z y) (sym d) f.is) | inr b ↦ absurd b ]
  ]
