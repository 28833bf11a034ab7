-- Lists that gain members, one by one.
use Rattle.std.proofs.Common.{◌≡◌, ℕ, zero, suc, ◌+◌, ◌<◌, ◌≤◌, true, false, List, [], ◌∷◌, ◌++◌, length, take, drop, get_or, refl, sym, ◌∙◌, ap, subst, inl, inr, ◌⊎◌, arith, eqb}
use Rattle.std.specs.List.{list_any, insert}
use Rattle.std.proofs.lemmas.Bool.{or_cases, or_left, or_right, false≢true, eqb-true, eq-eqb}
use Rattle.std.proofs.lemmas.List.{take_more, take_all, take-append-drop, get_or_default}
use Rattle.tree_laws.proofs.Lists.{In, In-left, In-right, In-append}
use Rattle.path_states.specs.Lists.{From, Gains, Holds}

module _ {Y : Type 0} where
  pub gains_none : (xs : List Y) (Q : Y → Type 0) → ((y : Y) → Q y → ⊥) → Gains xs xs Q
  gains_none xs Q no_one = record { has = λ y. (λ i. inl i, λ h. elim h [ inl i ↦ i | inr q ↦ absurd (no_one y q) ]) }

  pub gains_push : (xs ys : List Y) (x : Y) (Q : Y → Type 0) → ys ≡ xs ++ x ∷ [] → Q x → ((y : Y) → Q y → x ≡ y) → Gains xs ys Q
  gains_push xs ys x Q e q one = record {
    has = λ y. (
      (λ i. elim (In-append y xs (x ∷ []) (subst (λ (z : List Y). In y z) e i)) [
        | inl j ↦ inl j
        | inr j ↦ elim j [ inl f ↦ inr (subst Q f q) | inr k ↦ absurd k ]
      ]),
      (λ h. subst (λ (z : List Y). In y z) (sym e) (elim h [ inl i ↦ In-left y xs (x ∷ []) i | inr r ↦ In-right y xs (x ∷ []) (inl (one y r)) ])),
    );
  }

  pub gains_same : (xs ys zs : List Y) (Q : Y → Type 0) → ys ≡ zs → Gains xs ys Q → Gains xs zs Q
  gains_same xs ys zs Q e g = subst (λ (z : List Y). Gains xs z Q) e g

  pub gains_as : (xs ys : List Y) (Q R : Y → Type 0) → ((y : Y) → Q y → R y) → ((y : Y) → R y → Q y) → Gains xs ys Q → Gains xs ys R
  gains_as xs ys Q R f g h = record {
    has = λ y. (
      (λ i. elim ((h.has y).0 i) [ inl j ↦ inl j | inr q ↦ inr (f y q) ]),
      (λ s. (h.has y).1 (elim s [ inl j ↦ inl j | inr q ↦ inr (g y q) ])),
    );
  }

  pub gains_insert : (xs ys : List Y) (i : ℕ) (x : Y) → ys ≡ insert xs i x → Gains xs ys (λ y. x ≡ y)
  gains_insert xs ys i x e =
      let t = take-append-drop i xs in
      record {
        has = λ y. (
          (λ j. elim (In-append y (take i xs) (x ∷ drop i xs) (subst (λ (z : List Y). In y z) e j)) [
            | inl k ↦ inl (subst (λ (z : List Y). In y z) t (In-left y (take i xs) (drop i xs) k))
            | inr k ↦ elim k [ inl f ↦ inr f | inr m ↦ inl (subst (λ (z : List Y). In y z) t (In-right y (take i xs) (drop i xs) m)) ]
          ]),
          (λ h. subst (λ (z : List Y). In y z) (sym e) (elim h [
            | inl j ↦ elim (In-append y (take i xs) (drop i xs) (subst (λ (z : List Y). In y z) (sym t) j)) [
              | inl k ↦ In-left y (take i xs) (x ∷ drop i xs) k
              | inr k ↦ In-right y (take i xs) (x ∷ drop i xs) (inr k)
            ]
            | inr f ↦ In-right y (take i xs) (x ∷ drop i xs) (inl f)
          ])),
        );
      }

  pub in_get : (xs : List Y) (i : ℕ) (d : Y) → i < length xs → In (get_or xs i d) xs
  in_get [] i d l = absurd (omega arith)
  in_get (x ∷ xs) zero d l = inl refl
  in_get (x ∷ xs) (suc i) d l = let m : i < length xs = omega arith in inr (in_get xs i d m)

  pub in_more : (xs : List Y) (i : ℕ) (d y : Y) → i < length xs → In y (take (i + 1) xs) → In y (take i xs) ⊎ (get_or xs i d ≡ y)
  in_more xs i d y l j = elim (In-append y (take i xs) (get_or xs i d ∷ []) (subst (λ (z : List Y). In y z) (take_more xs i d l) j)) [ inl k ↦ inl k | inr k ↦ elim k [ inl e ↦ inr e | inr b ↦ absurd b ] ]

  -- two gains, one behind the other
  pub gains_two : (xs ys zs : List Y) (Q R : Y → Type 0) → Gains xs ys Q → Gains ys zs R → Gains xs zs (λ y. Q y ⊎ R y)
  gains_two xs ys zs Q R g h = record {
    has = λ y. (
      (λ i. elim ((h.has y).0 i) [
        | inl j ↦ elim ((g.has y).0 j) [ inl k ↦ inl k | inr q ↦ inr (inl q) ]
        | inr r ↦ inr (inr r)
      ]),
      (λ s. (h.has y).1 (elim s [
        | inl k ↦ inl ((g.has y).1 (inl k))
        | inr t ↦ elim t [ inl q ↦ inl ((g.has y).1 (inr q)) | inr r ↦ inr r ]
      ])),
    );
  }

  pub holds_as : (ys : List Y) (Q R : Y → Type 0) → ((y : Y) → Q y → R y) → ((y : Y) → R y → Q y) → Holds ys Q → Holds ys R
  holds_as ys Q R f g h = record { has = λ y. ((λ i. f y ((h.has y).0 i)), (λ r. (h.has y).1 (g y r))) }

  pub holds_from : (ys : List Y) (Q : Y → Type 0) → Gains [] ys Q → Holds ys Q
  holds_from ys Q g = record { has = λ y. ((λ i. elim ((g.has y).0 i) [ inl j ↦ absurd j | inr q ↦ q ]), (λ q. (g.has y).1 (inr q))) }

module _ {X Y : Type 0} where
  -- at the start of a loop
  pub gains_start : (xs : List Y) (R : X → Y → Type 0) → Gains xs xs (From [] R)
  gains_start xs R = gains_none xs (From [] R) (λ y f. absurd f.member)

  -- behind the member i
  pub gains_more : (xs ys zs : List Y) (us : List X) (R : X → Y → Type 0) (i : ℕ) (x : X) → i < length us → x ≡ get_or us i x → Gains xs ys (From (take i us) R) → Gains ys zs (R x) → Gains xs zs (From (take (i + 1) us) R)
  gains_more xs ys zs us R i x l e g h = record {
    has = λ y. (
      (λ j. elim ((h.has y).0 j) [
        | inl k ↦ elim ((g.has y).0 k) [
          | inl m ↦ inl m
          | inr f ↦ inr (record { of = f.of; member = subst (λ (z : List X). In f.of z) (sym t) (In-left f.of (take i us) (x ∷ []) f.member); is = f.is })
        ]
        | inr q ↦ inr (record { of = x; member = subst (λ (z : List X). In x z) (sym t) (In-right x (take i us) (x ∷ []) (inl refl)); is = q })
      ]),
      (λ s. elim s [
        | inl m ↦ (h.has y).1 (inl ((g.has y).1 (inl m)))
        | inr f ↦ elim (In-append f.of (take i us) (x ∷ []) (subst (λ (z : List X). In f.of z) t f.member)) [
          | inl k ↦ (h.has y).1 (inl ((g.has y).1 (inr (record { of = f.of; member = k; is = f.is }))))
          | inr k ↦ elim k [ inl d ↦ (h.has y).1 (inr (subst (λ (z : X). R z y) (sym d) f.is)) | inr b ↦ absurd b ]
        ]
      ]),
    );
  }
    where
      t : take (i + 1) us ≡ take i us ++ x ∷ []
      t = take_more us i x l ∙ ap (λ (z : X). take i us ++ z ∷ []) (sym e)

  -- at the end
  pub gains_all : (xs ys : List Y) (us : List X) (R : X → Y → Type 0) (i : ℕ) → length us ≤ i → Gains xs ys (From (take i us) R) → Gains xs ys (From us R)
  gains_all xs ys us R i l g = subst (λ (z : List X). Gains xs ys (From z R)) (take_all i us l) g

-- the same for a list of numbers
pub gains_next : {Y : Type 0} (xs ys zs : List Y) (us : List ℕ) (R : ℕ → Y → Type 0) (i : ℕ) → i < length us → Gains xs ys (From (take i us) R) → Gains ys zs (R (get_or us i 0)) → Gains xs zs (From (take (i + 1) us) R)
gains_next xs ys zs us R i l g h = gains_more xs ys zs us R i (get_or us i 0) l (get_or_default us i 0 (get_or us i 0) l) g h

-- whether a list has a number, as a test
pub any_has : (x : ℕ) (ys : List ℕ) → list_any (λ y. eqb y x) ys ≡ true → In x ys
any_has x [] h = absurd (false≢true h)
any_has x (y ∷ ys) h = elim (or_cases (eqb y x) (list_any (λ z. eqb z x) ys) h) [ inl e ↦ inl (eqb-true _ _ e) | inr k ↦ inr (any_has x ys k) ]

pub has_any : (x : ℕ) (ys : List ℕ) → In x ys → list_any (λ y. eqb y x) ys ≡ true
has_any x [] i = absurd i
has_any x (y ∷ ys) (inl e) = or_left (eqb y x) (list_any (λ z. eqb z x) ys) (eq-eqb y x e)
has_any x (y ∷ ys) (inr i) = or_right (eqb y x) (list_any (λ z. eqb z x) ys) (has_any x ys i)

pub any_none : (x : ℕ) (ys : List ℕ) → list_any (λ y. eqb y x) ys ≡ false → In x ys → ⊥
any_none x ys h i = false≢true (sym h ∙ has_any x ys i)

pub from_all : {X Y : Type 0} (us : List X) (R : X → Y → Type 0) (i : ℕ) (y : Y) → length us ≤ i → From us R y → From (take i us) R y
from_all {X = X} us R i y l f = subst (λ (z : List X). From z R y) (sym (take_all i us l)) f

pub holds_none : {Y : Type 0} (ys : List Y) (Q : Y → Type 0) → ys ≡ [] → ((y : Y) → Q y → ⊥) → Holds ys Q
holds_none {Y} ys Q e no_one = record { has = λ y. ((λ i. absurd (subst (λ (z : List Y). In y z) e i)), (λ q. absurd (no_one y q))) }
