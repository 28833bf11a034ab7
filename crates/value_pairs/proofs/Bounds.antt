-- What the ends of values tell of all their pairs.
use Rattle.std.proofs.Common.{◌≡◌, ◌↔◌, ◌⊎◌, ℕ, Bool, true, false, not, List, [], ◌∷◌, Option, Some, None, is_some, refl, sym, subst, inl, inr}
use Rattle.std.specs.Prelude.{◌||◌, if◌then◌else◌}
use Rattle.std.specs.Ordering.{is_lt, is_gt, is_ne}
use Rattle.std.specs.declared.cmp.Ordering.{Ordering}
use Rattle.std.specs.declared.cmp.Ordering.TheVariants.{Less, Equal, Greater}
use Rattle.std.proofs.lemmas.Bool.{false≢true}
use Rattle.std.proofs.lemmas.Cmp.{nat_list_cmp_total, upto}
use Rattle.gcx_base.specs.declared.rel.Rel.{Rel}
use Rattle.gcx_base.specs.declared.rel.Rel.TheVariants.{Eq, Ne, Lt, Le, Gt, Ge}
use Rattle.gcx_model.specs.Members.{In}
use Rattle.gcx_model.specs.Values.{Bytes, compare}
use Rattle.value_pairs.specs.Pairs.{SomePair}
use Rattle.value_pairs.specs.Extremes.{IsAtMost, IsLeast, IsGreatest, Spans, lesser, greater, holds_between, ends_tell}
use Rattle.value_pairs.specs.declared.extent.Extent.{Extent}
use Rattle.value_pairs.proofs.Orders.{cmp, up_le, up_lt, down_gt, down_ge, lt_upto, not_lt_upto, gt_upto, upto_itself}

-- ---- one value more

pub least_more : (v : List ℕ) (k : Option (List ℕ)) (vs : List (List ℕ)) → IsLeast k vs → IsLeast (lesser v k) (v ∷ vs)
least_more v None vs e = (inl refl, λ w i. only w i)
  where
    only : (w : List ℕ) → In w (v ∷ vs) → IsAtMost v w
    only w (inl is) = subst (λ (z : List ℕ). IsAtMost v z) is (upto_itself v)
    only w (inr i) = absurd (subst (λ (z : List (List ℕ)). In w z) e i)
least_more v (Some k) vs h = go (is_lt (cmp v k)) refl
  where
    falls : is_lt (cmp v k) ≡ true → (w : List ℕ) → In w (v ∷ vs) → IsAtMost v w
    falls b w (inl is) = subst (λ (z : List ℕ). IsAtMost v z) is (upto_itself v)
    falls b w (inr i) = upto nat_list_cmp_total v k w (lt_upto v k b) (h.1 w i)

    stays : is_lt (cmp v k) ≡ false → (w : List ℕ) → In w (v ∷ vs) → IsAtMost k w
    stays b w (inl is) = subst (λ (z : List ℕ). IsAtMost k z) is (not_lt_upto v k b)
    stays b w (inr i) = h.1 w i

    go : (b : Bool) → is_lt (cmp v k) ≡ b → IsLeast (if b then Some v else Some k) (v ∷ vs)
    go true e = (inl refl, falls e)
    go false e = (inr h.0, stays e)

pub greatest_more : (v : List ℕ) (k : Option (List ℕ)) (vs : List (List ℕ)) → IsGreatest k vs → IsGreatest (greater v k) (v ∷ vs)
greatest_more v None vs e = (inl refl, λ w i. only w i)
  where
    only : (w : List ℕ) → In w (v ∷ vs) → IsAtMost w v
    only w (inl is) = subst (λ (z : List ℕ). IsAtMost z v) is (upto_itself v)
    only w (inr i) = absurd (subst (λ (z : List (List ℕ)). In w z) e i)
greatest_more v (Some k) vs h = go (is_gt (cmp v k)) refl
  where
    rises : is_gt (cmp v k) ≡ true → (w : List ℕ) → In w (v ∷ vs) → IsAtMost w v
    rises b w (inl is) = subst (λ (z : List ℕ). IsAtMost z v) is (upto_itself v)
    rises b w (inr i) = upto nat_list_cmp_total w k v (h.1 w i) (gt_upto v k b)

    stays : is_gt (cmp v k) ≡ false → (w : List ℕ) → In w (v ∷ vs) → IsAtMost w k
    stays b w (inl is) = subst (λ (z : List ℕ). IsAtMost z k) is b
    stays b w (inr i) = h.1 w i

    go : (b : Bool) → is_gt (cmp v k) ≡ b → IsGreatest (if b then Some v else Some k) (v ∷ vs)
    go true e = (inl refl, rises e)
    go false e = (inr h.0, stays e)

pub spans_more : (e f : Extent) (v : List ℕ) → f.least ≡ lesser v e.least → f.greatest ≡ greater v e.greatest → (vs : List (List ℕ)) → Spans e vs → Spans f (v ∷ vs)
spans_more e f v a b vs s = record {
  least = subst (λ (o : Option (List ℕ)). IsLeast o (v ∷ vs)) (sym a) (least_more v e.least vs s.least);
  greatest = subst (λ (o : Option (List ℕ)). IsGreatest o (v ∷ vs)) (sym b) (greatest_more v e.greatest vs s.greatest);
}

-- there is none of no values
pub none_least : (k : Option (List ℕ)) (b : Bool) → is_some k ≡ not b → (vs : List (List ℕ)) → IsLeast k vs → (b ≡ true) ↔ (vs ≡ [])
none_least None true e vs least = ((λ t. least), (λ n. refl))
none_least None false e vs least = absurd (false≢true e)
none_least (Some v) true e vs least = absurd (false≢true (sym e))
none_least (Some v) false e vs least = ((λ t. absurd (false≢true t)), (λ n. absurd (subst (λ (z : List (List ℕ)). In v z) n least.0)))

-- ---- a pair of ends is a pair

low_pair : (rel : Rel) (k g : Option (List ℕ)) (ls rs : List (List ℕ)) → IsLeast k ls → IsGreatest g rs → holds_between rel k g ≡ true → SomePair rel ls rs
low_pair rel None g ls rs a b h = absurd (cc)
low_pair rel (Some v) None ls rs a b h = absurd (cc)
low_pair rel (Some v) (Some w) ls rs a b h = record { one = v; other = w; of_left = a.0; of_right = b.0; holds = h }

high_pair : (rel : Rel) (g k : Option (List ℕ)) (ls rs : List (List ℕ)) → IsGreatest g ls → IsLeast k rs → holds_between rel g k ≡ true → SomePair rel ls rs
high_pair rel None k ls rs a b h = absurd (cc)
high_pair rel (Some v) None ls rs a b h = absurd (cc)
high_pair rel (Some v) (Some w) ls rs a b h = record { one = v; other = w; of_left = a.0; of_right = b.0; holds = h }

-- ---- and of some pair the ends are one

low_ends : (rel : Rel) → ((v u w x : List ℕ) → IsAtMost u v → IsAtMost w x → compare rel (Bytes v) (Bytes w) ≡ true → compare rel (Bytes u) (Bytes x) ≡ true) →
    (k g : Option (List ℕ)) (ls rs : List (List ℕ)) → IsLeast k ls → IsGreatest g rs → SomePair rel ls rs → holds_between rel k g ≡ true
low_ends rel up None g ls rs a b p = absurd (subst (λ (z : List (List ℕ)). In p.one z) a p.of_left)
low_ends rel up (Some v) None ls rs a b p = absurd (subst (λ (z : List (List ℕ)). In p.other z) b p.of_right)
low_ends rel up (Some v) (Some w) ls rs a b p = up p.one v p.other w (a.1 p.one p.of_left) (b.1 p.other p.of_right) p.holds

high_ends : (rel : Rel) → ((v u w x : List ℕ) → IsAtMost v u → IsAtMost x w → compare rel (Bytes v) (Bytes w) ≡ true → compare rel (Bytes u) (Bytes x) ≡ true) →
    (g k : Option (List ℕ)) (ls rs : List (List ℕ)) → IsGreatest g ls → IsLeast k rs → SomePair rel ls rs → holds_between rel g k ≡ true
high_ends rel down None k ls rs a b p = absurd (subst (λ (z : List (List ℕ)). In p.one z) a p.of_left)
high_ends rel down (Some v) None ls rs a b p = absurd (subst (λ (z : List (List ℕ)). In p.other z) b p.of_right)
high_ends rel down (Some v) (Some w) ls rs a b p = down p.one v p.other w (a.1 p.one p.of_left) (b.1 p.other p.of_right) p.holds

-- ---- other than the other is less or greater

or_cases : (a b : Bool) → (a || b) ≡ true → (a ≡ true) ⊎ (b ≡ true)
or_cases true b h = inl refl
or_cases false b h = inr h

or_left : (a b : Bool) → a ≡ true → (a || b) ≡ true
or_left true b h = refl
or_left false b h = absurd (cc)

or_right : (a b : Bool) → b ≡ true → (a || b) ≡ true
or_right true b h = refl
or_right false b h = h

ne_from_lt : (o : Ordering) → is_lt o ≡ true → is_ne o ≡ true
ne_from_lt Less e = refl
ne_from_lt Equal e = absurd (cc)
ne_from_lt Greater e = refl

ne_from_gt : (o : Ordering) → is_gt o ≡ true → is_ne o ≡ true
ne_from_gt Less e = refl
ne_from_gt Equal e = absurd (cc)
ne_from_gt Greater e = refl

ne_cases : (o : Ordering) → is_ne o ≡ true → (is_lt o ≡ true) ⊎ (is_gt o ≡ true)
ne_cases Less e = inl refl
ne_cases Equal e = absurd (cc)
ne_cases Greater e = inr refl

ne_of_lt : (ls rs : List (List ℕ)) → SomePair Lt ls rs → SomePair Ne ls rs
ne_of_lt ls rs p = record { one = p.one; other = p.other; of_left = p.of_left; of_right = p.of_right; holds = ne_from_lt (cmp p.one p.other) p.holds }

ne_of_gt : (ls rs : List (List ℕ)) → SomePair Gt ls rs → SomePair Ne ls rs
ne_of_gt ls rs p = record { one = p.one; other = p.other; of_left = p.of_left; of_right = p.of_right; holds = ne_from_gt (cmp p.one p.other) p.holds }

ne_is : (ls rs : List (List ℕ)) → SomePair Ne ls rs → SomePair Lt ls rs ⊎ SomePair Gt ls rs
ne_is ls rs p = go (ne_cases (cmp p.one p.other) p.holds)
  where
    go : (is_lt (cmp p.one p.other) ≡ true) ⊎ (is_gt (cmp p.one p.other) ≡ true) → SomePair Lt ls rs ⊎ SomePair Gt ls rs
    go (inl h) = inl (record { one = p.one; other = p.other; of_left = p.of_left; of_right = p.of_right; holds = h })
    go (inr h) = inr (record { one = p.one; other = p.other; of_left = p.of_left; of_right = p.of_right; holds = h })

-- ---- the law

module _ (l r : Extent) (ls rs : List (List ℕ)) (a : Spans l ls) (b : Spans r rs) where
  pub told_law : (rel : Rel) → (rel ≡ Eq → ⊥) → (ends_tell rel l r ≡ true) ↔ SomePair rel ls rs
  told_law Eq differ = absurd (differ refl)
  told_law Ne differ = (there, back)
    where
      there : ends_tell Ne l r ≡ true → SomePair Ne ls rs
      there h = elim (or_cases (holds_between Lt l.least r.greatest) (holds_between Gt l.greatest r.least) h) [
        | inl x ↦ ne_of_lt ls rs (low_pair Lt l.least r.greatest ls rs a.least b.greatest x)
        | inr x ↦ ne_of_gt ls rs (high_pair Gt l.greatest r.least ls rs a.greatest b.least x)
      ]

      back : SomePair Ne ls rs → ends_tell Ne l r ≡ true
      back p = elim (ne_is ls rs p) [
        | inl x ↦ or_left (holds_between Lt l.least r.greatest) (holds_between Gt l.greatest r.least) (low_ends Lt up_lt l.least r.greatest ls rs a.least b.greatest x)
        | inr x ↦ or_right (holds_between Lt l.least r.greatest) (holds_between Gt l.greatest r.least) (high_ends Gt down_gt l.greatest r.least ls rs a.greatest b.least x)
      ]
  told_law Lt differ = (low_pair Lt l.least r.greatest ls rs a.least b.greatest, low_ends Lt up_lt l.least r.greatest ls rs a.least b.greatest)
  told_law Le differ = (low_pair Le l.least r.greatest ls rs a.least b.greatest, low_ends Le up_le l.least r.greatest ls rs a.least b.greatest)
  told_law Gt differ = (high_pair Gt l.greatest r.least ls rs a.greatest b.least, high_ends Gt down_gt l.greatest r.least ls rs a.greatest b.least)
  told_law Ge differ = (high_pair Ge l.greatest r.least ls rs a.greatest b.least, high_ends Ge down_ge l.greatest r.least ls rs a.greatest b.least)
