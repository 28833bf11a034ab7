-- The serials of members, and of nodes that pass tests, counted and in order.
use Rattle.std.proofs.Common.{◌≡◌, ℕ, suc, ◌+◌, ◌<◌, ◌≤◌, Bool, true, false, cond, ◌||◌, List, [], ◌∷◌, ◌++◌, length, map, get_or, refl, sym, ◌∙◌, ap, subst, inl, inr, arith, eqb, ltb, Option, Some, Ordering, Less, Equal, Greater, nat_cmp, is_lt}
use Rattle.std.specs.List.{filter, sum_by}
use Rattle.std.specs.List.Sorted.{IsPermutation}
use Rattle.std.proofs.lemmas.List.Sums.{sum_by-cons}
use Rattle.std.proofs.lemmas.List.Sorted.{sum_by-IsPermutation}
use Rattle.std.specs.Ordering.{is_le, is_some_and, ordering_then, partial_ordering_then}
use Rattle.std.proofs.lemmas.Bool.{eqb-true, true≢false, false≢true, ltb-true, ltb-false}
use Rattle.gcx_model.specs.Tree.{Node, serial_of}
use Rattle.base_laws.proofs.Counts.{as_number, count, Up, AllFrom, from_less}
use Rattle.tree_laws.proofs.Lists.{In}
use Rattle.tree_laws.proofs.Matches.{Rising}
use Rattle.cond_eval.specs.declared.sets.Member.{Member}
use Rattle.cond_eval.specs.Reads.{Ascends, serials}

counted : (c : ℕ) (ms : List Member) → count c (serials ms) ≡ sum_by (λ (m : Member). as_number (eqb m.serial c)) ms
counted c [] = refl
counted c (m ∷ ms) = omega (arith, sum_by-cons (λ (x : Member). as_number (eqb x.serial c)) m ms, counted c ms)

pub count_moved : (c : ℕ) (xs ys : List Member) → IsPermutation xs ys → count c (serials ys) ≡ count c (serials xs)
count_moved c xs ys p = counted c ys ∙ (sum_by-IsPermutation (λ (x : Member). as_number (eqb x.serial c)) xs ys p ∙ sym (counted c xs))

-- ---- order

-- members none of which has a smaller serial than the one before it
pub up_steps : (ms : List Member) → ((k : ℕ) (d : Member) → k + 1 < length ms → (get_or ms k d).serial ≤ (get_or ms (k + 1) d).serial) → Up (serials ms)
up_steps [] h = tt
up_steps (m ∷ []) h = (tt, tt)
up_steps (m ∷ (n ∷ ms)) h =
    let up = up_steps (n ∷ ms) (λ k d l. let e : suc k + 1 ≡ suc (k + 1) = omega arith in subst (λ i. (get_or (n ∷ ms) k d).serial ≤ (get_or (m ∷ (n ∷ ms)) i d).serial) e (h (suc k) d (omega arith))) in
    let le : m.serial ≤ n.serial = h 0 m (omega arith) in
    ((le, from_less m.serial n.serial (serials ms) le up.0), up)

-- where the first of two orders tells, it tells
first_decides : (a b : ℕ) (o : Ordering) → is_lt (ordering_then (nat_cmp a b) o) ≡ false → b ≤ a
first_decides a b o h = go (ltb a b) refl h
  where
    go : (x : Bool) → ltb a b ≡ x → is_lt (ordering_then (cond x Less (cond (eqb a b) Equal Greater)) o) ≡ false → b ≤ a
    go true e k = absurd (true≢false k)
    go false e k = ltb-false a b e

-- members sorted by serial and place
pub sorted_steps : (ms : List Member) → ((k : ℕ) (d : Member) → 0 ≤ k → k + 1 < length ms → is_lt (ordering_then (nat_cmp (get_or ms (k + 1) d).serial (get_or ms k d).serial) (nat_cmp (get_or ms (k + 1) d).place (get_or ms k d).place)) ≡ false)
    → (k : ℕ) (d : Member) → k + 1 < length ms → (get_or ms k d).serial ≤ (get_or ms (k + 1) d).serial
sorted_steps ms h k d l = first_decides _ _ _ (h k d (omega arith) l)

first_allows : (a b : ℕ) (o : Option Ordering) → is_some_and is_le (partial_ordering_then (Some (nat_cmp a b)) o) ≡ true → a ≤ b
first_allows a b o h = go (ltb a b) (eqb a b) refl refl h
  where
    go : (x y : Bool) → ltb a b ≡ x → eqb a b ≡ y → is_some_and is_le (partial_ordering_then (Some (cond x Less (cond y Equal Greater))) o) ≡ true → a ≤ b
    go true y e f k = let l = ltb-true a b e in omega arith
    go false true e f k = let l = eqb-true a b f in omega arith
    go false false e f k = absurd (false≢true k)

-- and members none of which comes before the one before it
pub ordered_steps : (ms : List Member) → ((k : ℕ) (d : Member) → k + 1 < length ms → is_some_and is_le (partial_ordering_then (Some (nat_cmp (get_or ms k d).serial (get_or ms (k + 1) d).serial)) (Some (nat_cmp (get_or ms k d).place (get_or ms (k + 1) d).place))) ≡ true)
    → (k : ℕ) (d : Member) → k + 1 < length ms → (get_or ms k d).serial ≤ (get_or ms (k + 1) d).serial
ordered_steps ms h k d l = first_allows _ _ _ (h k d l)

pub up_ascends : (xs : List ℕ) → Ascends xs → Up xs
up_ascends [] a = tt
up_ascends (x ∷ xs) a = (all xs (λ j i. let h = a.0 j i in omega arith), up_ascends xs a.1)
  where
    all : (ys : List ℕ) → ((j : ℕ) → In j ys → x ≤ j) → AllFrom x ys
    all [] h = tt
    all (y ∷ ys) h = (h y (inl refl), all ys (λ j i. h j (inr i)))

-- ---- nodes

pub ascends_rising : (xs : List Node) → Rising xs → Ascends (map serial_of xs)
ascends_rising [] r = tt
ascends_rising (x ∷ xs) r = (all xs r.0, ascends_rising xs r.1)
  where
    all : (ys : List Node) → ((y : Node) → In y ys → serial_of x < serial_of y) → (j : ℕ) → In j (map serial_of ys) → serial_of x < j
    all [] h j i = absurd i
    all (y ∷ ys) h j (inl e) = let l = h y (inl refl) in omega arith
    all (y ∷ ys) h j (inr i) = all ys (λ z k. h z (inr k)) j i

-- what passes one of two tests that none passes both
pub count_either : (c : ℕ) (p q : Node → Bool) (xs : List Node) → ((x : Node) → In x xs → p x ≡ true → q x ≡ true → ⊥)
    → count c (map serial_of (filter (λ x. p x || q x) xs)) ≡ count c (map serial_of (filter p xs)) + count c (map serial_of (filter q xs))
count_either c p q [] h = omega arith
count_either c p q (x ∷ xs) h = go (p x) (q x) refl refl (count_either c p q xs (λ y i. h y (inr i)))
  where
    go : (a b : Bool) → p x ≡ a → q x ≡ b → count c (map serial_of (filter (λ y. p y || q y) xs)) ≡ count c (map serial_of (filter p xs)) + count c (map serial_of (filter q xs))
        → count c (map serial_of (cond (a || b) (x ∷ filter (λ y. p y || q y) xs) (filter (λ y. p y || q y) xs))) ≡ count c (map serial_of (cond a (x ∷ filter p xs) (filter p xs))) + count c (map serial_of (cond b (x ∷ filter q xs) (filter q xs)))
    go true true e f ih = absurd (h x (inl refl) e f)
    go true false e f ih = omega arith
    go false true e f ih = omega arith
    go false false e f ih = ih

-- what passes one of two tests, of which what passes the one stands before k and what passes the other behind it
pub filter_either : (k : ℕ) (p q : Node → Bool) (xs : List Node) → Rising xs → ((x : Node) → In x xs → p x ≡ true → serial_of x < k) → ((x : Node) → In x xs → q x ≡ true → k < serial_of x)
    → filter (λ x. p x || q x) xs ≡ filter p xs ++ filter q xs
filter_either k p q [] r h g = refl
filter_either k p q (x ∷ xs) r h g = go (p x) (q x) refl refl (filter_either k p q xs r.1 (λ y i. h y (inr i)) (λ y i. g y (inr i)))
  where
    none : k < serial_of x → filter p xs ≡ []
    none l = empty xs (λ y i e. let a = h y (inr i) e in let b = r.0 y i in omega arith)
      where
        empty : (ys : List Node) → ((y : Node) → In y ys → p y ≡ true → ⊥) → filter p ys ≡ []
        empty [] f = refl
        empty (y ∷ ys) f = step (p y) refl (empty ys (λ z i. f z (inr i)))
          where
            step : (b : Bool) → p y ≡ b → filter p ys ≡ [] → cond b (y ∷ filter p ys) (filter p ys) ≡ []
            step true e ih = absurd (f y (inl refl) e)
            step false e ih = ih

    go : (a b : Bool) → p x ≡ a → q x ≡ b → filter (λ y. p y || q y) xs ≡ filter p xs ++ filter q xs
        → cond (a || b) (x ∷ filter (λ y. p y || q y) xs) (filter (λ y. p y || q y) xs) ≡ cond a (x ∷ filter p xs) (filter p xs) ++ cond b (x ∷ filter q xs) (filter q xs)
    go true true e f ih = let a = h x (inl refl) e in let b = g x (inl refl) f in absurd (omega arith)
    go true false e f ih = ap (λ z. x ∷ z) ih
    go false true e f ih =
        let n = none (g x (inl refl) f) in
        ap (λ z. x ∷ z) (ih ∙ ap (λ z. z ++ filter q xs) n) ∙ sym (ap (λ z. z ++ (x ∷ filter q xs)) n)
    go false false e f ih = ih
