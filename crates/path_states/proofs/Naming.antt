-- Names in order, and the number of a name, found by halves.
use Rattle.std.proofs.Common.{◌≡◌, ℕ, zero, suc, ◌+◌, ◌<◌, ◌≤◌, Bool, true, false, List, [], ◌∷◌, ◌++◌, length, take, get_or, leb, ltb, eqb, cond, bytes_eq, refl, sym, ◌∙◌, ap, subst, inl, inr, ◌⊎◌, arith, Some}
use Rattle.std.specs.Prelude.{slice_get, ◌↔◌}
use Rattle.std.specs.Cmp.{IsStrictWeakOrder}
use Rattle.std.specs.Cmp.Lexicographic.{slice_cmp, bytes_decides}
use Rattle.std.specs.Ordering.{is_lt, nat_cmp, ordering_reverse, ordering_then}
use Rattle.std.specs.List.{Contains}
use Rattle.std.specs.List.Sorted.{IsPermutation}
use Rattle.std.specs.declared.cmp.Ordering.{Ordering}
use Rattle.std.specs.declared.cmp.Ordering.TheVariants.{Less, Equal, Greater}
use Rattle.std.proofs.lemmas.Bool.{false≢true, le-leb, lt-leb, le-ltb, lt-ltb}
use Rattle.std.proofs.lemmas.Cmp.{nat_list_cmp_total, tied_itself}
use Rattle.std.proofs.lemmas.List.{length-append, take_more, get_or_append_left}
use Rattle.std.proofs.lemmas.List.Sorted.{Contains-permutation, ranks_by, sorted_far}
use Rattle.std.proofs.lemmas.Map.Lookups.{exact_bytes}
use Rattle.std.proofs.lemmas.Option.{get_or_from_slice_get, slice_get-get_or, slice_get_within}
use Rattle.gcx_base.specs.Tests.{passes}
use Rattle.gcx_base.specs.declared.kind.Kind.{Kind}
use Rattle.gcx_base.specs.declared.kind.Kind.TheVariants.{Document, Element, Text}
use Rattle.gcx_base.specs.declared.steps.Test.TheVariants.{Named, AnyElement, AnyText}
use Rattle.tree_laws.proofs.Lists.{In, In-left, In-right, In-append}
use Rattle.path_states.specs.Names.{BranchesAreApart, AreOnce, AreOrdered, IsNameNumber, PutsName, is_before}
use Rattle.path_states.proofs.Growing.{at_more}
use Rattle.path_states.proofs.Looking.{at_in, in_at, none_at}

-- the order of names

-- lower first bytes come before
pub first_before : (xs ys : List ℕ) (x y : ℕ) → slice_get xs 0 ≡ Some x → slice_get ys 0 ≡ Some y → x < y → slice_cmp nat_cmp xs ys ≡ Less
first_before [] ys x y e f l = absurd (none_at [] 0 x (omega arith) e)
first_before (a ∷ xs) [] x y e f l = absurd (none_at [] 0 y (omega arith) f)
first_before (a ∷ xs) (b ∷ ys) x y e f l =
    let a_is : a ≡ x = cc in
    let b_is : b ≡ y = cc in
    let below : ltb a b ≡ true = lt-ltb a b (omega arith) in
    let less : nat_cmp a b ≡ Less = ap (λ (z : Bool). cond z Less (cond (eqb a b) Equal Greater)) below in
    ap (λ (o : Ordering). ordering_then o (slice_cmp nat_cmp xs ys)) less

pub order_turned : (xs ys : List ℕ) → slice_cmp nat_cmp xs ys ≡ Less → slice_cmp nat_cmp ys xs ≡ Greater
order_turned xs ys e = nat_list_cmp_total.antisymm ys xs ∙ ap ordering_reverse e

pub order_same : (xs ys : List ℕ) → xs ≡ ys → slice_cmp nat_cmp xs ys ≡ Equal
order_same xs ys e = subst (λ (z : List ℕ). slice_cmp nat_cmp xs z ≡ Equal) e (tied_itself nat_list_cmp_total xs)

pub weak : IsStrictWeakOrder is_before
weak = ranks_by nat_list_cmp_total (λ (x : List ℕ). x)

module _ (names : List (List ℕ)) (up : AreOrdered names) where
  -- a later name doesn't come before an earlier one
  pub later : (i j : ℕ) (one other : List ℕ) → i ≤ j → slice_get names i ≡ Some one → slice_get names j ≡ Some other → is_before other one ≡ false
  later i j one other le at behind =
      subst (λ (z : List ℕ). is_before z one ≡ false) (get_or_from_slice_get names j other [] behind)
      (subst (λ (z : List ℕ). is_before (get_or names j []) z ≡ false) (get_or_from_slice_get names i one [] at) (sorted_far is_before weak names up i j [] le (slice_get_within names j other behind)))

-- a name that isn't before the last one, at the end
pub ordered_push : (xs : List (List ℕ)) (y : List ℕ) → AreOrdered xs → ((x : List ℕ) → In x xs → is_before y x ≡ false) → AreOrdered (xs ++ y ∷ [])
ordered_push xs y up all k d lo hi = elim (less_or_same (k + 1) (length xs) within) [
  | inl l ↦
      subst (λ (z : List ℕ). is_before z (get_or (xs ++ y ∷ []) k d) ≡ false) (sym (get_or_append_left xs (y ∷ []) d (k + 1) l))
      (subst (λ (z : List ℕ). is_before (get_or xs (k + 1) d) z ≡ false) (sym (get_or_append_left xs (y ∷ []) d k (omega arith))) (up k d lo l))
  | inr e ↦ (
      let l : k < length xs = omega arith in
      subst (λ (z : List ℕ). is_before z (get_or (xs ++ y ∷ []) k d) ≡ false) (sym (at_end xs (k + 1) e))
      (subst (λ (z : List ℕ). is_before y z ≡ false) (sym (get_or_append_left xs (y ∷ []) d k l)) (all (get_or xs k d) (in_at xs k (get_or xs k d) (slice_get-get_or xs k d l)))))
]
  where
    within : k + 1 < suc (length xs)
    within = let e = length-append xs (y ∷ []) in omega arith

    less_or_same : (i n : ℕ) → i < suc n → (i < n) ⊎ (i ≡ n)
    less_or_same zero zero l = inr refl
    less_or_same zero (suc n) l = inl (omega arith)
    less_or_same (suc i) zero l = absurd (omega arith)
    less_or_same (suc i) (suc n) l = let m : i < suc n = omega arith in elim (less_or_same i n m) [ inl a ↦ inl (omega arith) | inr a ↦ inr (ap suc a) ]

    at_end : (zs : List (List ℕ)) (i : ℕ) → i ≡ length zs → get_or (zs ++ y ∷ []) i d ≡ y
    at_end [] zero e = refl
    at_end [] (suc i) e = absurd (omega arith)
    at_end (z ∷ zs) zero e = absurd (omega arith)
    at_end (z ∷ zs) (suc i) e = let f : i ≡ length zs = omega arith in at_end zs i f

-- each once

apart_push : (xs : List (List ℕ)) (y : List ℕ) → BranchesAreApart xs → (In y xs → ⊥) → BranchesAreApart (xs ++ y ∷ [])
apart_push xs y apart new i j n at here = elim (at_more xs y i n at) [
  | inl a ↦ elim (at_more xs y j n here) [ inl b ↦ apart i j n a b | inr q ↦ absurd (new (subst (λ (z : List ℕ). In z xs) (sym q.1) (in_at xs i n a))) ]
  | inr p ↦ elim (at_more xs y j n here) [ inl b ↦ absurd (new (subst (λ (z : List ℕ). In z xs) (sym p.1) (in_at xs j n b))) | inr q ↦ p.0 ∙ sym q.0 ]
]

pub once_start : (once : List (List ℕ)) → once ≡ [] → AreOnce [] once
once_start once e = record {
  all = λ n i. absurd i;
  of = λ n i. absurd (subst (λ (z : List (List ℕ)). In n z) e i);
  ordered = subst AreOrdered (sym e) (λ k d lo hi. absurd (omega arith));
  apart = λ i j n at. absurd (none_at [] i n (omega arith) (subst (λ (z : List (List ℕ)). slice_get z i ≡ Some n) e at));
}

-- the name is there, or isn't
pub name_there : (names : List (List ℕ)) (name : List ℕ) (k : ℕ) → k < length names → IsNameNumber names (Element name) k → In name names
name_there names name k l (inl at) = in_at names k name at
name_there names name k l (inr q) = let e = q.0 in absurd (omega arith)

pub name_new : (names : List (List ℕ)) (name : List ℕ) (k : ℕ) → length names ≤ k → IsNameNumber names (Element name) k → In name names → ⊥
name_new names name k l (inl at) i = none_at names k name l at
name_new names name k l (inr q) i = q.1 i

module _ (names : List (List ℕ)) (i : ℕ) (name : List ℕ) (l : i < length names) (at : name ≡ get_or names i name) (up : AreOrdered names) where
  more : take (i + 1) names ≡ take i names ++ name ∷ []
  more = take_more names i name l ∙ ap (λ (z : List ℕ). take i names ++ z ∷ []) (sym at)

  in_take : (n : List ℕ) (k : ℕ) (xs : List (List ℕ)) → In n (take k xs) → (j : ℕ) × (j < k) × (slice_get xs j ≡ Some n)
  in_take n zero xs m = absurd m
  in_take n (suc k) [] m = absurd m
  in_take n (suc k) (x ∷ xs) (inl e) = (0, omega arith, ap Some e)
  in_take n (suc k) (x ∷ xs) (inr m) = let r = in_take n k xs m in (suc r.0, omega (arith, r.1), r.2)

  -- those that were taken don't come behind it
  behind : (n : List ℕ) → In n (take i names) → is_before name n ≡ false
  behind n m =
      let r = in_take n i names m in
      let b = r.1 in
      later names up r.0 i n name (omega arith) r.2 (slice_get-get_or names i name l ∙ ap Some (sym at))

  pub once_more : (once next : List (List ℕ)) → AreOnce (take i names) once → PutsName once next name → AreOnce (take (i + 1) names) next
  once_more once next o (inl p) = record {
    all = λ n m. subst (λ (z : List (List ℕ)). In n z) (sym p.0) (elim (In-append n (take i names) (name ∷ []) (subst (λ (z : List (List ℕ)). In n z) more m)) [
      | inl j ↦ In-left n once (name ∷ []) (o.all n j)
      | inr j ↦ In-right n once (name ∷ []) j
    ]);
    of = λ n m. subst (λ (z : List (List ℕ)). In n z) (sym more) (elim (In-append n once (name ∷ []) (subst (λ (z : List (List ℕ)). In n z) p.0 m)) [
      | inl j ↦ In-left n (take i names) (name ∷ []) (o.of n j)
      | inr j ↦ In-right n (take i names) (name ∷ []) j
    ]);
    ordered = subst AreOrdered (sym p.0) (ordered_push once name o.ordered (λ x j. behind x (o.of x j)));
    apart = subst BranchesAreApart (sym p.0) (apart_push once name o.apart p.1);
  }
  once_more once next o (inr q) = record {
    all = λ n m. subst (λ (z : List (List ℕ)). In n z) (sym q.0) (elim (In-append n (take i names) (name ∷ []) (subst (λ (z : List (List ℕ)). In n z) more m)) [
      | inl j ↦ o.all n j
      | inr j ↦ elim j [ inl e ↦ subst (λ (z : List ℕ). In z once) e q.1 | inr b ↦ absurd b ]
    ]);
    of = λ n m. subst (λ (z : List (List ℕ)). In n z) (sym more) (In-left n (take i names) (name ∷ []) (o.of n (subst (λ (z : List (List ℕ)). In n z) q.0 m)));
    ordered = subst AreOrdered (sym q.0) o.ordered;
    apart = subst BranchesAreApart (sym q.0) o.apart;
  }

-- an order moves members alone
pub in_sorted : {X : Type 0} (xs ys : List X) (n : X) → IsPermutation xs ys → In n xs → In n ys
in_sorted xs ys n p m =
    let r = at_in xs n m in
    let has : Contains xs n = (r.0, slice_get_within xs r.0 n r.1, get_or_from_slice_get xs r.0 n n r.1) in
    let c = Contains-permutation xs ys n p has in
    in_at ys c.0 n (slice_get-get_or ys c.0 n c.1 ∙ ap Some c.2)

-- the halves

-- where the name is, if it is there
abbrev pub Between : (names : List (List ℕ)) (name : List ℕ) (low high : ℕ) → Type 0
Between names name low high = (i : ℕ) → slice_get names i ≡ Some name → (low ≤ i) × (i < high)

module _ (names : List (List ℕ)) (name here : List ℕ) (low high middle : ℕ) (up : AreOrdered names) (b : Between names name low high) (at : slice_get names middle ≡ Some here) where
  pub above_middle : slice_cmp nat_cmp here name ≡ Less → Between names name (middle + 1) high
  above_middle e i is = elim (le_or i middle) [
    | inl l ↦ absurd (false≢true (sym (later names up i middle name here l is at) ∙ ap is_lt e))
    | inr l ↦ (omega arith, (b i is).1)
  ]
    where
      le_or : (i j : ℕ) → (i ≤ j) ⊎ (j < i)
      le_or zero j = inl (omega arith)
      le_or (suc i) zero = inr (omega arith)
      le_or (suc i) (suc j) = elim (le_or i j) [ inl a ↦ inl (omega arith) | inr a ↦ inr (omega arith) ]

  pub below_middle : slice_cmp nat_cmp here name ≡ Greater → Between names name low middle
  below_middle e i is = elim (lt_or i middle) [
    | inl l ↦ ((b i is).0, l)
    | inr l ↦ absurd (false≢true (sym (later names up middle i here name l at is) ∙ ap is_lt (nat_list_cmp_total.antisymm name here ∙ ap ordering_reverse e)))
  ]
    where
      lt_or : (i j : ℕ) → (i < j) ⊎ (j ≤ i)
      lt_or i zero = inr (omega arith)
      lt_or zero (suc j) = inl (omega arith)
      lt_or (suc i) (suc j) = elim (lt_or i j) [ inl a ↦ inl (omega arith) | inr a ↦ inr (omega arith) ]

pub number_here : (names : List (List ℕ)) (name here : List ℕ) (middle : ℕ) → slice_get names middle ≡ Some here → slice_cmp nat_cmp here name ≡ Equal → IsNameNumber names (Element name) middle
number_here names name here middle at e = inl (at ∙ ap Some (exact_bytes here name e))

pub number_none : (names : List (List ℕ)) (name : List ℕ) (low high k : ℕ) → Between names name low high → high ≤ low → k ≡ length names → IsNameNumber names (Element name) k
number_none names name low high k b l e = inr (e, λ m. let r = at_in names name m in let q = b r.0 r.1 in let x = q.0 in let y = q.1 in absurd (omega arith))

-- which tests a node of the number passes

same_truth : (s t : Bool) → (s ≡ true → t ≡ true) → (t ≡ true → s ≡ true) → s ≡ t
same_truth true t f g = sym (f refl)
same_truth false true f g = g refl
same_truth false false f g = refl

pub takes_named : (names : List (List ℕ)) (number : ℕ) (n : List ℕ) (b : Bool) → (b ≡ true ↔ slice_get names number ≡ Some n) → (kind : Kind) → IsNameNumber names kind number → In n names → b ≡ passes (Named n) kind
takes_named names number n b h Document is m = absurd is
takes_named names number n b h (Element name) (inl at) m = same_truth b (bytes_eq n name)
    (λ t. let f : Some n ≡ Some name = sym (h.0 t) ∙ at in let g : n ≡ name = cc in (bytes_decides n name).1 g)
    (λ t. h.1 (at ∙ ap Some (sym ((bytes_decides n name).0 t))))
takes_named names number n b h (Element name) (inr q) m = same_truth b (bytes_eq n name)
    (λ t. absurd (none_at names number n (let e = q.0 in omega arith) (h.0 t)))
    (λ t. absurd (q.1 (subst (λ (z : List ℕ). In z names) ((bytes_decides n name).0 t) m)))
takes_named names number n b h (Text bytes) is m = same_truth b false
    (λ t. absurd (none_at names number n (let e = is in omega arith) (h.0 t)))
    (λ t. absurd (false≢true t))

pub takes_elements : (names : List (List ℕ)) (number : ℕ) (kind : Kind) → IsNameNumber names kind number → leb number (length names) ≡ passes AnyElement kind
takes_elements names number Document is = absurd is
takes_elements names number (Element name) (inl at) = let l = slice_get_within names number name at in le-leb number (length names) (omega arith)
takes_elements names number (Element name) (inr q) = let e = q.0 in le-leb number (length names) (omega arith)
takes_elements names number (Text bytes) is = lt-leb number (length names) (omega arith)

pub takes_texts : (names : List (List ℕ)) (number : ℕ) (kind : Kind) → IsNameNumber names kind number → ltb (length names) number ≡ passes AnyText kind
takes_texts names number Document is = absurd is
takes_texts names number (Element name) (inl at) = let l = slice_get_within names number name at in le-ltb (length names) number (omega arith)
takes_texts names number (Element name) (inr q) = let e = q.0 in le-ltb (length names) number (omega arith)
takes_texts names number (Text bytes) is = lt-ltb (length names) number (omega arith)
