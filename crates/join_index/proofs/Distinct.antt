-- Texts in order, each once.
use Rattle.std.proofs.Common.{◌≡◌, ◌↔◌, ◌<◌, ℕ, zero, suc, Bool, true, List, [], ◌∷◌, length, sym, subst, inl, inr, arith, rules}
use Rattle.std.specs.Prelude.{slice_index_or}
use Rattle.std.specs.Ordering.{nat_cmp, is_lt}
use Rattle.std.specs.Cmp.{IsStrictWeakOrder}
use Rattle.std.specs.Cmp.Lexicographic.{slice_cmp, nat_list_eq_equiv}
use Rattle.std.specs.declared.cmp.Ordering.TheVariants.{Less}
use Rattle.std.specs.List.{AllByRecursion, Contains, dedup}
use Rattle.std.specs.List.Sorted.{IsPermutation, IsSorted, IsStrictlySortedBy}
use Rattle.std.specs.Str.{bytes_eq}
use Rattle.std.proofs.lemmas.Cmp.{nat_list_cmp_total}
use Rattle.std.proofs.lemmas.List.Kept.{Contains-dedup, Contains-from_dedup, IsStrictlySortedBy-dedup}
use Rattle.std.proofs.lemmas.List.Sorted.{Contains-permutation, IsPermutation-sym, ranks_by}
use Rattle.std.proofs.lemmas.Slice.Eq.{bytes_eq-Decides}
use Rattle.std.proofs.lemmas.Map.Text.{is_eq-slice_cmp}
use Rattle.gcx_model.specs.Members.{In}
use Rattle.join_index.specs.Rising.{IsBelowByBytes, RisesByBytes}

abbrev pub is_before : (one other : List ℕ) → Bool
is_before one other = is_lt (slice_cmp nat_cmp one other)

pub weak : IsStrictWeakOrder is_before
weak = ranks_by nat_list_cmp_total (λ (x : List ℕ). x)

below : (v w : List ℕ) (vs : List (List ℕ)) → In w vs → AllByRecursion (λ y. slice_cmp nat_cmp v y ≡ Less) vs → IsBelowByBytes v w
below v w [] i a = absurd i
below v w (x ∷ vs) (inl e) a = subst (λ (z : List ℕ). IsBelowByBytes v z) e a.0
below v w (x ∷ vs) (inr i) a = below v w vs i a.1

pub rises_strictly : (vs : List (List ℕ)) → IsStrictlySortedBy (slice_cmp nat_cmp) vs → RisesByBytes vs
unfolding IsStrictlySortedBy
rises_strictly [] s = tt
rises_strictly (v ∷ vs) s = ((λ w i. below v w vs i s.0), rises_strictly vs s.1)

-- ordered texts, each once
pub distinct_rise : (xs ys : List (List ℕ)) → IsSorted (slice_cmp nat_cmp) xs → ys ≡ dedup bytes_eq xs → RisesByBytes ys
distinct_rise xs ys s e =
    rises_strictly ys (subst (λ (z : List (List ℕ)). IsStrictlySortedBy (slice_cmp nat_cmp) z) (sym e) (IsStrictlySortedBy-dedup nat_list_cmp_total (λ x y. sym (is_eq-slice_cmp x y)) xs s))

in_contains : (xs : List (List ℕ)) (x : List ℕ) → In x xs → Contains xs x
in_contains [] x i = absurd i
in_contains (y ∷ xs) x (inl e) = (zero, omega arith, e)
in_contains (y ∷ xs) x (inr i) = let r = in_contains xs x i in let l = r.1 in (suc r.0, omega arith, r.2)

contains_in : (xs : List (List ℕ)) (x : List ℕ) (k : ℕ) → k < length xs → slice_index_or xs k x ≡ x → In x xs
contains_in [] x k l e = absurd (omega arith)
contains_in (y ∷ xs) x zero l e = inl e
contains_in (y ∷ xs) x (suc k) l e = inr (contains_in xs x k (omega arith) e)

same_bytes : (x y : List ℕ) → bytes_eq x y ≡ true → x ≡ y
same_bytes x y e = search (rules, bytes_eq-Decides x y)

-- the same texts, but for the order and the repeats
pub distinct_all : (xs ys zs : List (List ℕ)) → IsPermutation xs ys → zs ≡ dedup bytes_eq ys → (w : List ℕ) → In w zs ↔ In w xs
distinct_all xs ys zs p e w = (there, back)
  where
    there : In w zs → In w xs
    there i =
        let c = Contains-from_dedup bytes_eq ys w (in_contains (dedup bytes_eq ys) w (subst (λ (z : List (List ℕ)). In w z) e i)) in
        let d = Contains-permutation ys xs w (IsPermutation-sym xs ys p) c in
        contains_in xs w d.0 d.1 d.2

    back : In w xs → In w zs
    back i =
        let c = Contains-permutation xs ys w p (in_contains xs w i) in
        let d = Contains-dedup nat_list_eq_equiv same_bytes ys w c in
        subst (λ (z : List (List ℕ)). In w z) (sym e) (contains_in (dedup bytes_eq ys) w d.0 d.1 d.2)
