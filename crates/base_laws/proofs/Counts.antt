-- How often a number stands in a list. Lists in order in which each number stands as often are one.
use Rattle.std.proofs.Common.{◌≡◌, ℕ, ◌+◌, ◌<◌, ◌≤◌, Bool, true, false, List, [], ◌∷◌, ◌++◌, refl, ap, inl, inr, arith, eqb}
use Rattle.std.proofs.lemmas.Bool.{cases_order, ne_eqb, eq-eqb}

abbrev pub as_number : Bool → ℕ
as_number true = 1
as_number false = 0

-- how often the number stands in the list
abbrev pub count : ℕ → List ℕ → ℕ
count c [] = 0
count c (x ∷ xs) = as_number (eqb x c) + count c xs

pub count_append : (c : ℕ) (xs ys : List ℕ) → count c (xs ++ ys) ≡ count c xs + count c ys
count_append c [] ys = omega arith
count_append c (x ∷ xs) ys = omega (arith, count_append c xs ys)

-- all are at least n
abbrev pub AllFrom : ℕ → List ℕ → Type 0
AllFrom n [] = Unit {0}
AllFrom n (x ∷ xs) = (n ≤ x) × AllFrom n xs

-- in order
abbrev pub Up : List ℕ → Type 0
Up [] = Unit {0}
Up (x ∷ xs) = AllFrom x xs × Up xs

pub from_less : (m n : ℕ) (xs : List ℕ) → m ≤ n → AllFrom n xs → AllFrom m xs
from_less m n [] l a = tt
from_less m n (x ∷ xs) l a = (let h = a.0 in omega arith, from_less m n xs l a.1)

none_below : (n c : ℕ) (xs : List ℕ) → AllFrom n xs → c < n → count c xs ≡ 0
none_below n c [] a l = refl
none_below n c (x ∷ xs) a l = let h = a.0 in let e = none_below n c xs a.1 l in rw (ne_eqb x c (λ e. omega arith)) (omega arith)

own : (c : ℕ) (xs : List ℕ) → 1 ≤ count c (c ∷ xs)
own c xs = rw (eq-eqb c c refl) (omega arith)

-- lists in order with the same counts
pub same_up : (xs ys : List ℕ) → Up xs → Up ys → ((c : ℕ) → count c xs ≡ count c ys) → xs ≡ ys
same_up [] [] u v e = refl
same_up [] (y ∷ ys) u v e = let h = e y in let o = own y ys in absurd (omega arith)
same_up (x ∷ xs) [] u v e = let h = e x in let o = own x xs in absurd (omega arith)
same_up (x ∷ xs) (y ∷ ys) u v e = elim (cases_order x y) [
  | inl s ↦ rw s (ap (λ l. y ∷ l) (same_up xs ys u.1 v.1 (λ c. let h = e c in let t = ap (λ z. as_number (eqb z c)) s in omega arith)))
  | inr o ↦ elim o [
    | inl l ↦ (let h = e x in let o = own x xs in let z = none_below y x (y ∷ ys) (omega arith, v.0) l in absurd (omega arith))
    | inr l ↦ (let h = e y in let o = own y ys in let z = none_below x y (x ∷ xs) (omega arith, u.0) l in absurd (omega arith))
  ]
]
