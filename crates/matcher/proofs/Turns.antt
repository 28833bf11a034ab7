-- Signs by rising role, and one put at its place.
use Rattle.std.proofs.Common.{◌≡◌, ℕ, zero, suc, ◌-◌, ◌<◌, ◌≤◌, List, [], ◌∷◌, ◌++◌, length, take, drop, get_or, refl, sym, ap, subst, inl, inr, arith, drop-cons}
use Rattle.std.specs.List.{insert}
use Rattle.std.proofs.lemmas.List.{take-append-drop}
use Rattle.tree_laws.proofs.Lists.{In, In-left, In-right, In-append}
use Rattle.matcher.specs.Signs.{InTurn}
use Rattle.matcher.specs.declared.signs.Sign.{Sign}
use Rattle.path_states.proofs.Gaining.{in_get}

-- one place down
pub turn_down : (xs : List Sign) (p r : ℕ) (d : Sign) → 0 < p → p ≤ length xs → r ≤ (get_or xs (p - 1) d).role → ((s : Sign) → In s (drop p xs) → r ≤ s.role) → (s : Sign) → In s (drop (p - 1) xs) → r ≤ s.role
turn_down xs zero r d l m h k s i = absurd (omega arith)
turn_down xs (suc q) r d l m h k s i =
    let e : suc q - 1 ≡ q = omega arith in
    let n : q < length xs = omega arith in
    elim (subst (λ (z : List Sign). In s z) (drop-cons xs q d n) (subst (λ (z : ℕ). In s (drop z xs)) e i)) [
      | inl f ↦ subst (λ (z : Sign). r ≤ z.role) f (subst (λ (z : ℕ). r ≤ (get_or xs z d).role) e h)
      | inr j ↦ k s j
    ]

turn_take : (xs : List Sign) → InTurn xs → (p : ℕ) (d : Sign) → p < length xs → (s : Sign) → In s (take (suc p) xs) → s.role ≤ (get_or xs p d).role
turn_take [] t p d l s i = absurd (omega arith)
turn_take (x ∷ xs) t zero d l s (inl e) = let f = ap (λ (z : Sign). z.role) e in omega arith
turn_take (x ∷ xs) t zero d l s (inr i) = absurd i
turn_take (x ∷ xs) t (suc p) d l s (inl e) = let m : p < length xs = omega arith in let f = t.0 (get_or xs p d) (in_get xs p d m) in let g = ap (λ (z : Sign). z.role) e in omega arith
turn_take (x ∷ xs) t (suc p) d l s (inr i) = let m : p < length xs = omega arith in turn_take xs t.1 p d m s i

-- the signs before one are of no greater role
pub turn_before : (xs : List Sign) → InTurn xs → (p : ℕ) (d : Sign) → p < length xs → (s : Sign) → In s (take p xs) → s.role ≤ (get_or xs p d).role
turn_before xs t p d l s i = turn_take xs t p d l s (one_more xs p i)
  where
    one_more : (xs : List Sign) (p : ℕ) → In s (take p xs) → In s (take (suc p) xs)
    one_more [] zero i = absurd i
    one_more [] (suc p) i = absurd i
    one_more (x ∷ xs) zero i = absurd i
    one_more (x ∷ xs) (suc p) (inl e) = inl e
    one_more (x ∷ xs) (suc p) (inr i) = inr (one_more xs p i)

-- those before the place are of no greater role, where the last of them is
pub turn_before_place : (xs : List Sign) (p r : ℕ) (d : Sign) → InTurn xs → p ≤ length xs → (0 < p → (get_or xs (p - 1) d).role ≤ r) → (s : Sign) → In s (take p xs) → s.role ≤ r
turn_before_place xs zero r d t l h s i = absurd i
turn_before_place xs (suc q) r d t l h s i =
    let e : suc q - 1 ≡ q = omega arith in
    let n : q < length xs = omega arith in
    let some : 0 < suc q = omega arith in
    let b : (get_or xs q d).role ≤ r = subst (λ (z : ℕ). (get_or xs z d).role ≤ r) e (h some) in
    let f = turn_take xs t q d n s i in
    omega arith

turn_between : (a b : List Sign) (x : Sign) → InTurn (a ++ b) → ((s : Sign) → In s a → s.role ≤ x.role) → ((s : Sign) → In s b → x.role ≤ s.role) → InTurn (a ++ x ∷ b)
turn_between [] b x t h k = (k, t)
turn_between (y ∷ a) b x t h k = (
  (λ s i. elim (In-append s a (x ∷ b) i) [
    | inl j ↦ t.0 s (In-left s a b j)
    | inr j ↦ elim j [ inl e ↦ subst (λ (z : Sign). y.role ≤ z.role) e (h y (inl refl)) | inr m ↦ t.0 s (In-right s a b m) ]
  ]),
  turn_between a b x t.1 (λ s i. h s (inr i)) k,
)

pub turn_insert : (xs ys : List Sign) (i : ℕ) (x : Sign) → ys ≡ insert xs i x → InTurn xs → ((s : Sign) → In s (take i xs) → s.role ≤ x.role) → ((s : Sign) → In s (drop i xs) → x.role ≤ s.role) → InTurn ys
turn_insert xs ys i x e t h k = subst InTurn (sym e) (turn_between (take i xs) (drop i xs) x (subst InTurn (sym (take-append-drop i xs)) t) h k)
