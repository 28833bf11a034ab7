-- Texts that are joined, one behind the other.
use Rattle.std.proofs.Common.{ℕ, zero, suc, ◌≡◌, ◌+◌, ◌<◌, ◌≤◌, Bool, true, false, cond, List, [], ◌∷◌, ◌++◌, map, flat_map, length, take, get_or, refl, sym, ap, ◌∙◌, arith, append_assoc, append-nil, add-one}
use Rattle.std.proofs.lemmas.List.{map-append}
use Rattle.std.proofs.lemmas.Grind.{flat_map-append}
use Rattle.xq_print.specs.Printed.{joined}

-- something stands before the next one
abbrev pub is_later : {A : Type 0} → List A → Bool
is_later [] = false
is_later (x ∷ xs) = true

one_more : {A : Type 0} (xs : List A) (i : ℕ) (x : A) → i < length xs → x ≡ get_or xs i x → take (suc i) xs ≡ take i xs ++ x ∷ []
one_more [] i x h e = absurd (omega arith)
one_more (y ∷ ys) zero x h e = ap (λ z. z ∷ []) (sym e)
one_more (y ∷ ys) (suc i) x h e = ap (λ zs. y ∷ zs) (one_more ys i x (omega arith) e)

pub take_more : {A : Type 0} (xs : List A) (i : ℕ) (x : A) → i < length xs → x ≡ get_or xs i x → take (i + 1) xs ≡ take i xs ++ x ∷ []
take_more xs i x h e = ap (λ n. take n xs) (add-one i) ∙ one_more xs i x h e

joined_more : (between : List ℕ) (ts : List (List ℕ)) (t : List ℕ) → joined between (ts ++ t ∷ []) ≡ joined between ts ++ (cond (is_later ts) between [] ++ t)
joined_more between [] t = append-nil t
joined_more between (u ∷ us) t =
    ap (λ (x : List ℕ). u ++ x) (flat_map-append (λ (x : List ℕ). between ++ x) us (t ∷ []) ∙ ap (λ (x : List ℕ). flat_map (λ (y : List ℕ). between ++ y) us ++ x) (append-nil (between ++ t)))
    ∙ sym (append_assoc u (flat_map (λ (y : List ℕ). between ++ y) us) (between ++ t))

later_map : {A B : Type 0} (f : A → B) (xs : List A) → is_later (map f xs) ≡ is_later xs
later_map f [] = refl
later_map f (x ∷ xs) = refl

later_more : {A : Type 0} (xs : List A) (x : A) → is_later (xs ++ x ∷ []) ≡ true
later_more [] x = refl
later_more (y ∷ ys) x = refl

-- So far these many members are printed, and whether there are any is known.
pub record IsJoined (A : Type 0) (text : A → List ℕ) (between old : List ℕ) (xs : List A) (i : ℕ) (out : List ℕ) (later : Bool) : Type 0 where
  pub out_is : out ≡ old ++ joined between (map text (take i xs))
  pub later_is : later ≡ is_later (take i xs)

pub one_joined : {A : Type 0} (text : A → List ℕ) (between old : List ℕ) (xs : List A) (i : ℕ) (x : A) (out now : List ℕ) (later : Bool) →
    IsJoined A text between old xs i out later → i < length xs → x ≡ get_or xs i x → now ≡ out ++ (cond later between [] ++ text x) → IsJoined A text between old xs (i + 1) now true
one_joined text between old xs i x out now later j h e put = record {
  out_is =
      put
      ∙ ((λ k. j.out_is k ++ (cond (j.later_is k) between [] ++ text x))
      ∙ (append_assoc old (joined between (map text (take i xs))) (cond (is_later (take i xs)) between [] ++ text x)
      ∙ ap (λ (y : List ℕ). old ++ y)
      (ap (λ b. joined between (map text (take i xs)) ++ (cond b between [] ++ text x)) (sym (later_map text (take i xs)))
      ∙ (sym (joined_more between (map text (take i xs)) (text x))
      ∙ ap (joined between) (sym (map-append text (take i xs) (x ∷ [])) ∙ ap (map text) (sym (take_more xs i x h e)))))));
  later_is = sym (ap is_later (take_more xs i x h e) ∙ later_more (take i xs) x);
}

take_all : {A : Type 0} (xs : List A) (i : ℕ) → length xs ≤ i → take i xs ≡ xs
take_all [] zero h = refl
take_all [] (suc i) h = refl
take_all (x ∷ xs) zero h = absurd (omega arith)
take_all (x ∷ xs) (suc i) h = ap (λ ys. x ∷ ys) (take_all xs i (omega arith))

-- behind the last one
pub all_joined : {A : Type 0} (text : A → List ℕ) (between old : List ℕ) (xs : List A) (i : ℕ) (out : List ℕ) (later : Bool) →
    IsJoined A text between old xs i out later → length xs ≤ i → out ≡ old ++ joined between (map text xs)
all_joined text between old xs i out later j h = j.out_is ∙ ap (λ ys. old ++ joined between (map text ys)) (take_all xs i h)

-- one behind the other
pub after : (old a b x y : List ℕ) → a ≡ old ++ x → b ≡ a ++ y → b ≡ old ++ (x ++ y)
after old a b x y e h = h ∙ (ap (λ (z : List ℕ). z ++ y) e ∙ append_assoc old x y)
