-- Bytes that are written as they are, and runs of them.
use Rattle.std.proofs.Common.{ℕ, ◌≡◌, refl, sym, ap, ◌∙◌, ◌+◌, ◌≤◌, ◌==◌, Bool, true, false, cond, not, ◌&&◌, List, [], ◌∷◌, ◌++◌, length, take, drop, take_all, append-nil, take-add, Result, Ok, Err, OnErr}
use Rattle.std.specs.List.{list_all}
use Rattle.std.proofs.lemmas.Bool.{and_parts, and_from, false≢true}
use Rattle.std.proofs.lemmas.List.Concat.{flat_map-append}
use Rattle.std.proofs.lemmas.List.Folds.{list_all-append}
use Rattle.gcx_model.specs.Written.{escape, escaped}
use Rattle.doc_write.specs.Plain.{is_plain}

-- what is chosen where none of the three tests holds
last_of : (a b c : Bool) (p q r s : List ℕ) → not a && (not b && not c) ≡ true → cond a p (cond b q (cond c r s)) ≡ s
last_of true b c p q r s h = absurd (false≢true h)
last_of false true c p q r s h = absurd (false≢true h)
last_of false false true p q r s h = absurd (false≢true h)
last_of false false false p q r s h = refl

-- plain bytes are written as they are
pub escaped_plain : (xs : List ℕ) → list_all is_plain xs ≡ true → escaped xs ≡ xs
escaped_plain [] h = refl
escaped_plain (x ∷ xs) h =
    let parts = and_parts (is_plain x) (list_all is_plain xs) h in
    let first : escape x ≡ x ∷ [] = last_of (x == 38) (x == 60) (x == 62) _ _ _ _ parts.0 in
    ap (λ (l : List ℕ). l ++ escaped xs) first ∙ ap (λ (l : List ℕ). x ∷ l) (escaped_plain xs parts.1)

-- a front, and a block behind it
pub plain_more : (xs : List ℕ) (at n : ℕ) → list_all is_plain (take at xs) ≡ true → list_all is_plain (take n (drop at xs)) ≡ true → list_all is_plain (take (at + n) xs) ≡ true
plain_more xs at n h k =
    ap (list_all is_plain) (take-add at n xs) ∙ list_all-append is_plain (take at xs) (take n (drop at xs))
    ∙ and_from (list_all is_plain (take at xs)) (list_all is_plain (take n (drop at xs))) h k

-- all of them where the front is as long as they are
pub escaped_whole : (xs : List ℕ) (n : ℕ) → length xs ≤ n → list_all is_plain (take n xs) ≡ true → escaped xs ≡ xs
escaped_whole xs n l h = escaped_plain xs (ap (list_all is_plain) (sym (take_all n xs l)) ∙ h)

-- a plain front, and a byte behind it
pub escaped_more : (xs : List ℕ) (n : ℕ) (x : ℕ) → list_all is_plain (take n xs) ≡ true → take (n + 1) xs ≡ take n xs ++ x ∷ [] → escaped (take (n + 1) xs) ≡ take n xs ++ escape x
escaped_more xs n x h e =
    ap escaped e ∙ flat_map-append escape (take n xs) (x ∷ []) ∙ ap (λ (l : List ℕ). l ++ escaped (x ∷ [])) (escaped_plain (take n xs) h) ∙ ap (λ (l : List ℕ). take n xs ++ l) (append-nil (escape x))

-- a run behind a front
pub escaped_run : (xs : List ℕ) (at n : ℕ) → escaped (take at xs) ++ escaped (take n (drop at xs)) ≡ escaped (take (at + n) xs)
escaped_run xs at n = sym (ap escaped (take-add at n xs) ∙ flat_map-append escape (take at xs) (take n (drop at xs)))

nil_cons : (y : ℕ) (ys : List ℕ) → ◌≡◌ {A = List ℕ} [] (y ∷ ys) → ⊥
nil_cons y ys e = cc

heads : (x y : ℕ) (xs ys : List ℕ) → x ∷ xs ≡ y ∷ ys → x ≡ y
heads x y xs ys e = cc

tails : (x y : ℕ) (xs ys : List ℕ) → x ∷ xs ≡ y ∷ ys → xs ≡ ys
tails x y xs ys e = cc

-- what was there before stays at the front
pub kept_front : (old more new : List ℕ) → take (length (old ++ more)) new ≡ old ++ more → take (length old) new ≡ old
kept_front [] more new h = refl
kept_front (x ∷ xs) more [] h = absurd (nil_cons x (xs ++ more) h)
kept_front (x ∷ xs) more (y ∷ ys) h =
    let rest = kept_front xs more ys (tails y x (take (length (xs ++ more)) ys) (xs ++ more) h) in
    λ i. heads y x (take (length (xs ++ more)) ys) (xs ++ more) h i ∷ rest i

-- a fact that holds anyway
pub on_err : {A E : Type 0} (P : Type 0) (r : Result A E) → P → OnErr r P
on_err P (Ok x) h = tt
on_err P (Err x) h = h
