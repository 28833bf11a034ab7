-- Scopes that grow and are left.
use Rattle.std.proofs.Common.{ℕ, zero, suc, ◌≡◌, ◌≤◌, ◌-◌, Bool, true, false, ◌||◌, List, [], ◌∷◌, ◌++◌, length, drop, reverse, refl, sym, ap, ◌∙◌, subst, arith}
use Rattle.std.specs.List.{list_any}
use Rattle.std.proofs.lemmas.List.{reverse-append}
use Rattle.gcx_model.specs.Paths.{any}
use Rattle.xq_parse.specs.Places.{Scope}
use Rattle.xq_parse.specs.Behind.{Extends}

pub extends_same : (sc : Scope) → Extends sc sc
extends_same sc = let e : length sc - length sc ≡ 0 = omega arith in record { longer = omega arith; same = ap (λ (n : ℕ). drop n sc) e }

pub extends_more : (x : List ℕ) (inner outer : Scope) → Extends inner outer → Extends (x ∷ inner) outer
extends_more x inner outer e =
    let h = e.longer in
    let n : length (x ∷ inner) - length outer ≡ suc (length inner - length outer) = omega arith in
    record { longer = omega arith; same = ap (λ (n : ℕ). drop n (x ∷ inner)) n ∙ e.same }

-- the scope behind one clause more
pub extends_after : (x : List ℕ) (after inner outer : Scope) → after ≡ x ∷ inner → Extends inner outer → Extends after outer
extends_after x after inner outer a e = subst (λ (s : Scope). Extends s outer) (sym a) (extends_more x inner outer e)

pub extends_one : (x : List ℕ) (after outer : Scope) → after ≡ x ∷ outer → Extends after outer
extends_one x after outer a = extends_after x after outer outer a (extends_same outer)

drop_more : (n : ℕ) (xs : Scope) → drop (suc n) xs ≡ drop 1 (drop n xs)
drop_more zero xs = refl
drop_more (suc n) [] = refl
drop_more (suc n) (x ∷ xs) = drop_more n xs

-- of a scope with one name more outside
pub extends_inner : (x : List ℕ) (inner between outer : Scope) → Extends inner between → between ≡ x ∷ outer → Extends inner outer
extends_inner x inner between outer e b =
    let h : length (x ∷ outer) ≤ length inner = subst (λ (s : Scope). length s ≤ length inner) b e.longer in
    let n : length inner - length outer ≡ suc (length inner - length (x ∷ outer)) = omega arith in
    record {
      longer = omega arith;
      same =
          ap (λ (k : ℕ). drop k inner) n
          ∙ drop_more (length inner - length (x ∷ outer)) inner
          ∙ ap (drop 1) (subst (λ (s : Scope). drop (length inner - length s) inner ≡ s) b e.same);
    }

any-append : (p : List ℕ → Bool) (xs ys : Scope) → any p (xs ++ ys) ≡ any p xs || any p ys
any-append p [] ys = refl
any-append p (x ∷ xs) ys = ap (λ (b : Bool). p x || b) (any-append p xs ys) ∙ assoc (p x) (any p xs) (any p ys)
  where
    assoc : (a b c : Bool) → a || (b || c) ≡ (a || b) || c
    assoc true b c = refl
    assoc false b c = refl

pub any_reverse : (p : List ℕ → Bool) (xs : Scope) → list_any p xs ≡ any p (reverse xs)
any_reverse p [] = refl
any_reverse p (x ∷ xs) = swap (p x) (list_any p xs) (any p (reverse xs)) (any_reverse p xs) ∙ sym (any-append p (reverse xs) (x ∷ [])) ∙ ap (any p) (sym (reverse-append (x ∷ []) xs))
  where
    swap : (a b c : Bool) → b ≡ c → a || b ≡ c || (a || false)
    swap true b true e = refl
    swap true b false e = refl
    swap false true true e = refl
    swap false false false e = refl
    swap false true false e = absurd cc
    swap false false true e = absurd cc
