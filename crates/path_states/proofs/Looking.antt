-- What stands at a place of a list.
use Rattle.std.proofs.lemmas.Bool.{false≢true, eqb-true, eq-eqb}
use Rattle.std.proofs.Common.{true, false, eqb, zero, suc, ap, ◌≡◌, ℕ, ◌<◌, ◌≤◌, List, [], ◌∷◌, length, get_or, refl, sym, ◌∙◌, subst, inl, inr, arith, Some, None}
use Rattle.std.specs.Prelude.{slice_get}
use Rattle.std.proofs.lemmas.Option.{slice_get_cases, slice_get_read, slice_get_past}
use Rattle.tree_laws.proofs.Lists.{In}

pub some_at : {X : Type 0} (xs : List X) (i : ℕ) → i < length xs → (x : X) × (slice_get xs i ≡ Some x)
some_at xs i l = elim (slice_get_cases xs i).1 [ inl r ↦ (r.0, r.2) | inr r ↦ let f = r.0 in absurd (omega arith) ]

pub one_at : {X : Type 0} (xs : List X) (i : ℕ) (x y : X) → slice_get xs i ≡ Some x → slice_get xs i ≡ Some y → x ≡ y
one_at xs i x y e f = let g : Some x ≡ Some y = sym e ∙ f in cc

pub read_at : {X : Type 0} (xs : List X) (i : ℕ) (x : X) → i < length xs → x ≡ get_or xs i x → slice_get xs i ≡ Some x
read_at xs i x l e = slice_get_read xs (length xs) i x refl l e

pub none_at : {X : Type 0} (xs : List X) (i : ℕ) (x : X) → length xs ≤ i → slice_get xs i ≡ Some x → ⊥
none_at xs i x l e = let g : None ≡ Some x = sym (slice_get_past xs i l) ∙ e in cc

pub in_some : {X : Type 0} (xs : List X) → (xs ≡ [] → ⊥) → (x : X) × In x xs
in_some [] h = absurd (h refl)
in_some (x ∷ xs) h = (x, inl refl)

pub in_not_none : {X : Type 0} (xs : List X) (x : X) → In x xs → xs ≡ [] → ⊥
in_not_none xs x i e = subst (λ z. In x z) e i

pub some_of : {X : Type 0} (xs : List X) → eqb (length xs) 0 ≡ false → xs ≡ [] → ⊥
some_of xs h e = false≢true (sym h ∙ eq-eqb (length xs) 0 (ap length e))

pub none_of : {X : Type 0} (xs : List X) → eqb (length xs) 0 ≡ true → xs ≡ []
none_of [] h = refl
none_of (x ∷ xs) h = let e : suc (length xs) ≡ 0 = eqb-true (suc (length xs)) 0 h in absurd (omega arith)

pub in_at : {X : Type 0} (xs : List X) (i : ℕ) (x : X) → slice_get xs i ≡ Some x → In x xs
in_at [] i x e = absurd (cc)
in_at (y ∷ xs) zero x e = let f : y ≡ x = cc in inl f
in_at (y ∷ xs) (suc i) x e = inr (in_at xs i x e)

-- where a member stands
pub at_in : {X : Type 0} (xs : List X) (x : X) → In x xs → (i : ℕ) × (slice_get xs i ≡ Some x)
at_in [] x j = absurd j
at_in (y ∷ xs) x (inl e) = (0, ap Some e)
at_in (y ∷ xs) x (inr j) = let r = at_in xs x j in (suc r.0, r.1)
