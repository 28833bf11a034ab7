use Rattle.std.proofs.Common.{◌≡◌, Bool, true, false, cond, List, [], ◌∷◌, ◌++◌, reverse, refl, sym, ◌∙◌, ap, subst, inl, inr, ◌⊎◌}
use Rattle.std.specs.List.{filter}
use Rattle.std.proofs.lemmas.Bool.{or_cases, or_left, or_right, false≢true}
use Rattle.base_laws.proofs.Lists.{reverse_cons}
pub use Rattle.gcx_model.specs.Members.{In, Once}
use Rattle.gcx_model.specs.Paths.{any}

pub In-left : {X : Type 0} (m : X) (xs ys : List X) → In m xs → In m (xs ++ ys)
In-left m [] ys h = absurd h
In-left m (x ∷ xs) ys (inl e) = inl e
In-left m (x ∷ xs) ys (inr h) = inr (In-left m xs ys h)

pub In-right : {X : Type 0} (m : X) (xs ys : List X) → In m ys → In m (xs ++ ys)
In-right m [] ys h = h
In-right m (x ∷ xs) ys h = inr (In-right m xs ys h)

pub In-append : {X : Type 0} (m : X) (xs ys : List X) → In m (xs ++ ys) → In m xs ⊎ In m ys
In-append m [] ys h = inr h
In-append m (x ∷ xs) ys (inl e) = inl (inl e)
In-append m (x ∷ xs) ys (inr h) = elim (In-append m xs ys h) [ inl k ↦ inl (inr k) | inr k ↦ inr k ]

pub In-reverse : {X : Type 0} (m : X) (xs : List X) → In m (reverse xs) → In m xs
In-reverse m [] i = i
In-reverse {X} m (x ∷ xs) i = elim (In-append m (reverse xs) (x ∷ []) (subst (λ (z : List X). In m z) (reverse_cons x xs) i)) [
  | inl j ↦ inr (In-reverse m xs j)
  | inr j ↦ elim j [ inl e ↦ inl e | inr k ↦ absurd k ]
]

pub In-reversed : {X : Type 0} (m : X) (xs : List X) → In m xs → In m (reverse xs)
In-reversed m [] i = i
In-reversed {X} m (x ∷ xs) (inl e) = subst (λ (z : List X). In m z) (sym (reverse_cons x xs)) (In-right m (reverse xs) (x ∷ []) (inl e))
In-reversed {X} m (x ∷ xs) (inr i) = subst (λ (z : List X). In m z) (sym (reverse_cons x xs)) (In-left m (reverse xs) (x ∷ []) (In-reversed m xs i))

pub In-filter : {X : Type 0} (p : X → Bool) (m : X) (xs : List X) → In m (filter p xs) → In m xs × (p m ≡ true)
In-filter p m [] h = absurd h
In-filter p m (x ∷ xs) h = go (p x) refl (In-filter p m xs) h
  where
    go : (b : Bool) → p x ≡ b → (In m (filter p xs) → In m xs × (p m ≡ true)) → In m (cond b (x ∷ filter p xs) (filter p xs)) → In m (x ∷ xs) × (p m ≡ true)
    go true e ih (inl f) = (inl f, ap p (sym f) ∙ e)
    go true e ih (inr k) = (inr (ih k).0, (ih k).1)
    go false e ih k = (inr (ih k).0, (ih k).1)

pub In-kept : {X : Type 0} (p : X → Bool) (m : X) (xs : List X) → In m xs → p m ≡ true → In m (filter p xs)
In-kept p m [] h e = absurd h
In-kept p m (x ∷ xs) h e = go (p x) refl (λ k. In-kept p m xs k e) h
  where
    go : (b : Bool) → p x ≡ b → (In m xs → In m (filter p xs)) → In m (x ∷ xs) → In m (cond b (x ∷ filter p xs) (filter p xs))
    go true f ih (inl g) = inl g
    go true f ih (inr k) = inr (ih k)
    go false f ih (inl g) = absurd (false≢true (sym f ∙ (ap p g ∙ e)))
    go false f ih (inr k) = ih k

pub any_in : {X : Type 0} (p : X → Bool) (xs : List X) → any p xs ≡ true → (x : X) × In x xs × (p x ≡ true)
any_in p [] h = absurd (false≢true h)
any_in p (x ∷ xs) h = elim (or_cases (p x) (any p xs) h) [
  | inl e ↦ (x, inl refl, e)
  | inr k ↦ let r = any_in p xs k in (r.0, inr r.1, r.2)
]

pub any_from : {X : Type 0} (p : X → Bool) (x : X) (xs : List X) → In x xs → p x ≡ true → any p xs ≡ true
any_from p x [] h e = absurd h
any_from p x (y ∷ ys) (inl f) e = or_left (p y) (any p ys) (ap p f ∙ e)
any_from p x (y ∷ ys) (inr h) e = or_right (p y) (any p ys) (any_from p x ys h e)

-- nothing is kept of a list none of which passes
pub filter_none : {X : Type 0} (p : X → Bool) (xs : List X) → ((x : X) → In x xs → p x ≡ false) → filter p xs ≡ []
filter_none p [] h = refl
filter_none p (x ∷ xs) h = rw (h x (inl refl)) (filter_none p xs (λ y k. h y (inr k)))

pub filter_same : {X : Type 0} (p q : X → Bool) (xs : List X) → ((x : X) → In x xs → p x ≡ q x) → filter p xs ≡ filter q xs
filter_same p q [] h = refl
filter_same p q (x ∷ xs) h = rw (h x (inl refl), filter_same p q xs (λ y k. h y (inr k))) refl
