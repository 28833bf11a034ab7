-- What stands at the places of lists that are lengthened, cut or mapped.
use Rattle.std.proofs.Common.{◌≡◌, ℕ, zero, suc, ◌-◌, ◌<◌, ◌≤◌, List, [], ◌∷◌, ◌++◌, length, map, max, take, drop, refl, ◌∙◌, ap, inl, inr, ◌⊎◌, arith, Some}
use Rattle.std.specs.Prelude.{slice_get}
use Rattle.std.proofs.lemmas.List.{length-append, take-append-le, take_all}
use Rattle.tree_laws.proofs.Lists.{In}
use Rattle.path_states.proofs.Looking.{in_at}

module _ {X : Type 0} where
  pub at_front : (xs ys : List X) (i : ℕ) → i < length xs → slice_get (xs ++ ys) i ≡ slice_get xs i
  at_front [] ys i l = absurd (omega arith)
  at_front (x ∷ xs) ys zero l = refl
  at_front (x ∷ xs) ys (suc i) l = let m : i < length xs = omega arith in at_front xs ys i m

  pub at_end : (xs : List X) (x : X) → slice_get (xs ++ x ∷ []) (length xs) ≡ Some x
  at_end [] x = refl
  at_end (y ∷ xs) x = at_end xs x

  pub last_is : (xs ys : List X) (x : X) → ys ≡ xs ++ x ∷ [] → slice_get ys (length ys - 1) ≡ Some x
  last_is xs ys x e =
      let f = ap length e in
      let g = length-append xs (x ∷ []) in
      let n : length ys - 1 ≡ length xs = omega arith in
      ap (slice_get ys) n ∙ (ap (λ z. slice_get z (length xs)) e ∙ at_end xs x)

  pub at_one_more : (xs : List X) (x : X) (i : ℕ) (r : X) → slice_get (xs ++ x ∷ []) i ≡ Some r → (slice_get xs i ≡ Some r) ⊎ ((i ≡ length xs) × (r ≡ x))
  at_one_more [] x zero r e = let f : r ≡ x = cc in inr (refl, f)
  at_one_more [] x (suc i) r e = absurd (cc)
  at_one_more (y ∷ xs) x zero r e = inl e
  at_one_more (y ∷ xs) x (suc i) r e = elim (at_one_more xs x i r e) [ inl a ↦ inl a | inr a ↦ inr (ap suc a.0, a.1) ]

  pub take_at : (xs : List X) (k i : ℕ) (x : X) → slice_get (take k xs) i ≡ Some x → (i < k) × (slice_get xs i ≡ Some x)
  take_at xs zero i x e = absurd (cc)
  take_at [] (suc k) i x e = absurd (cc)
  take_at (y ∷ ys) (suc k) zero x e = (omega arith, e)
  take_at (y ∷ ys) (suc k) (suc i) x e = let r = take_at ys k i x e in let l = r.0 in (omega arith, r.1)

  pub at_take : (xs : List X) (k i : ℕ) (x : X) → i < k → slice_get xs i ≡ Some x → slice_get (take k xs) i ≡ Some x
  at_take xs zero i x l e = absurd (omega arith)
  at_take [] (suc k) i x l e = absurd (cc)
  at_take (y ∷ ys) (suc k) zero x l e = e
  at_take (y ∷ ys) (suc k) (suc i) x l e = let m : i < k = omega arith in at_take ys k i x m e

  pub at_drop : (xs : List X) (k i : ℕ) (x : X) → k ≤ i → slice_get xs i ≡ Some x → In x (drop k xs)
  at_drop xs zero i x l e = in_at xs i x e
  at_drop [] (suc k) i x l e = absurd (cc)
  at_drop (y ∷ ys) (suc k) zero x l e = absurd (omega arith)
  at_drop (y ∷ ys) (suc k) (suc i) x l e = let m : k ≤ i = omega arith in at_drop ys k i x m e

  pub place_of : (xs : List X) (x : X) → In x xs → (i : ℕ) × (slice_get xs i ≡ Some x)
  place_of [] x j = absurd j
  place_of (y ∷ ys) x (inl e) = (0, ap (λ (z : X). Some z) e)
  place_of (y ∷ ys) x (inr j) = let r = place_of ys x j in (suc r.0, r.1)

  pub drop_at : (xs : List X) (k : ℕ) (x : X) → In x (drop k xs) → (i : ℕ) × (k ≤ i) × (slice_get xs i ≡ Some x)
  drop_at xs zero x j = let r = place_of xs x j in (r.0, omega arith, r.1)
  drop_at [] (suc k) x j = absurd j
  drop_at (y ∷ ys) (suc k) x j = let r = drop_at ys k x j in let l = r.1 in (suc r.0, omega arith, r.2)

  pub take_less : (n m : ℕ) (xs : List X) → n ≤ m → take n (take m xs) ≡ take n xs
  take_less zero m xs l = refl
  take_less (suc n) zero xs l = absurd (omega arith)
  take_less (suc n) (suc m) [] l = refl
  take_less (suc n) (suc m) (x ∷ xs) l = let k : n ≤ m = omega arith in ap (λ z. x ∷ z) (take_less n m xs k)

  -- all but the last; the first one stays
  pub outer_push : (xs : List X) (x : X) → 0 < length xs → take (max 1 (length (xs ++ x ∷ []) - 1)) (xs ++ x ∷ []) ≡ xs
  outer_push xs x l =
      let f = length-append xs (x ∷ []) in
      let k : max 1 (length (xs ++ x ∷ []) - 1) ≡ length xs = omega arith in
      ap (λ (z : ℕ). take z (xs ++ x ∷ [])) k ∙ (take-append-le (length xs) xs (x ∷ []) (omega arith) ∙ take_all (length xs) xs (omega arith))

module _ {X Y : Type 0} (f : X → Y) where
  pub map_push : (xs : List X) (x : X) → map f (xs ++ x ∷ []) ≡ map f xs ++ f x ∷ []
  map_push [] x = refl
  map_push (y ∷ xs) x = ap (λ (z : List Y). f y ∷ z) (map_push xs x)

  pub map_length : (xs : List X) → length (map f xs) ≡ length xs
  map_length [] = refl
  map_length (x ∷ xs) = ap suc (map_length xs)

  pub at_map : (xs : List X) (i : ℕ) (x : X) → slice_get xs i ≡ Some x → slice_get (map f xs) i ≡ Some (f x)
  at_map [] i x e = absurd (cc)
  at_map (y ∷ xs) zero x e = let g : y ≡ x = cc in ap (λ (z : X). Some (f z)) g
  at_map (y ∷ xs) (suc i) x e = at_map xs i x e

  pub map_at : (xs : List X) (i : ℕ) (y : Y) → slice_get (map f xs) i ≡ Some y → (x : X) × (slice_get xs i ≡ Some x) × (f x ≡ y)
  map_at [] i y e = absurd (cc)
  map_at (x ∷ xs) zero y e = let g : f x ≡ y = cc in (x, refl, g)
  map_at (x ∷ xs) (suc i) y e = map_at xs i y e

pub map_same : {X Y : Type 0} (f g : X → Y) (xs : List X) → ((x : X) → In x xs → f x ≡ g x) → map f xs ≡ map g xs
map_same f g [] h = refl
map_same {Y = Y} f g (x ∷ xs) h = ap (λ (z : Y). z ∷ map f xs) (h x (inl refl)) ∙ ap (λ (z : List Y). g x ∷ z) (map_same f g xs (λ y j. h y (inr j)))
