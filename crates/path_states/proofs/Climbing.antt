-- Rising lists, and a number put at its place.
use Rattle.std.proofs.Common.{◌≡◌, ℕ, zero, suc, ◌+◌, ◌-◌, max, ◌<◌, ◌≤◌, List, [], ◌∷◌, ◌++◌, length, take, drop, get_or, refl, sym, ◌∙◌, ap, subst, inl, inr, ◌⊎◌, arith, drop-cons, Some}
use Rattle.std.specs.List.{insert}
use Rattle.std.specs.Prelude.{map, slice_get}
use Rattle.std.proofs.lemmas.List.{take-append-drop, take_more, take_all, append-nil}
use Rattle.gcx_base.specs.declared.ids.Role.{Role}
use Rattle.gcx_model.specs.Given.{IsAboveLast}
use Rattle.tree_laws.proofs.Lists.{In, In-left, In-right, In-append}
use Rattle.path_states.proofs.Gaining.{in_get}
use Rattle.path_states.specs.Lists.{Climbs, Parted}

-- one place down
pub place_down : (xs : List ℕ) (p x : ℕ) → 0 < p → p ≤ length xs → x ≤ get_or xs (p - 1) 0 → ((y : ℕ) → In y (drop p xs) → x ≤ y) → (y : ℕ) → In y (drop (p - 1) xs) → x ≤ y
place_down xs zero x l m h k y i = absurd (omega arith)
place_down xs (suc q) x l m h k y i =
    let e : suc q - 1 ≡ q = omega arith in
    let n : q < length xs = omega arith in
    elim (subst (λ (z : List ℕ). In y z) (ap (λ (z : ℕ). drop z xs) e ∙ drop-cons xs q 0 n) i) [
      | inl f ↦ subst (λ (z : ℕ). x ≤ z) f (subst (λ (z : ℕ). x ≤ get_or xs z 0) e h)
      | inr j ↦ k y j
    ]

climbs_take : (xs : List ℕ) → Climbs xs → (p : ℕ) → p < length xs → (y : ℕ) → In y (take (suc p) xs) → y ≤ get_or xs p 0
climbs_take [] c p l y i = absurd (omega arith)
climbs_take (x ∷ xs) c zero l y (inl e) = omega arith
climbs_take (x ∷ xs) c zero l y (inr i) = absurd i
climbs_take (x ∷ xs) c (suc p) l y (inl e) = let m : p < length xs = omega arith in let f = c.0 (get_or xs p 0) (in_get xs p 0 m) in omega arith
climbs_take (x ∷ xs) c (suc p) l y (inr i) = let m : p < length xs = omega arith in climbs_take xs c.1 p m y i

-- those before the place are below, where the last of them is
pub parts_at : (xs : List ℕ) (p x : ℕ) → Climbs xs → p ≤ length xs → (0 < p → get_or xs (p - 1) 0 < x) → ((y : ℕ) → In y (drop p xs) → x ≤ y) → Parted xs p x
parts_at xs zero x c l h k = record { within = l; before = λ y i. absurd i; behind = k }
parts_at xs (suc q) x c l h k =
    let e : suc q - 1 ≡ q = omega arith in
    let n : q < length xs = omega arith in
    let some : 0 < suc q = omega arith in
    let b : get_or xs q 0 < x = subst (λ (z : ℕ). get_or xs z 0 < x) e (h some) in
    record { within = l; before = λ y i. (let f = climbs_take xs c q n y i in omega arith); behind = k }

climbs_between : (a b : List ℕ) (x : ℕ) → Climbs (a ++ b) → ((y : ℕ) → In y a → y < x) → ((y : ℕ) → In y b → x < y) → Climbs (a ++ x ∷ b)
climbs_between [] b x c h k = (k, c)
climbs_between (z ∷ a) b x c h k = (
  (λ y i. elim (In-append y a (x ∷ b) i) [
    | inl j ↦ c.0 y (In-left y a b j)
    | inr j ↦ elim j [ inl e ↦ subst (λ (w : ℕ). z < w) e (h z (inl refl)) | inr m ↦ c.0 y (In-right y a b m) ]
  ]),
  climbs_between a b x c.1 (λ y i. h y (inr i)) k,
)

pub climbs_insert : (xs ys : List ℕ) (i x : ℕ) → ys ≡ insert xs i x → Climbs xs → Parted xs i x → (In x xs → ⊥) → Climbs ys
climbs_insert xs ys i x e c p n =
    let t = take-append-drop i xs in
    subst Climbs (sym e) (climbs_between (take i xs) (drop i xs) x (subst Climbs (sym t) c) p.before
    (λ y j. let l = p.behind y j in below y j l))
  where
    below : (y : ℕ) → In y (drop i xs) → x ≤ y → x < y
    below y j l = let d : x ≡ y → ⊥ = (λ f. n (subst (λ (z : List ℕ). In x z) (take-append-drop i xs) (In-right x (take i xs) (drop i xs) (subst (λ (z : ℕ). In z (drop i xs)) (sym f) j)))) in omega arith

pub climbs_push : (xs ys : List ℕ) (i x : ℕ) → ys ≡ xs ++ x ∷ [] → length xs ≤ i → Climbs xs → Parted xs i x → Climbs ys
climbs_push xs ys i x e l c p =
    subst Climbs (sym e) (climbs_between xs [] x (subst Climbs (sym (append-nil xs)) c)
    (λ y j. p.before y (subst (λ (z : List ℕ). In y z) (sym (take_all i xs l)) j)) (λ y j. absurd j))

in_behind : (xs : List ℕ) (i x : ℕ) → Climbs xs → ((y : ℕ) → In y (drop i xs) → x ≤ y) → In x (drop i xs) → slice_get xs i ≡ Some x
in_behind [] zero x c k j = absurd j
in_behind [] (suc i) x c k j = absurd j
in_behind (z ∷ xs) zero x c k (inl e) = ap Some e
in_behind (z ∷ xs) zero x c k (inr j) = let l = c.0 x j in let m = k z (inl refl) in absurd (omega arith)
in_behind (z ∷ xs) (suc i) x c k j = in_behind xs i x c.1 k j

-- a number that doesn't stand at its place isn't in the list
pub not_there : (xs : List ℕ) (i x : ℕ) → Climbs xs → Parted xs i x → (slice_get xs i ≡ Some x → ⊥) → In x xs → ⊥
not_there xs i x c p n j =
    elim (In-append x (take i xs) (drop i xs) (subst (λ (z : List ℕ). In x z) (sym (take-append-drop i xs)) j)) [
      | inl k ↦ (let l = p.before x k in omega arith)
      | inr k ↦ n (in_behind xs i x c p.behind k)
    ]

climbs_before : (xs : List ℕ) → Climbs xs → (i : ℕ) → i < length xs → (y : ℕ) → In y (take i xs) → y < get_or xs i 0
climbs_before [] c i l y j = absurd (omega arith)
climbs_before (x ∷ xs) c zero l y j = absurd j
climbs_before (x ∷ xs) c (suc i) l y (inl e) = let m : i < length xs = omega arith in let f = c.0 (get_or xs i 0) (in_get xs i 0 m) in omega arith
climbs_before (x ∷ xs) c (suc i) l y (inr j) = let m : i < length xs = omega arith in climbs_before xs c.1 i m y j

all_above : (gs : List Role) (r : Role) → ((y : ℕ) → In y (map (λ (z : Role). z.0) gs) → y < r.0) → IsAboveLast gs r
all_above [] r h = tt
all_above (g ∷ []) r h = h g.0 (inl refl)
all_above (g ∷ (k ∷ gs)) r h = all_above (k ∷ gs) r (λ y i. h y (inr i))

-- the next number of a rising list is above the roles so far
pub next_above : (xs : List ℕ) (gs : List Role) (i : ℕ) (r : Role) → Climbs xs → i < length xs → map (λ (z : Role). z.0) gs ≡ take i xs → r.0 ≡ get_or xs i 0 → IsAboveLast gs r
next_above xs gs i r c l e f = all_above gs r (λ y j. subst (λ (z : ℕ). y < z) (sym f) (climbs_before xs c i l y (subst (λ (z : List ℕ). In y z) e j)))

pub next_given : (xs : List ℕ) (gs hs : List Role) (i : ℕ) (r : Role) → Climbs xs → i < length xs → r.0 ≡ get_or xs i 0 → map (λ (z : Role). z.0) gs ≡ take i xs
    → (IsAboveLast gs r → map (λ (z : Role). z.0) hs ≡ map (λ (z : Role). z.0) gs ++ r.0 ∷ []) → map (λ (z : Role). z.0) hs ≡ take (i + 1) xs
next_given xs gs hs i r c l f e h = h (next_above xs gs i r c l e f) ∙ (ap (λ (z : List ℕ). z ++ r.0 ∷ []) e ∙ (ap (λ (z : ℕ). take i xs ++ z ∷ []) f ∙ sym (take_more xs i 0 l)))

-- the last of the roles
pub above_from : (xs : List Role) (x r : Role) → 0 < length xs → x ≡ get_or xs (length xs - 1) x → x.0 < r.0 → IsAboveLast xs r
above_from [] x r l e h = absurd (omega arith)
above_from (a ∷ []) x r l e h = subst (λ (z : Role). z.0 < r.0) e h
above_from (a ∷ (b ∷ xs)) x r l e h =
    let f : length (a ∷ (b ∷ xs)) - 1 ≡ suc (length (b ∷ xs) - 1) = omega arith in
    above_from (b ∷ xs) x r (omega arith) (e ∙ ap (λ (z : ℕ). get_or (a ∷ (b ∷ xs)) z x) f) h

pub above_to : (xs : List Role) (x r : Role) → 0 < length xs → x ≡ get_or xs (length xs - 1) x → IsAboveLast xs r → x.0 < r.0
above_to [] x r l e h = absurd (omega arith)
above_to (a ∷ []) x r l e h = subst (λ (z : Role). z.0 < r.0) (sym e) h
above_to (a ∷ (b ∷ xs)) x r l e h =
    let f : length (a ∷ (b ∷ xs)) - 1 ≡ suc (length (b ∷ xs) - 1) = omega arith in
    above_to (b ∷ xs) x r (omega arith) (e ∙ ap (λ (z : ℕ). get_or (a ∷ (b ∷ xs)) z x) f) h

pub less_or : (k n : ℕ) → k < n + 1 → (k < n) ⊎ (n ≡ k)
less_or k zero l = inr (omega arith)
less_or zero (suc n) l = inl (omega arith)
less_or (suc k) (suc n) l = let m : k < n + 1 = omega arith in elim (less_or k n m) [ inl a ↦ inl (omega arith) | inr e ↦ inr (ap suc e) ]

pub le_or : (a b : ℕ) → (a ≤ b) ⊎ (b ≤ a)
le_or zero b = inl (omega arith)
le_or (suc a) zero = inr (omega arith)
le_or (suc a) (suc b) = elim (le_or a b) [ inl l ↦ inl (omega arith) | inr l ↦ inr (omega arith) ]

-- g is the greatest of the first i, and 0 where there is none
abbrev pub Greatest : List ℕ → ℕ → ℕ → Type 0
Greatest us i g = ((k : ℕ) → In k (take i us) → k ≤ g) × ((k : ℕ) → k < g → In g us)

pub greatest_more : (us : List ℕ) (i g h : ℕ) → i < length us → h ≡ max g (get_or us i 0) → Greatest us i g → Greatest us (i + 1) h
greatest_more us i g h l e inv = (
  (λ k j. elim (In-append k (take i us) (get_or us i 0 ∷ []) (subst (λ (z : List ℕ). In k z) (take_more us i 0 l) j)) [
    | inl m ↦ (let f = inv.0 k m in omega arith)
    | inr m ↦ elim m [ inl f ↦ omega arith | inr b ↦ absurd b ]
  ]),
  (λ k m. elim (le_or g (get_or us i 0)) [
    | inl n ↦ (let f : get_or us i 0 ≡ h = omega arith in subst (λ (z : ℕ). In z us) f (in_get us i 0 l))
    | inr n ↦ (let f : g ≡ h = omega arith in subst (λ (z : ℕ). In z us) f (inv.1 k (omega arith)))
  ]),
)
