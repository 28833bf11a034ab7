-- Members of lists.
use Rattle.std.proofs.Common.{◌≡◌, ℕ, zero, suc, ◌<◌, Bool, true, List, [], ◌∷◌, Some, length, take, drop, get_or, map, refl, sym, ◌∙◌, ap, inl, inr, arith}
use Rattle.std.specs.List.{filter, flat_map, list_all}
use Rattle.std.proofs.lemmas.Bool.{and_parts}
use Rattle.gcx_model.specs.Members.{In}
use Rattle.gcx_model.specs.Paths.{head}

pub none_in : {X : Type 0} (xs : List X) → ((x : X) → In x xs → ⊥) → xs ≡ []
none_in [] h = refl
none_in (x ∷ xs) h = absurd (h x (inl refl))

pub head_in : {X : Type 0} (xs : List X) (x : X) → head xs ≡ Some x → In x xs
head_in [] x h = absurd (cc)
head_in (y ∷ ys) x h = let is : y ≡ x = cc in inl is

pub in_take : {X : Type 0} (k : ℕ) (xs : List X) (x : X) → In x (take k xs) → In x xs
in_take zero xs x i = absurd i
in_take (suc k) [] x i = absurd i
in_take (suc k) (y ∷ ys) x (inl e) = inl e
in_take (suc k) (y ∷ ys) x (inr i) = inr (in_take k ys x i)

pub in_drop : {X : Type 0} (k : ℕ) (x : X) (xs : List X) → In x (drop k xs) → In x xs
in_drop zero x xs i = i
in_drop (suc k) x [] i = i
in_drop (suc k) x (y ∷ ys) i = inr (in_drop k x ys i)

pub in_map : {X Y : Type 0} (f : X → Y) (x : X) (xs : List X) → In x xs → In (f x) (map f xs)
in_map f x [] i = absurd i
in_map f x (y ∷ ys) (inl e) = inl (ap f e)
in_map f x (y ∷ ys) (inr i) = inr (in_map f x ys i)

pub from_map : {X Y : Type 0} (f : X → Y) (y : Y) (xs : List X) → In y (map f xs) → (x : X) × In x xs × (f x ≡ y)
from_map f y [] i = absurd i
from_map f y (x ∷ xs) (inl e) = (x, inl refl, e)
from_map f y (x ∷ xs) (inr i) = let r = from_map f y xs i in (r.0, inr r.1, r.2)

-- what holds of all holds of a member
pub list_all_at : {X : Type 0} (p : X → Bool) (x : X) (xs : List X) → list_all p xs ≡ true → In x xs → p x ≡ true
list_all_at p x [] h i = absurd i
list_all_at p x (y ∷ ys) h (inl e) = ap p (sym e) ∙ (and_parts (p y) (list_all p ys) h).0
list_all_at p x (y ∷ ys) h (inr i) = list_all_at p x ys (and_parts (p y) (list_all p ys) h).1 i

-- the place of a number in a list
pub place_of : (b : ℕ) (xs : List ℕ) → In b xs → (k : ℕ) × (k < length xs) × (get_or xs k 0 ≡ b)
place_of b [] i = absurd i
place_of b (x ∷ xs) (inl e) = (0, omega arith, e)
place_of b (x ∷ xs) (inr i) = let r = place_of b xs i in (suc r.0, (let l = r.1 in omega arith), r.2)

-- a filter that all pass
pub filter_all : {X : Type 0} (p : X → Bool) (xs : List X) → ((x : X) → In x xs → p x ≡ true) → filter p xs ≡ xs
filter_all p [] h = refl
filter_all p (x ∷ xs) h = rw (h x (inl refl)) (ap (λ z. x ∷ z) (filter_all p xs (λ y i. h y (inr i))))

-- functions that give the same of each member
pub map_same : {X Y : Type 0} (f g : X → Y) (xs : List X) → ((x : X) → In x xs → f x ≡ g x) → map f xs ≡ map g xs
map_same f g [] h = refl
map_same f g (x ∷ xs) h = rw (h x (inl refl), map_same f g xs (λ y i. h y (inr i))) refl

pub flat_map_same : {X Y : Type 0} (f g : X → List Y) (xs : List X) → ((x : X) → In x xs → f x ≡ g x) → flat_map f xs ≡ flat_map g xs
flat_map_same f g [] h = refl
flat_map_same f g (x ∷ xs) h = rw (h x (inl refl), flat_map_same f g xs (λ y i. h y (inr i))) refl
