-- What holds at each place of lists.
use Rattle.std.proofs.Common.{◌≡◌, ◌∙◌, ◌∷◌, ◌++◌, zero, suc, [], List, Some, sym, arith, subst}
use Rattle.many_run.specs.Each.{AtEach, OfEach}
use Rattle.many_run.proofs.Walking.{not_there, there}

pub each_map : {X Y : Type 0} (R S : X → Y → Type 0) (xs : List X) (ys : List Y) → ((x : X) (y : Y) → R x y → S x y) → AtEach R xs ys → AtEach S xs ys
each_map R S xs ys f h = record { count = h.count; each = λ i x y is_x is_y. f x y (h.each i x y is_x is_y) }

-- with what holds of the first ones
pub each_with : {X Y : Type 0} (P : X → Type 0) (R S : X → Y → Type 0) (xs : List X) (ys : List Y) → OfEach P xs → ((x : X) (y : Y) → P x → R x y → S x y) → AtEach R xs ys → AtEach S xs ys
each_with P R S xs ys p f h = record { count = h.count; each = λ i x y is_x is_y. f x y (p i x is_x) (h.each i x y is_x is_y) }

-- one behind the other
pub each_on : {X Y Z : Type 0} (R : X → Y → Type 0) (S : Y → Z → Type 0) (T : X → Z → Type 0) (xs : List X) (ys : List Y) (zs : List Z) → ((x : X) (y : Y) (z : Z) → R x y → S y z → T x z)
    → AtEach R xs ys → AtEach S ys zs → AtEach T xs zs
each_on R S T xs ys zs f g h = record {
  count = h.count ∙ g.count;
  each = λ i x z is_x is_z.
      let y = there ys i (let l = not_there xs i x is_x in omega (arith, l, g.count)) in
      f x y.0 z (g.each i x y.0 is_x y.1) (h.each i y.0 z y.1 is_z);
}

-- what holds of the second ones, with what holds of the first ones
pub each_there_with : {X Y : Type 0} (Q : X → Type 0) (R : X → Y → Type 0) (P : Y → Type 0) (xs : List X) (ys : List Y) → OfEach Q xs → ((x : X) (y : Y) → Q x → R x y → P y) → AtEach R xs ys → OfEach P ys
each_there_with Q R P xs ys q f h i y is_y =
    let x = there xs i (let l = not_there ys i y is_y in omega (arith, l, h.count)) in
    f x.0 y (q i x.0 x.1) (h.each i x.0 y x.1 is_y)

-- ---- one more at the end

some_one : {X : Type 0} (a b : X) → Some a ≡ Some b → a ≡ b
some_one a b e = cc

get_push : {X : Type 0} (P : X → Type 0) (xs : List X) (x : X) → OfEach P xs → P x → OfEach P (xs ++ x ∷ [])
get_push P [] x each here zero y at = subst P (some_one x y at) here
get_push P [] x each here (suc i) y at = absurd (cc)
get_push P (z ∷ xs) x each here zero y at = each zero y at
get_push P (z ∷ xs) x each here (suc i) y at = get_push P xs x (λ j w e. each (suc j) w e) here i y at

pub each_push : {X : Type 0} (P : X → Type 0) (xs ys : List X) (x : X) → OfEach P xs → ys ≡ xs ++ x ∷ [] → P x → OfEach P ys
each_push P xs ys x each pushed here = subst (λ (zs : List _). OfEach P zs) (sym pushed) (get_push P xs x each here)
