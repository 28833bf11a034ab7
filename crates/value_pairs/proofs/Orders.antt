-- Orders of byte lists.
use Rattle.std.proofs.Common.{◌≡◌, ℕ, Bool, true, false, List, refl, sym, ◌∙◌, ap}
use Rattle.std.specs.Ordering.{nat_cmp, ordering_reverse, is_lt, is_le, is_gt, is_ge}
use Rattle.std.specs.Cmp.Lexicographic.{slice_cmp}
use Rattle.std.specs.declared.cmp.Ordering.{Ordering}
use Rattle.std.specs.declared.cmp.Ordering.TheVariants.{Less, Equal, Greater}
use Rattle.std.proofs.lemmas.Cmp.{nat_list_cmp_total, upto}
use Rattle.value_pairs.specs.Extremes.{IsAtMost}

abbrev pub cmp : List ℕ → List ℕ → Ordering
cmp v w = slice_cmp nat_cmp v w

pub clash : (b : Bool) → b ≡ true → b ≡ false → ⊥
clash b t f = let e : ◌≡◌ {A = Bool} true false = sym t ∙ f in absurd (cc)

by_not : (b : Bool) → (b ≡ false → ⊥) → b ≡ true
by_not true f = refl
by_not false f = absurd (f refl)

flip_gt : (x : Ordering) → is_gt (ordering_reverse x) ≡ is_lt x
flip_gt Less = refl
flip_gt Equal = refl
flip_gt Greater = refl

flip_ge : (x : Ordering) → is_ge (ordering_reverse x) ≡ is_le x
flip_ge Less = refl
flip_ge Equal = refl
flip_ge Greater = refl

pub gt_flip : (v w : List ℕ) → is_gt (cmp w v) ≡ is_lt (cmp v w)
gt_flip v w = ap is_gt (nat_list_cmp_total.antisymm w v) ∙ flip_gt (cmp v w)

ge_flip : (v w : List ℕ) → is_ge (cmp w v) ≡ is_le (cmp v w)
ge_flip v w = ap is_ge (nat_list_cmp_total.antisymm w v) ∙ flip_ge (cmp v w)

le_is : (x : Ordering) → is_gt x ≡ false → is_le x ≡ true
le_is Less e = refl
le_is Equal e = refl
le_is Greater e = sym e

le_not : (x : Ordering) → is_le x ≡ true → is_gt x ≡ false
le_not Less e = refl
le_not Equal e = refl
le_not Greater e = sym e

-- Less stays so where the left falls and the right rises.
pub up_le : (v u w x : List ℕ) → IsAtMost u v → IsAtMost w x → is_le (cmp v w) ≡ true → is_le (cmp u x) ≡ true
up_le v u w x a b h = le_is (cmp u x) (upto nat_list_cmp_total u w x (upto nat_list_cmp_total u v w a (le_not (cmp v w) h)) b)

pub up_lt : (v u w x : List ℕ) → IsAtMost u v → IsAtMost w x → is_lt (cmp v w) ≡ true → is_lt (cmp u x) ≡ true
up_lt v u w x a b h = by_not (is_lt (cmp u x)) (λ f. clash (is_gt (cmp w v)) (gt_flip v w ∙ h) (upto nat_list_cmp_total w x v b (upto nat_list_cmp_total x u v (gt_flip u x ∙ f) a)))

pub down_gt : (v u w x : List ℕ) → IsAtMost v u → IsAtMost x w → is_gt (cmp v w) ≡ true → is_gt (cmp u x) ≡ true
down_gt v u w x a b h = gt_flip x u ∙ up_lt w x v u b a (sym (gt_flip w v) ∙ h)

pub down_ge : (v u w x : List ℕ) → IsAtMost v u → IsAtMost x w → is_ge (cmp v w) ≡ true → is_ge (cmp u x) ≡ true
down_ge v u w x a b h = ge_flip x u ∙ up_le w x v u b a (sym (ge_flip w v) ∙ h)

-- Not behind
pub lt_upto : (v w : List ℕ) → is_lt (cmp v w) ≡ true → IsAtMost v w
lt_upto v w h = go (cmp v w) h
  where
    go : (x : Ordering) → is_lt x ≡ true → is_gt x ≡ false
    go Less e = refl
    go Equal e = refl
    go Greater e = sym e

pub not_lt_upto : (v w : List ℕ) → is_lt (cmp v w) ≡ false → IsAtMost w v
not_lt_upto v w h = gt_flip v w ∙ h

pub gt_upto : (v w : List ℕ) → is_gt (cmp v w) ≡ true → IsAtMost w v
gt_upto v w h = lt_upto w v (sym (gt_flip w v) ∙ h)

itself : (x : Ordering) → x ≡ ordering_reverse x → is_gt x ≡ false
itself Less e = refl
itself Equal e = refl
itself Greater e = ap is_gt e

pub upto_itself : (v : List ℕ) → IsAtMost v v
upto_itself v = itself (cmp v v) (nat_list_cmp_total.antisymm v v)
