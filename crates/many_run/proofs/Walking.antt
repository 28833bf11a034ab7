-- A loop over a list whose elements are changed: those before a place are, the others are as they were.
use Rattle.std.proofs.Common.{◌≡◌, ◌≢◌, ℕ, zero, suc, ◌≤◌, ◌<◌, List, [], ◌∷◌, ◌⊎◌, inl, inr, ⊎_elim, get_or, length, slice_get, slice_set, Option, Some, refl, sym, ◌∙◌, ap, subst, arith}
use Rattle.many_run.specs.Each.{AtEach}

-- what was made of those before the place
pub record Walked {X : Type 0} (Made : X → X → Type 0) (old now : List X) (k : ℕ) : Type 0 where
  pub count : length now ≡ length old
  pub done : (i : ℕ) (p q : X) → i < k → slice_get old i ≡ Some p → slice_get now i ≡ Some q → Made p q
  pub others : (i : ℕ) → k ≤ i → slice_get now i ≡ slice_get old i

pub there : {X : Type 0} (xs : List X) (k : ℕ) → k < length xs → (x : X) × (slice_get xs k ≡ Some x)
there [] k l = absurd (omega arith)
there (x ∷ xs) zero l = (x, refl)
there (x ∷ xs) (suc k) l = there xs k (omega arith)

pub not_there : {X : Type 0} (xs : List X) (k : ℕ) (x : X) → slice_get xs k ≡ Some x → k < length xs
not_there [] k x e = let no : ⊥ = cc in absurd no
not_there (y ∷ xs) zero x e = omega arith
not_there (y ∷ xs) (suc k) x e = let h = not_there xs k x e in omega arith

pub there_is : {X : Type 0} (xs : List X) (k : ℕ) (x : X) → k < length xs → x ≡ get_or xs k x → slice_get xs k ≡ Some x
there_is [] k x l e = absurd (omega arith)
there_is (y ∷ ys) zero x l e = ap Some (sym e)
there_is (y ∷ ys) (suc k) x l e = there_is ys k x (omega arith) e

pub get_there : {X : Type 0} (xs : List X) (k : ℕ) (d x : X) → slice_get xs k ≡ Some x → get_or xs k d ≡ x
get_there [] k d x e = let no : ⊥ = cc in absurd no
get_there (y ∷ xs) zero d x e = cc
get_there (y ∷ xs) (suc k) d x e = get_there xs k d x e

set_here : {X : Type 0} (xs : List X) (k : ℕ) (y : X) → k < length xs → slice_get (slice_set xs k y) k ≡ Some y
set_here [] k y l = absurd (omega arith)
set_here (x ∷ xs) zero y l = refl
set_here (x ∷ xs) (suc k) y l = set_here xs k y (omega arith)

pub get_set : {X : Type 0} (xs : List X) (k : ℕ) (x y : X) → slice_get xs k ≡ Some x → slice_get (slice_set xs k y) k ≡ Some y
get_set xs k x y at = set_here xs k y (not_there xs k x at)

pub set_elsewhere : {X : Type 0} (xs : List X) (k i : ℕ) (y : X) → i ≢ k → slice_get (slice_set xs k y) i ≡ slice_get xs i
set_elsewhere [] k i y d = refl
set_elsewhere (x ∷ xs) zero zero y d = absurd (d refl)
set_elsewhere (x ∷ xs) zero (suc i) y d = refl
set_elsewhere (x ∷ xs) (suc k) zero y d = refl
set_elsewhere (x ∷ xs) (suc k) (suc i) y d = set_elsewhere xs k i y (λ e. d (ap suc e))

pub set_length : {X : Type 0} (xs : List X) (k : ℕ) (y : X) → length (slice_set xs k y) ≡ length xs
set_length [] k y = refl
set_length (x ∷ xs) zero y = refl
set_length (x ∷ xs) (suc k) y = ap suc (set_length xs k y)

pub some_is : {X : Type 0} (o : Option X) (x y : X) → o ≡ Some x → o ≡ Some y → x ≡ y
some_is o x y a b = cc

-- a place is below another, the same or above it
pub place_of : (i k : ℕ) → (i < k) ⊎ ((i ≡ k) ⊎ (suc k ≤ i))
place_of zero zero = inr (inl refl)
place_of zero (suc k) = inl (omega arith)
place_of (suc i) zero = inr (inr (omega arith))
place_of (suc i) (suc k) = ⊎_elim (λ less. inl (omega (arith, less))) (λ rest. inr (⊎_elim (λ same. inl (ap suc same)) (λ above. inr (omega (arith, above))) rest)) (place_of i k)

not_above : (i k : ℕ) → i < k → i ≢ k
not_above i k l e = let h : k < k = subst (λ (n : ℕ). n < k) e l in absurd (omega (arith, h))

not_below : (i k : ℕ) → suc k ≤ i → i ≢ k
not_below i k l e = let h : suc k ≤ k = subst (λ (n : ℕ). suc k ≤ n) e l in absurd (omega (arith, h))

module _ {X : Type 0} (old : List X) where
  -- all of them were as they are
  pub each_same : (Made : X → X → Type 0) → ((p : X) → Made p p) → AtEach Made old old
  each_same Made same = record { count = refl; each = λ i p q is_p is_q. subst (λ (x : X). Made p x) (some_is (slice_get old i) p q is_p is_q) (same p) }

  pub walked_none : (Made : X → X → Type 0) → Walked Made old old 0
  walked_none Made = record { count = refl; done = λ i p q l. absurd (omega arith); others = λ i l. refl }

  -- the place is the end
  pub walked_all : (Made : X → X → Type 0) (now : List X) (k : ℕ) → Walked Made old now k → length now ≤ k → AtEach Made old now
  walked_all Made now k w past = record {
    count = w.count;
    each = λ i p q is_p is_q. w.done i p q (let l = not_there now i q is_q in omega (arith, l, past)) is_p is_q;
  }

  module _ (now : List X) (k : ℕ) (d : X) (l : k < length now) where
    abbrev now_d : List X
    now_d = slice_set now k d

    -- an element that stands there now stood there, or is the one at the place
    at_place : (i : ℕ) (q : X) → slice_get now_d i ≡ Some q → ((i ≡ k) × (d ≡ q)) ⊎ ((i ≢ k) × (slice_get now i ≡ Some q))
    at_place i q is_q =
        ⊎_elim
        (λ less. let far = not_above i k less in inr (far, sym (set_elsewhere now k i d far) ∙ is_q))
        (λ rest.
        ⊎_elim
        (λ same. inl (same, some_is (slice_get now_d i) d q (subst (λ (n : ℕ). slice_get now_d n ≡ Some d) (sym same) (set_here now k d l)) is_q))
        (λ above. let far = not_below i k above in inr (far, sym (set_elsewhere now k i d far) ∙ is_q))
        rest)
        (place_of i k)

    -- one more was made
    module _ (Made : X → X → Type 0) (w : Walked Made old now k) (made : (p : X) → slice_get old k ≡ Some p → Made p d) where
      made_below : (i : ℕ) (p q : X) → i < suc k → slice_get old i ≡ Some p → slice_get now_d i ≡ Some q → Made p q
      made_below i p q below is_p is_q =
          ⊎_elim
          (λ here. subst (λ (x : X). Made p x) here.1 (made p (subst (λ (n : ℕ). slice_get old n ≡ Some p) here.0 is_p)))
          (λ far. w.done i p q (lower i k below far.0) is_p far.1)
          (at_place i q is_q)
        where
          lower : (i k : ℕ) → i < suc k → i ≢ k → i < k
          lower i k b far = ⊎_elim (λ less. less) (λ rest. ⊎_elim (λ same. absurd (far same)) (λ above. absurd (omega (arith, above, b))) rest) (place_of i k)

      pub walked_on : Walked Made old now_d (suc k)
      walked_on = record {
        count = set_length now k d ∙ w.count;
        done = made_below;
        others = λ i above. set_elsewhere now k i d (not_below i k above) ∙ w.others i (omega arith);
      }

    -- It stopped at the place: of those before it `Made` holds, of the one at it and of those that are as they were this does.
    pub stopped : (Made Left : X → X → Type 0) → Walked Made old now k → ((p q : X) → Made p q → Left p q) → ((p : X) → Left p p) → ((p : X) → slice_get old k ≡ Some p → Left p d) → AtEach Left old now_d
    stopped Made Left w before behind here = record {
      count = set_length now k d ∙ w.count;
      each = λ i p q is_p is_q.
          ⊎_elim
          (λ at. subst (λ (x : X). Left p x) at.1 (here p (subst (λ (n : ℕ). slice_get old n ≡ Some p) at.0 is_p)))
          (λ far.
          ⊎_elim
          (λ less. before p q (w.done i p q less is_p far.1))
          (λ rest.
          ⊎_elim
          (λ same. absurd (far.0 same))
          (λ above. subst (λ (x : X). Left p x) (some_is (slice_get old i) p q is_p (sym (w.others i (omega (arith, above))) ∙ far.1)) (behind p))
          rest)
          (place_of i k))
          (at_place i q is_q);
    }
