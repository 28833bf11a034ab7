-- What is kept by pairs of numbers stays true.
use Rattle.std.proofs.Common.{◌≡◌, ℕ, Bool, true, false, cond, List, [], ◌∷◌, Option, Some, None, Result, Ok, Err, IfSome, OnOk, refl, sym, ◌∙◌, ap, subst}
use Rattle.std.proofs.lemmas.Bool.{and_parts, false≢true}
use Rattle.std.proofs.lemmas.Map.Lookups.{exact_pairs, exact_unsigned}
use Rattle.std.specs.Map.{lookup}
use Rattle.std.specs.BTreeMap.{BTreeMap, get, is_at}
use Rattle.std.specs.Ordering.{is_eq, nat_cmp}
use Rattle.std.specs.declared.cmp.Ordering.{Ordering}
use Rattle.std.specs.declared.cmp.Ordering.TheVariants.{Less, Equal, Greater}
use Rattle.trace_check.specs.Memoing.{pair_cmp}
use lib.Pointwise.{pointwise}

-- lists whose elements a test finds equal are one where it finds elements equal only if they are one
pub same_lists : {X : Type 0} (E : X → X → Bool) → ((x y : X) → E x y ≡ true → x ≡ y) → (xs ys : List X) → pointwise E xs ys ≡ true → xs ≡ ys
same_lists E h [] [] e = refl
same_lists E h [] (y ∷ ys) e = absurd (false≢true e)
same_lists E h (x ∷ xs) [] e = absurd (false≢true e)
same_lists E h (x ∷ xs) (y ∷ ys) e = let b = and_parts (E x y) (pointwise E xs ys) e in λ t. h x y b.0 t ∷ same_lists E h xs ys b.1 t

is_equal : (o : Ordering) → is_eq o ≡ true → o ≡ Equal
is_equal Less h = absurd (false≢true h)
is_equal Equal h = refl
is_equal Greater h = absurd (false≢true h)

-- a pair that passes the test of another one is that one
same_pair : (a b : ℕ × ℕ) → is_at (pair_cmp a) b ≡ true → a ≡ b
same_pair a b h = exact_pairs nat_cmp nat_cmp exact_unsigned exact_unsigned a b (is_equal (pair_cmp a b) h)

some_same : {X : Type 0} {v x : X} → Some v ≡ Some x → v ≡ x
some_same e = cc

none_some : {X : Type 0} {x : X} → None ≡ Some x → ⊥
none_some e = cc

-- what holds of all that is kept holds after one thing more
pub kept_more : {X : Type 0} (P : ℕ → ℕ → X → Type 0) (m n : BTreeMap (ℕ × ℕ) X) (i j : ℕ) (v : X)
    → ((q : ℕ × ℕ) → get pair_cmp n q ≡ cond (is_at (pair_cmp (i, j)) q) (Some v) (get pair_cmp m q))
    → ((a b : ℕ) (x : X) → get pair_cmp m (a, b) ≡ Some x → P a b x) → P i j v → (a b : ℕ) (x : X) → get pair_cmp n (a, b) ≡ Some x → P a b x
kept_more P m n i j v u h p a b x e = go (is_at (pair_cmp (i, j)) (a, b)) refl (sym (u (a, b)) ∙ e)
  where
    go : (t : Bool) → is_at (pair_cmp (i, j)) (a, b) ≡ t → cond t (Some v) (get pair_cmp m (a, b)) ≡ Some x → P a b x
    go true q f =
        let same : (i, j) ≡ (a, b) = same_pair (i, j) (a, b) q in
        let value : v ≡ x = some_same f in
        subst (λ (k : ℕ × ℕ). P k.0 k.1 x) same (subst (λ y. P i j y) value p)
    go false q f = h a b x f

-- and without one of them
pub kept_less : {X : Type 0} (P : ℕ → ℕ → X → Type 0) (m n : BTreeMap (ℕ × ℕ) X) (k : ℕ × ℕ)
    → ((q : ℕ × ℕ) → get pair_cmp n q ≡ cond (is_at (pair_cmp k) q) None (get pair_cmp m q))
    → ((a b : ℕ) (x : X) → get pair_cmp m (a, b) ≡ Some x → P a b x) → (a b : ℕ) (x : X) → get pair_cmp n (a, b) ≡ Some x → P a b x
kept_less P m n k u h a b x e = go (is_at (pair_cmp k) (a, b)) (sym (u (a, b)) ∙ e)
  where
    go : (t : Bool) → cond t None (get pair_cmp m (a, b)) ≡ Some x → P a b x
    go true f = absurd (none_some f)
    go false f = h a b x f

-- of nothing all holds
pub kept_none : {X : Type 0} (P : ℕ → ℕ → X → Type 0) (m : BTreeMap (ℕ × ℕ) X) → m.entries ≡ [] → (a b : ℕ) (x : X) → get pair_cmp m (a, b) ≡ Some x → P a b x
kept_none P m h a b x e = absurd (none_some (sym (ap (lookup (is_at (pair_cmp (a, b)))) h) ∙ e))

pub if_some : {X : Type 0} (o : Option X) (P : X → Type 0) → ((x : X) → o ≡ Some x → P x) → IfSome o P
if_some None P h = tt
if_some (Some x) P h = h x refl

pub known_anyway : {X E : Type 0} (r : Result X E) (P : Type 0) → P → OnOk r P
known_anyway (Ok x) P h = h
known_anyway (Err e) P h = tt
