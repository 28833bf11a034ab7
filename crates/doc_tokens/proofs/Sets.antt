-- Names that are looked up in a set.
use Rattle.std.proofs.Common.{ℕ, ◌≡◌, Bool, true, false, not, ◌&&◌, ◌||◌, List, [], ◌∷◌, ◌++◌, refl, sym, ap, ◌∙◌}
use Rattle.std.specs.Prelude.{bytes_eq}
use Rattle.std.specs.BTreeMap.{is_at}
use Rattle.std.specs.BTreeSet.{BTreeSet, insert_key}
use Rattle.std.specs.Cmp.Lexicographic.{slice_cmp}
use Rattle.std.specs.Global.{Vec}
use Rattle.std.specs.List.{list_any}
use Rattle.std.specs.Ordering.{is_eq, match_ordering, nat_cmp, ordering_reverse}
use Rattle.std.specs.declared.cmp.Ordering.{Ordering}
use Rattle.std.specs.declared.cmp.Ordering.TheVariants.{Less, Equal, Greater}
use Rattle.std.proofs.lemmas.Bool.{true≢false, false≢true}
use Rattle.std.proofs.lemmas.Cmp.{nat_list_cmp_total}
use Rattle.std.proofs.lemmas.Map.Lookups.{exact_bytes}
use Rattle.gcx_model.specs.Attributes.{is_fresh}
use Rattle.base_laws.proofs.Bools.{same_bools}
use Rattle.doc_tokens.specs.AttrNames.{IsLookedUp}
use Rattle.doc_tokens.proofs.Lists.{same_decides}

abbrev at_name : List ℕ → Vec ℕ → Ordering
at_name name key = slice_cmp nat_cmp name key.items

abbrev by_items : Vec ℕ → Vec ℕ → Ordering
by_items a b = slice_cmp nat_cmp a.items b.items

eq_is : (o : Ordering) → is_eq o ≡ true → o ≡ Equal
eq_is Less e = absurd (false≢true e)
eq_is Equal e = refl
eq_is Greater e = absurd (false≢true e)

abbrev reversed : Ordering → Ordering
reversed o = ordering_reverse o

less_not : Less ≡ Greater → ⊥
less_not e = cc

greater_not : Greater ≡ Less → ⊥
greater_not e = cc

-- a name compares equal to itself
self_equal : (m : List ℕ) → slice_cmp nat_cmp m m ≡ Equal
self_equal [] = refl
self_equal (b ∷ m) = by (slice_cmp nat_cmp (b ∷ m) (b ∷ m)) refl
  where
    by : (o : Ordering) → slice_cmp nat_cmp (b ∷ m) (b ∷ m) ≡ o → slice_cmp nat_cmp (b ∷ m) (b ∷ m) ≡ Equal
    by Equal e = e
    by Less e = absurd (less_not (sym e ∙ (nat_list_cmp_total.antisymm (b ∷ m) (b ∷ m)) ∙ ap reversed e))
    by Greater e = absurd (greater_not (sym e ∙ (nat_list_cmp_total.antisymm (b ∷ m) (b ∷ m)) ∙ ap reversed e))

-- the test of the set is that of the list
equal_is : (q m : List ℕ) → is_eq (slice_cmp nat_cmp q m) ≡ bytes_eq q m
equal_is q m = same_bools (is_eq (slice_cmp nat_cmp q m)) (bytes_eq q m)
    (λ e. (same_decides q m).1 (exact_bytes q m (eq_is (slice_cmp nat_cmp q m) e)))
    (λ e. let same : q ≡ m = (same_decides q m).0 e in ap is_eq (ap (slice_cmp nat_cmp q) (sym same) ∙ self_equal q))

either_other : (a b c : Bool) → a || (b || c) ≡ b || (a || c)
either_other true true c = refl
either_other true false c = refl
either_other false true c = refl
either_other false false c = refl

either_twice : (a c : Bool) → a || c ≡ a || (a || c)
either_twice true c = refl
either_twice false c = refl

-- a set with a name more
insert_any : (q : List ℕ) (keys : List (Vec ℕ)) (key : Vec ℕ) → list_any (is_at (at_name q)) (insert_key by_items keys key) ≡ is_at (at_name q) key || list_any (is_at (at_name q)) keys
insert_any q [] key = refl
insert_any q (x ∷ keys) key =
    elim (by_items key x) as (λ (o : Ordering). by_items key x ≡ o → list_any (is_at (at_name q)) (match_ordering o (key ∷ x ∷ keys) (x ∷ keys) (x ∷ insert_key by_items keys key)) ≡ is_at (at_name q) key || (is_at (at_name q) x || list_any (is_at (at_name q)) keys)) [
      | Less ↦ λ e. refl
      | Equal ↦ λ e.
          let same : is_at (at_name q) key ≡ is_at (at_name q) x = ap (λ m. is_eq (slice_cmp nat_cmp q m)) (exact_bytes key.items x.items e) in
          either_twice (is_at (at_name q) x) (list_any (is_at (at_name q)) keys) ∙ ap (λ b. b || (is_at (at_name q) x || list_any (is_at (at_name q)) keys)) (sym same)
      | Greater ↦ λ e. ap (λ b. is_at (at_name q) x || b) (insert_any q keys key) ∙ either_other (is_at (at_name q) x) (is_at (at_name q) key) (list_any (is_at (at_name q)) keys)
    ] refl

or_not : (a b : Bool) → a || not b ≡ not (not a && b)
or_not true b = refl
or_not false b = refl

pub looked_up : (name : List ℕ) (names : List (List ℕ)) (old new : BTreeSet (Vec ℕ)) (key : Vec ℕ) → key.items ≡ name → IsLookedUp names old → new.keys ≡ insert_key by_items old.keys key → IsLookedUp (name ∷ names) new
looked_up name names old new key k h e q =
    ap (list_any (is_at (at_name q))) e
    ∙ insert_any q old.keys key
    ∙ (λ i. (ap (λ m. is_eq (slice_cmp nat_cmp q m)) k ∙ equal_is q name) i || h q i)
    ∙ or_not (bytes_eq q name) (is_fresh q names)

-- names of two lists
pub fresh_both : (q : List ℕ) (xs ys : List (List ℕ)) → is_fresh q (xs ++ ys) ≡ is_fresh q xs && is_fresh q ys
fresh_both q [] ys = refl
fresh_both q (x ∷ xs) ys = ap (λ b. not (bytes_eq q x) && b) (fresh_both q xs ys) ∙ both_assoc (not (bytes_eq q x)) (is_fresh q xs) (is_fresh q ys)
  where
    both_assoc : (a b c : Bool) → a && (b && c) ≡ (a && b) && c
    both_assoc true b c = refl
    both_assoc false b c = refl

-- one of the first names
pub is_few : (q : List ℕ) (xs ys : List (List ℕ)) → not (is_fresh q ys) ≡ true → not (is_fresh q (xs ++ ys)) ≡ true
is_few q xs ys h = ap not (fresh_both q xs ys) ∙ by (is_fresh q xs) (is_fresh q ys) h
  where
    by : (a b : Bool) → not b ≡ true → not (a && b) ≡ true
    by true b e = e
    by false b e = refl

-- none of the first names
pub is_late : (q : List ℕ) (xs ys : List (List ℕ)) → not (is_fresh q ys) ≡ false → not (is_fresh q xs) ≡ not (is_fresh q (xs ++ ys))
is_late q xs ys h = by (is_fresh q xs) (is_fresh q ys) h ∙ ap not (sym (fresh_both q xs ys))
  where
    by : (a b : Bool) → not b ≡ false → not a ≡ not (a && b)
    by true true e = refl
    by true false e = absurd (true≢false e)
    by false b e = refl
