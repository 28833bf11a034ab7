-- The values of a set: whether it has one, and a set with one more.
use Rattle.std.proofs.Common.{◌≡◌, ◌↔◌, ◌⊎◌, ◌||◌, ℕ, Bool, true, List, [], ◌∷◌, map, length, refl, sym, ◌∙◌, ap, subst, inl, inr, arith}
use Rattle.std.specs.Prelude.{IsTrue}
use Rattle.std.specs.BTreeMap.{is_at}
use Rattle.std.specs.BTreeSet.{BTreeSet, btree_set_len, contains_by, insert_key}
use Rattle.std.specs.Cmp.Lexicographic.{slice_cmp}
use Rattle.std.specs.Global.{Vec}
use Rattle.std.specs.List.{list_any}
use Rattle.std.specs.Ordering.{is_eq, match_ordering, nat_cmp}
use Rattle.std.specs.declared.cmp.Ordering.{Ordering}
use Rattle.std.specs.declared.cmp.Ordering.TheVariants.{Less, Equal, Greater}
use Rattle.std.proofs.lemmas.Bool.{false≢true, or_cases}
use Rattle.std.proofs.lemmas.Cmp.{nat_list_cmp_total, tied_itself}
use Rattle.std.proofs.lemmas.Map.Lookups.{exact_bytes}
use Rattle.std.proofs.Math.Bool.{or-true}
use Rattle.gcx_model.specs.Members.{In}
use Rattle.value_pairs.specs.Sets.{AddsValue, values_in}

abbrev at_value : List ℕ → Vec ℕ → Ordering
at_value v key = slice_cmp nat_cmp v key.items

abbrev by_items : Vec ℕ → Vec ℕ → Ordering
by_items a b = slice_cmp nat_cmp a.items b.items

abbrev items_of : List (Vec ℕ) → List (List ℕ)
items_of keys = map (λ (key : Vec ℕ). key.items) keys

pub is_equal : (o : Ordering) → is_eq o ≡ true → o ≡ Equal
is_equal Less e = absurd (false≢true e)
is_equal Equal e = refl
is_equal Greater e = absurd (false≢true e)

any_to : (v : List ℕ) (keys : List (Vec ℕ)) → list_any (is_at (at_value v)) keys ≡ true → In v (items_of keys)
any_to v [] e = absurd (false≢true e)
any_to v (x ∷ keys) e = elim (or_cases (is_at (at_value v) x) (list_any (is_at (at_value v)) keys) e) [
  | inl h ↦ inl (sym (exact_bytes v x.items (is_equal (at_value v x) h)))
  | inr h ↦ inr (any_to v keys h)
]

any_from : (v : List ℕ) (keys : List (Vec ℕ)) → In v (items_of keys) → list_any (is_at (at_value v)) keys ≡ true
any_from v [] i = absurd i
any_from v (x ∷ keys) (inl e) = ap (λ b. b || list_any (is_at (at_value v)) keys) (ap is_eq (ap (slice_cmp nat_cmp v) e ∙ tied_itself nat_list_cmp_total v))
any_from v (x ∷ keys) (inr i) = ap (λ b. is_at (at_value v) x || b) (any_from v keys i) ∙ or-true (is_at (at_value v) x)

pub has_it : (v : List ℕ) (set : BTreeSet (Vec ℕ)) → contains_by (λ (key : Vec ℕ). slice_cmp nat_cmp v key.items) set ≡ true ↔ In v (values_in set)
has_it v set = (any_to v set.keys, any_from v set.keys)

module _ (v : List ℕ) (key : Vec ℕ) where
  abbrev GoesIn : List (Vec ℕ) → Type 0
  GoesIn keys = In v (items_of (insert_key by_items keys key)) → (key.items ≡ v) ⊎ In v (items_of keys)

  abbrev ComesOut : List (Vec ℕ) → Type 0
  ComesOut keys = (key.items ≡ v) ⊎ In v (items_of keys) → In v (items_of (insert_key by_items keys key))

  to_at : (x : Vec ℕ) (keys : List (Vec ℕ)) → GoesIn keys → (o : Ordering) → In v (items_of (match_ordering o (key ∷ x ∷ keys) (x ∷ keys) (x ∷ insert_key by_items keys key))) → (key.items ≡ v) ⊎ In v (items_of (x ∷ keys))
  to_at x keys ih Less (inl e) = inl e
  to_at x keys ih Less (inr i) = inr i
  to_at x keys ih Equal i = inr i
  to_at x keys ih Greater (inl e) = inr (inl e)
  to_at x keys ih Greater (inr i) = elim (ih i) [
    | inl e ↦ inl e
    | inr k ↦ inr (inr k)
  ]

  insert_to : (keys : List (Vec ℕ)) → GoesIn keys
  insert_to [] (inl e) = inl e
  insert_to [] (inr i) = absurd i
  insert_to (x ∷ keys) i = to_at x keys (insert_to keys) (by_items key x) i

  from_at : (x : Vec ℕ) (keys : List (Vec ℕ)) → ComesOut keys → (o : Ordering) → by_items key x ≡ o → (key.items ≡ v) ⊎ In v (items_of (x ∷ keys)) → In v (items_of (match_ordering o (key ∷ x ∷ keys) (x ∷ keys) (x ∷ insert_key by_items keys key)))
  from_at x keys ih Less e (inl f) = inl f
  from_at x keys ih Less e (inr i) = inr i
  from_at x keys ih Equal e (inl f) = inl (sym (exact_bytes key.items x.items e) ∙ f)
  from_at x keys ih Equal e (inr i) = i
  from_at x keys ih Greater e (inl f) = inr (ih (inl f))
  from_at x keys ih Greater e (inr (inl f)) = inl f
  from_at x keys ih Greater e (inr (inr i)) = inr (ih (inr i))

  insert_from : (keys : List (Vec ℕ)) → ComesOut keys
  insert_from [] (inl e) = inl e
  insert_from [] (inr i) = absurd i
  insert_from (x ∷ keys) h = from_at x keys (insert_from keys) (by_items key x) refl h

pub added : (w : List ℕ) (old new : BTreeSet (Vec ℕ)) (key : Vec ℕ) → key.items ≡ w → new.keys ≡ insert_key by_items old.keys key → AddsValue w old new
added w old new key e keys v = (
  (λ i. elim (insert_to v key old.keys (subst (λ (ks : List (Vec ℕ)). In v (items_of ks)) keys i)) [
    | inl f ↦ inl (sym e ∙ f)
    | inr k ↦ inr k
  ]),
  (λ h. subst (λ (ks : List (Vec ℕ)). In v (items_of ks)) (sym keys) (insert_from v key old.keys (elim h [
    | inl f ↦ inl (e ∙ f)
    | inr k ↦ inr k
  ]))),
)

pub added_there : (w : List ℕ) (set : BTreeSet (Vec ℕ)) → contains_by (λ (key : Vec ℕ). slice_cmp nat_cmp w key.items) set ≡ true → AddsValue w set set
added_there w set e v = (
  (λ i. inr i),
  (λ h. elim h [
    | inl f ↦ subst (λ (z : List ℕ). In z (values_in set)) f (any_to w set.keys e)
    | inr k ↦ k
  ]),
)

pub none_in : (set : BTreeSet (Vec ℕ)) → set.keys ≡ [] → (v : List ℕ) → In v (values_in set) → ⊥
none_in set e v i = subst (λ (ks : List (Vec ℕ)). In v (items_of ks)) e i

none_held : (set : BTreeSet (Vec ℕ)) (b : Bool) → (IsTrue b ↔ (btree_set_len set ≡ 0)) → b ≡ true → (v : List ℕ) → In v (values_in set) → ⊥
none_held set b h e = none_in set (empty_is set.keys (h.0 e))
  where
    empty_is : (keys : List (Vec ℕ)) → length keys ≡ 0 → keys ≡ []
    empty_is [] f = refl
    empty_is (x ∷ keys) f = absurd (omega arith)

-- a set of just these values is empty where there are none
pub empty_told : (set : BTreeSet (Vec ℕ)) (b : Bool) → (IsTrue b ↔ (btree_set_len set ≡ 0)) → (vs : List (List ℕ)) → ((v : List ℕ) → In v (values_in set) ↔ In v vs) → (b ≡ true) ↔ (vs ≡ [])
empty_told set b h vs same = (
  (λ e. none_listed vs (λ v i. none_held set b h e v ((same v).1 i))),
  (λ e. h.1 (none_keys set.keys (λ v i. subst (λ (z : List (List ℕ)). In v z) e ((same v).0 i)))),
)
  where
    none_listed : (ws : List (List ℕ)) → ((v : List ℕ) → In v ws → ⊥) → ws ≡ []
    none_listed [] f = refl
    none_listed (w ∷ ws) f = absurd (f w (inl refl))

    none_keys : (keys : List (Vec ℕ)) → ((v : List ℕ) → In v (items_of keys) → ⊥) → length keys ≡ 0
    none_keys [] f = refl
    none_keys (x ∷ keys) f = absurd (f x.items (inl refl))
