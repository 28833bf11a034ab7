-- Rows under places: what a map of rows answers after one change.
use Rattle.std.proofs.Common.{◌≡◌, ◌≢◌, ℕ, ◌+◌, true, false, Option, Some, None, cond, refl, sym, ap, subst, ◌∙◌, rules, is_some}
use Rattle.std.specs.Prelude.{IsSome, option_and_then}
use Rattle.std.specs.Ordering.{nat_cmp, eq_by_cmp}
use Rattle.std.specs.Cmp.{nat_cmp_total, unsigned_tied}
use Rattle.std.specs.FinMap.{get, insert, remove, len, len-insert, get-insert, get-remove, same_map, nat_cmp-IsAntisymmetric}
use Rattle.std.proofs.lemmas.Bool.{eq-eqb, ne_eqb}
use Rattle.node_store.specs.Rows.{StoreRow, Rows, changed, changed_at, parent_of, children_in, is_child, is_listed}

same_key : (q k : ℕ) → q ≡ k → eq_by_cmp nat_cmp q k ≡ true
same_key q k e = unsigned_tied q k ∙ eq-eqb q k e

other_key : (q k : ℕ) → q ≢ k → eq_by_cmp nat_cmp q k ≡ false
other_key q k e = unsigned_tied q k ∙ ne_eqb q k e

module _ {T : Type 0} where
  pub get_same : (m : Rows T) (k : ℕ) (v : StoreRow T) (q : ℕ) → q ≡ k → get (insert m k v) q ≡ Some v
  get_same m k v q e = get-insert nat_cmp_total m k v q ∙ ap (λ b. cond b (Some v) (get m q)) (same_key q k e)

  pub get_other : (m : Rows T) (k : ℕ) (v : StoreRow T) (q : ℕ) → q ≢ k → get (insert m k v) q ≡ get m q
  get_other m k v q e = get-insert nat_cmp_total m k v q ∙ ap (λ b. cond b (Some v) (get m q)) (other_key q k e)

  pub gone_same : (m : Rows T) (k q : ℕ) → q ≡ k → get (remove m k) q ≡ None
  gone_same m k q e = get-remove nat_cmp_total m k q ∙ ap (λ b. cond b None (get m q)) (same_key q k e)

  pub gone_other : (m : Rows T) (k q : ℕ) → q ≢ k → get (remove m k) q ≡ get m q
  gone_other m k q d = get-remove nat_cmp_total m k q ∙ ap (λ b. cond b None (get m q)) (other_key q k d)

  pub same_rows : (m n : Rows T) → ((q : ℕ) → get m q ≡ get n q) → m ≡ n
  same_rows m n = same_map nat_cmp_total nat_cmp-IsAntisymmetric m n

  pub changed_some : (f : StoreRow T → StoreRow T) (q : ℕ) (rows : Rows T) (e : StoreRow T) → get rows q ≡ Some e → changed_at f q rows ≡ insert rows q (f e)
  changed_some f q rows e there = ap (changed f q rows) there

  pub len_new : (m : Rows T) (k : ℕ) (v : StoreRow T) → get m k ≡ None → len (insert m k v) ≡ len m + 1
  len_new m k v none = len-insert nat_cmp_total m k v ∙ ap (λ o. cond (is_some o) (len m) (len m + 1)) none

  pub len_old : (m : Rows T) (k : ℕ) (v e : StoreRow T) → get m k ≡ Some e → len (insert m k v) ≡ len m
  len_old m k v e some = len-insert nat_cmp_total m k v ∙ ap (λ o. cond (is_some o) (len m) (len m + 1)) some

  pub some_row : (o : Option (StoreRow T)) → IsSome o → (e : StoreRow T) × (o ≡ Some e)
  some_row None h = absurd (cc)
  some_row (Some e) h = (e, refl)

  pub is_there : (rows : Rows T) (p : ℕ) (e : StoreRow T) → get rows p ≡ Some e → IsSome (get rows p)
  is_there rows p e there = subst (λ o. IsSome o) (sym there) (search rules)

  pub nowhere : (rows : Rows T) (p : ℕ) → get rows p ≡ None → IsSome (get rows p) → {X : Type 0} → X
  nowhere rows p none some =
      let e = some_row (get rows p) some in
      let bad : None ≡ Some e.0 = sym none ∙ e.1 in
      absurd (cc)

  -- the parent and the children of a row
  pub parent_at : (rows : Rows T) (r : ℕ) (e : StoreRow T) → get rows r ≡ Some e → parent_of rows r ≡ e.parent
  parent_at rows r e is = ap (option_and_then (λ x. x.parent)) is

  pub child_at : (rows : Rows T) (q p : ℕ) (e : StoreRow T) → get rows q ≡ Some e → is_child rows q p ≡ is_listed p e.children
  child_at rows q p e is = ap (λ o. is_listed p (children_in o)) is

  pub no_row : (rows : Rows T) (p q : ℕ) → get rows q ≡ None → is_child rows q p ≡ true → {X : Type 0} → X
  no_row rows p q none e =
      let bad : false ≡ true = ap (λ o. is_listed p (children_in o)) (sym none) ∙ e in
      absurd (cc)

  pub no_parent : (rows : Rows T) (p q : ℕ) → get rows p ≡ None → parent_of rows p ≡ Some q → {X : Type 0} → X
  no_parent rows p q none e =
      let bad : None ≡ Some q = ap (option_and_then (λ x. x.parent)) (sym none) ∙ e in
      absurd (cc)

  -- a row with a child, or with a parent, is in use
  pub used_parent : (rows : Rows T) (q p : ℕ) → is_child rows q p ≡ true → IsSome (get rows q)
  used_parent rows q p e = go (get rows q) e
    where
      go : (o : Option (StoreRow T)) → is_listed p (children_in o) ≡ true → IsSome o
      go None h = absurd (cc)
      go (Some x) h = search rules

  pub used_child : (rows : Rows T) (p q : ℕ) → parent_of rows p ≡ Some q → IsSome (get rows p)
  used_child rows p q e = go (get rows p) e
    where
      go : (o : Option (StoreRow T)) → option_and_then (λ x. x.parent) o ≡ Some q → IsSome o
      go None h = absurd (cc)
      go (Some x) h = search rules
