-- A row is covered exactly where its parent is covered or keeps a spread role.
use Rattle.std.proofs.Common.{◌≡◌, ℕ, Bool, true, false, cond, ◌&&◌, ◌||◌, List, [], sym, ◌∙◌, ap, inl, inr, ◌⊎◌, Option}
use Rattle.std.specs.Prelude.{◌↔◌}
use Rattle.std.specs.Ordering.{nat_cmp}
use Rattle.std.specs.FinSet.{empty, contains, retain, contains-empty}
use Rattle.std.proofs.lemmas.Bool.{true≢false, and_from, ne_eqb, cases_Bool, false_from_ne_true}
use Rattle.base_laws.proofs.Bools.{same_bools}
use Rattle.tree_laws.proofs.Lists.{In}
use Rattle.buf_tree.specs.Shape.{Cell, num, CellsRise}
use Rattle.buf_tree.specs.Spread.{SpreadView, is_spread_in, roles_at, is_covered, seen_rows}
use Rattle.buf_tree.proofs.Lifting.{seen_in, seen_rising}
use Rattle.buf_tree.proofs.Spreading.{Roles, in_union, in_retain, same_roles, Upward, spread_cell, from_above, from_in, roles_self, uncovered_from, from_uncovered}

module _ (s : Option SpreadView) (ks : List Cell) (up : Upward [] ks) (rise : CellsRise ks) (a : Cell) (i : In a ks) (own : a.row.covered ≡ is_covered (is_spread_in s) (seen_rows s ks) a) (c : Cell) (below : c.row.parent ≡ num a) (inner : num c ≡ 0 → ⊥) where
  abbrev sp : ℕ → Bool
  sp = is_spread_in s

  abbrev rs : List Cell
  rs = seen_rows s ks

  abbrev fa : Cell
  fa = spread_cell (is_spread_in s) (seen_rows s ks) a

  parent_roles : roles_at rs c.row.parent ≡ fa.row.roles
  parent_roles = ap (roles_at rs) below ∙ roles_self rs (seen_rising s ks up rise) fa (seen_in s ks up a i)

  from_parent : from_above sp rs c ≡ retain fa.row.roles sp
  from_parent = ap (λ b. cond b empty (retain (roles_at rs c.row.parent) sp)) (ne_eqb (num c) 0 inner) ∙ ap (λ (S : Roles). retain S sp) parent_roles

  -- a spread role of the parent covers the row
  covers_by : (k : ℕ) → sp k ≡ true → contains fa.row.roles k ≡ true → is_covered sp rs c ≡ true
  covers_by k e h = elim (cases_Bool (is_covered sp rs c)) [
    | inl y ↦ y
    | inr n ↦ absurd (true≢false (sym (in_retain fa.row.roles sp k ∙ and_from (contains fa.row.roles k) (sp k) h e) ∙ (ap (λ (S : Roles). contains S k) (sym from_parent ∙ uncovered_from sp rs c n) ∙ contains-empty nat_cmp k)))
  ]

  pub child_covered : (b : Bool) → (b ≡ true) ↔ ((a.row.covered ≡ true) ⊎ ((k : ℕ) × (is_spread_in s k ≡ true) × (contains a.row.roles k ≡ true))) → b ≡ is_covered (is_spread_in s) (seen_rows s ks) c
  child_covered b law = same_bools b (is_covered sp rs c) to from
    where
      none_above : is_covered sp rs c ≡ false → from_above sp rs a ≡ empty
      none_above n = same_roles (from_above sp rs a) empty (λ q. false_from_ne_true (contains (from_above sp rs a) q) (λ h.
          let r : contains (retain (from_above sp rs a) sp) q ≡ true = ap (λ (S : Roles). contains S q) (from_in sp rs a) ∙ h in
          let e : (contains (from_above sp rs a) q && sp q) ≡ true = sym (in_retain (from_above sp rs a) sp q) ∙ r in
          true≢false (sym (covers_by q (second (contains (from_above sp rs a) q) (sp q) e) (in_union a.row.roles (from_above sp rs a) q ∙ either (contains a.row.roles q) (contains (from_above sp rs a) q) h)) ∙ n)) ∙ sym (contains-empty nat_cmp q))
        where
          second : (x y : Bool) → (x && y) ≡ true → y ≡ true
          second true y e = e
          second false y e = absurd (true≢false (sym e))

          either : (x y : Bool) → y ≡ true → (x || y) ≡ true
          either true y e = λ t. true
          either false y e = e

      to : b ≡ true → is_covered sp rs c ≡ true
      to h = elim (law.0 h) [
        | inl k ↦ elim (cases_Bool (is_covered sp rs c)) [
          | inl y ↦ y
          | inr n ↦ absurd (true≢false (sym k ∙ (own ∙ from_uncovered sp rs a (none_above n))))
        ]
        | inr k ↦ covers_by k.0 k.1 (in_union a.row.roles (from_above sp rs a) k.0 ∙ ap (λ z. z || contains (from_above sp rs a) k.0) k.2)
      ]

      from : is_covered sp rs c ≡ true → b ≡ true
      from h = elim (cases_Bool b) [
        | inl y ↦ y
        | inr n ↦ absurd (true≢false (sym h ∙ from_uncovered sp rs c (from_parent ∙ none_kept n)))
      ]
        where
          none_kept : b ≡ false → retain fa.row.roles sp ≡ empty
          none_kept n = same_roles (retain fa.row.roles sp) empty (λ q. in_retain fa.row.roles sp q ∙ (ap (λ z. z && sp q) (in_union a.row.roles (from_above sp rs a) q) ∙ (go q (cases_Bool (contains a.row.roles q)) (cases_Bool (sp q)) ∙ sym (contains-empty nat_cmp q))))
            where
              above_none : (q : ℕ) → contains (from_above sp rs a) q ≡ false
              above_none q = ap (λ (S : Roles). contains S q) (uncovered_from sp rs a (sym own ∙ false_from_ne_true a.row.covered (λ k. true≢false (sym (law.1 (inl k)) ∙ n)))) ∙ contains-empty nat_cmp q

              off : (x : Bool) → (x && false) ≡ false
              off true = λ t. false
              off false = λ t. false

              go : (q : ℕ) → (contains a.row.roles q ≡ true) ⊎ (contains a.row.roles q ≡ false) → (sp q ≡ true) ⊎ (sp q ≡ false) → ((contains a.row.roles q || contains (from_above sp rs a) q) && sp q) ≡ false
              go q x (inr e) = ap (λ z. (contains a.row.roles q || contains (from_above sp rs a) q) && z) e ∙ off (contains a.row.roles q || contains (from_above sp rs a) q)
              go q (inl x) (inl e) = absurd (true≢false (sym (law.1 (inr (q, e, x))) ∙ n))
              go q (inr x) (inl e) = (λ t. (x t || above_none q t) && sp q)
