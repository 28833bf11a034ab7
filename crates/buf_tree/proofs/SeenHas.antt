-- A row has a spread role where it, or a row above it, keeps it.
use Rattle.std.proofs.Common.{◌≡◌, ℕ, zero, suc, ◌≤◌, Bool, true, false, cond, List, refl, sym, ◌∙◌, ap, inl, inr, ◌⊎◌, arith, eqb, Option}
use Rattle.std.specs.Prelude.{◌↔◌}
use Rattle.std.specs.Ordering.{nat_cmp}
use Rattle.std.specs.FinSet.{empty, contains, retain, contains-empty}
use Rattle.std.proofs.lemmas.Bool.{or_cases, or_left, or_right, and_parts, and_from, false≢true, ne_eqb}
use Rattle.gcx_model.specs.Members.{In}
use Rattle.buf_tree.specs.Shape.{Cell, num, CellsRise, Above}
use Rattle.buf_tree.specs.Spread.{SpreadView, is_spread_in, roles_at, seen_rows}
use Rattle.buf_tree.specs.Walk.{Nested, Within}
use Rattle.buf_tree.proofs.Lifting.{seen_in, seen_rising}
use Rattle.buf_tree.proofs.Lines.{child_inside, within_trans, parent_within}
use Rattle.buf_tree.proofs.Spreading.{in_union, in_retain, roles_self, upward, from_above, spread_cell}

module _ (s : Option SpreadView) (ks : List Cell) (rise : CellsRise ks) (nest : Nested ks) (up : (c : Cell) → In c ks → (num c ≡ 0) ⊎ Above ks c) (k : ℕ) (spread : is_spread_in s k ≡ true) where
  abbrev rs : List Cell
  rs = seen_rows s ks

  abbrev f : Cell → Cell
  f = spread_cell (is_spread_in s) (seen_rows s ks)

  -- the roles of the parent's row
  above_has : (p d : Cell) → In p ks → num p ≡ d.row.parent → roles_at rs d.row.parent ≡ (f p).row.roles
  above_has p d i e =
      ap (roles_at rs) (sym e)
      ∙ roles_self rs (seen_rising s ks (upward ks rise up) rise) (f p) (seen_in s ks (upward ks rise up) p i)

  own_or : (d : Cell) → contains (f d).row.roles k ≡ true → (contains d.row.roles k ≡ true) ⊎ (contains (from_above (is_spread_in s) rs d) k ≡ true)
  own_or d h = or_cases (contains d.row.roles k) (contains (from_above (is_spread_in s) rs d) k) (sym (in_union d.row.roles (from_above (is_spread_in s) rs d) k) ∙ h)

  -- one from above is the parent's
  from_parent : (p d : Cell) → In p ks → num p ≡ d.row.parent → contains (from_above (is_spread_in s) rs d) k ≡ true → contains (f p).row.roles k ≡ true
  from_parent p d i e h = go (eqb (num d) 0) h
    where
      go : (b : Bool) → contains (cond b (empty {R = nat_cmp}) (retain (roles_at rs d.row.parent) (is_spread_in s))) k ≡ true → contains (f p).row.roles k ≡ true
      go true g = absurd (false≢true (sym (contains-empty nat_cmp k) ∙ g))
      go false g = ap (λ z. contains z k) (sym (above_has p d i e)) ∙ (and_parts (contains (roles_at rs d.row.parent) k) (is_spread_in s k) (sym (in_retain (roles_at rs d.row.parent) (is_spread_in s) k) ∙ g)).0

  no_top : (d : Cell) → num d ≡ 0 → contains (from_above (is_spread_in s) rs d) k ≡ true → ⊥
  no_top d z h = go (eqb (num d) 0) refl h
    where
      go : (b : Bool) → eqb (num d) 0 ≡ b → contains (cond b (empty {R = nat_cmp}) (retain (roles_at rs d.row.parent) (is_spread_in s))) k ≡ true → ⊥
      go true e g = false≢true (sym (contains-empty nat_cmp k) ∙ g)
      go false e g = false≢true (sym e ∙ ap (λ x. eqb x 0) z)

  abbrev Kept_by : Cell → Type 0
  Kept_by d = (a : Cell) × In a ks × Within ks a d × (contains a.row.roles k ≡ true)

  -- it has it itself, or its parent has it
  step_above : (d : Cell) → In d ks → contains (f d).row.roles k ≡ true → ((p : Above ks d) → contains (f p.0).row.roles k ≡ true → Kept_by p.0) → Kept_by d
  step_above d i h ih = elim (own_or d h) [
    | inl e ↦ (d, i, inl refl, e)
    | inr e ↦ elim (up d i) [
      | inl z ↦ absurd (no_top d z e)
      | inr p ↦ (
          let r = ih p (from_parent p.0 d p.1 p.2 e) in
          (r.0, r.1, inr (within_trans ks rise nest up r.0 p.0 d r.2 (child_inside ks rise nest up p.0 d p.1 i (sym p.2, p.3))), r.3))
    ]
  ]

  has_above : (n : ℕ) (d : Cell) → In d ks → num d ≤ n → contains (f d).row.roles k ≡ true → Kept_by d
  has_above zero d i l h = step_above d i h (λ p g. absurd (let z = p.3 in omega arith))
  has_above (suc n) d i l h = step_above d i h (λ p g. has_above n p.0 p.1 (let z = p.3 in omega arith) g)

  step_below : (d : Cell) → In d ks → (a : Cell) → In a ks → Within ks a d → contains a.row.roles k ≡ true → ((p : Above ks d) → Within ks a p.0 → contains (f p.0).row.roles k ≡ true) → contains (f d).row.roles k ≡ true
  step_below d i a j (inl e) h ih = in_union d.row.roles (from_above (is_spread_in s) rs d) k ∙ or_left _ _ (ap (λ (z : Cell). contains z.row.roles k) (sym e) ∙ h)
  step_below d i a j (inr w) h ih = elim (up d i) [
    | inl z ↦ absurd (let b = w.behind in omega arith)
    | inr p ↦ (
        let q = ih p (parent_within ks rise nest up a p.0 d j p.1 i w (sym p.2, p.3)) in
        in_union d.row.roles (from_above (is_spread_in s) rs d) k
        ∙ or_right _ _ (ap (λ b. contains (cond b (empty {R = nat_cmp}) (retain (roles_at rs d.row.parent) (is_spread_in s))) k) (ne_eqb (num d) 0 (λ e. let b = w.behind in omega arith))
        ∙ in_retain (roles_at rs d.row.parent) (is_spread_in s) k
        ∙ and_from _ _ (ap (λ z. contains z k) (above_has p.0 d p.1 p.2) ∙ q) spread))
  ]

  has_below : (n : ℕ) (d : Cell) → In d ks → num d ≤ n → (a : Cell) → In a ks → Within ks a d → contains a.row.roles k ≡ true → contains (f d).row.roles k ≡ true
  has_below zero d i l a j w h = step_below d i a j w h (λ p v. absurd (let z = p.3 in omega arith))
  has_below (suc n) d i l a j w h = step_below d i a j w h (λ p v. has_below n p.0 p.1 (let z = p.3 in omega arith) a j v h)

  pub seen_has : (d : Cell) → In d ks → (contains (spread_cell (is_spread_in s) (seen_rows s ks) d).row.roles k ≡ true) ↔ ((a : Cell) × In a ks × Within ks a d × (contains a.row.roles k ≡ true))
  seen_has d i = (has_above (num d) d i (omega arith), λ a. has_below (num d) d i (omega arith) a.0 a.1 a.2 a.3)
