-- Whether a row that contracts see has a role: by what is kept at the row, and at those above it.
use Rattle.std.proofs.Common.{◌≡◌, ℕ, true, false, [], refl, sym, ◌∙◌, ap, inl, inr, Some, None, Option}
use Rattle.std.specs.Prelude.{option_map, is_some}
use Rattle.std.specs.FinMap.{get}
use Rattle.std.specs.FinSet.{contains}
use Rattle.std.proofs.lemmas.Bool.{or_left, true≢false, false≢true}
use Rattle.gcx_model.specs.Members.{In}
use Rattle.base_laws.proofs.Bools.{same_bools}
use Rattle.node_store.specs.Rows.{StoreRow}
use Rattle.buf_tree.specs.Recount.{KeptAbove}
use Rattle.buf_tree.specs.Row.{Row}
use Rattle.buf_tree.specs.Shape.{Store, Cell, cells, Shaped}
use Rattle.buf_tree.specs.Spread.{SpreadView, is_spread_in, seen_rows}
use Rattle.buf_tree.specs.Walk.{Nested}
use Rattle.buf_tree.proofs.Lifting.{seen_from, unspread_same}
use Rattle.buf_tree.proofs.Reading.{row_at}
use Rattle.buf_tree.proofs.SeenHas.{seen_has}
use Rattle.buf_tree.proofs.Spreading.{in_union, Upward, upward, spread_cell, from_above}

-- c is the row seen at the place, and r that of the store
module _ (m : Store) (shape : Shaped m) (s : Option SpreadView) (k p : ℕ) (c : Cell) (i : In c (seen_rows s (cells m))) (e : c.place ≡ p) (r : Row) (paid : option_map (λ (x : StoreRow Row). x.payload) (get m p) ≡ Some r) where
  up : Upward [] (cells m)
  up = upward (cells m) shape.rising shape.up

  here : (d : Cell) × In d (cells m) × (spread_cell (is_spread_in s) (seen_rows s (cells m)) d ≡ c)
  here = seen_from s (cells m) up c i

  place_here : here.0.place ≡ p
  place_here = ap (λ (z : Cell). z.place) here.2 ∙ e

  roles_here : contains here.0.row.roles k ≡ contains r.roles k
  roles_here = ap (λ (z : Row). contains z.roles k) (row_at m (cells m) p shape refl here.0 here.1 place_here r paid)

  has_seen : contains (spread_cell (is_spread_in s) (seen_rows s (cells m)) here.0).row.roles k ≡ contains c.row.roles k
  has_seen = ap (λ (z : Cell). contains z.row.roles k) here.2

  pub has_kept : contains r.roles k ≡ true → contains c.row.roles k ≡ true
  has_kept h = sym has_seen ∙ (in_union here.0.row.roles (from_above (is_spread_in s) (seen_rows s (cells m)) here.0) k ∙ or_left _ _ (roles_here ∙ h))

  -- one that isn't spread is kept
  pub has_unspread : is_spread_in s k ≡ false → contains c.row.roles k ≡ contains r.roles k
  has_unspread h = sym has_seen ∙ (unspread_same s (cells m) up k h here.0 ∙ roles_here)

  -- and another one may come from above
  module _ (nest : Nested (cells m)) (spread : is_spread_in s k ≡ true) (off : contains r.roles k ≡ false) where
    up_to : (o : Option ℕ) → KeptAbove (cells m) k here.0 o → is_some o ≡ true → contains c.row.roles k ≡ true
    up_to None h f = absurd (false≢true f)
    up_to (Some x) h f = sym has_seen ∙ (seen_has s (cells m) shape.rising nest shape.up k spread here.0 here.1).1 (h.0, h.1, inr h.3, h.4)

    up_from : (o : Option ℕ) → KeptAbove (cells m) k here.0 o → contains c.row.roles k ≡ true → is_some o ≡ true
    up_from (Some x) h f = refl
    up_from None h f =
        let a = (seen_has s (cells m) shape.rising nest shape.up k spread here.0 here.1).0 (has_seen ∙ f) in
        elim a.2 [
          | inl g ↦ absurd (true≢false (sym a.3 ∙ (ap (λ (z : Cell). contains z.row.roles k) g ∙ (roles_here ∙ off))))
          | inr n ↦ absurd (h a.0 a.1 n a.3)
        ]

    pub has_above : (o : Option ℕ) → ((d : Cell) → In d (cells m) → d.place ≡ p → KeptAbove (cells m) k d o) → is_some o ≡ contains c.row.roles k
    has_above o law = same_bools (is_some o) (contains c.row.roles k) (up_to o (law here.0 here.1 place_here)) (up_from o (law here.0 here.1 place_here))
