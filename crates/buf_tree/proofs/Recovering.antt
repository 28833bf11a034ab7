-- A row that says again whether some row above it keeps a spread role.
use Rattle.std.proofs.Common.{◌≡◌, ◌==◌, ℕ, Bool, true, false, cond, refl, sym, ◌∙◌, ap, subst, ◌⊎◌, arith, Some, None, Option}
use Rattle.std.specs.Prelude.{◌↔◌, option_map}
use Rattle.std.specs.Cmp.{nat_cmp_total}
use Rattle.std.specs.FinMap.{get, same_map}
use Rattle.std.specs.FinSet as set
use Rattle.std.specs.FinSet.{nat_cmp-IsAntisymmetric}
use Rattle.std.proofs.lemmas.Bool.{eqb-true}
use Rattle.gcx_model.specs.Members.{In}
use Rattle.node_store.specs.Rows.{StoreRow, changed_at, paid_by, parent_of}
use Rattle.buf_tree.specs.Row.{Row}
use Rattle.buf_tree.specs.Rows.{covered_by}
use Rattle.buf_tree.specs.Shape.{Store, Cell, cells, Shaped}
use Rattle.buf_tree.specs.Recount.{CoversOne}
use Rattle.buf_tree.specs.Spread.{SpreadView, is_spread_in}
use Rattle.buf_tree.proofs.Changes.{get_changed}
use Rattle.buf_tree.proofs.Kin.{parent_row, no_parent}
use Rattle.buf_tree.proofs.Seeking.{cell_row}
use Rattle.buf_tree.proofs.Shaping.{get_of, rising_same}

-- a row that says what it said before
covered_again : (m : Store) (p : ℕ) (r : Row) → option_map (λ (e : StoreRow Row). e.payload) (get m p) ≡ Some r → changed_at (paid_by (covered_by r.covered)) p m ≡ m
covered_again m p r h =
    same_map nat_cmp_total nat_cmp-IsAntisymmetric (changed_at (paid_by (covered_by r.covered)) p m) m (λ q. get_changed (paid_by (covered_by r.covered)) p m q ∙ go q (q == p) refl)
  where
    same : (o : Option (StoreRow Row)) → option_map (λ (e : StoreRow Row). e.payload) o ≡ Some r → option_map (paid_by (covered_by r.covered)) o ≡ o
    same None e = refl
    same (Some e) k = let is : e.payload ≡ r = cc in ap (λ (x : Row). Some (record e { payload = record e.payload { covered = x.covered } })) (sym is)

    go : (q : ℕ) (b : Bool) → (q == p) ≡ b → cond b (option_map (paid_by (covered_by r.covered)) (get m q)) (get m q) ≡ get m q
    go q true e = same (get m q) (ap (λ z. option_map (λ (d : StoreRow Row). d.payload) (get m z)) (eqb-true q p e) ∙ h)
    go q false e = refl

module _ (s : Option SpreadView) (m : Store) (shape : Shaped m) (c : Cell) (i : In c (cells m)) where
  -- the document node's row stays as it is
  pub recovered_top : parent_of m c.place ≡ None → CoversOne s m m c
  recovered_top none = record {
    covered = c.row.covered;
    rows = sym (covered_again m c.place c.row (ap (option_map (λ (e : StoreRow Row). e.payload)) (get_of m (cells m) shape c i)));
    told = λ e j k. let z = no_parent m (cells m) shape c i none in let l = k.1 in absurd (omega arith);
  }

  -- another one asks its parent's
  pub recovered : (q : ℕ) → parent_of m c.place ≡ Some q → (r : Row) → option_map (λ (e : StoreRow Row). e.payload) (get m q) ≡ Some r → (b : Bool)
      → (b ≡ true) ↔ ((r.covered ≡ true) ⊎ ((k : ℕ) × (is_spread_in s k ≡ true) × (set.contains r.roles k ≡ true)))
      → (m' : Store) → m' ≡ changed_at (paid_by (covered_by b)) c.place m → CoversOne s m m' c
  recovered q up r h b law m' e = record {
    covered = b;
    rows = e;
    told = λ d j k.
        let u = parent_row m (cells m) shape c i q up in
        let same : u.0 ≡ d = rising_same (cells m) shape.rising u.0 d u.1 j (sym u.2.0 ∙ k.0) in
        subst (λ (x : Row). (b ≡ true) ↔ ((x.covered ≡ true) ⊎ ((y : ℕ) × (is_spread_in s y ≡ true) × (set.contains x.roles y ≡ true)))) (sym (cell_row m shape u.0 u.1 q u.3 r h) ∙ ap (λ (x : Cell). x.row) same) law;
  }
