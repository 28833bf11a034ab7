-- What a cursor tells of the node of a row.
use Rattle.std.proofs.Common.{◌≡◌, ◌<◌, ℕ, List, Some, None, sym, ◌∙◌, ap, arith}
use Rattle.std.specs.Prelude.{option_map}
use Rattle.std.specs.FinMap.{get}
use Rattle.gcx_base.specs.declared.kind.Kind.{Kind}
use Rattle.gcx_model.specs.Members.{In}
use Rattle.node_store.specs.Rows.{StoreRow, parent_of}
use Rattle.node_store.specs.declared.store.Place.{Place}
use Rattle.buf_tree.specs.Row.{Row}
use Rattle.buf_tree.specs.Shape.{Store, Cell, num, Shape}
use Rattle.buf_tree.specs.Match.{IsChild}
use Rattle.buf_tree.specs.Spread.{SameButRoles}
use Rattle.buf_tree.proofs.KeptReading.{kind_told, parent_told_by, no_parent_told, seen_rise, seen_stand_apart}
use Rattle.buf_tree.proofs.Shaping.{rising_same}

module _ (m : Store) (ks rows : List Cell) (s : Shape m ks) (same : SameButRoles ks rows) where
  pub kind_read : (p q : Place) → q ≡ p → (r : Row) (k : Kind) → option_map (λ (e : StoreRow Row). e.payload) (get m q.0) ≡ Some r → k ≡ r.kind → (c : Cell) → In c rows → c.place ≡ p.0 → k ≡ c.row.kind
  kind_read p q at r k h f c i e = f ∙ sym (kind_told m ks rows s same q.0 r h c i (e ∙ sym (ap (λ (z : Place). z.0) at)))

  -- the parent of a child is the row of which it is one
  pub parent_read : (p q : Place) → q ≡ p → (k : Place) → Some k.0 ≡ parent_of m q.0 → (c d : Cell) → In c rows → In d rows → c.place ≡ p.0 → IsChild d c → k ≡ record { 0 = d.place }
  parent_read p q at k h c d i j e child =
      let here : q.0 ≡ c.place = ap (λ (z : Place). z.0) at ∙ sym e in
      let x = parent_told_by m ks rows s same c i k.0 (sym (h ∙ ap (parent_of m) here)) in
      let number : num x.0 ≡ num d = sym x.2.0 ∙ child.0 in
      let row : x.0 ≡ d = rising_same rows (seen_rise m ks rows s same) x.0 d x.1 j number in
      let place : k.0 ≡ d.place = sym x.3 ∙ ap (λ (z : Cell). z.place) row in
      ap (λ (z : ℕ). record { 0 = z }) place

  -- and there is one
  pub parent_there : (p q : Place) → q ≡ p → None ≡ parent_of m q.0 → (c d : Cell) → In c rows → c.place ≡ p.0 → IsChild d c → ⊥
  parent_there p q at h c d i e child =
      let here : q.0 ≡ c.place = ap (λ (z : Place). z.0) at ∙ sym e in
      let z = no_parent_told m ks rows s same c i (sym (h ∙ ap (parent_of m) here)) in
      let l = child.1 in
      omega arith

  -- rows with different serials stand at different places
  pub other_place : (p q : ℕ) (c d : Cell) → In c rows → In d rows → c.place ≡ p → d.place ≡ q → num d < num c → p ≡ q → ⊥
  other_place p q c d i j e f l at = let g = ap num (seen_stand_apart m ks rows s same c d i j (e ∙ (at ∙ sym f))) in omega arith
