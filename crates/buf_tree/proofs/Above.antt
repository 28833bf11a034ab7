-- The nearest row above one that passes a test.
use Rattle.std.proofs.Common.{◌≡◌, ℕ, Bool, true, false, List, sym, ◌∙◌, ap, inl, inr, arith, Some, None, Option}
use Rattle.std.specs.Prelude.{option_map}
use Rattle.std.specs.FinMap.{get}
use Rattle.std.proofs.lemmas.Bool.{false≢true}
use Rattle.gcx_model.specs.Members.{In}
use Rattle.node_store.specs.Rows.{StoreRow, parent_of}
use Rattle.buf_tree.specs.Row.{Row}
use Rattle.buf_tree.specs.Shape.{Store, Cell, cells, Shaped}
use Rattle.buf_tree.specs.Walk.{Nested, Inside, Within}
use Rattle.buf_tree.proofs.Kin.{parent_row, no_parent}
use Rattle.buf_tree.proofs.Lines.{child_inside, inside_trans, parent_within}
use Rattle.buf_tree.proofs.Seeking.{cell_row}

-- on the way up from h: a row above h that passes is this row or above it
abbrev pub Ascent : List Cell → (Row → Bool) → Cell → Option ℕ → Type 0
Ascent rows test h None = (b : Cell) → In b rows → Inside rows b h → test b.row ≡ true → ⊥
Ascent rows test h (Some p) = (t : Cell) × In t rows × (t.place ≡ p) × Inside rows t h × ((b : Cell) → In b rows → Inside rows b h → test b.row ≡ true → Within rows b t)

module _ (m : Store) (s : Shaped m) (nest : Nested (cells m)) (test : Row → Bool) (h : Cell) (i : In h (cells m)) where
  pub ascent_start : (o : Option ℕ) → o ≡ parent_of m h.place → Ascent (cells m) test h o
  ascent_start None e = λ b j n w. let z = no_parent m (cells m) s h i (sym e) in let l = n.behind in absurd (omega arith)
  ascent_start (Some q) e =
      let k = parent_row m (cells m) s h i q (sym e) in
      (k.0, k.1, k.3, child_inside (cells m) s.rising nest s.up k.0 h k.1 i k.2, λ b j n w. parent_within (cells m) s.rising nest s.up b k.0 h j k.1 i n k.2)

  module _ (p : ℕ) (u : Ascent (cells m) test h (Some p)) (r : Row) (paid : option_map (λ (e : StoreRow Row). e.payload) (get m p) ≡ Some r) where
    is_row : u.0.row ≡ r
    is_row = cell_row m s u.0 u.1 p u.2 r paid

    pub ascent_found : test r ≡ true → (a : Cell) × In a (cells m) × (a.row ≡ r) × Inside (cells m) a h × (test a.row ≡ true)
    ascent_found w = (u.0, u.1, is_row, u.3, ap test is_row ∙ w)

    fails : test r ≡ false → (b : Cell) → test b.row ≡ true → b ≡ u.0 → ⊥
    fails f b w e = false≢true (sym f ∙ sym (ap test (ap (λ (c : Cell). c.row) e ∙ is_row)) ∙ w)

    pub ascent_on : test r ≡ false → (o : Option ℕ) → o ≡ parent_of m p → Ascent (cells m) test h o
    ascent_on f None e = λ b j n w.
        let z = no_parent m (cells m) s u.0 u.1 (ap (parent_of m) u.2 ∙ sym e) in
        elim (u.4 b j n w) [
          | inl y ↦ fails f b w y
          | inr y ↦ (let l = y.behind in absurd (omega arith))
        ]
    ascent_on f (Some q) e =
        let k = parent_row m (cells m) s u.0 u.1 q (ap (parent_of m) u.2 ∙ sym e) in (
          k.0,
          k.1,
          k.3,
          inside_trans (cells m) s.rising nest s.up k.0 u.0 h (child_inside (cells m) s.rising nest s.up k.0 u.0 k.1 u.1 k.2) u.3,
          λ b j n w. elim (u.4 b j n w) [
            | inl y ↦ absurd (fails f b w y)
            | inr y ↦ parent_within (cells m) s.rising nest s.up b k.0 u.0 j k.1 u.1 y k.2
          ],
        )
