-- The rows that are there while elements are passed.
use Rattle.std.proofs.Common.{◌≡◌, ◌==◌, ℕ, ◌+◌, true, List, [], ◌∷◌, ◌++◌, refl, sym, ◌∙◌, ap, inl, inr}
use Rattle.std.proofs.lemmas.Bool.{or_left, or_right, eq-eqb}
use Rattle.gcx_base.specs.declared.kind.Kind.TheVariants.{Document, Element}
use Rattle.gcx_model.specs.Tree.{Node, Root, Under, within, is_open_at}
use Rattle.gcx_model.specs.Held.{held, is_held}
use Rattle.tree_laws.proofs.Lists.{In, In-left, In-append, In-kept}
use Rattle.tree_laws.proofs.Fed.{root_from}
use Rattle.buf_tree.specs.Shape.{Cell, CellsRise}
use Rattle.buf_tree.specs.View.{View, num_in, level_in}
use Rattle.buf_tree.specs.Stands.{Seen, seen, told, StandsFor}
use Rattle.buf_tree.specs.Loose.{Passed, last_open, passed_cells, cells_passed, with_passed, RowThere}
use Rattle.buf_tree.proofs.Standing.{pair_left}
use Rattle.buf_tree.proofs.PassedRows.{places_of, places_length}
use Rattle.buf_tree.proofs.OwnPlaces.{rising_rows, open_last}

in_root : (a : Node) → within 0 a ≡ true
in_root Root = eq-eqb 0 0 refl
in_root (Under p s k) = or_right (s == 0) (within 0 p) (in_root p)

not_document : (name : List ℕ) → Element name ≡ Document → ⊥
not_document name e = cc

passed_kind : (a l : ℕ) (ps : List ℕ) (xs : List Passed) (c : Cell) → In c (passed_cells a l ps xs) → c.row.kind ≡ Document → ⊥
passed_kind a l ps [] c i e = absurd i
passed_kind a l [] (x ∷ xs) c i e = absurd i
passed_kind a l (p ∷ ps) (x ∷ xs) c (inl f) e = not_document x.name (ap (λ (z : Cell). z.row.kind) f ∙ e)
passed_kind a l (p ∷ ps) (x ∷ xs) c (inr i) e = passed_kind x.serial (l + 1) ps xs c i e

rising_front : (cs ds : List Cell) → CellsRise (cs ++ ds) → CellsRise cs
rising_front [] ds r = tt
rising_front (c ∷ cs) ds r = (λ y i. r.0 y (In-left y cs ds i), rising_front cs ds r.1)

pub row_there : RowThere
row_there v xs past a h at =
    let q = pair_left (told past) seen (held past.plan past.tree past.acts) base.rows (sym s.rows) Root (In-kept (is_held past.plan past.tree past.acts) Root past.tree.nodes (root_from past.tree s.is_past.grown) (or_left _ _ root_open)) in
    let doc : q.0.row.kind ≡ Document = sym (ap (λ (z : Seen). z.kind) q.2) in
    let i : In q.0 v.rows = elim (In-append q.0 v.rows (cells_passed (places_of xs) xs v.rows) q.1) [
      | inl j ↦ j
      | inr j ↦ absurd (passed_kind (num_in (last_open v.rows)) (level_in (last_open v.rows)) (places_of xs) xs q.0 j doc)
    ] in
    let e = open_last v.rows (rising_front v.rows (cells_passed (places_of xs) xs v.rows) (rising_rows base past s)) q.0 i (sym (ap (λ (z : Seen). z.is_open) q.2) ∙ root_open) in
    (e.0.place, record { cell = e.0; among = e.2.0; place = refl; is_open = e.2.1; last = e.2.2 })
  where
    base : View
    base = with_passed (places_of xs) xs v

    s : StandsFor (with_passed (places_of xs) xs v) past
    s = h (places_of xs) (places_length xs)

    root_open : is_open_at past.tree.at 0 ≡ true
    root_open = ap (λ o. is_open_at o 0) at ∙ in_root a
