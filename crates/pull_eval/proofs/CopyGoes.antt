-- How a copy goes on and ends.
use Rattle.std.proofs.Common.{◌≡◌, ◌<◌, ℕ, suc, true, false, List, [], ◌∷◌, ◌++◌, reverse, Option, Some, None, refl, sym, ◌∙◌, ap, subst, inl, inr, ◌⊎◌, arith}
use Rattle.std.proofs.lemmas.Bool.{false≢true, and_parts}
use Rattle.gcx_base.specs.declared.kind.Kind.{Kind}
use Rattle.gcx_base.specs.declared.kind.Kind.TheVariants.{Document, Element, Text}
use Rattle.gcx_base.specs.declared.steps.Axis.TheVariants.{Child}
use Rattle.gcx_model.specs.Tree.{Node, serial_of, kind_of, is_closed}
use Rattle.gcx_model.specs.Members.{In}
use Rattle.gcx_base.specs.Tests.{passes}
use Rattle.gcx_model.specs.Paths.{lies}
use Rattle.gcx_model.specs.Nodes.{Grown}
use Rattle.gcx_model.specs.Answer.{child_step, children}
use Rattle.gcx_model.specs.Written.{start_tag, end_tag, escaped}
use Rattle.gcx_model.specs.Copying.{CopyFrame, Inside, has_inside, next_children, FinePoint}
use Rattle.gcx_model.specs.Past.{Past}
use Rattle.move_laws.specs.Moves.{NoneLeft}
use Rattle.move_laws.proofs.CopyMoves.{copy_steps, copy_ends, copy_waits, copy_frames_stand}
use Rattle.tree_laws.proofs.Fed.{grown_from}
use Rattle.buf_tree.specs.Shape.{Cell, num}
use Rattle.buf_tree.specs.View.{View}
use Rattle.buf_tree.specs.Match.{IsChild}
use Rattle.node_store.specs.declared.store.Place.{Place}
use Rattle.cond_eval.specs.Bindings.{Bindings}
use Rattle.cond_eval.specs.Asking.{PlacedAt, IsBound}
use Rattle.cond_eval.specs.Reads.{NodeAt}
use Rattle.pull_eval.specs.Copies.{first_bytes, last_bytes, come_to, risen}
use Rattle.pull_eval.specs.Position.{AreFrames, Copies, IsCopy, StandsAt}
use Rattle.pull_eval.specs.Weight.{weigh_block, weigh_blocks, weigh_copying}
use Rattle.pull_eval.specs.Acting.{Beside, Moves, NextIs}
use Rattle.pull_eval.specs.declared.machine.Acted.{Acted}
use Rattle.pull_eval.specs.declared.block.Block.{Block}
use Rattle.pull_eval.specs.declared.block.Copying.{Copying}
use Rattle.pull_eval.specs.declared.position.Position.{Position}
use Rattle.pull_eval.proofs.Frames.{stands_within, turns_still}
use Rattle.pull_eval.proofs.Writing.{beside_wrote, beside_still}
use Rattle.cond_eval.proofs.Rows.{row_for, placed_row, at_node, kind_told, serial_told, kept_at}
use Rattle.cond_eval.proofs.RowSteps.{lies_from}
use Rattle.pull_eval.proofs.HeldRows.{holds}
use Rattle.pull_eval.proofs.Copying.{next_in, no_document, child_reached, Outer, outer_of, outer_swap, outer_push, outer_pop, outer_alone, copy_at, deeper}
use Rattle.pull_eval.proofs.Inside.{beside_rows, inside_kept, the_copy, fine, at_fine, node_row, child_row}
use Rattle.pull_eval.proofs.CopyBytes.{text_some, start_some, end_some, Counted, wrote_some, wrote_none}

-- what stays of a position whose copy goes on: all but the copy
pub record CopyGoes (w m : Position) : Type 0 where
  pub top : m.top ≡ w.top
  pub below : m.below.items ≡ w.below.items
  pub env : m.env ≡ w.env
  pub turns : m.turns.items ≡ w.turns.items
  pub begun : m.is_begun ≡ true

module _ (w m : Position) (v : View) (past : Past) (k : ℕ) (b : Beside w v past k) (c : Copying) (e : w.copying ≡ Some c) (begun : w.is_begun ≡ true) where
  abbrev copy : IsCopy v.rows c b.position.inner
  copy = the_copy w v past k b c e

  grown : Grown past.tree
  grown = grown_from past.tree b.buffer.is_past.grown

  outer : Outer v.rows c.top.0 (Inside copy.node copy.present ∷ copy.below)
  outer = subst (λ (z : List CopyFrame). Outer v.rows c.top.0 z) copy.innermost (outer_of v.rows c b.position.inner copy)

  -- with no child yet the copy waits
  pub copy_blocked : next_children past.tree copy.node copy.present ≡ [] → is_closed past.tree copy.node ≡ false → NoneLeft past.plan past.tree k false
  copy_blocked none_there is_open = copy_waits past.plan past.tree k copy.node copy.present copy.below b.position.fs (at_fine w v past k b c e) none_there is_open

  module _ (same : CopyGoes w m) where
    stands : (j : ℕ) (inner : List CopyFrame) → FinePoint past.plan past.tree j inner b.position.fs → Copies v.rows m.copying inner → StandsAt past.plan m v.rows past.tree j
    stands j inner point copies =
        stands_within m v.rows past.plan past.tree j inner b.position.fs same.begun (turns_still w m v.rows past.plan past.tree k same.turns b.position) point
        (subst (λ (z : Block). AreFrames v.rows past.tree (z ∷ reverse m.below.items) b.position.fs) (sym same.top) (subst (λ (z : List Block). AreFrames v.rows past.tree (w.top ∷ reverse z) b.position.fs) (sym same.below) b.position.frames))
        copies
        (λ x n h. subst (λ (z : Bindings). IsBound v.rows z x n) (sym same.env) (b.position.bound begun x n h))

    -- ---- the next child

    module _ (child : Place) (next : NextIs v.rows past.tree (Inside copy.node copy.present ∷ copy.below) child.0) (old new : List ℕ) (a : Option Acted) (counted : Counted old new a)
        (puts : (n : Cell) → In n v.rows → n.place ≡ child.0 → new ≡ old ++ first_bytes n.row.kind) (goes : (n : Cell) → In n v.rows → n.place ≡ child.0 → m.copying ≡ Some (come_to c child n.row.kind)) where
      abbrev j : Node
      j = next.0

      j_in : In j (children past.tree copy.node)
      j_in = next_in past.tree grown copy.node copy.present j next.1 next.2

      row : NodeAt v.rows past.tree (holds past) child.0 j
      row = child_row w v past k b c e j child.0 j_in next.3

      kind_there : row.cell.row.kind ≡ kind_of j
      kind_there = kind_told v.rows past.tree (holds past) (beside_rows w v past k b) row.cell j (at_node v.rows past.tree (holds past) child.0 j row)

      put : new ≡ old ++ first_bytes (kind_of j)
      put = puts row.cell row.cell_among row.at ∙ ap (λ (z : Kind). old ++ first_bytes z) kind_there

      gone_to : m.copying ≡ Some (come_to c child (kind_of j))
      gone_to = goes row.cell row.cell_among row.at ∙ ap (λ (z : Kind). Some (come_to c child z)) kind_there

      in_element : IsCopy v.rows (record c { node = child; present = None }) (Inside j None ∷ Inside copy.node (Some j) ∷ copy.below)
      in_element = copy_at v.rows (record c { node = child; present = None }) j None (Inside copy.node (Some j) ∷ copy.below) next.3 tt (outer_push v.rows c.top.0 (Inside j None) (Inside copy.node (Some j) ∷ copy.below) (outer_swap v.rows c.top.0 copy.node copy.present (Some j) copy.below outer))

      behind_text : IsCopy v.rows (record c { present = Some child }) (Inside copy.node (Some j) ∷ copy.below)
      behind_text = copy_at v.rows (record c { present = Some child }) copy.node (Some j) copy.below copy.at_node next.3 (outer_swap v.rows c.top.0 copy.node copy.present (Some j) copy.below outer)

      pub child_copied : Moves past k w m v v old new a
      child_copied = go (kind_of j) refl
        where
          go : (K : Kind) → kind_of j ≡ K → Moves past k w m v v old new a
          go Document f = absurd (no_document past.tree grown copy.node j j_in f)
          go (Element name) f =
              let n = (copy_steps past.plan past.tree k copy.node copy.present copy.below b.position.fs j next.1 (at_fine w v past k b c e) next.2).1 name f in
              let copies : Copies v.rows m.copying (Inside j None ∷ Inside copy.node (Some j) ∷ copy.below) = subst (λ (z : Option Copying). Copies v.rows z (Inside j None ∷ Inside copy.node (Some j) ∷ copy.below)) (sym (gone_to ∙ ap (λ (z : Kind). Some (come_to c child z)) f)) in_element in
              wrote_some w m v past k old new (start_tag name) (put ∙ ap (λ (z : Kind). old ++ first_bytes z) f) a counted (start_some name) n.0 (beside_wrote w m v past k (start_tag name) b n.0 (stands (suc k) (Inside j None ∷ Inside copy.node (Some j) ∷ copy.below) n.1 copies))
          go (Text t) f =
              let n = (copy_steps past.plan past.tree k copy.node copy.present copy.below b.position.fs j next.1 (at_fine w v past k b c e) next.2).0 t f in
              let copies : Copies v.rows m.copying (Inside copy.node (Some j) ∷ copy.below) = subst (λ (z : Option Copying). Copies v.rows z (Inside copy.node (Some j) ∷ copy.below)) (sym (gone_to ∙ ap (λ (z : Kind). Some (come_to c child z)) f)) behind_text in
              wrote_some w m v past k old new (escaped t) (put ∙ ap (λ (z : Kind). old ++ first_bytes z) f) a counted (text_some past.tree b.buffer.is_past.grown j t row.among f) n.0 (beside_wrote w m v past k (escaped t) b n.0 (stands (suc k) (Inside copy.node (Some j) ∷ copy.below) n.1 copies))

    -- ---- the end

    module _ (over : (next_children past.tree copy.node copy.present ≡ []) × (is_closed past.tree copy.node ≡ true)) (old new : List ℕ) (a : Option Acted) (counted : Counted old new a)
        (puts : (n : Cell) → In n v.rows → n.place ≡ c.node.0 → new ≡ old ++ last_bytes n.row.kind) (out : c.node.0 ≡ c.top.0 → m.copying ≡ None)
        (up : (n d t : Cell) → In n v.rows → In d v.rows → In t v.rows → n.place ≡ c.node.0 → t.place ≡ c.top.0 → num t < num n → IsChild d n → m.copying ≡ Some (risen c d.place)) where
      abbrev here : NodeAt v.rows past.tree (holds past) c.node.0 copy.node
      here = node_row w v past k b c e

      last_put : new ≡ old ++ last_bytes (kind_of copy.node)
      last_put =
          puts here.cell here.cell_among here.at
          ∙ ap (λ (z : Kind). old ++ last_bytes z) (kind_told v.rows past.tree (holds past) (beside_rows w v past k b) here.cell copy.node (at_node v.rows past.tree (holds past) c.node.0 copy.node here))

      -- the copy of an element is behind its end tag
      ended : (name : List ℕ) → kind_of copy.node ≡ Element name → Copies v.rows m.copying copy.below → Moves past k w m v v old new a
      ended name f copies =
          let n = (copy_ends past.plan past.tree k copy.node copy.present copy.below b.position.fs (at_fine w v past k b c e) over.0 over.1).0 name f in
          wrote_some w m v past k old new (end_tag name) (last_put ∙ ap (λ (z : Kind). old ++ last_bytes z) f) a counted (end_some name) n.0 (beside_wrote w m v past k (end_tag name) b n.0 (stands (suc k) copy.below n.1 copies))

      -- that of the outermost node is over
      out_of_copy : copy.below ≡ [] → m.copying ≡ None
      out_of_copy f =
          let o : Outer v.rows c.top.0 (Inside copy.node copy.present ∷ []) = subst (λ (z : List CopyFrame). Outer v.rows c.top.0 (Inside copy.node copy.present ∷ z)) f outer in
          let at_top = outer_alone v.rows c.top.0 copy.node copy.present o in
          let number = serial_told v.rows past.tree (holds past) (beside_rows w v past k b) here.cell copy.node (at_node v.rows past.tree (holds past) c.node.0 copy.node here) in
          out (sym here.at ∙ at_top here.cell here.cell_among number)

      -- else the copy goes on within the parent's
      in_parent : (o : Node) (rest : List CopyFrame) → copy.below ≡ Inside o (Some copy.node) ∷ rest → Copies v.rows m.copying copy.below × ((kind_of copy.node ≡ Document) → ⊥)
      in_parent o rest f =
          let r = beside_rows w v past k b in
          let outer' : Outer v.rows c.top.0 (Inside copy.node copy.present ∷ Inside o (Some copy.node) ∷ rest) = subst (λ (z : List CopyFrame). Outer v.rows c.top.0 (Inside copy.node copy.present ∷ z)) f outer in
          let point : FinePoint past.plan past.tree k (Inside copy.node copy.present ∷ Inside o (Some copy.node) ∷ rest) b.position.fs = subst (λ (z : List CopyFrame). FinePoint past.plan past.tree k (Inside copy.node copy.present ∷ z) b.position.fs) f (fine w v past k b c e) in
          let child : In copy.node (children past.tree o) = (copy_frames_stand past.plan past.tree k (Inside copy.node copy.present ∷ []) o (Some copy.node) rest b.position.fs point).1 copy.node refl in
          let parent = inside_kept w v past k b (Inside copy.node copy.present ∷ []) o (Some copy.node) rest (copy.innermost ∙ ap (λ (z : List CopyFrame). Inside copy.node copy.present ∷ z) f) in
          let d = row_for v.rows past.tree (holds past) r o parent.0 parent.1 in
          let copied = inside_kept w v past k b outer.over outer.copied outer.last [] (copy.innermost ∙ outer.outermost) in
          let t = kept_at v.rows past.tree (holds past) r outer.copied c.top.0 copied.0 copied.1 outer.at_copied in
          let node = at_node v.rows past.tree (holds past) c.node.0 copy.node here in
          let reached = (child_reached past.tree grown o copy.node child).1 in
          let is_child : IsChild d.0 here.cell = lies_from v.rows past.tree (holds past) r Child d.0 here.cell o copy.node d.1 here.cell_among d.2 node (and_parts (passes child_step.test (kind_of copy.node)) (lies Child (serial_of o) copy.node) reached).1 in
          let low : num t.cell < num here.cell = (
          let s = serial_told v.rows past.tree (holds past) r t.cell outer.copied (at_node v.rows past.tree (holds past) c.top.0 outer.copied t) in
          let u = serial_told v.rows past.tree (holds past) r here.cell copy.node node in
          let l = below_top o rest f in
          omega arith) in
          let m_is : m.copying ≡ Some (risen c d.0.place) = up here.cell d.0 t.cell here.cell_among d.1 t.cell_among here.at t.at low is_child in
          let placed : PlacedAt v.rows (serial_of o) d.0.place = subst (λ (z : ℕ). PlacedAt v.rows z d.0.place) (serial_told v.rows past.tree (holds past) r d.0 o d.2) (placed_row v.rows past.tree (holds past) r d.0 d.1) in
          let is : IsCopy v.rows (risen c d.0.place) (Inside o (Some copy.node) ∷ rest) = copy_at v.rows (risen c d.0.place) o (Some copy.node) rest placed copy.at_node (outer_pop v.rows c.top.0 (Inside copy.node copy.present) (Inside o (Some copy.node)) rest outer') in
          let copies : IsCopy v.rows (risen c d.0.place) copy.below = subst (λ (z : List CopyFrame). IsCopy v.rows (risen c d.0.place) z) (sym f) is in
          (subst (λ (z : Option Copying). Copies v.rows z copy.below) {x = Some (risen c d.0.place)} (sym m_is) copies, λ g. no_document past.tree grown o copy.node child g)
        where
          below_top : (q : Node) (qs : List CopyFrame) → copy.below ≡ Inside q (Some copy.node) ∷ qs → serial_of outer.copied < serial_of copy.node
          below_top q qs x = elim (deeper past.plan past.tree grown k b.position.fs [] copy.node copy.present copy.below outer.copied outer.last outer.over (fine w v past k b c e) outer.outermost) [
            | inl s ↦ (let g : Inside copy.node copy.present ∷ copy.below ≡ Inside outer.copied outer.last ∷ [] = outer.outermost ∙ ap (λ (z : List CopyFrame). z ++ Inside outer.copied outer.last ∷ []) s.0 in
                let h : copy.below ≡ [] = cc in
                let z : [] ≡ Inside q (Some copy.node) ∷ qs = sym h ∙ x in
                absurd (cc))
            | inr l ↦ l
          ]

      pub copy_ended : Moves past k w m v v old new a
      copy_ended = go (kind_of copy.node) refl (copy_frames_stand past.plan past.tree k [] copy.node copy.present copy.below b.position.fs (fine w v past k b c e)).2
        where
          go : (K : Kind) → kind_of copy.node ≡ K → ((copy.below ≡ []) ⊎ ((o : Node) × (rest : List CopyFrame) × (copy.below ≡ Inside o (Some copy.node) ∷ rest))) → Moves past k w m v v old new a
          go (Text t) f x = absurd (false≢true (subst (λ (z : Kind). has_inside z ≡ true) f (copy_frames_stand past.plan past.tree k [] copy.node copy.present copy.below b.position.fs (fine w v past k b c e)).0))
          go (Element name) f (inl g) = ended name f (subst (λ (z : Option Copying). Copies v.rows z copy.below) (sym (out_of_copy g)) g)
          go (Element name) f (inr (o, rest, g)) = ended name f (in_parent o rest g).0
          go Document f (inr (o, rest, g)) = absurd ((in_parent o rest g).1 f)
          go Document f (inl g) =
              let before = ap weigh_copying e in
              let after = ap weigh_copying (out_of_copy g) in
              let blocks = ap (weigh_blocks v.rows) same.below in
              let tops = ap (weigh_block v.rows) same.top in
              wrote_none w m v past k old new (last_bytes (kind_of copy.node)) last_put a counted (ap last_bytes f)
              (beside_still w m v past k b (stands k copy.below ((copy_ends past.plan past.tree k copy.node copy.present copy.below b.position.fs (at_fine w v past k b c e) over.0 over.1).1 f) (subst (λ (z : Option Copying). Copies v.rows z copy.below) (sym (out_of_copy g)) g))) (omega arith)
