-- How a copy begins, goes on and ends.
use Rattle.std.proofs.Common.{◌≡◌, ℕ, suc, true, List, [], ◌∷◌, ◌++◌, reverse, Option, Some, None, refl, sym, ◌∙◌, ap, subst, arith}
use Rattle.std.specs.FinMap.{get}
use Rattle.std.proofs.lemmas.Bool.{eq-eqb}
use Rattle.gcx_base.specs.declared.kind.Kind.{Kind}
use Rattle.gcx_base.specs.declared.kind.Kind.TheVariants.{Document, Element, Text}
use Rattle.gcx_model.specs.Tree.{Node, serial_of, kind_of}
use Rattle.gcx_model.specs.Members.{In}
use Rattle.gcx_model.specs.Written.{start_tag, escaped}
use Rattle.gcx_model.specs.Core.{Copy, BodyTree}
use Rattle.gcx_model.specs.Points.{Frame, Rest, Bound_in}
use Rattle.gcx_model.specs.Copying.{CopyFrame, Inside, FinePoint}
use Rattle.gcx_model.specs.Past.{Past}
use Rattle.move_laws.proofs.CopyMoves.{copy_begins}
use Rattle.tree_laws.proofs.Freeze.{within_self}
use Rattle.buf_tree.specs.Shape.{Cell}
use Rattle.buf_tree.specs.View.{View, InUse}
use Rattle.node_store.specs.declared.store.Place.{Place}
use Rattle.cond_eval.specs.Bindings.{Bindings}
use Rattle.cond_eval.specs.Asking.{PlacedAt, IsBound}
use Rattle.cond_eval.specs.Reads.{NodeAt}
use Rattle.pull_eval.specs.Copies.{first_bytes, begun_at}
use Rattle.pull_eval.specs.Position.{items, AreFrames, Copies, IsCopy, StandsAt}
use Rattle.pull_eval.specs.Weight.{weigh_blocks, weigh_copying}
use Rattle.pull_eval.specs.Acting.{Beside, Moves, IsNextItem}
use Rattle.pull_eval.specs.declared.machine.Acted.{Acted}
use Rattle.pull_eval.specs.declared.block.Block.{Block}
use Rattle.pull_eval.specs.declared.block.Copying.{Copying}
use Rattle.pull_eval.specs.declared.position.Position.{Position}
use Rattle.pull_eval.proofs.Frames.{at_item, goes_on, stands_within, turns_still}
use Rattle.pull_eval.proofs.Weighing.{weigh_on}
use Rattle.pull_eval.proofs.Writing.{beside_wrote, beside_still}
use Rattle.cond_eval.proofs.Rows.{at_node, kind_told, kept_at}
use Rattle.pull_eval.proofs.HeldRows.{holds}
use Rattle.pull_eval.proofs.Needing.{used_in, used_bound, item_held}
use Rattle.pull_eval.proofs.Copying.{copy_at}
use Rattle.pull_eval.proofs.Inside.{beside_rows}
use Rattle.pull_eval.proofs.CopyBytes.{text_some, start_some, Counted, wrote_some, wrote_none}

-- ---- a copy begins

-- what stays of a position that begins a copy: all but the block at the top and the copy
pub record CopyOnly (w m : Position) : Type 0 where
  pub below : m.below.items ≡ w.below.items
  pub env : m.env ≡ w.env
  pub turns : m.turns.items ≡ w.turns.items
  pub begun : m.is_begun ≡ true

-- a copy that has just begun
begun_copy : (rows : List Cell) (p : Place) (n : Node) → PlacedAt rows (serial_of n) p.0 → IsCopy rows (record { top = p; node = p; present = None }) (Inside n None ∷ [])
begun_copy rows p n a = copy_at rows (record { top = p; node = p; present = None }) n None [] a tt (record { over = []; copied = n; last = None; outermost = refl; at_copied = a })

module _ (w : Position) (v : View) (past : Past) (k : ℕ) (b : Beside w v past k) (begun : w.is_begun ≡ true) (x : ℕ) (d : BodyTree) (n : IsNextItem w (Copy x) d) where
  abbrev pub copied_node : Node
  copied_node = (at_item w v past k b (Copy x) d n).env x

  -- the variable's node stands at its place
  pub copied_bound : IsBound v.rows w.env x copied_node
  copied_bound = used_bound w v past k b (Copy x) d n begun x refl

  pub copied_row : NodeAt v.rows past.tree (holds past) copied_bound.place copied_node
  copied_row =
      let i = used_in w v past k b (Copy x) d n x refl in
      kept_at v.rows past.tree (holds past) (beside_rows w v past k b) copied_node copied_bound.place i (item_held w v past k b (Copy x) d n copied_node i (within_self (serial_of copied_node) copied_node (eq-eqb (serial_of copied_node) (serial_of copied_node) refl))) copied_bound.at

  -- so the place that the variable is bound to is in use
  pub copied_used : (place : Place) → ((p s : ℕ) → get w.env x ≡ Some (p, s) → place.0 ≡ p) → InUse v.rows place.0
  copied_used place there = record { cell = copied_row.cell; among = copied_row.cell_among; place = copied_row.at ∙ sym (there copied_bound.place (serial_of copied_node) copied_bound.pair) }

module _ (w m : Position) (v : View) (past : Past) (k : ℕ) (b : Beside w v past k) (begun : w.is_begun ≡ true) (same : CopyOnly w m) (x : ℕ) (n : IsNextItem w (Copy x) (items m.top.rest.now)) where
  abbrev d : BodyTree
  d = items m.top.rest.now

  abbrev node : Node
  node = copied_node w v past k b begun x d n

  abbrev its : IsBound v.rows w.env x node
  its = copied_bound w v past k b begun x d n

  abbrev row : NodeAt v.rows past.tree (holds past) its.place node
  row = copied_row w v past k b begun x d n

  abbrev fs : List Frame
  fs = Rest d (at_item w v past k b (Copy x) d n).env ∷ (at_item w v past k b (Copy x) d n).below

  module _ (round : m.top.round ≡ w.top.round) (anew : m.top.seen ≡ 0) (place : Place) (there : (p s : ℕ) → get w.env x ≡ Some (p, s) → place.0 ≡ p) (old new : List ℕ) (a : Option Acted) (counted : Counted old new a)
      (puts : (c : Cell) → In c v.rows → c.place ≡ place.0 → new ≡ old ++ first_bytes c.row.kind) (goes : (c : Cell) → In c v.rows → c.place ≡ place.0 → m.copying ≡ begun_at place c.row.kind) where
    here : place.0 ≡ its.place
    here = there its.place (serial_of node) its.pair

    placed : PlacedAt v.rows (serial_of node) place.0
    placed c i e = its.at c i e ∙ sym here

    kind_there : row.cell.row.kind ≡ kind_of node
    kind_there = kind_told v.rows past.tree (holds past) (beside_rows w v past k b) row.cell node (at_node v.rows past.tree (holds past) its.place node row)

    put : new ≡ old ++ first_bytes (kind_of node)
    put = puts row.cell row.cell_among (row.at ∙ sym here) ∙ ap (λ (z : Kind). old ++ first_bytes z) kind_there

    gone_to : m.copying ≡ begun_at place (kind_of node)
    gone_to = goes row.cell row.cell_among (row.at ∙ sym here) ∙ ap (begun_at place) kind_there

    frames : AreFrames v.rows past.tree (m.top ∷ reverse m.below.items) fs
    frames = subst (λ (z : List Block). AreFrames v.rows past.tree (m.top ∷ reverse z) fs) (sym same.below) (goes_on w v past k b (Copy x) m.top n (λ off. off) round anew)

    bound : (y : ℕ) (j : Node) → Bound_in y j fs → IsBound v.rows m.env y j
    bound y j h = subst (λ (z : Bindings). IsBound v.rows z y j) (sym same.env) ((at_item w v past k b (Copy x) d n).bound begun y j h)

    stands : (j : ℕ) (inner : List CopyFrame) → FinePoint past.plan past.tree j inner fs → Copies v.rows m.copying inner → StandsAt past.plan m v.rows past.tree j
    stands j inner point copies = stands_within m v.rows past.plan past.tree j inner fs same.begun (turns_still w m v.rows past.plan past.tree k same.turns b.position) point frames copies bound

    within_copy : (K : Kind) → kind_of node ≡ K → begun_at place K ≡ Some (record { top = place; node = place; present = None }) → Copies v.rows m.copying (Inside node None ∷ [])
    within_copy K e f = subst (λ (z : Option Copying). Copies v.rows z (Inside node None ∷ [])) (sym (gone_to ∙ (ap (begun_at place) e ∙ f))) (begun_copy v.rows place node placed)

    pub copy_begun : Moves past k w m v v old new a
    copy_begun = go (kind_of node) refl
      where
        go : (K : Kind) → kind_of node ≡ K → Moves past k w m v v old new a
        go Document e =
            let point = (copy_begins past.plan past.tree k x d (at_item w v past k b (Copy x) d n).env (at_item w v past k b (Copy x) d n).below (at_item w v past k b (Copy x) d n).point).2 e in
            let on = weigh_on v.rows w.top m.top (Copy x) n.next round in
            let blocks = ap (weigh_blocks v.rows) same.below in
            let before = ap weigh_copying n.no_copy in
            let after = ap weigh_copying (gone_to ∙ ap (begun_at place) e) in
            wrote_none w m v past k old new (first_bytes (kind_of node)) put a counted (ap first_bytes e) (beside_still w m v past k b (stands k (Inside node None ∷ []) point (within_copy Document e refl))) (omega arith)
        go (Element name) e =
            let next = (copy_begins past.plan past.tree k x d (at_item w v past k b (Copy x) d n).env (at_item w v past k b (Copy x) d n).below (at_item w v past k b (Copy x) d n).point).1 name e in
            wrote_some w m v past k old new (start_tag name) (put ∙ ap (λ (z : Kind). old ++ first_bytes z) e) a counted (start_some name) next.0 (beside_wrote w m v past k (start_tag name) b next.0 (stands (suc k) (Inside node None ∷ []) next.1 (within_copy (Element name) e refl)))
        go (Text t) e =
            let next = (copy_begins past.plan past.tree k x d (at_item w v past k b (Copy x) d n).env (at_item w v past k b (Copy x) d n).below (at_item w v past k b (Copy x) d n).point).0 t e in
            let over : m.copying ≡ None = gone_to ∙ ap (begun_at place) e in
            wrote_some w m v past k old new (escaped t) (put ∙ ap (λ (z : Kind). old ++ first_bytes z) e) a counted (text_some past.tree b.buffer.is_past.grown node t row.among e) next.0
            (beside_wrote w m v past k (escaped t) b next.0 (stands (suc k) [] next.1 (subst (λ (z : Option Copying). Copies v.rows z []) (sym over) refl)))
