-- The copy in progress among the rows beside a past.
use Rattle.std.proofs.Common.{◌≡◌, ℕ, Bool, true, not, List, [], ◌∷◌, ◌++◌, Option, Some, None, refl, sym, ◌∙◌, ap, subst, inl}
use Rattle.std.specs.Prelude.{unwrap_or, MatchOption, nat_lt}
use Rattle.gcx_base.specs.declared.steps.Axis.TheVariants.{Child}
use Rattle.gcx_model.specs.Tree.{Node, serial_of, is_closed}
use Rattle.gcx_model.specs.Members.{In}
use Rattle.gcx_model.specs.Answer.{child_step, children}
use Rattle.gcx_model.specs.Held.{held_tree, is_held}
use Rattle.gcx_model.specs.Points.{so_far, later}
use Rattle.gcx_model.specs.Copying.{CopyFrame, Inside, next_children, FinePoint}
use Rattle.gcx_model.specs.Past.{Past}
use Rattle.move_laws.specs.Copying.{AtFinePoint}
use Rattle.tree_laws.proofs.Lists.{In-filter}
use Rattle.tree_laws.proofs.Matches.{Matches-in}
use Rattle.move_laws.proofs.CopyMoves.{inside_held, copy_frames_stand}
use Rattle.tree_laws.proofs.Fed.{grown_from}
use Rattle.buf_tree.specs.Shape.{Cell, num}
use Rattle.buf_tree.specs.View.{View, InUse}
use Rattle.buf_tree.specs.Match.{Unreached, FirstReached, GoesFrom}
use Rattle.node_store.specs.declared.store.Place.{Place}
use Rattle.cond_eval.specs.Asking.{RowsOf, PlacedAt}
use Rattle.cond_eval.specs.Reads.{NodeAt}
use Rattle.pull_eval.specs.Copies.{present_place}
use Rattle.pull_eval.specs.Position.{Copies, IsCopy, PresentAt}
use Rattle.pull_eval.specs.Acting.{Beside, NextIs, NoNext}
use Rattle.pull_eval.specs.declared.block.Copying.{Copying}
use Rattle.pull_eval.specs.declared.position.Position.{Position}
use Rattle.cond_eval.proofs.Rows.{kept_at, at_node, at_placed, serial_told, closed_told}
use Rattle.cond_eval.proofs.RowSteps.{first_found, none_found, later_found, none_later, from_match}
use Rattle.pull_eval.proofs.HeldRows.{holds, held_rows}
use Rattle.pull_eval.proofs.Needing.{held_now}
use Rattle.pull_eval.proofs.Copying.{child_reached}

module _ (w : Position) (v : View) (past : Past) (k : ℕ) (b : Beside w v past k) where
  pub beside_rows : RowsOf v.rows past.tree (holds past)
  beside_rows = held_rows v past b.buffer

  -- the node of each frame is held, with its children
  pub inside_kept : (above : List CopyFrame) (m : Node) (present : Option Node) (below : List CopyFrame) → b.position.inner ≡ above ++ Inside m present ∷ below
      → In m past.tree.nodes × (holds past m ≡ true) × ((j : Node) → In j (children past.tree m) → holds past j ≡ true)
  inside_kept above m present below e =
      let is = b.buffer.is_past in
      let point : FinePoint past.plan past.tree k (above ++ Inside m present ∷ below) b.position.fs = subst (λ (z : List CopyFrame). FinePoint past.plan past.tree k z b.position.fs) e b.position.point in
      let h = inside_held is.core is.good past.plan is.placed past.tree k b.state above m present below b.position.fs point in (
        (In-filter (is_held past.plan past.tree (so_far past.plan past.tree k)) m past.tree.nodes h.0).0,
        held_now w v past k b m h.0,
        λ j i. held_now w v past k b j (Matches-in (held_tree past.plan past.tree (so_far past.plan past.tree k)) (serial_of m) (child_step ∷ []) j (subst (λ (z : List Node). In j z) (sym h.1) i)).0,
      )

  module _ (c : Copying) (e : w.copying ≡ Some c) where
    pub the_copy : IsCopy v.rows c b.position.inner
    the_copy = subst (λ (z : Option Copying). Copies v.rows z b.position.inner) e b.position.copies

    pub fine : FinePoint past.plan past.tree k (Inside the_copy.node the_copy.present ∷ the_copy.below) b.position.fs
    fine = subst (λ (z : List CopyFrame). FinePoint past.plan past.tree k z b.position.fs) the_copy.innermost b.position.point

    pub at_fine : AtFinePoint past.plan past.tree k (Inside the_copy.node the_copy.present ∷ the_copy.below) b.position.fs
    at_fine = record { grown = b.buffer.is_past.grown; point = fine }

    pub node_kept : In the_copy.node past.tree.nodes × (holds past the_copy.node ≡ true) × ((j : Node) → In j (children past.tree the_copy.node) → holds past j ≡ true)
    node_kept = inside_kept [] the_copy.node the_copy.present the_copy.below the_copy.innermost

    pub node_row : NodeAt v.rows past.tree (holds past) c.node.0 the_copy.node
    node_row = kept_at v.rows past.tree (holds past) beside_rows the_copy.node c.node.0 node_kept.0 node_kept.1 the_copy.at_node

    abbrev pub node_used : InUse v.rows c.node.0
    node_used = record { cell = node_row.cell; among = node_row.cell_among; place = node_row.at }

    -- a child of the node is a node of the tree, and held
    pub child_kept : (j : Node) → In j (children past.tree the_copy.node) → In j past.tree.nodes × (holds past j ≡ true)
    child_kept j i = ((child_reached past.tree (grown_from past.tree b.buffer.is_past.grown) the_copy.node j i).0, node_kept.2 j i)

    pub child_row : (j : Node) (p : ℕ) → In j (children past.tree the_copy.node) → PlacedAt v.rows (serial_of j) p → NodeAt v.rows past.tree (holds past) p j
    child_row j p i a = let q = child_kept j i in kept_at v.rows past.tree (holds past) beside_rows j p q.0 q.1 a

    -- from where the next child is looked for, and what is found
    pub record Behind : Type 0 where
      pub cell : Cell
      pub among : In cell v.rows
      pub place : cell.place ≡ (present_place c).0
      pub from : GoesFrom v.rows c.node.0 child_step.axis (present_place c).0
      pub finds : (p : ℕ) → FirstReached v.rows node_row.cell child_step (num cell) p → (j : Node) × (rest : List Node) × (next_children past.tree the_copy.node the_copy.present ≡ j ∷ rest) × NodeAt v.rows past.tree (holds past) p j
      pub finds_none : Unreached v.rows node_row.cell child_step (num cell) → next_children past.tree the_copy.node the_copy.present ≡ []

    abbrev places_eq : Option Place → ℕ
    places_eq p = (unwrap_or p c.node).0

    behind_first : the_copy.present ≡ None → c.present ≡ None → Behind
    behind_first none_yet no_place =
        let here : c.node.0 ≡ (present_place c).0 = ap places_eq (sym no_place) in
        record {
          cell = node_row.cell;
          among = node_row.cell_among;
          place = node_row.at ∙ here;
          from = subst (λ (z : ℕ). GoesFrom v.rows c.node.0 Child z) here (record { top = node_used; from = node_used; way = inl refl });
          finds = λ p f.
              subst (λ (z : Option Node). (j : Node) × (rest : List Node) × (next_children past.tree the_copy.node z ≡ j ∷ rest) × NodeAt v.rows past.tree (holds past) p j) (sym none_yet)
              (first_found v.rows past.tree (holds past) beside_rows node_row.cell the_copy.node child_step p node_row.cell_among (at_node v.rows past.tree (holds past) c.node.0 the_copy.node node_row) node_kept.2 f);
          finds_none = λ u.
              subst (λ (z : Option Node). next_children past.tree the_copy.node z ≡ []) (sym none_yet)
              (none_found v.rows past.tree (holds past) beside_rows node_row.cell the_copy.node child_step node_row.cell_among (at_node v.rows past.tree (holds past) c.node.0 the_copy.node node_row) node_kept.2 u);
        }

    behind_child : (q : Node) (p : Place) → the_copy.present ≡ Some q → c.present ≡ Some p → PlacedAt v.rows (serial_of q) p.0 → Behind
    behind_child q p has at_place placed =
        let here : p.0 ≡ (present_place c).0 = ap places_eq (sym at_place) in
        let child : In q (children past.tree the_copy.node) = (copy_frames_stand past.plan past.tree k [] the_copy.node the_copy.present the_copy.below b.position.fs fine).1 q has in
        let row = child_row q p.0 child placed in
        let node = at_node v.rows past.tree (holds past) c.node.0 the_copy.node node_row in
        let of_child = at_node v.rows past.tree (holds past) p.0 q row in
        let serial = serial_told v.rows past.tree (holds past) beside_rows row.cell q of_child in
        let kept : (j : Node) → In j (later q (children past.tree the_copy.node)) → holds past j ≡ true = λ j i. node_kept.2 j (In-filter (λ (n : Node). nat_lt (serial_of q) (serial_of n)) j (children past.tree the_copy.node) i).0 in
        record {
          cell = row.cell;
          among = row.cell_among;
          place = row.at ∙ here;
          from = subst (λ (z : ℕ). GoesFrom v.rows c.node.0 Child z) here (record {
            top = node_used;
            from = record { cell = row.cell; among = row.cell_among; place = row.at };
            way = from_match v.rows past.tree (holds past) beside_rows node_row.cell row.cell the_copy.node q child_step node_row.cell_among row.cell_among node of_child
                (child_reached past.tree (grown_from past.tree b.buffer.is_past.grown) the_copy.node q child).1;
          });
          finds = λ p f.
              subst (λ (z : Option Node). (j : Node) × (rest : List Node) × (next_children past.tree the_copy.node z ≡ j ∷ rest) × NodeAt v.rows past.tree (holds past) p j) (sym has)
              (later_found v.rows past.tree (holds past) beside_rows node_row.cell the_copy.node q child_step (num row.cell) p node_row.cell_among node serial kept f);
          finds_none = λ u.
              subst (λ (z : Option Node). next_children past.tree the_copy.node z ≡ []) (sym has)
              (none_later v.rows past.tree (holds past) beside_rows node_row.cell the_copy.node q child_step (num row.cell) node_row.cell_among node serial kept u);
        }

    pub behind : Behind
    behind = go the_copy.present c.present refl refl the_copy.at_present
      where
        go : (m : Option Node) (p : Option Place) → the_copy.present ≡ m → c.present ≡ p → PresentAt v.rows m p → Behind
        go None None e f a = behind_first e f
        go None (Some p) e f a = absurd a
        go (Some q) None e f a = absurd a
        go (Some q) (Some p) e f a = behind_child q p e f a

    -- the search finds the next child, if there is one
    abbrev pub Searched : Option Place → Type 0
    Searched r = (n d : Cell) → In n v.rows → In d v.rows → n.place ≡ c.node.0 → d.place ≡ (present_place c).0 → MatchOption r (Unreached v.rows n child_step (num d)) (λ p. FirstReached v.rows n child_step (num d) p.0)

    pub next_found : (p : Place) → Searched (Some p) → NextIs v.rows past.tree b.position.inner p.0
    next_found p s =
        let f = behind.finds p.0 (s node_row.cell behind.cell node_row.cell_among behind.among node_row.at behind.place) in
        subst (λ (z : List CopyFrame). NextIs v.rows past.tree z p.0) (sym the_copy.innermost) (f.0, f.1, f.2, at_placed v.rows past.tree (holds past) p.0 f.0 f.3)

    pub none_next : Searched None → next_children past.tree the_copy.node the_copy.present ≡ []
    none_next s = behind.finds_none (s node_row.cell behind.cell node_row.cell_among behind.among node_row.at behind.place)

    -- the row tells whether the node is closed
    pub closed_there : (r : Bool) → ((n : Cell) → In n v.rows → n.place ≡ c.node.0 → r ≡ not n.row.is_open) → r ≡ is_closed past.tree the_copy.node
    closed_there r h = h node_row.cell node_row.cell_among node_row.at ∙ closed_told v.rows past.tree (holds past) beside_rows node_row.cell the_copy.node (at_node v.rows past.tree (holds past) c.node.0 the_copy.node node_row)

    pub found_used : (p : Place) → Searched (Some p) → InUse v.rows p.0
    found_used p s = let f = s node_row.cell behind.cell node_row.cell_among behind.among node_row.at behind.place in record { cell = f.cell; among = f.reached.among; place = f.place }

    pub is_over : Searched None → is_closed past.tree the_copy.node ≡ true → NoNext past.tree b.position.inner
    is_over s e = subst (λ (z : List CopyFrame). NoNext past.tree z) (sym the_copy.innermost) (none_next s, e)
