-- The rows of a buffer and the nodes that are held.
use Rattle.std.proofs.Common.{◌≡◌, ℕ, ◌≤◌, ◌||◌, ◌&&◌, Bool, true, false, not, length, sym, ◌∙◌, ap, subst, arith, Some, None, Option}
use Rattle.std.proofs.lemmas.List.{length-map}
use Rattle.gcx_model.specs.Tree.{Node, serial_of, within, Tree, is_open_at}
use Rattle.gcx_model.specs.Paths.{any}
use Rattle.gcx_model.specs.Members.{In}
use Rattle.gcx_model.specs.Growth.{level}
use Rattle.gcx_model.specs.Held.{is_live, is_held, held}
use Rattle.gcx_model.specs.Past.{Past}
use Rattle.tree_laws.proofs.Lists.{In-filter, In-kept}
use Rattle.tree_laws.proofs.Growing.{level_above}
use Rattle.run_laws.proofs.Feeds.{open_chain}
use Rattle.node_store.specs.declared.store.Place.{Place}
use Rattle.buf_tree.specs.Shape.{Cell, num}
use Rattle.buf_tree.specs.View.{View}
use Rattle.buf_tree.specs.Stands.{Seen, seen, told, StandsFor}
use Rattle.buf_tree.proofs.Standing.{pair_left}
use Rattle.buf_tree.proofs.Departed.{one_row}
use Rattle.projector.specs.Projector.{KeepsPlace}
use Rattle.pull_eval.specs.Acting.{SamePlaces}

pub rows_count : (v : View) (past : Past) → StandsFor v past → length v.rows ≡ length (held past.plan past.tree past.acts)
rows_count v past h = sym (length-map v.rows seen) ∙ (ap length h.rows ∙ length-map (held past.plan past.tree past.acts) (told past))

-- the row's node, with its level; it is held
pub row_node : (v : View) (past : Past) → StandsFor v past → (c : Cell) → In c v.rows → (n : Node) × In n past.tree.nodes × (seen c ≡ told past n) × (is_held past.plan past.tree past.acts n ≡ true)
row_node v past h c i =
    let r = pair_left seen (told past) v.rows (held past.plan past.tree past.acts) h.rows c i in
    let f = In-filter (is_held past.plan past.tree past.acts) r.0 past.tree.nodes r.1 in
    (r.0, f.0, r.2, f.1)

open_closed : (b : Bool) → b ≡ true → not b ≡ false
open_closed b e = ap not e

-- no open row lies deeper than the innermost open node
pub shallow_rows : (v : View) (past : Past) → StandsFor v past → (most : ℕ) → ((p : Node) → past.tree.at ≡ Some p → level p ≤ most) → (c : Cell) → In c v.rows → c.row.is_open ≡ true → c.row.level ≤ most
shallow_rows v past h most deep c i lies =
    let r = row_node v past h c i in
    let at : is_open_at past.tree.at (serial_of r.0) ≡ true = sym (ap (λ (s : Seen). s.is_open) r.2) ∙ lies in
    let a = (open_chain past.tree h.is_past.grown).0 r.0 r.1 (open_closed (is_open_at past.tree.at (serial_of r.0)) at) in
    let l = deep a.0 a.1 in
    let u = level_above a.0 r.0 a.2 in
    let e : c.row.level ≡ level r.0 = ap (λ (s : Seen). s.level) r.2 in
    omega arith

-- the row is open where its number is that of an open node
pub row_open : (v : View) (past : Past) → StandsFor v past → (c : Cell) → In c v.rows → c.row.is_open ≡ is_open_at past.tree.at (num c)
row_open v past h c i =
    let r = row_node v past h c i in
    let e : num c ≡ serial_of r.0 = ap (λ (s : Seen). s.serial) r.2 in
    ap (λ (s : Seen). s.is_open) r.2 ∙ ap (is_open_at past.tree.at) (sym e)

-- a held node has a row
pub held_row : (v : View) (past : Past) → StandsFor v past → (n : Node) → In n past.tree.nodes → is_held past.plan past.tree past.acts n ≡ true → (c : Cell) × In c v.rows × (num c ≡ serial_of n)
held_row v past h n i k =
    let r = pair_left (told past) seen (held past.plan past.tree past.acts) v.rows (sym h.rows) n (In-kept (is_held past.plan past.tree past.acts) n past.tree.nodes i k) in
    (r.0, r.1, ap (λ (s : Seen). s.serial) (sym r.2))

-- What an action leaves of the rows keeps the place of the innermost open node.
module _ (v w : View) (past next : Past) (h : StandsFor v past) (g : StandsFor w next) (tree : next.tree ≡ past.tree) (same : SamePlaces v.rows w.rows) where
  -- a row that stays is open where it was
  was_open : (c : Cell) → In c w.rows → c.row.is_open ≡ true → (d : Cell) × In d v.rows × (d.place ≡ c.place) × (num d ≡ num c) × (d.row.is_open ≡ true)
  was_open c i lies =
      let d = same c i in
      let e : is_open_at past.tree.at (num d.0) ≡ is_open_at next.tree.at (num c) = ap (is_open_at past.tree.at) d.3 ∙ ap (λ (T : Tree). is_open_at T.at (num c)) (sym tree) in
      (d.0, d.1, d.2, d.3, row_open v past h d.0 d.1 ∙ (e ∙ (sym (row_open w next g c i) ∙ lies)))

  -- an open node is held
  open_held : (n : Node) → is_open_at past.tree.at (serial_of n) ≡ true → is_held next.plan next.tree next.acts n ≡ true
  open_held n o = ap (λ z. z || any (λ (m : Node). within (serial_of n) m && is_live next.plan next.tree next.acts m) next.tree.nodes) (ap (λ (T : Tree). is_open_at T.at (serial_of n)) tree ∙ o)

  pub keeps_fewer : (at : Option Place) → KeepsPlace at v.rows → KeepsPlace at w.rows
  keeps_fewer None k = λ c i lies. let d = was_open c i lies in sym d.3 ∙ k d.0 d.1 d.4
  keeps_fewer (Some p) k =
      let n = row_node v past h k.cell k.among in
      let e : num k.cell ≡ serial_of n.0 = ap (λ (s : Seen). s.serial) n.2 in
      let o : is_open_at past.tree.at (serial_of n.0) ≡ true = ap (is_open_at past.tree.at) (sym e) ∙ (sym (row_open v past h k.cell k.among) ∙ k.is_open) in
      let i : In n.0 next.tree.nodes = subst (λ (T : Tree). In n.0 T.nodes) (sym tree) n.1 in
      let c = held_row w next g n.0 i (open_held n.0 o) in
      let d = same c.0 c.1 in
      let s : d.0 ≡ k.cell = one_row v past h d.0 k.cell d.1 k.among (d.3 ∙ (c.2 ∙ sym e)) in
      let lies : c.0.row.is_open ≡ true = row_open w next g c.0 c.1 ∙ (ap (is_open_at next.tree.at) c.2 ∙ (ap (λ (T : Tree). is_open_at T.at (serial_of n.0)) tree ∙ o)) in
      record {
        cell = c.0;
        among = c.1;
        place = sym d.2 ∙ (ap (λ (z : Cell). z.place) s ∙ k.place);
        is_open = lies;
        last = λ j x y. let q = was_open j x y in let l = k.last q.0 q.1 q.4 in let f = q.3 in let m = c.2 in omega arith;
      }
