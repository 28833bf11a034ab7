-- Rows that have the nodes of others: a role is kept at the same ones.
use Rattle.std.proofs.Common.{◌≡◌, ℕ, List, sym, ◌∙◌}
use Rattle.gcx_model.specs.declared.item.Off.{Off}
use Rattle.gcx_model.specs.Tree.{Tree, Node}
use Rattle.tree_laws.proofs.Lists.{In}
use Rattle.buf_tree.specs.Shape.{Cell, CellsRise}
use Rattle.buf_tree.specs.Ways.{NodeOf, TreeOf, is_waiting, IsKept}
use Rattle.buf_tree.proofs.Upto.{Alike, Thinned, tells_thinned, tells_thick}

-- each row of the ones is alike to one of the others, and the other way round
module _ (xs ys : List Cell) (rise : CellsRise xs) (t : Thinned xs ys) (on : (x : Cell) → In x xs → (y : Cell) × In y ys × Alike x y) where
  abbrev node_on : (p : ℕ) (n : Node) → NodeOf xs p n → NodeOf ys p n
  node_on p n u =
      let y = on u.cell u.among in
      record { cell = y.0; among = y.1; place = sym y.2.place ∙ u.place; tells = tells_thinned xs ys rise t u.cell y.0 n u.among y.1 y.2 u.tells }

  abbrev node_back : (p : ℕ) (n : Node) → NodeOf ys p n → NodeOf xs p n
  node_back p n u =
      let x = t.each u.cell u.among in
      record { cell = x.0; among = x.1; place = x.2.place ∙ u.place; tells = tells_thick xs ys rise t x.0 u.cell n x.2 u.tells }

  pub same_tree : (T : Tree) → TreeOf xs T → TreeOf ys T
  same_tree T tree = record {
    told = λ p n u. tree.told p n (node_back p n u);
    row = λ n i. let r = tree.row n i in (r.0, node_on r.0 n r.1);
    rising = tree.rising;
  }

  -- where the same bases wait
  module _ (off : Off) (waits : (x y : Cell) → In x xs → In y ys → Alike x y → is_waiting x.row off ≡ is_waiting y.row off) (T : Tree) (n : Node) where
    pub same_kept : IsKept xs T off n → IsKept ys T off n
    same_kept k =
        let y = on k.at.cell k.at.among in
        record { place = k.place; base = k.base; at = node_on k.place k.base k.at; waits = sym (waits k.at.cell y.0 k.at.among y.1 y.2) ∙ k.waits; reached = k.reached }

    pub kept_same : IsKept ys T off n → IsKept xs T off n
    kept_same k =
        let x = t.each k.at.cell k.at.among in
        record { place = k.place; base = k.base; at = node_back k.place k.base k.at; waits = waits x.0 k.at.cell x.1 k.at.among x.2 ∙ k.waits; reached = k.reached }
