-- Which row is which node's, where the rows are those of the nodes that are kept.
use Rattle.std.proofs.Common.{◌≡◌, ℕ, Bool, true, not, List, [], ◌∷◌, map, refl, sym, ◌∙◌, ap, subst, inr, arith}
use Rattle.std.specs.List.{filter}
use Rattle.gcx_base.specs.declared.kind.Kind.{Kind}
use Rattle.gcx_model.specs.Tree.{Node, Root, Under, serial_of, kind_of, above, Tree, is_open_at, is_closed}
use Rattle.gcx_model.specs.Nodes.{Ordered}
use Rattle.base_laws.proofs.Lists.{nil_cons, cons_tail, cons_head}
use Rattle.tree_laws.proofs.Lists.{In, In-filter, In-kept}
use Rattle.tree_laws.proofs.Matches.{Grown, Numbered-same, Rising, Rising-filter}
use Rattle.tree_laws.proofs.Chains.{above_self, above_in}
use Rattle.tree_laws.proofs.Fed.{nodes_are_numbered}
use Rattle.buf_tree.specs.Shape.{Cell, num}
use Rattle.buf_tree.specs.Shape as shape
use Rattle.buf_tree.specs.Match.{IsChild}
use Rattle.buf_tree.proofs.Shaping.{rising_same}
use Rattle.buf_tree.proofs.Standing.{pair_left, parent_told}
use Rattle.cond_eval.specs.Asking.{Facts, facts, node_facts, RowsOf, PlacedAt}
use Rattle.cond_eval.specs.Reads.{NodeAt}

-- the row is that of the node, which is kept
pub record OfNode (P : Tree) (keep : Node → Bool) (c : Cell) (n : Node) : Type 0 where
  pub among : In n P.nodes
  pub kept : keep n ≡ true
  pub same : facts c ≡ node_facts P n

module _ (P : Tree) where
  -- rows that tell what nodes by rising serials do stand by rising serials
  rise_as : (cs : List Cell) (ns : List Node) → map facts cs ≡ map (node_facts P) ns → Rising ns → shape.CellsRise cs
  rise_as [] ns e r = tt
  rise_as (c ∷ cs) [] e r = absurd (nil_cons (facts c) (map facts cs) (sym e))
  rise_as (c ∷ cs) (n ∷ ns) e r = (
    (λ d i.
        let m = pair_left facts (node_facts P) cs ns (cons_tail _ _ _ _ e) d i in
        let low = r.0 m.0 m.1 in
        let here : num c ≡ serial_of n = ap (λ (f : Facts). f.serial) (cons_head _ _ _ _ e) in
        let there : num d ≡ serial_of m.0 = ap (λ (f : Facts). f.serial) m.2 in
        omega arith),
    rise_as cs ns (cons_tail _ _ _ _ e) r.1,
  )

module _ (rows : List Cell) (P : Tree) (keep : Node → Bool) (of : RowsOf rows P keep) where
  -- ---- the tree

  pub grown_tree : Grown P
  grown_tree = (nodes_are_numbered P of.grown).0

  pub ordered_tree : Ordered P
  ordered_tree = (nodes_are_numbered P of.grown).1

  -- ---- rows and nodes

  abbrev kept : List Node
  kept = filter keep P.nodes

  among : (n : Node) → In n kept → In n P.nodes × (keep n ≡ true)
  among n i = In-filter keep n P.nodes i

  -- each row has its node
  pub node_for : (c : Cell) → In c rows → (n : Node) × OfNode P keep c n
  node_for c i =
      let m = pair_left facts (node_facts P) rows kept of.rows_are c i in
      let k = among m.0 m.1 in
      (m.0, record { among = k.0; kept = k.1; same = m.2 })

  -- and each node that is kept its row
  pub row_for : (n : Node) → In n P.nodes → keep n ≡ true → (c : Cell) × In c rows × OfNode P keep c n
  row_for n i k =
      let d = pair_left (node_facts P) facts kept rows (sym of.rows_are) n (In-kept keep n P.nodes i k) in
      (d.0, d.1, record { among = i; kept = k; same = sym d.2 })

  -- the rows stand by rising serials
  pub rows_rise : shape.CellsRise rows
  rows_rise = rise_as P rows kept of.rows_are (Rising-filter 0 keep P.nodes grown_tree.numbered)

  pub same_row : (c d : Cell) → In c rows → In d rows → num c ≡ num d → c ≡ d
  same_row c d i j e = rising_same rows rows_rise c d i j e

  pub same_node : (n m : Node) → In n P.nodes → In m P.nodes → serial_of n ≡ serial_of m → n ≡ m
  same_node n m i j e = Numbered-same 0 P.nodes grown_tree.numbered n m i j e

  -- the serial tells which node's the row is
  pub of_serial : (c : Cell) (n : Node) → In c rows → In n P.nodes → num c ≡ serial_of n → OfNode P keep c n
  of_serial c n i j e =
      let m = node_for c i in
      let serial : num c ≡ serial_of m.0 = ap (λ (f : Facts). f.serial) m.1.same in
      subst (λ (x : Node). OfNode P keep c x) (same_node m.0 n m.1.among j (sym serial ∙ e)) m.1

  -- ---- what a row tells

  pub serial_told : (c : Cell) (n : Node) → OfNode P keep c n → num c ≡ serial_of n
  serial_told c n o = ap (λ (f : Facts). f.serial) o.same

  pub kind_told : (c : Cell) (n : Node) → OfNode P keep c n → c.row.kind ≡ kind_of n
  kind_told c n o = ap (λ (f : Facts). f.kind) o.same

  pub open_told : (c : Cell) (n : Node) → OfNode P keep c n → c.row.is_open ≡ is_open_at P.at (serial_of n)
  open_told c n o = ap (λ (f : Facts). f.is_open) o.same

  pub closed_told : (c : Cell) (n : Node) → OfNode P keep c n → not c.row.is_open ≡ is_closed P n
  closed_told c n o = ap not (open_told c n o)

  -- ---- what is above a node

  pub above_kept : (n m : Node) → In n P.nodes → keep n ≡ true → In m (above n) → In m P.nodes × (keep m ≡ true)
  above_kept n m i k j = (above_in P grown_tree n m i j, of.up n m i k j)

  -- the serial of the parent's row
  pub parent_is : (d : Cell) (p : Node) (s : ℕ) (k : Kind) → OfNode P keep d (Under p s k) → d.row.parent ≡ serial_of p
  parent_is d p s k o =
      let low = grown_tree.below p s k o.among in
      parent_told d.row p s k (λ z. omega arith) (serial_told d (Under p s k) o) (ap (λ (f : Facts). f.parent) o.same)

  pub parent_for : (d : Cell) (p : Node) (s : ℕ) (k : Kind) → In d rows → OfNode P keep d (Under p s k) → (c : Cell) × In c rows × OfNode P keep c p × IsChild c d
  parent_for d p s k j o =
      let up = above_kept (Under p s k) p o.among o.kept (inr (above_self p)) in
      let c = row_for p up.0 up.1 in
      let low = grown_tree.below p s k o.among in
      let here = serial_told c.0 p c.2 in
      let there = serial_told d (Under p s k) o in
      (c.0, c.1, c.2, (parent_is d p s k o ∙ sym here, omega arith))

  -- a row's parent is the row of its node's parent
  pub child_of : (c d : Cell) (n m : Node) → OfNode P keep c n → OfNode P keep d m → IsChild c d → (s : ℕ) × (k : Kind) × (m ≡ Under n s k)
  child_of c d n Root o u k = let e = serial_told d Root u in let l = k.1 in absurd (omega arith)
  child_of c d n (Under p s w) o u k =
      let e = sym (parent_is d p s w u) ∙ k.0 ∙ serial_told c n o in
      let same = same_node p n (grown_tree.upward p s w u.among) o.among e in
      (s, w, ap (λ x. Under x s w) same)

  pub child_row : (c d : Cell) (n : Node) (s : ℕ) (k : Kind) → In c rows → In d rows → OfNode P keep c n → OfNode P keep d (Under n s k) → IsChild c d
  child_row c d n s k i j o u =
      let e = parent_for d n s k j u in
      subst (λ (x : Cell). IsChild x d) (same_row e.0 c e.1 i (serial_told e.0 n e.2 ∙ sym (serial_told c n o))) e.3

  -- ---- places

  -- the place of a row is that of its serial
  pub placed_row : (c : Cell) → In c rows → PlacedAt rows (num c) c.place
  placed_row c i d j e = ap (λ (x : Cell). x.place) (same_row d c j i e)

  pub node_at : (c : Cell) (n : Node) → In c rows → OfNode P keep c n → NodeAt rows P keep c.place n
  node_at c n i o = record { rows_of = of; among = o.among; kept = o.kept; cell = c; cell_among = i; at = refl; number = serial_told c n o }

  -- of a node that is kept there is a row at the place of its serial
  pub kept_at : (n : Node) (p : ℕ) → In n P.nodes → keep n ≡ true → PlacedAt rows (serial_of n) p → NodeAt rows P keep p n
  kept_at n p i k a =
      let c = row_for n i k in
      let e = serial_told c.0 n c.2 in
      record { rows_of = of; among = i; kept = k; cell = c.0; cell_among = c.1; at = a c.0 c.1 e; number = e }

module _ (rows : List Cell) (P : Tree) (keep : Node → Bool) (p : ℕ) (n : Node) (at : NodeAt rows P keep p n) where
  pub at_node : OfNode P keep at.cell n
  at_node = of_serial rows P keep at.rows_of at.cell n at.cell_among at.among at.number

  pub at_placed : PlacedAt rows (serial_of n) p
  at_placed c i e = placed_row rows P keep at.rows_of at.cell at.cell_among c i (e ∙ sym at.number) ∙ at.at
