-- The row of a serial below a row, found by going down to it.
use Rattle.std.proofs.Common.{◌≡◌, ℕ, ◌<◌, ◌≤◌, Bool, true, List, sym, ◌∙◌, ap, subst, inl, inr, ◌⊎◌, arith, Option, Some, None}
use Rattle.std.specs.Prelude.{IsSome, IfSome, MatchOption, option_map}
use Rattle.std.specs.FinMap.{get}
use Rattle.std.proofs.lemmas.Bool.{cases_order}
use Rattle.gcx_base.specs.declared.kind.Kind.{Kind}
use Rattle.gcx_model.specs.Tree.{Node, Root, Under, serial_of, above, Tree}
use Rattle.tree_laws.proofs.Lists.{In}
use Rattle.tree_laws.proofs.Matches.{Grown}
use Rattle.node_store.specs.Rows.{prev_of, last_of, children_in}
use Rattle.buf_tree.specs.Shape.{Store, Cell, num, cells, Shape}
use Rattle.buf_tree.specs.Walk.{low_at, high_at}
use Rattle.buf_tree.specs.Match.{IsChild}
use Rattle.buf_tree.proofs.Shaping.{rising_same}
use Rattle.buf_tree.proofs.Kin.{row_of_place, last_kid, no_last_kid, prev_kid, no_prev_kid}
use Rattle.cond_eval.specs.Reads.{NodeAt}
use Rattle.cond_memo.specs.Reaching.{NoChildUpTo, LastChildUpTo, NotBelow, HasSerial}
use Rattle.cond_eval.proofs.Below.{above_le}
use Rattle.cond_eval.proofs.Cursors.{low_less, high_less}
use Rattle.cond_eval.proofs.Rows.{OfNode, at_node, node_at, node_for, row_for, grown_tree, ordered_tree, same_node, serial_told, child_of, child_row, above_kept}

-- a node above m is m, or above it stands a child of it
pub toward : (h m : Node) → In h (above m) → (m ≡ h) ⊎ ((s : ℕ) × (k : Kind) × In (Under h s k) (above m))
toward h Root (inl e) = inl e
toward h Root (inr i) = absurd i
toward h (Under p s k) (inl e) = inl e
toward h (Under p s k) (inr i) = elim (toward h p i) [
  | inl e ↦ inr (s, k, inl (ap (λ x. Under x s k) e))
  | inr r ↦ inr (r.0, r.1, inr r.2)
]

-- the children from the last one back: those behind this one have serials above k
abbrev pub Back : List Cell → (k : ℕ) → Cell → Option ℕ → Type 0
Back rows k c None = NoChildUpTo rows c k
Back rows k c (Some q) = (e : Cell) × In e rows × (e.place ≡ q) × IsChild c e × ((d : Cell) → In d rows → IsChild c d → num e < num d → k < num d)

module _ (m : Store) (rows : List Cell) (s : Shape m rows) (k : ℕ) where
  pub back_start : (c : Cell) → In c rows → (o : Option ℕ) → last_of (children_in (get m c.place)) ≡ o → Back rows k c o
  back_start c i None e = λ d j x. absurd (no_last_kid m rows s c i e d j x)
  back_start c i (Some q) e = let l = last_kid m rows s c i q e in (l.0, l.1, l.3, l.2, λ d j x g. let f = l.4 d j x in absurd (omega arith))

  pub back_on : (c : Cell) (q : ℕ) → In c rows → Back rows k c (Some q) → ((e : Cell) → In e rows → e.place ≡ q → k < num e) → (o : Option ℕ) → prev_of m q ≡ o → Back rows k c o
  back_on c q i b high None e = λ d j x.
      let none = no_prev_kid m rows s b.0 c b.1 i b.3 (ap (prev_of m) b.2 ∙ e) d j x in
      elim (cases_order (num d) (num b.0)) [
        | inl f ↦ (let h = high b.0 b.1 b.2 in omega arith)
        | inr f ↦ elim f [ inl g ↦ absurd (none g) | inr g ↦ b.4 d j x g ]
      ]
  back_on c q i b high (Some r) e =
      let v = prev_kid m rows s b.0 b.1 r (ap (prev_of m) b.2 ∙ e) in
      let same : v.0 ≡ c = rising_same rows s.rising v.0 c v.1 i (sym v.2.0 ∙ b.3.0) in
      let y = v.3 in (
        y.0,
        y.1,
        y.3,
        subst (λ (z : Cell). IsChild z y.0) same y.2,
        λ d j x g. elim (cases_order (num d) (num b.0)) [
          | inl f ↦ (let h = high b.0 b.1 b.2 in omega arith)
          | inr f ↦ elim f [
            | inl l ↦ (let z = y.5 d j (subst (λ (u : Cell). IsChild u d) (sym same) x) l in absurd (omega arith))
            | inr l ↦ b.4 d j x l
          ]
        ],
      )

  pub back_found : (c : Cell) (q : ℕ) → (b : Back rows k c (Some q)) → ((e : Cell) → In e rows → e.place ≡ q → num e ≤ k) → LastChildUpTo rows c k q
  back_found c q b low = record {
    child = b.0;
    among = b.1;
    place = b.2;
    is_child = b.3;
    low = low b.0 b.1 b.2;
    last = λ d j x l. elim (cases_order (num d) (num b.0)) [
      | inl f ↦ omega arith
      | inr f ↦ elim f [ inl g ↦ omega arith | inr g ↦ (let h = b.4 d j x g in absurd (omega arith)) ]
    ];
  }

  pub prev_less : (c : Cell) (q : ℕ) → Back rows k c (Some q) → (o : Option ℕ) → prev_of m q ≡ o → low_at rows o < low_at rows (Some q)
  prev_less c q b None e = omega arith
  prev_less c q b (Some r) e =
      let v = prev_kid m rows s b.0 b.1 r (ap (prev_of m) b.2 ∙ e) in
      let y = v.3 in
      low_less m rows s b.0 y.0 q r b.1 y.1 b.2 y.3 y.4

-- what is known of the children of the row at the place, of which the last one up to k was asked
abbrev pub KnowsChild : {X : Type 0} (m n : Store) (place : X → ℕ) (At : X → Type 0) (q k : ℕ) (o : Option X) → Type 0
KnowsChild m n place At q k o = (c : Cell) → In c (cells n) → c.place ≡ q → MatchOption o (NoChildUpTo (cells n) c k) (λ x. At x × LastChildUpTo (cells n) c k (place x))

-- on the way down to the node with the serial k, if it is there
abbrev pub Downward : List Cell → (p k : ℕ) → Option ℕ → Type 0
Downward rows p k None = NotBelow rows p k
Downward rows p k (Some q) = (P : Tree) (keep : Node → Bool) (n m : Node) → NodeAt rows P keep p n → In m P.nodes → keep m ≡ true → serial_of m ≡ k → In n (above m) → (h : Node) × NodeAt rows P keep q h × In h (above m)

module _ (rows : List Cell) (p k : ℕ) where
  -- the child of the node at hand towards the one that is sought
  child_there : (q : ℕ) → Downward rows p k (Some q) → ((c : Cell) → In c rows → c.place ≡ q → num c ≡ k → ⊥) → (P : Tree) (keep : Node → Bool) (n m : Node) → NodeAt rows P keep p n → In m P.nodes → keep m ≡ true → serial_of m ≡ k → In n (above m)
      → (h : Node) × NodeAt rows P keep q h × ((s : ℕ) × (v : Kind) × In (Under h s v) (above m) × ((e : Cell) × In e rows × OfNode P keep e (Under h s v)))
  child_there q d other P keep n m a i j e u =
      let h = d P keep n m a i j e u in
      elim (toward h.0 m h.2) [
        | inl f ↦ absurd (other h.1.cell h.1.cell_among h.1.at (h.1.number ∙ (ap serial_of (sym f) ∙ e)))
        | inr f ↦ (
            let g = above_kept rows P keep a.rows_of m (Under h.0 f.0 f.1) i j f.2 in
            let r = row_for rows P keep a.rows_of (Under h.0 f.0 f.1) g.0 g.1 in
            (h.0, h.1, (f.0, f.1, f.2, (r.0, r.1, r.2))))
      ]

  pub down_none : (q : ℕ) → Downward rows p k (Some q) → ((c : Cell) → In c rows → c.place ≡ q → num c ≡ k → ⊥) → ((c : Cell) → In c rows → c.place ≡ q → NoChildUpTo rows c k) → Downward rows p k None
  down_none q d other none P keep n m a i j e u =
      let h = child_there q d other P keep n m a i j e u in
      let b = h.1 in
      let x = h.2 in
      let r = x.3 in
      let kin = child_row rows P keep a.rows_of b.cell r.0 h.0 x.0 x.1 b.cell_among r.1 (at_node rows P keep q h.0 b) r.2 in
      let high = none b.cell b.cell_among b.at r.0 r.1 kin in
      let low = above_le P (grown_tree rows P keep a.rows_of) m (Under h.0 x.0 x.1) i x.2 in
      let is = serial_told rows P keep a.rows_of r.0 (Under h.0 x.0 x.1) r.2 in
      absurd (omega arith)

  pub down_on : (q r : ℕ) → Downward rows p k (Some q) → ((c : Cell) → In c rows → c.place ≡ q → num c ≡ k → ⊥) → ((c : Cell) → In c rows → c.place ≡ q → LastChildUpTo rows c k r) → Downward rows p k (Some r)
  down_on q r d other last P keep n m a i j e u =
      let of = a.rows_of in
      let h = child_there q d other P keep n m a i j e u in
      let b = h.1 in
      let x = h.2 in
      let v = x.3 in
      let kin = child_row rows P keep of b.cell v.0 h.0 x.0 x.1 b.cell_among v.1 (at_node rows P keep q h.0 b) v.2 in
      let f = last b.cell b.cell_among b.at in
      let w = grown_tree rows P keep of in
      let low = above_le P w m (Under h.0 x.0 x.1) i x.2 in
      let is = serial_told rows P keep of v.0 (Under h.0 x.0 x.1) v.2 in
      let le = f.last v.0 v.1 kin (omega arith) in
      let g = node_for rows P keep of f.child f.among in
      let kin2 = child_of rows P keep of b.cell f.child h.0 g.0 (at_node rows P keep q h.0 b) g.1 f.is_child in
      let told = serial_told rows P keep of f.child g.0 g.1 in
      let up = f.low in
      let x_in : In (Under h.0 x.0 x.1) P.nodes = v.2.among in
      let same : serial_of g.0 ≡ x.0 = elim (cases_order (num v.0) (num f.child)) [
        | inl y ↦ omega arith
        | inr y ↦ elim y [
          | inl l ↦ (
              let split = (ordered_tree rows P keep of).split (Under h.0 x.0 x.1) g.0 m x_in g.1.among i (omega arith)
              (λ z. not_above P w h.0 g.0 x.0 kin2.0 x.1 kin2.1 x_in g.1.among kin2.2 z (omega arith)) x.2 in
              absurd (omega arith))
          | inr l ↦ absurd (omega arith)
        ]
      ] in
      let is_x = same_node rows P keep of g.0 (Under h.0 x.0 x.1) g.1.among x_in same in
      (g.0, subst (λ z. NodeAt rows P keep z g.0) f.place (node_at rows P keep of f.child g.0 f.among g.1), subst (λ (z : Node). In z (above m)) (sym is_x) x.2)
    where
      -- a child isn't above a later one
      not_above : (P : Tree) → Grown P → (h g : Node) (s t : ℕ) (v y : Kind) → In (Under h s v) P.nodes → In g P.nodes → g ≡ Under h t y → In (Under h s v) (above g) → s < serial_of g → ⊥
      not_above P w h g s t v y i j e z l = elim (subst (λ (q : Node). In (Under h s v) (above q)) e z) [
        | inl f ↦ (let a = ap serial_of f in let b = ap serial_of e in omega arith)
        | inr f ↦ (let a = above_le P w h (Under h s v) (w.upward h s v i) f in let b = w.below h s v i in omega arith)
      ]

-- one row down
module _ {X : Type 0} (m n : Store) (e : n ≡ m) (s : Shape m (cells m)) (place : X → ℕ) (At : X → Type 0) (p q k : ℕ) (used : IsSome (get n q)) where
  abbrev rows : List Cell
  rows = cells m

  child_here : (o : Option X) → KnowsChild m n place At q k o → (c : Cell) → In c rows → c.place ≡ q → MatchOption o (NoChildUpTo rows c k) (λ x. At x × LastChildUpTo rows c k (place x))
  child_here o h = subst (λ (z : Store). (c : Cell) → In c (cells z) → c.place ≡ q → MatchOption o (NoChildUpTo (cells z) c k) (λ x. At x × LastChildUpTo (cells z) c k (place x))) e h

  row_at : (c : Cell) × In c rows × (c.place ≡ q)
  row_at = row_of_place m rows s q (subst (λ (z : Store). IsSome (get z q)) e used)

  pub down_less : (o : Option X) → KnowsChild m n place At q k o → high_at rows (option_map place o) < high_at rows (Some q)
  down_less None h = omega arith
  down_less (Some x) h =
      let c = row_at in
      let f = (child_here (Some x) h c.0 c.1 c.2).1 in
      let l = f.is_child.1 in
      high_less m rows s c.0 f.child q (place x) c.1 f.among c.2 f.place l

  pub down_step : (o : Option X) → KnowsChild m n place At q k o → Downward rows p k (Some q) → ((c : Cell) → In c rows → c.place ≡ q → num c ≡ k → ⊥) → Downward rows p k (option_map place o)
  down_step None h d other = down_none rows p k q d other (λ c i j. child_here None h c i j)
  down_step (Some x) h d other = down_on rows p k q (place x) d other (λ c i j. (child_here (Some x) h c i j).1)

  pub child_known : (o : Option X) → KnowsChild m n place At q k o → IfSome o At
  child_known None h = tt
  child_known (Some x) h = let c = row_at in (child_here (Some x) h c.0 c.1 c.2).0

  pub row_found : ((c : Cell) → In c rows → c.place ≡ q → num c ≡ k) → HasSerial rows k q
  row_found h = let c = row_at in record { cell = c.0; among = c.1; place = c.2; number = h c.0 c.1 c.2 }
