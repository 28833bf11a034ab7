-- Rows that agree up to an edge keep a statement's role at the same nodes up to there.
use Rattle.std.proofs.Common.{◌≡◌, ◌==◌, ℕ, ◌<◌, ◌≤◌, Bool, true, false, cond, List, [], ◌∷◌, ◌++◌, refl, sym, ◌∙◌, ap, subst, inl, inr, ◌⊎◌, arith}
use Rattle.std.specs.List.{filter}
use Rattle.std.specs.Prelude.{◌↔◌}
use Rattle.std.proofs.lemmas.Bool.{eqb-true, eq-eqb}
use Rattle.gcx_base.specs.declared.steps.Step.{Step}
use Rattle.gcx_model.specs.declared.item.Off.{Off}
use Rattle.gcx_model.specs.ItemView.{off_tree}
use Rattle.gcx_model.specs.Tree.{Tree, Node, Root, Under, serial_of, above}
use Rattle.gcx_model.specs.Paths.{any, hits, first, head, matches}
use Rattle.gcx_model.specs.Core.{RoleTarget, Own, First, Whole}
use Rattle.gcx_model.specs.Held.{is_node, gives}
use Rattle.gcx_model.specs.Nodes.{Rising as NodesRising}
use Rattle.base_laws.proofs.Members.{head_in}
use Rattle.tree_laws.proofs.Lists.{In, any_in, any_from, In-filter, In-kept}
use Rattle.past_laws.proofs.Bases.{node_is}
use Rattle.tree_laws.proofs.Freeze.{hits_within}
use Rattle.buf_tree.specs.Shape.{Cell, num, CellsRise, Above}
use Rattle.buf_tree.specs.Walk.{Nested, Inside}
use Rattle.buf_tree.specs.Ways.{Tells, NodeOf, Descends, TreeOf, IsKept}
use Rattle.buf_tree.proofs.Shaping.{rising_same}
use Rattle.buf_tree.proofs.Ways.{above_low, within_low, descends_above}
use Rattle.buf_tree.proofs.Climbing.{tells_serial, tells_descends}
use Rattle.buf_tree.proofs.Reaching.{first_from, first_none}

-- the lists have the same members below the edge k
pub record Upto {X : Type 0} (size : X → ℕ) (k : ℕ) (xs ys : List X) : Type 0 where
  pub there : (x : X) → size x < k → In x xs → In x ys
  pub back : (x : X) → size x < k → In x ys → In x xs

pub upto_back : {X : Type 0} (size : X → ℕ) (k : ℕ) (xs ys : List X) → Upto size k xs ys → Upto size k ys xs
upto_back size k xs ys u = record { there = u.back; back = u.there }

-- ---- nodes

abbrev pub AllDescend : List Node → Type 0
AllDescend ns = (n : Node) → In n ns → Descends n

module _ (k : ℕ) (n : Node) (low : serial_of n < k) where
  -- the first that passes
  first_there : (p : Node → Bool) (xs ys : List Node) → NodesRising xs → NodesRising ys → Upto serial_of k xs ys → is_node (serial_of n) (head (filter p xs)) ≡ true → is_node (serial_of n) (head (filter p ys)) ≡ true
  first_there p xs ys r s u h =
      let x = node_is (serial_of n) (head (filter p xs)) h in
      let a = In-filter p x.0 xs (head_in (filter p xs) x.0 x.1) in
      let e = x.2 in
      let is = first_from p ys x.0 s (u.there x.0 (omega arith) a.0) a.1 (λ j i l. first_none p xs x.0 r x.1 j (u.back j (omega arith) i) l) in
      ap (is_node (serial_of n)) is ∙ eq-eqb _ _ x.2

  module _ (T U : Tree) (rt : NodesRising T.nodes) (ru : NodesRising U.nodes) (u : Upto serial_of k T.nodes U.nodes) (dt : AllDescend T.nodes) where
    -- what a tail leads to isn't before its start
    tail_low : (j : Node) (tail : List Step) → is_node (serial_of n) (first T (serial_of j) tail) ≡ true → serial_of j ≤ serial_of n
    tail_low j tail h =
        let x = node_is (serial_of n) (first T (serial_of j) tail) h in
        let a = In-filter (hits (serial_of j) tail) x.0 T.nodes (head_in (matches T (serial_of j) tail) x.0 x.1) in
        let l = within_low x.0 (serial_of j) (dt x.0 a.0) (hits_within (serial_of j) tail x.0 a.1) in
        let e = x.2 in
        omega arith

    gives_there : (m : ℕ) (rel tail : List Step) (kind : RoleTarget) → gives T m rel tail kind n ≡ true → gives U m rel tail kind n ≡ true
    gives_there m rel tail Own h = h
    gives_there m rel tail Whole h = h
    gives_there m rel tail First h =
        let j = any_in (λ (x : Node). is_node (serial_of n) (first T (serial_of x) tail)) (matches T m rel) h in
        let a = In-filter (hits m rel) j.0 T.nodes j.1 in
        let l = tail_low j.0 tail j.2 in
        any_from (λ (x : Node). is_node (serial_of n) (first U (serial_of x) tail)) j.0 (matches U m rel) (In-kept (hits m rel) j.0 U.nodes (u.there j.0 (omega arith) a.0) a.1)
        (first_there (hits (serial_of j.0) tail) T.nodes U.nodes rt ru u j.2)

    -- nor is what a statement reaches before its base
    gives_low : Descends n → (m : ℕ) (rel tail : List Step) (kind : RoleTarget) → gives T m rel tail kind n ≡ true → m ≤ serial_of n
    gives_low d m rel tail Own h = within_low n m d (hits_within m rel n h)
    gives_low d m rel tail Whole h =
        let j = any_in (hits m (rel ++ tail)) (above n) h in
        let l = within_low j.0 m (descends_above n j.0 d j.1) (hits_within m (rel ++ tail) j.0 j.2) in
        let e = above_low n j.0 d j.1 in
        omega arith
    gives_low d m rel tail First h =
        let j = any_in (λ (x : Node). is_node (serial_of n) (first T (serial_of x) tail)) (matches T m rel) h in
        let a = In-filter (hits m rel) j.0 T.nodes j.1 in
        let l = tail_low j.0 tail j.2 in
        let e = within_low j.0 m (dt j.0 a.0) (hits_within m rel j.0 a.1) in
        omega arith

-- ---- rows

module _ (k : ℕ) (xs ys : List Cell) (v : Upto num k xs ys) where
  pub tells_there : (c : Cell) (n : Node) → num c < k → Tells xs c n → Tells ys c n
  tells_there c Root l t = t
  tells_there c (Under p s w) l t =
      let e = t.2 in
      let b = e.2.1 in
      (t.0, t.1, (e.0, v.there e.0 (omega arith) e.1, e.2, tells_there e.0 p (omega arith) e.3))

  abbrev pub node_there : (p : ℕ) (n : Node) → serial_of n < k → NodeOf xs p n → NodeOf ys p n
  node_there p n l u =
      let e = tells_serial xs u.cell n u.tells in
      record { cell = u.cell; among = v.there u.cell (omega arith) u.among; place = u.place; tells = tells_there u.cell n (omega arith) u.tells }

  pub kept_there : (T U : Tree) → NodesRising T.nodes → NodesRising U.nodes → Upto serial_of k T.nodes U.nodes → AllDescend T.nodes → (off : Off) (n : Node) → serial_of n < k → Descends n → IsKept xs T off n → IsKept ys U off n
  kept_there T U rt ru u dt off n l d h =
      let e = gives_low k n l T U rt ru u dt d (serial_of h.base) off.rel off.tail (off_tree off).kind h.reached in
      let f = tells_serial xs h.at.cell h.base h.at.tells in
      record {
        place = h.place;
        base = h.base;
        at = node_there h.place h.base (omega arith) h.at;
        waits = h.waits;
        reached = gives_there k n l T U rt ru u dt (serial_of h.base) off.rel off.tail (off_tree off).kind h.reached;
      }

pub tree_descends : (xs : List Cell) (T : Tree) → TreeOf xs T → AllDescend T.nodes
tree_descends xs T t n i = let u = (t.row n i).1 in tells_descends xs u.cell n u.tells

-- ---- fewer rows

-- the row y is the row x, but for what edits change
pub record Alike (x y : Cell) : Type 0 where
  pub place : x.place ≡ y.place
  pub serial : num x ≡ num y
  pub parent : x.row.parent ≡ y.row.parent
  pub kind : x.row.kind ≡ y.row.kind

-- the rows ys are some of xs, each with the row above it
pub record Thinned (xs ys : List Cell) : Type 0 where
  pub each : (y : Cell) → In y ys → (x : Cell) × In x xs × Alike x y
  pub up : (y : Cell) → In y ys → (num y ≡ 0) ⊎ Above ys y

abbrev pub has_row : List Cell → Node → Bool
has_row ys n = any (λ c. num c == serial_of n) ys

-- the nodes that still have a row
abbrev pub thin : List Cell → Tree → Tree
thin ys T = record { nodes = filter (has_row ys) T.nodes; at = T.at }

pub NodesRising-filtered : (p : Node → Bool) (ns : List Node) → NodesRising ns → NodesRising (filter p ns)
NodesRising-filtered p [] r = tt
NodesRising-filtered p (n ∷ ns) r = go (p n) (NodesRising-filtered p ns r.1)
  where
    go : (b : Bool) → NodesRising (filter p ns) → NodesRising (cond b (n ∷ filter p ns) (filter p ns))
    go true h = (λ m i. r.0 m (In-filter p m ns i).0, h)
    go false h = h

module _ (xs ys : List Cell) (rise : CellsRise xs) (t : Thinned xs ys) where
  -- the row that y was
  was : (y : Cell) → In y ys → Cell
  was y j = (t.each y j).0

  pub nested_thinned : Nested xs → Nested ys
  nested_thinned nest b c i j low l =
      let x = t.each b i in
      let z = t.each c j in
      let p = x.2.parent in
      let q = z.2.parent in
      let e = x.2.serial in
      let f = z.2.serial in
      let g = nest x.0 z.0 x.1 z.1 (omega arith) (omega arith) in
      omega arith

  pub inside_thinned : (c d x y : Cell) → num c ≡ num x → num d ≡ num y → Inside xs c d → Inside ys x y
  inside_thinned c d x y e f k = record {
    behind = (let b = k.behind in omega arith);
    block = λ z j l n.
        let w = t.each z j in
        let p = w.2.parent in
        let q = w.2.serial in
        let b = k.block w.0 w.1 (omega arith) (omega arith) in
        omega arith;
  }

  -- a row that is still there has its node,
  pub tells_thinned : (x y : Cell) (n : Node) → In x xs → In y ys → Alike x y → Tells xs x n → Tells ys y n
  tells_thinned x y Root i j a u = (sym a.serial ∙ u.0, sym a.kind ∙ u.1)
  tells_thinned x y (Under p s w) i j a u =
      let e = u.2 in
      let b = e.2.1 in
      let q = a.serial in (
        sym a.serial ∙ u.0,
        sym a.kind ∙ u.1,
        elim (t.up y j) [
          | inl z ↦ absurd (omega arith)
          | inr d ↦ (
              let c = t.each d.0 d.1 in
              let same : c.0 ≡ e.0 = rising_same xs rise c.0 e.0 c.1 e.1 (c.2.serial ∙ d.2 ∙ sym a.parent ∙ e.2.0) in
              (d.0, d.1, (sym d.2, d.3), tells_thinned e.0 d.0 p e.1 d.1 (subst (λ (z : Cell). Alike z d.0) same c.2) e.3))
        ],
      )

  -- and no other
  pub tells_thick : (x y : Cell) (n : Node) → Alike x y → Tells ys y n → Tells xs x n
  tells_thick x y Root a u = (a.serial ∙ u.0, a.kind ∙ u.1)
  tells_thick x y (Under p s w) a u =
      let e = u.2 in
      let b = e.2.1 in
      let q = a.serial in
      let c = t.each e.0 e.1 in
      let r = c.2.serial in
      (a.serial ∙ u.0, a.kind ∙ u.1, (c.0, c.1, (a.parent ∙ e.2.0 ∙ sym c.2.serial, omega arith), tells_thick c.0 e.0 p c.2 e.3))

  pub thin_tree : (T : Tree) → TreeOf xs T → TreeOf ys (thin ys T)
  thin_tree T tree = record {
    told = λ p n u.
        let c = t.each u.cell u.among in
        let i = tree.told p n (record { cell = c.0; among = c.1; place = c.2.place ∙ u.place; tells = tells_thick c.0 u.cell n c.2 u.tells }) in
        In-kept (has_row ys) n T.nodes i (any_from (λ (d : Cell). num d == serial_of n) u.cell ys u.among (eq-eqb _ _ (tells_serial ys u.cell n u.tells)));
    row = λ n i.
        let a = In-filter (has_row ys) n T.nodes i in
        let r = tree.row n a.0 in
        let y = any_in (λ (d : Cell). num d == serial_of n) ys a.1 in
        let c = t.each y.0 y.1 in
        let u = r.1 in
        let same : u.cell ≡ c.0 = rising_same xs rise u.cell c.0 u.among c.1 (tells_serial xs u.cell n u.tells ∙ sym (eqb-true _ _ y.2) ∙ sym c.2.serial) in
        (y.0.place, record { cell = y.0; among = y.1; place = refl; tells = tells_thinned c.0 y.0 n c.1 y.1 c.2 (subst (λ (z : Cell). Tells xs z n) same u.tells) });
    rising = NodesRising-filtered (has_row ys) T.nodes tree.rising;
  }

  -- the nodes agree as far as the rows do
  pub thin_upto : (k : ℕ) → Upto num k xs ys → (T : Tree) → TreeOf xs T → Upto serial_of k T.nodes (thin ys T).nodes
  thin_upto k v T tree = record {
    there = λ n l i.
        let u = (tree.row n i).1 in
        let e = tells_serial xs u.cell n u.tells in
        In-kept (has_row ys) n T.nodes i (any_from (λ (d : Cell). num d == serial_of n) u.cell ys (v.there u.cell (omega arith) u.among) (eq-eqb _ _ e));
    back = λ n l i. (In-filter (has_row ys) n T.nodes i).0;
  }

  -- so the role is kept as it was
  pub kept_same : (k : ℕ) → Upto num k xs ys → (T : Tree) → TreeOf xs T → (off : Off) (n : Node) → serial_of n < k → Descends n → IsKept xs T off n ↔ IsKept ys (thin ys T) off n
  kept_same k v T tree off n l d = (
    kept_there k xs ys v T (thin ys T) tree.rising (thin_tree T tree).rising (thin_upto k v T tree) (tree_descends xs T tree) off n l d,
    kept_there k ys xs (upto_back num k xs ys v) (thin ys T) T (thin_tree T tree).rising tree.rising (upto_back serial_of k T.nodes (thin ys T).nodes (thin_upto k v T tree)) (tree_descends ys (thin ys T) (thin_tree T tree)) off n l d,
  )
