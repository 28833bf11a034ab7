-- Walks up from a row, with the nodes of the rows on the way.
use Rattle.std.proofs.Common.{◌≡◌, ◌==◌, ℕ, ◌+◌, ◌<◌, Bool, true, false, ◌&&◌, List, [], ◌∷◌, ◌++◌, length, refl, sym, ◌∙◌, ap, subst, inl, inr, arith, get_or, take, drop, Some, None, Option}
use Rattle.std.proofs.Math.ListN.{replicate, drop_of_length-le}
use Rattle.std.proofs.Math.Seq.{take-length}
use Rattle.std.proofs.lemmas.List.{append-nil, length-append, length-replicate}
use Rattle.node_store.specs.declared.store.Place.{Place}
use Rattle.std.specs.Prelude.{option_map, IsSome, IfSome}
use Rattle.std.specs.FinMap.{get}
use Rattle.std.proofs.lemmas.Bool.{and_parts, and_from, or_cases, false≢true, false_from_ne_true, eqb-true, eq-eqb, ne_eqb}
use Rattle.gcx_base.specs.declared.kind.Kind.{Kind}
use Rattle.gcx_base.specs.declared.steps.Step.{Step}
use Rattle.gcx_model.specs.Tree.{Node, Root, Under, serial_of, above, within}
use Rattle.gcx_model.specs.Paths.{hits}
use Rattle.base_laws.proofs.Bools.{same_bools}
use Rattle.tree_laws.proofs.Lists.{In, any_in, any_from}
use Rattle.tree_laws.proofs.Chains.{above_self, above_trans}
use Rattle.tree_laws.proofs.Freeze.{hits_within}
use Rattle.node_store.specs.Rows.{StoreRow, parent_of}
use Rattle.buf_tree.specs.Row.{Row}
use Rattle.buf_tree.specs.Shape.{Store, Cell, num, cells, CellsRise, Shaped}
use Rattle.buf_tree.specs.Walk.{low_at}
use Rattle.buf_tree.specs.Ways.{Tells, NodeOf, Descends, is_same, leads, Flags}
use Rattle.buf_tree.proofs.Shaping.{rising_same}
use Rattle.buf_tree.proofs.Kin.{row_of_place, parent_row, no_parent}
use Rattle.buf_tree.proofs.Seeking.{same_place, serial_at_place, cell_row}
use Rattle.buf_tree.proofs.Ways.{chain_same, flags_start, above_low, descends_above}

-- ---- rows and nodes

pub tells_serial : (xs : List Cell) (c : Cell) (n : Node) → Tells xs c n → num c ≡ serial_of n
tells_serial xs c Root t = t.0
tells_serial xs c (Under p s k) t = t.0

pub tells_descends : (xs : List Cell) (c : Cell) (n : Node) → Tells xs c n → Descends n
tells_descends xs c Root t = tt
tells_descends xs c (Under p s k) t =
    let e = t.2 in
    let f = tells_serial xs e.0 p e.3 in
    let g = e.2.1 in
    let h = t.0 in
    (omega arith, tells_descends xs e.0 p e.3)

module _ (xs : List Cell) (rise : CellsRise xs) where
  -- a row has one node
  pub tells_same : (c : Cell) (a b : Node) → Tells xs c a → Tells xs c b → a ≡ b
  tells_same c Root Root t u = refl
  tells_same c Root (Under p s k) t u = let e = u.2.2.1 in let f = t.0 in absurd (omega arith)
  tells_same c (Under p s k) Root t u = let e = t.2.2.1 in let f = u.0 in absurd (omega arith)
  tells_same c (Under p s k) (Under q v w) t u =
      let e = t.2 in
      let f = u.2 in
      let same : f.0 ≡ e.0 = rising_same xs rise f.0 e.0 f.1 e.1 (sym f.2.0 ∙ e.2.0) in
      let z : p ≡ q = tells_same e.0 p q e.3 (subst (λ (y : Cell). Tells xs y q) same f.3) in
      let x : s ≡ v = sym t.0 ∙ u.0 in
      let y : k ≡ w = sym t.1 ∙ u.1 in
      cc

  -- the rows of the nodes above
  pub tells_above : (c : Cell) (n j : Node) → In c xs → Tells xs c n → In j (above n) → (d : Cell) × In d xs × Tells xs d j
  tells_above c Root j i t (inl e) = (c, i, subst (λ (x : Node). Tells xs c x) e t)
  tells_above c Root j i t (inr h) = absurd h
  tells_above c (Under p s k) j i t (inl e) = (c, i, subst (λ (x : Node). Tells xs c x) e t)
  tells_above c (Under p s k) j i t (inr h) = let e = t.2 in tells_above e.0 p j e.1 e.3 h

  -- a node has one row
  pub one_row : (c d : Cell) (n : Node) → In c xs → In d xs → Tells xs c n → Tells xs d n → c ≡ d
  one_row c d n i j t u = rising_same xs rise c d i j (tells_serial xs c n t ∙ sym (tells_serial xs d n u))

module _ (m : Store) (s : Shaped m) where
  abbrev xs : List Cell
  xs = cells m

  pub one_node : (p : ℕ) (a b : Node) → NodeOf xs p a → NodeOf xs p b → a ≡ b
  one_node p a b u v =
      let e : v.cell ≡ u.cell = same_place m s v.cell u.cell p v.among u.among v.place u.place in
      tells_same xs s.rising u.cell a b u.tells (subst (λ (c : Cell). Tells xs c b) e v.tells)

  pub one_place : (p q : ℕ) (n : Node) → NodeOf xs p n → NodeOf xs q n → p ≡ q
  one_place p q n u v = sym u.place ∙ ap (λ (c : Cell). c.place) (one_row xs s.rising u.cell v.cell n u.among v.among u.tells v.tells) ∙ v.place

  -- the parent's row is that of the parent
  pub parent_node : (p q : ℕ) (h : Node) → NodeOf xs p h → parent_of m p ≡ Some q → (r : Row) → option_map (λ (e : StoreRow Row). e.payload) (get m p) ≡ Some r
      → (g : Node) × (h ≡ Under g (serial_of h) r.kind) × NodeOf xs q g
  parent_node p q Root u e r f =
      let k = parent_row m xs s u.cell u.among q (ap (parent_of m) u.place ∙ e) in
      let l = k.2.1 in
      let z = u.tells.0 in
      absurd (omega arith)
  parent_node p q (Under g v w) u e r f =
      let k = parent_row m xs s u.cell u.among q (ap (parent_of m) u.place ∙ e) in
      let t = u.tells.2 in
      let same : t.0 ≡ k.0 = rising_same xs s.rising t.0 k.0 t.1 k.1 (sym t.2.0 ∙ k.2.0) in
      let row : u.cell.row ≡ r = cell_row m s u.cell u.among p u.place r f in
      let kind : w ≡ r.kind = sym u.tells.1 ∙ ap (λ (x : Row). x.kind) row in
      (g, ap (Under g v) kind, record { cell = k.0; among = k.1; place = k.3; tells = subst (λ (c : Cell). Tells xs c g) same t.3 })

  pub no_parent_node : (p : ℕ) (h : Node) → NodeOf xs p h → parent_of m p ≡ None → h ≡ Root
  no_parent_node p Root u e = refl
  no_parent_node p (Under g v w) u e =
      let z = no_parent m xs s u.cell u.among (ap (parent_of m) u.place ∙ e) in
      let l = u.tells.2.2.1 in
      absurd (omega arith)

  -- a walk up comes to an end
  pub low_up : (p : ℕ) → IsSome (get m p) → (o : Option ℕ) → o ≡ parent_of m p → low_at xs o < low_at xs (Some p)
  low_up p u None e = omega arith
  low_up p u (Some q) e =
      let c = row_of_place m xs s p u in
      let k = parent_row m xs s c.0 c.1 q (ap (parent_of m) c.2 ∙ sym e) in
      let x = serial_at_place m s c.0 c.1 p c.2 in
      let y = serial_at_place m s k.0 k.1 q k.3 in
      let z = k.2.1 in
      omega arith

-- ---- whether steps lead from one row to another

pub within_some : (n : ℕ) (m : Node) → within n m ≡ true → (j : Node) × In j (above m) × (serial_of j ≡ n)
within_some n Root h = (Root, inl refl, eqb-true 0 n h)
within_some n (Under p s k) h = elim (or_cases (s == n) (within n p) h) [
  | inl e ↦ (Under p s k, inl refl, eqb-true s n e)
  | inr w ↦ (let r = within_some n p w in (r.0, inr r.1, r.2))
]

-- steps that lead to n itself
pub leads_same : (a : ℕ) (steps : List Step) (n : Node) → Descends n → leads (is_same n) a steps n ≡ hits a steps n
leads_same a steps n d = same_bools _ _ to from
  where
    to : leads (is_same n) a steps n ≡ true → hits a steps n ≡ true
    to h =
        let r = any_in (λ (j : Node). is_same n j && hits a steps j) (above n) h in
        let q = and_parts (is_same n r.0) (hits a steps r.0) r.2 in
        subst (λ (x : Node). hits a steps x ≡ true) (chain_same n r.0 n d r.1 (above_self n) (eqb-true _ _ q.0)) q.1

    from : hits a steps n ≡ true → leads (is_same n) a steps n ≡ true
    from h = any_from (λ (j : Node). is_same n j && hits a steps j) n (above n) (above_self n) (and_from _ _ (eq-eqb _ _ refl) h)

-- steps lead to a node from itself or from one above it
above_hit : (m : Store) (s : Shaped m) (a n : Node) (p q : ℕ) → NodeOf (cells m) p a → NodeOf (cells m) q n → (steps : List Step) → hits (serial_of a) steps n ≡ true → In a (above n)
above_hit m s a n p q u v steps h =
    let w = within_some (serial_of a) n (hits_within (serial_of a) steps n h) in
    let d = tells_above (cells m) s.rising v.cell n w.0 v.among v.tells w.1 in
    let same : d.0 ≡ u.cell = rising_same (cells m) s.rising d.0 u.cell d.1 u.among (tells_serial (cells m) d.0 w.0 d.2 ∙ w.2 ∙ sym (tells_serial (cells m) u.cell a u.tells)) in
    subst (λ (x : Node). In x (above n)) (tells_same (cells m) s.rising u.cell w.0 a (subst (λ (c : Cell). Tells (cells m) c w.0) same d.2) u.tells) w.1

-- on the way up from n, on which a isn't passed
abbrev pub Leading : List Cell → (a n : Node) → List Step → Option ℕ → List Bool → Type 0
Leading rows a n steps None flags = In a (above n) → ⊥
Leading rows a n steps (Some p) flags = (h : Node) × NodeOf rows p h × In h (above n) × (In a (above n) → In a (above h)) × Flags (is_same n) (serial_of h) steps n flags

-- what a step up makes of the flags
abbrev pub Raised : List Step → Kind → Bool → List Bool → List Bool → Type 0
Raised steps kind end old new = (ends : Node → Bool) (n p : Node) (s : ℕ) → Descends n → In (Under p s kind) (above n) → end ≡ ends p → Flags ends s steps n old → Flags ends (serial_of p) steps n new

module _ (m : Store) (s : Shaped m) (a n : Node) (steps : List Step) where
  pub leading_start : (p : ℕ) → NodeOf (cells m) p n → Leading (cells m) a n steps (Some p) (replicate (length steps) false ++ true ∷ [])
  leading_start p u = (n, u, above_self n, (λ i. i), flags_start steps (is_same n) n (tells_descends (cells m) u.cell n u.tells) true (sym (eq-eqb _ _ refl)))

  pub leading_found : (p from : ℕ) (flags : List Bool) → NodeOf (cells m) from a → Descends n → (p == from) ≡ true → Leading (cells m) a n steps (Some p) flags → get_or flags 0 false ≡ hits (serial_of a) steps n
  leading_found p from flags u d e l =
      let at : NodeOf (cells m) p a = subst (λ q. NodeOf (cells m) q a) (sym (eqb-true p from e)) u in
      let same : l.0 ≡ a = one_node m s p l.0 a l.1 at in
      l.4.each 0 (omega arith) ∙ ap (λ (x : Node). leads (is_same n) (serial_of x) steps n) same ∙ leads_same (serial_of a) steps n d

  pub leading_on : (p from : ℕ) (flags new : List Bool) → NodeOf (cells m) from a → Descends n → (p == from) ≡ false → Leading (cells m) a n steps (Some p) flags
      → (o : Option ℕ) → o ≡ parent_of m p → (r : Row) → option_map (λ (e : StoreRow Row). e.payload) (get m p) ≡ Some r → Raised steps r.kind false flags new → Leading (cells m) a n steps o new
  leading_on p from flags new u d f l None e r h raise =
      let root : l.0 ≡ Root = no_parent_node m s p l.0 l.1 (sym e) in
      λ j.
      let i : In a (above Root) = subst (λ (x : Node). In a (above x)) root (l.3 j) in
      elim i [ inl z ↦ apart (root ∙ z) | inr z ↦ absurd z ]
    where
      apart : l.0 ≡ a → ⊥
      apart z = false≢true (sym f ∙ eq-eqb p from (one_place m s p from a (subst (λ (x : Node). NodeOf (cells m) p x) z l.1) u))
  leading_on p from flags new u d f l (Some q) e r h raise =
      let k = parent_node m s p q l.0 l.1 (sym e) r h in
      let here : In (Under k.0 (serial_of l.0) r.kind) (above n) = subst (λ (x : Node). In x (above n)) k.1 l.2 in
      let up : In k.0 (above n) = above_trans k.0 (Under k.0 (serial_of l.0) r.kind) n (inr (above_self k.0)) here in
      (k.0, k.2, up, (λ j. on k.0 (serial_of l.0) r.kind k.1 (l.3 j)), raise (is_same n) n k.0 (serial_of l.0) d here (sym (other k.0 (serial_of l.0) r.kind here)) l.4)
    where
      apart : l.0 ≡ a → ⊥
      apart z = false≢true (sym f ∙ eq-eqb p from (one_place m s p from a (subst (λ (x : Node). NodeOf (cells m) p x) z l.1) u))

      on : (g : Node) (v : ℕ) (w : Kind) → l.0 ≡ Under g v w → In a (above l.0) → In a (above g)
      on g v w z i = elim (subst (λ (x : Node). In a (above x)) z i) [ inl y ↦ absurd (apart (z ∙ y)) | inr y ↦ y ]

      -- what is above a node isn't the node
      other : (g : Node) (v : ℕ) (w : Kind) → In (Under g v w) (above n) → is_same n g ≡ false
      other g v w i =
          let b = above_low n (Under g v w) d i in
          let c = (descends_above n (Under g v w) d i).0 in
          ne_eqb (serial_of g) (serial_of n) (λ z. omega arith)

  pub leading_missed : (from p : ℕ) (flags : List Bool) → NodeOf (cells m) from a → NodeOf (cells m) p n → Leading (cells m) a n steps None flags → false ≡ hits (serial_of a) steps n
  leading_missed from p flags u v l = sym (false_from_ne_true (hits (serial_of a) steps n) (λ h. l (above_hit m s a n from p u v steps h)))

-- a list that is filled again
pub refilled : {X : Type 0} (items new : List X) (len : ℕ) → len ≡ length items → length new ≡ length items → take len (new ++ drop (length new) items) ≡ new
refilled items new len e f =
    ap (λ w. take len (new ++ w)) (drop_of_length-le items (omega arith))
    ∙ ap (take len) (append-nil new)
    ∙ ap (λ k. take k new) (e ∙ sym f)
    ∙ take-length new

pub used_start : (m : Store) (p q : ℕ) → IsSome (get m p) → Some p ≡ Some q → IsSome (get m q)
used_start m p q u e = let f : p ≡ q = cc in subst (λ x. IsSome (get m x)) f u

pub used_on : (m : Store) (o : Option Place) → IfSome o (λ p. IsSome (get m p.0)) → (q : ℕ) → option_map (λ (p : Place). p.0) o ≡ Some q → IsSome (get m q)
used_on m None u q e = absurd (cc)
used_on m (Some p) u q e = used_start m p.0 q u e

pub flags_count : (k : ℕ) (fs : List Bool) (b : Bool) → fs ≡ replicate k false ++ b ∷ [] → length fs ≡ k + 1
flags_count k fs b e = ap length e ∙ simp length-append (omega (arith, length-replicate k false))
