-- The store behind a recount, and what leaves it then; and behind a statement whether its role is spread or not.
use Rattle.std.proofs.Common.{◌≡◌, ◌==◌, ℕ, ◌+◌, ◌-◌, ◌≤◌, Bool, true, not, ◌&&◌, List, ◌++◌, length, map, refl, sym, ◌∙◌, ap, subst, inl, inr, arith, Some, None, Option, append_assoc}
use Rattle.std.specs.Prelude.{IsSome, is_some, slice_index_or}
use Rattle.std.specs.FinMap.{get}
use Rattle.std.proofs.lemmas.List.{length-append}
use Rattle.base_laws.proofs.Members.{in_map}
use Rattle.tree_laws.proofs.Lists.{In, In-filter}
use Rattle.gcx_model.specs.declared.item.Off.{Off}
use Rattle.gcx_model.specs.Tree.{Tree}
use Rattle.buf_tree.specs.Shape.{Store, Cell, num, cells, Shaped}
use Rattle.buf_tree.specs.Purge.{is_gone, Keeps, Tidy, Cleared}
use Rattle.buf_tree.specs.Recount.{Recounting, uncovered, Recounted, Dropped, SpreadSwept}
use Rattle.buf_tree.specs.Spread.{SpreadView, is_spread_in}
use Rattle.buf_tree.specs.Sweep.{LosesBy, taken_by, Swept}
use Rattle.buf_tree.specs.View.{Ordered, Kept, Ready}
use Rattle.buf_tree.specs.Walk.{Nested, Within}
use Rattle.buf_tree.specs.Ways.{TreeOf}
use Rattle.buf_tree.specs.Withdraw.{Taking, TakingFrom, SpreadBack, top_for}
use Rattle.buf_tree.proofs.Keeping.{ordered_part}
use Rattle.buf_tree.proofs.Kin.{row_of_place}
use Rattle.buf_tree.proofs.Purging.{some_entry}
use Rattle.buf_tree.proofs.Seeking.{used_there}
use Rattle.buf_tree.proofs.Shaping.{held_in}
use Rattle.buf_tree.proofs.SpreadTells.{some_same}
use Rattle.buf_tree.proofs.Standing.{pair_left}
use Rattle.buf_tree.proofs.Taking.{length_map, bare, bare_alike, was_bare}
use Rattle.buf_tree.proofs.Withdrawing.{purged_both, t_nested, t_ordered, gone_longer, ready_swept}

-- ---- rows that differ in what they say of those above alone

module _ (xs ys : List Cell) (e : map uncovered xs ≡ map uncovered ys) where
  was : (c : Cell) → In c xs → (d : Cell) × In d ys × (uncovered c ≡ uncovered d)
  was c i = pair_left uncovered uncovered xs ys e c i

  same_length : length xs ≡ length ys
  same_length = sym (length_map uncovered xs) ∙ (ap length e ∙ length_map uncovered ys)

  same_nested : Nested ys → Nested xs
  same_nested nest b c i j l n =
      let x = was b i in
      let y = was c j in
      let a1 = ap num x.2 in
      let a2 = ap num y.2 in
      let b1 = ap (λ (z : Cell). z.row.parent) x.2 in
      let b2 = ap (λ (z : Cell). z.row.parent) y.2 in
      let z = nest x.0 y.0 x.1 y.1 (omega arith) (omega arith) in omega arith

  same_ordered : Ordered ys → Ordered xs
  same_ordered o = record {
    nested = same_nested o.nested;
    open_last = λ a b i j op l.
        let x = was a i in
        let y = was b j in
        let a1 = ap num x.2 in
        let a2 = ap num y.2 in
        let b2 = ap (λ (z : Cell). z.row.parent) y.2 in
        let z = o.open_last x.0 y.0 x.1 y.1 (sym (ap (λ (z : Cell). z.row.is_open) x.2) ∙ op) (omega arith) in omega arith;
  }

-- ---- the store behind a recount

module _ (s : Option SpreadView) (m0 m1 : Store) (loses : Cell → Bool) (k count : ℕ) (r : Recounted s m0 m1 loses k count) where
  pub recounted_nested : Nested (cells m0) → Nested (cells m1)
  recounted_nested nest = same_nested (cells m1) (taken_by loses k (cells m0)) r.rows (t_nested loses k (cells m0) nest)

  recounted_ordered : Ordered (cells m0) → Ordered (cells m1)
  recounted_ordered o = same_ordered (cells m1) (taken_by loses k (cells m0)) r.rows (t_ordered loses k (cells m0) o)

  pub recounted_length : length (cells m1) ≡ length (cells m0)
  recounted_length = same_length (cells m1) (taken_by loses k (cells m0)) r.rows ∙ length_map (bare loses k) (cells m0)

  -- each row stands where one stood before,
  from_before : (c : Cell) → In c (cells m1) → (d : Cell) × In d (cells m0) × (num c ≡ num d)
  from_before c i =
      let x = was (cells m1) (taken_by loses k (cells m0)) r.rows c i in
      let y = was_bare loses k x.0 (cells m0) x.1 in
      (y.0, y.1, ap num x.2 ∙ (sym (ap num y.2) ∙ sym (bare_alike loses k y.0).serial))

  -- and none is missing
  still : (d : Cell) → In d (cells m0) → (c : Cell) × In c (cells m1) × (num c ≡ num d) × (c.row.parent ≡ d.row.parent) × (c.place ≡ d.place)
  still d i =
      let x = was (taken_by loses k (cells m0)) (cells m1) (sym r.rows) (bare loses k d) (in_map (bare loses k) d (cells m0) i) in
      let a = bare_alike loses k d in (
        x.0,
        x.1,
        sym (ap num x.2) ∙ sym a.serial,
        sym (ap (λ (z : Cell). z.row.parent) x.2) ∙ sym a.parent,
        sym (ap (λ (z : Cell). z.place) x.2) ∙ sym a.place,
      )

  pub recounted_there : Shaped m0 → (p : ℕ) → IsSome (get m0 p) → IsSome (get m1 p)
  recounted_there s0 p h =
      let d = row_of_place m0 (cells m0) s0 p h in
      let c = still d.0 d.1 in
      used_there m1 r.shape c.0 c.1 p (c.4 ∙ d.2)

  -- what isn't below the base stays as it was, so something keeps it still
  pub recounted_tidy : Tidy (cells m0) → (p : ℕ) → ((c d : Cell) → In c (cells m1) → c.place ≡ p → In d (cells m1) → (Within (cells m1) c d → ⊥) → In d (cells m0))
      → (c d : Cell) → In c (cells m1) → c.place ≡ p → In d (cells m1) → (Within (cells m1) c d → ⊥) → Keeps (cells m1) d
  recounted_tidy tidy p outside c d i at j n = elim (tidy d (outside c d i at j n)) [
    | inl alive ↦ inl alive
    | inr x ↦ (let y = still x.0 x.1 in inr (y.0, y.1, (λ q. not (y.2 q == 0) && (y.3 q == num d)) ∙ x.2))
  ]

-- ---- and what left

module _ (s : Option SpreadView) (m0 m2 : Store) (p : ℕ) (loses : Cell → Bool) (k : ℕ) (g0 g1 : List ℕ) (res : ℕ) (w : SpreadSwept s m0 m2 p loses k g0 g1 res) where
  spread_longer : length g1 ≡ length g0 + length w.dropped.left.0
  spread_longer = ap length w.dropped.left.1 ∙ length-append g0 w.dropped.left.0

  part : (d : Cell) → In d (cells m2) → In d (cells w.between)
  part d i = (In-filter (λ (x : Cell). not (is_gone w.dropped.left.0 x)) d (cells w.between) (subst (λ (zs : List Cell). In d zs) w.dropped.left.2.leaves.rows i)).0

  ready_dropped : (cap0 cap1 held left n : ℕ) → Kept m0 g0 cap0 held n → length g1 + length (cells m2) ≡ length g0 + length (cells m0) → cap0 ≤ cap1 → left ≡ held - (length g1 - length g0) → Ready m2 p g1 cap1 left n
  ready_dropped cap0 cap1 held left n h e l f = record {
    shape = w.dropped.shape;
    there = w.dropped.there;
    tidy = w.dropped.left.2.tidy;
    held = omega (arith, e, f, spread_longer, h.held);
    room = omega (arith, e, f, spread_longer, h.held, h.room, l);
    below = λ d i.
        let r = from_before s m0 w.between loses k res w.recounted d (part d i) in
        let b = h.below r.0 r.1 in
        let x = r.2 in
        omega arith;
    ordered = ordered_part (cells w.between) (cells m2) part (recounted_ordered s m0 w.between loses k res w.recounted h.ordered);
  }

  pub spread_cleared : (m3 : Store) (g2 : List ℕ) → Cleared m2 m3 g1 g2 → SpreadBack s m0 m3 loses k g0 g2 res
  spread_cleared m3 g2 c =
      let e = some_entry (get m2 p) w.dropped.there in
      let d = held_in m2 (cells m2) w.dropped.shape p e.0 e.1 in record {
        between = cells w.between;
        rows = w.recounted.rows;
        covers = w.recounted.covers;
        left = (
          w.dropped.left.0 ++ c.left.0,
          c.left.1 ∙ ap (λ z. z ++ c.left.0) w.dropped.left.1 ∙ append_assoc g0 w.dropped.left.0 c.left.0,
          purged_both m2 (cells m2) w.dropped.shape (cells w.between) (cells m3) p w.dropped.left.0 c.left.0 w.dropped.left.2 c.left.2 d.0 d.1 d.2,
        );
        taken = w.recounted.taken;
      }

-- ---- the statement that reaches the tops alone

module _ (s : SpreadView) (off top : Off) (is_top : slice_index_or s.tops off.role.0 None ≡ Some top) where
  pub not_none : top_for (Some s) off ≡ None → ⊥
  not_none none = let z : Some top ≡ None = sym is_top ∙ none in absurd (cc)

  pub spread_role : top.role.0 ≡ off.role.0 → is_spread_in (Some s) top.role.0 ≡ true
  spread_role role = ap (λ (r : ℕ). is_some (slice_index_or s.tops r None)) role ∙ ap is_some is_top

  pub top_taking : (xs : List Cell) (p : ℕ) (others : Bool) → TakingFrom (top_for (Some s) off) xs p off others → Recounting xs p top others
  top_taking xs p others t = subst (λ (o : Option Off). TakingFrom o xs p off others) is_top t

  pub top_swept : (m0 m1 m2 : Store) (p : ℕ) (others : Bool) (g0 g1 : List ℕ) (lost : ℕ) → top.role.0 ≡ off.role.0
      → ((T : Tree) (c : Cell) (loses : Cell → Bool) → TreeOf (cells m0) T → In c (cells m0) → c.place ≡ p → LosesBy (cells m0) T top others c loses → Recounted (Some s) m0 m1 loses top.role.0 lost) → Dropped m1 m2 p g0 g1
      → (o : Off) → top_for (Some s) off ≡ Some o → (t : Recounting (cells m0) p o others) → SpreadSwept (Some s) m0 m2 p t.loses off.role.0 g0 g1 lost
  top_swept m0 m1 m2 p others g0 g1 lost role recounted dropped o is_for t =
      let same : top ≡ o = some_same top o (sym is_top ∙ is_for) in
      let each : LosesBy (cells m0) t.tree top others t.base t.loses = subst (λ (x : Off). LosesBy (cells m0) t.tree x others t.base t.loses) (sym same) t.each in
      record {
        between = m1;
        recounted = subst (λ (k : ℕ). Recounted (Some s) m0 m1 t.loses k lost) role (recounted t.tree t.base t.loses t.told t.among t.place each);
        dropped = dropped;
      }

-- ---- whether the role is spread or not

module _ (s : Option SpreadView) (m0 m1 : Store) (p : ℕ) (off : Off) (others : Bool) (g0 g1 : List ℕ) (res : ℕ) (t : TakingFrom (top_for s off) (cells m0) p off others)
    (plain : top_for s off ≡ None → (t : Taking (cells m0) p off others) → Swept m0 m1 p t.loses off.role.0 g0 g1 res)
    (spread : (top : Off) → top_for s off ≡ Some top → (t : Recounting (cells m0) p top others) → SpreadSwept s m0 m1 p t.loses off.role.0 g0 g1 res) where
  pub taken_longer : length g0 ≤ length g1
  taken_longer = go (top_for s off) refl t
    where
      go : (o : Option Off) → top_for s off ≡ o → TakingFrom o (cells m0) p off others → length g0 ≤ length g1
      go None e t = gone_longer m0 m1 p t.loses off.role.0 g0 g1 res (plain e t)
      go (Some top) e t = omega (arith, spread_longer s m0 m1 p t.loses off.role.0 g0 g1 res (spread top e t))

  -- the state between what leaves below the base and the purge upwards
  pub ready_taken : (cap0 cap1 held left n : ℕ) → Kept m0 g0 cap0 held n → length g1 + length (cells m1) ≡ length g0 + length (cells m0) → cap0 ≤ cap1 → left ≡ held - (length g1 - length g0) → Ready m1 p g1 cap1 left n
  ready_taken cap0 cap1 held left n h c l f = go (top_for s off) refl t
    where
      go : (o : Option Off) → top_for s off ≡ o → TakingFrom o (cells m0) p off others → Ready m1 p g1 cap1 left n
      go None e t = ready_swept m0 m1 p t.loses off.role.0 g0 g1 res cap0 cap1 held left n h (plain e t) c l f
      go (Some top) e t = ready_dropped s m0 m1 p t.loses off.role.0 g0 g1 res (spread top e t) cap0 cap1 held left n h c l f
