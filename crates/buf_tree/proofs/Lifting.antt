-- The rows that contracts see stand as those kept do, and what leaves of the ones leaves of the others.
use Rattle.std.proofs.Common.{◌≡◌, ℕ, ◌<◌, ◌≤◌, Bool, true, false, cond, not, ◌&&◌, ◌||◌, List, [], ◌∷◌, map, length, refl, sym, ◌∙◌, ap, subst, inl, inr, ◌⊎◌, Option, eqb, arith}
use Rattle.std.specs.List.{filter}
use Rattle.std.specs.Ordering.{nat_cmp}
use Rattle.std.specs.FinSet.{empty, contains, retain, contains-empty}
use Rattle.std.proofs.Math.Bool.{or-false}
use Rattle.std.proofs.lemmas.Bool.{and_from, true≢false, eq-eqb, ne_eqb, cases_Bool, not-true}
use Rattle.gcx_model.specs.declared.item.Off.{Off}
use Rattle.std.proofs.lemmas.List.{length-map}
use Rattle.gcx_model.specs.Paths.{any}
use Rattle.gcx_model.specs.Tree.{Tree, Node}
use Rattle.base_laws.proofs.Members.{in_map, from_map}
use Rattle.tree_laws.proofs.Lists.{In, In-filter}
use Rattle.buf_tree.specs.Rows.{IsDead}
use Rattle.buf_tree.specs.Shape.{Cell, num, CellsRise, Above, Shape, Store, cells, Shaped, is_under}
use Rattle.buf_tree.specs.Purge.{is_gone, Keeps, Tidy, Purged}
use Rattle.buf_tree.specs.Spread.{SpreadView, is_spread_in, roles_at, with_above, seen_rows, is_covered, TellsCovered}
use Rattle.buf_tree.specs.View.{Ordered, Kept}
use Rattle.buf_tree.specs.Walk.{Nested, Inside}
use Rattle.buf_tree.specs.Ways.{Tells, NodeOf, TreeOf, IsKept, is_waiting}
use Rattle.buf_tree.proofs.Shaping.{built, built_shape, cells_is, shaped}
use Rattle.buf_tree.proofs.Signs.{tells_map, tells_unmap}
use Rattle.buf_tree.proofs.Spreading.{in_union, in_retain, Upward, upward, spread_cell, from_above, above_is, above_filter, covered_filter, dead_same}

pub rising_map : (f : Cell → Cell) → ((c : Cell) → num (f c) ≡ num c) → (xs : List Cell) → CellsRise xs → CellsRise (map f xs)
rising_map f h [] r = tt
rising_map f h (x ∷ xs) r = (
  (λ y i.
      let z = from_map f y xs i in
      let l = r.0 z.0 z.1 in
      let e = h x in
      let g = sym (ap num z.2) ∙ h z.0 in
      omega arith),
  rising_map f h xs r.1,
)

-- ---- the rows seen are those kept, each with its roles from above

module _ (s : Option SpreadView) (ks : List Cell) (up : Upward [] ks) where
  abbrev sp : ℕ → Bool
  sp = is_spread_in s

  abbrev rs : List Cell
  rs = seen_rows s ks

  abbrev f : Cell → Cell
  f = spread_cell (is_spread_in s) (seen_rows s ks)

  pub seen_is : seen_rows s ks ≡ map (spread_cell (is_spread_in s) (seen_rows s ks)) ks
  seen_is = above_is (is_spread_in s) ks up

  pub seen_in : (c : Cell) → In c ks → In (spread_cell (is_spread_in s) (seen_rows s ks) c) (seen_rows s ks)
  seen_in c i = subst (λ (zs : List Cell). In (f c) zs) (sym seen_is) (in_map f c ks i)

  pub seen_from : (d : Cell) → In d (seen_rows s ks) → (c : Cell) × In c ks × (spread_cell (is_spread_in s) (seen_rows s ks) c ≡ d)
  seen_from d i = from_map f d ks (subst (λ (zs : List Cell). In d zs) seen_is i)

  pub seen_rising : CellsRise ks → CellsRise (seen_rows s ks)
  seen_rising r = subst (λ (zs : List Cell). CellsRise zs) (sym seen_is) (rising_map f (λ c. refl) ks r)

  pub seen_apart : ((a b : Cell) → In a ks → In b ks → a.place ≡ b.place → a ≡ b) → (a b : Cell) → In a (seen_rows s ks) → In b (seen_rows s ks) → a.place ≡ b.place → a ≡ b
  seen_apart h a b i j e =
      let x = seen_from a i in
      let y = seen_from b j in
      let p : x.0.place ≡ y.0.place = ap (λ (z : Cell). z.place) x.2 ∙ (e ∙ sym (ap (λ (z : Cell). z.place) y.2)) in
      sym x.2 ∙ (ap f (h x.0 y.0 x.1 y.1 p) ∙ y.2)

  pub seen_up : ((c : Cell) → In c ks → (num c ≡ 0) ⊎ Above ks c) → (c : Cell) → In c (seen_rows s ks) → (num c ≡ 0) ⊎ Above (seen_rows s ks) c
  seen_up h c i =
      let x = seen_from c i in
      subst (λ (z : Cell). (num z ≡ 0) ⊎ Above rs z) x.2 (elim (h x.0 x.1) [ inl e ↦ inl e | inr a ↦ inr (f a.0, seen_in a.0 a.1, a.2, a.3) ])

  pub seen_nested : Nested ks → Nested (seen_rows s ks)
  seen_nested n b c i j =
      let x = seen_from b i in
      let y = seen_from c j in
      subst (λ (z : Cell). c.row.parent < num z → num z < num c → c.row.parent ≤ z.row.parent) x.2
      (subst (λ (z : Cell). z.row.parent < num (f x.0) → num (f x.0) < num z → z.row.parent ≤ (f x.0).row.parent) y.2 (n x.0 y.0 x.1 y.1))

  pub seen_ordered : Ordered ks → Ordered (seen_rows s ks)
  seen_ordered o = record {
    nested = seen_nested o.nested;
    open_last = λ a b i j.
        let x = seen_from a i in
        let y = seen_from b j in
        subst (λ (z : Cell). z.row.is_open ≡ true → num z < num b → num z ≤ b.row.parent) x.2
        (subst (λ (z : Cell). (f x.0).row.is_open ≡ true → num (f x.0) < num z → num (f x.0) ≤ z.row.parent) y.2 (o.open_last x.0 y.0 x.1 y.1));
  }

  -- what keeps the ones keeps the others
  keeps_seen : TellsCovered s ks → (c : Cell) → In c ks → Keeps ks c → Keeps (seen_rows s ks) (spread_cell (is_spread_in s) (seen_rows s ks) c)
  keeps_seen h c i (inl alive) = inl (λ d. alive ((dead_same sp rs c (h c i)).1 d))
  keeps_seen h c i (inr d) = inr (f d.0, seen_in d.0 d.1, d.2)

  pub seen_tidy : TellsCovered s ks → Tidy ks → Tidy (seen_rows s ks)
  seen_tidy h t c i =
      let x = seen_from c i in
      subst (λ (z : Cell). Keeps rs z) x.2 (keeps_seen h x.0 x.1 (t x.0 x.1))

  -- the rows tell of the same nodes
  tells_seen : (p : ℕ) (n : Node) → NodeOf ks p n → NodeOf (map f ks) p n
  tells_seen p n u = record { cell = f u.cell; among = in_map f u.cell ks u.among; place = u.place; tells = tells_map f (λ c. refl) (λ c. refl) (λ c. refl) ks u.cell n u.tells }

  pub node_seen : (p : ℕ) (n : Node) → NodeOf ks p n → NodeOf (seen_rows s ks) p n
  node_seen p n u = subst (λ (zs : List Cell). NodeOf zs p n) (sym seen_is) (tells_seen p n u)

  pub tells_kept : (c : Cell) (n : Node) → Tells (seen_rows s ks) (spread_cell (is_spread_in s) (seen_rows s ks) c) n → Tells ks c n
  tells_kept c n t = tells_unmap f (λ c. refl) (λ c. refl) (λ c. refl) ks c n (subst (λ (zs : List Cell). Tells zs (f c) n) seen_is t)

  -- the row of the node, as it is kept
  pub node_kept : (p : ℕ) (n : Node) → (u : NodeOf (seen_rows s ks) p n) → (c : Cell) × In c ks × (spread_cell (is_spread_in s) (seen_rows s ks) c ≡ u.cell) × Tells ks c n
  node_kept p n u =
      let x = seen_from u.cell u.among in
      let t : Tells (map f ks) u.cell n = subst (λ (zs : List Cell). Tells zs u.cell n) seen_is u.tells in
      (x.0, x.1, x.2, tells_unmap f (λ c. refl) (λ c. refl) (λ c. refl) ks x.0 n (subst (λ (y : Cell). Tells (map f ks) y n) (sym x.2) t))

  pub node_of_kept : (p : ℕ) (n : Node) → NodeOf (seen_rows s ks) p n → NodeOf ks p n
  node_of_kept p n u =
      let x = node_kept p n u in
      record { cell = x.0; among = x.1; place = ap (λ (z : Cell). z.place) x.2 ∙ u.place; tells = x.3 }

  pub tree_kept : (T : Tree) → TreeOf (seen_rows s ks) T → TreeOf ks T
  tree_kept T t = record {
    told = λ p n u. t.told p n (node_seen p n u);
    row = λ n i. let r = t.row n i in (r.0, node_of_kept r.0 n r.1);
    rising = t.rising;
  }

  -- what a row has of a role that isn't spread it keeps
  pub unspread_same : (k : ℕ) → is_spread_in s k ≡ false → (c : Cell) → contains (spread_cell (is_spread_in s) (seen_rows s ks) c).row.roles k ≡ contains c.row.roles k
  unspread_same k h c = in_union c.row.roles (from_above sp rs c) k ∙ (ap (λ b. contains c.row.roles k || b) (never (eqb (num c) 0)) ∙ or-false (contains c.row.roles k))
    where
      off : (b : Bool) → (b && false) ≡ false
      off true = refl
      off false = refl

      never : (b : Bool) → contains (cond b empty (retain (roles_at rs c.row.parent) sp)) k ≡ false
      never true = contains-empty nat_cmp k
      never false = in_retain (roles_at rs c.row.parent) sp k ∙ (ap (λ b. contains (roles_at rs c.row.parent) k && b) h ∙ off (contains (roles_at rs c.row.parent) k))

  pub waits_same : (o : Off) → is_spread_in s o.own.0 ≡ false → (c : Cell) → is_waiting (spread_cell (is_spread_in s) (seen_rows s ks) c).row o ≡ is_waiting c.row o
  waits_same o h c = ap (λ b. (b || contains c.row.signed o.own.0) && not (contains c.row.signed o.role.0)) (unspread_same o.own.0 h c)

  -- so the bases that aren't signed are the same
  pub kept_seen : (T : Tree) (o : Off) (n : Node) → is_spread_in s o.own.0 ≡ false → IsKept ks T o n → IsKept (seen_rows s ks) T o n
  kept_seen T o n h k = record {
    place = k.place;
    base = k.base;
    at = record { cell = f k.at.cell; among = seen_in k.at.cell k.at.among; place = k.at.place; tells = subst (λ (zs : List Cell). Tells zs (f k.at.cell) k.base) (sym seen_is) (tells_map f (λ c. refl) (λ c. refl) (λ c. refl) ks k.at.cell k.base k.at.tells) };
    waits = waits_same o h k.at.cell ∙ k.waits;
    reached = k.reached;
  }

  pub seen_kept : (T : Tree) (o : Off) (n : Node) → is_spread_in s o.own.0 ≡ false → IsKept (seen_rows s ks) T o n → IsKept ks T o n
  seen_kept T o n h k =
      let x = node_kept k.place k.base k.at in
      record {
        place = k.place;
        base = k.base;
        at = record { cell = x.0; among = x.1; place = ap (λ (z : Cell). z.place) x.2 ∙ k.at.place; tells = x.3 };
        waits = sym (waits_same o h x.0) ∙ (ap (λ (z : Cell). is_waiting z.row o) x.2 ∙ k.waits);
        reached = k.reached;
      }

  pub inside_seen : (c d : Cell) → Inside ks c d → Inside (seen_rows s ks) (spread_cell (is_spread_in s) (seen_rows s ks) c) (spread_cell (is_spread_in s) (seen_rows s ks) d)
  inside_seen c d i = record {
    behind = i.behind;
    block = λ x j. let y = seen_from x j in subst (λ (z : Cell). num c < num z → num z ≤ num d → num c ≤ z.row.parent) y.2 (i.block y.0 y.1);
  }

  pub seen_inside : (c d : Cell) → Inside (seen_rows s ks) (spread_cell (is_spread_in s) (seen_rows s ks) c) (spread_cell (is_spread_in s) (seen_rows s ks) d) → Inside ks c d
  seen_inside c d i = record { behind = i.behind; block = λ x j. i.block (f x) (seen_in x j) }

-- ---- what leaves

module _ (s : Option SpreadView) (xs ys : List Cell) (gone : List ℕ) (up : Upward [] xs) (up' : Upward [] ys) (h : TellsCovered s xs) (p : Purged xs ys gone) where
  abbrev stays : ℕ → Bool
  stays k = not (any (λ j. eqb k j) gone)

  kept_is : ys ≡ filter (λ c. stays (num c)) xs
  kept_is = p.leaves.rows

  -- the parent of a row that stays does so too
  up_stays : ((c : Cell) → In c xs → (num c ≡ 0) ⊎ Above xs c) → (c : Cell) → In c xs → stays (num c) ≡ true → (num c ≡ 0) ⊎ (stays c.row.parent ≡ true)
  up_stays above c i e = elim (above c i) [
    | inl z ↦ inl z
    | inr a ↦ elim (cases_Bool (is_gone gone a.0)) [
      | inl g ↦ (
          let under : is_under (num a.0) c ≡ true = and_from _ _ (ap not (ne_eqb (num c) 0 (λ z. let l = a.3 in omega arith))) (eq-eqb c.row.parent (num a.0) (sym a.2)) in
          absurd (true≢false (sym (p.leaves.down a.0 c a.1 i g under) ∙ not-true _ e)))
      | inr g ↦ inr (ap (λ (z : ℕ). stays z) (sym a.2) ∙ ap not g)
    ]
  ]

  module _ (above : (c : Cell) → In c xs → (num c ≡ 0) ⊎ Above xs c) where
    abbrev spread : ℕ → Bool
    spread = is_spread_in s

    seen_left : seen_rows s ys ≡ filter (λ c. stays (num c)) (seen_rows s xs)
    seen_left =
        ap (with_above spread []) kept_is
        ∙ above_filter spread stays xs up (subst (λ (zs : List Cell). Upward [] zs) kept_is up') (up_stays above)

    pub covers_left : TellsCovered s ys
    covers_left c i =
        let j = In-filter (λ (d : Cell). stays (num d)) c xs (subst (λ (zs : List Cell). In c zs) kept_is i) in
        h c j.0 ∙ (sym (covered_filter spread stays (seen_rows s xs) c (up_stays above c j.0 j.1)) ∙ ap (λ (z : List Cell). is_covered spread z c) (sym seen_left))

    pub purged_seen : Tidy (seen_rows s ys) → Purged (seen_rows s xs) (seen_rows s ys) gone
    purged_seen t = record {
      leaves = record {
        rows = seen_left;
        dead = λ d i g.
            let x = seen_from s xs up d i in
            subst (λ (z : Cell). IsDead z.row) x.2 ((dead_same spread (seen_rows s xs) x.0 (h x.0 x.1)).0 (p.leaves.dead x.0 x.1 (ap (is_gone gone) x.2 ∙ g)));
        down = λ c d i j.
            let x = seen_from s xs up c i in
            let y = seen_from s xs up d j in
            subst (λ (z : Cell). is_gone gone z ≡ true → is_under (num z) d ≡ true → is_gone gone d ≡ true) x.2
            (subst (λ (z : Cell). is_gone gone x.0 ≡ true → is_under (num x.0) z ≡ true → is_gone gone z ≡ true) y.2 (p.leaves.down x.0 y.0 x.1 y.1));
        falling = p.leaves.falling;
        known = λ k i. let r = p.leaves.known k i in (spread_cell spread (seen_rows s xs) r.0, seen_in s xs up r.0 r.1, r.2);
      };
      tidy = t;
    }

-- with the rows kept linked
pub purged_lift : (s : Option SpreadView) (xs ys : List Cell) (gone : List ℕ) → CellsRise xs → CellsRise ys → ((c : Cell) → In c xs → (num c ≡ 0) ⊎ Above xs c) → ((c : Cell) → In c ys → (num c ≡ 0) ⊎ Above ys c) → TellsCovered s xs
    → Purged xs ys gone → Purged (seen_rows s xs) (seen_rows s ys) gone × TellsCovered s ys
purged_lift s xs ys gone r r' a a' h p =
    let u = upward xs r a in
    let u' = upward ys r' a' in
    let c : TellsCovered s ys = covers_left s xs ys gone u u' h p a in
    (purged_seen s xs ys gone u u' h p a (seen_tidy s ys u' c p.tidy), c)

-- ---- a store that holds the rows seen

pub seen_shape : (s : Option SpreadView) (m : Store) → Shaped m → Shape (built (seen_rows s (cells m)) (seen_rows s (cells m))) (seen_rows s (cells m))
seen_shape s m h =
    let u = upward (cells m) h.rising h.up in
    built_shape (seen_rows s (cells m)) (seen_rising s (cells m) u h.rising) (seen_apart s (cells m) u h.apart) (seen_up s (cells m) u h.up)

pub kept_lift : (s : Option SpreadView) (m : Store) (gone : List ℕ) (cap count nodes : ℕ) → Kept m gone cap count nodes → TellsCovered s (cells m) → Kept (built (seen_rows s (cells m)) (seen_rows s (cells m))) gone cap count nodes
kept_lift s m gone cap count nodes k c =
    let xs : List Cell = seen_rows s (cells m) in
    let u = upward (cells m) k.shape.rising k.shape.up in
    let sh : Shape (built xs xs) xs = seen_shape s m k.shape in
    let is : cells (built xs xs) ≡ xs = cells_is (built xs xs) xs sh in
    record {
      shape = shaped (built xs xs) xs sh;
      tidy = subst (λ (zs : List Cell). Tidy zs) (sym is) (seen_tidy s (cells m) u c k.tidy);
      held = ap length is ∙ (ap length (seen_is s (cells m) u) ∙ (length-map (cells m) (spread_cell (is_spread_in s) xs) ∙ k.held));
      room = k.room;
      below = λ d i. let x = seen_from s (cells m) u d (subst (λ (zs : List Cell). In d zs) is i) in subst (λ (z : Cell). num z < nodes) x.2 (k.below x.0 x.1);
      ordered = subst (λ (zs : List Cell). Ordered zs) (sym is) (seen_ordered s (cells m) u k.ordered);
    }
