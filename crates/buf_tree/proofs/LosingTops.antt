-- Which rows keep a spread role no more behind a statement: those below its base that are its tops, and to which no other base leads.
use Rattle.std.proofs.Common.{◌≡◌, ◌==◌, ℕ, Bool, true, false, cond, not, ◌&&◌, ◌||◌, List, [], ◌++◌, map, refl, sym, ◌∙◌, ap, subst, inl, inr, ◌⊎◌, arith, Option}
use Rattle.std.specs.Prelude.{◌↔◌}
use Rattle.std.specs.FinSet as set
use Rattle.std.proofs.lemmas.Bool.{and_parts, and_from, true≢false, false≢true, not-true, cases_Bool, false_from_ne_true, cases_lt}
use Rattle.gcx_model.specs.declared.item.Off.{Off}
use Rattle.gcx_model.specs.ItemView.{off_tree, role_kind}
use Rattle.gcx_model.specs.Core.{OffTree}
use Rattle.gcx_model.specs.Paths.{hits}
use Rattle.gcx_model.specs.Tree.{Tree, Node, serial_of, above, within}
use Rattle.gcx_model.specs.Placed.{offs_in}
use Rattle.gcx_model.specs.Run.{Offed}
use Rattle.gcx_model.specs.Held.{path_of, held, held_tree, is_held, reaches, roles_live}
use Rattle.gcx_model.specs.Past.{Past, IsPast, past_acted, roles_signed}
use Rattle.gcx_model.specs.Variables.{all_child}
use Rattle.base_laws.proofs.Members.{in_map, from_map}
use Rattle.past_laws.specs.Pasts.{bases}
use Rattle.tree_laws.proofs.Lists.{In, In-filter}
use Rattle.tree_laws.proofs.Matches.{Numbered-same}
use Rattle.placed_laws.proofs.Local.{within_is}
use Rattle.past_laws.proofs.Ahead.{open_above}
use Rattle.past_laws.proofs.Bases.{is_grown}
use Rattle.spread_laws.specs.Tops.{is_top, top_off}
use Rattle.spread_laws.proofs.Acted.{tops_by_act, tops_by_rows, alone_takes}
use Rattle.buf_tree.specs.Rows.{signed_for}
use Rattle.buf_tree.specs.Shape.{Store, Cell, num, cells, CellsRise, Shaped, with_at}
use Rattle.buf_tree.specs.Spread.{SpreadView, is_spread_in, seen_rows}
use Rattle.buf_tree.specs.Recount.{Recounting}
use Rattle.buf_tree.specs.Sweep.{Loses}
use Rattle.buf_tree.specs.Stands.{Seen, seen, told}
use Rattle.buf_tree.specs.Walk.{Nested, Inside, Within}
use Rattle.buf_tree.specs.Ways.{Tells, TreeOf, IsKept, IsKeptBut, BaseAbove, BaseBelow, is_waiting}
use Rattle.buf_tree.proofs.Bridging.{cell_node, tells, past_tree, waits_row, row_waits}
use Rattle.buf_tree.proofs.Climbing.{tells_serial, tells_descends, tells_same}
use Rattle.buf_tree.proofs.Lifting.{seen_in, seen_from, seen_rising, tells_kept, tree_kept, waits_same}
use Rattle.buf_tree.proofs.Losing.{node_for, node_for_is}
use Rattle.buf_tree.proofs.Passing.{node_within, within_node}
use Rattle.buf_tree.proofs.Reaching.{gives_above}
use Rattle.buf_tree.proofs.Signs.{g_num, g_parent, g_kind, g_place, tells_map, tree_signed, kept_signed}
use Rattle.buf_tree.proofs.Spreading.{Upward, upward, spread_cell}
use Rattle.buf_tree.proofs.Standing.{pair_left}
use Rattle.buf_tree.proofs.Ways.{chain_low}

module _ (past : Past) (is : IsPast past) (m0 : Store) (s0 : Shaped m0) (nest0 : Nested (cells m0)) (sv : Option SpreadView) (rows : map seen (seen_rows sv (cells m0)) ≡ map (told past) (held past.plan past.tree past.acts))
    (off top : Off) (stated : In (off_tree off) (offs_in past.plan.body)) (top_is : off_tree top ≡ top_off (off_tree off)) (plain : is_spread_in sv off.own.0 ≡ false)
    (keeps : (d : Cell) (n : Node) → In d (cells m0) → In n (held past.plan past.tree past.acts) → num d ≡ serial_of n → set.contains d.row.roles off.role.0 ≡ is_top past (off_tree off) n)
    (c0 : Cell) (i0 : In c0 (cells m0)) (p : ℕ) (at : c0.place ≡ p) (m : Node) (mi : In m (held past.plan past.tree past.acts)) (me : num c0 ≡ serial_of m) (base : In m (bases past (off_tree off))) where
  abbrev ks : List Cell
  ks = cells m0

  abbrev rs : List Cell
  rs = seen_rows sv (cells m0)

  abbrev ns : List Node
  ns = held past.plan past.tree past.acts

  abbrev T : Tree
  T = held_tree past.plan past.tree past.acts

  -- the node is a top behind the statement
  abbrev later : Node → Bool
  later n = is_top (past_acted (Offed (off_tree off) (serial_of m)) past) (off_tree off) n

  -- the rows that keep the role no more
  abbrev pub loses : Cell → Bool
  loses d = set.contains d.row.roles off.role.0 && not (is_top (past_acted (Offed (off_tree off) (serial_of m)) past) (off_tree off) (node_for past.tree.nodes (num d)))

  abbrev g : Cell → Cell
  g = with_at (signed_for top.role.0) p

  up : Upward [] (cells m0)
  up = upward (cells m0) s0.rising s0.up

  rise : CellsRise rs
  rise = seen_rising sv (cells m0) up s0.rising

  inside : (n : Node) → In n ns → In n past.tree.nodes
  inside n i = (In-filter (is_held past.plan past.tree past.acts) n past.tree.nodes i).0

  one : (a b : Node) → In a past.tree.nodes → In b past.tree.nodes → serial_of a ≡ serial_of b → a ≡ b
  one = Numbered-same 0 past.tree.nodes (is_grown past is).numbered

  role_is : top.role.0 ≡ off.role.0
  role_is = ap (λ (o : OffTree). o.role) top_is

  own_is : top.own.0 ≡ off.own.0
  own_is = ap (λ (o : OffTree). o.own) top_is

  waits_is : (c : Cell) → is_waiting c.row top ≡ is_waiting c.row off
  waits_is c = λ t. is_waiting' c (own_is t) (role_is t)
    where
      is_waiting' : Cell → ℕ → ℕ → Bool
      is_waiting' c own role = (set.contains c.row.roles own || set.contains c.row.signed own) && not (set.contains c.row.signed role)

  hit_is : (b n : Node) → reaches T (off_tree top) b n ≡ hits (serial_of b) (off.rel ++ off.tail) n
  hit_is b n = ap (λ (o : OffTree). reaches T o b n) top_is

  -- the node of a row, and the row of a node
  node_of : (d : Cell) → In d ks → (n : Node) × In n ns × (num d ≡ serial_of n) × Tells ks d n
  node_of d i =
      let f : Cell = spread_cell (is_spread_in sv) rs d in
      let r = cell_node past is rs rise rows f (seen_in sv ks up d i) in
      (r.0, r.1, ap (λ (z : Seen). z.serial) r.2, tells_kept sv ks up d r.0 (tells past is rs rise rows f r.0 r.1 r.2))

  row_of : (n : Node) → In n ns → (d : Cell) × In d ks × (seen (spread_cell (is_spread_in sv) (seen_rows sv (cells m0)) d) ≡ told past n) × Tells ks d n
  row_of n i =
      let r = pair_left (told past) seen ns rs (sym rows) n i in
      let x = seen_from sv ks up r.0 r.1 in
      let e = ap seen x.2 ∙ sym r.2 in
      (x.0, x.1, e, tells_kept sv ks up x.0 n (tells past is rs rise rows (spread_cell (is_spread_in sv) rs x.0) n i e))

  tree_then : TreeOf (cells m0) T
  tree_then = tree_kept sv ks up T (past_tree past is rs rise rows)

  -- the rows tell which nodes are tops behind the statement
  tops_then : (n : Node) → In n ns → (later n ≡ true) ↔ IsKeptBut (cells m0) T top n (serial_of m)
  tops_then n i = (to, from)
    where
      law : (later n ≡ true) ↔ ((b : Node) × In b ns × (In off.own.0 (roles_live past.plan past.tree past.acts b) ⊎ In off.own.0 (roles_signed past.plan past.acts b)) × (In off.role.0 (roles_signed past.plan past.acts b) → ⊥)
          × (serial_of b ≡ serial_of m → ⊥) × (hits (serial_of b) (off.rel ++ off.tail) n ≡ true))
      law = tops_by_rows past is (off_tree off) stated m base n i

      to : later n ≡ true → IsKeptBut (cells m0) T top n (serial_of m)
      to h =
          let k = law.0 h in
          let c = row_of k.0 k.1 in
          record {
            place = c.0.place;
            base = k.0;
            at = record { cell = c.0; among = c.1; place = refl; tells = c.3 };
            other = k.4;
            waits = waits_is c.0 ∙ (sym (waits_same sv ks up off plain c.0) ∙ row_waits past off k.0 (spread_cell (is_spread_in sv) rs c.0) c.2 k.2 k.3);
            reached = hit_is k.0 n ∙ k.5;
          }

      from : IsKeptBut (cells m0) T top n (serial_of m) → later n ≡ true
      from k =
          let f : Cell = spread_cell (is_spread_in sv) rs k.at.cell in
          let r = cell_node past is rs rise rows f (seen_in sv ks up k.at.cell k.at.among) in
          let same : r.0 ≡ k.base = tells_same (cells m0) s0.rising k.at.cell r.0 k.base (tells_kept sv ks up k.at.cell r.0 (tells past is rs rise rows f r.0 r.1 r.2)) k.at.tells in
          let w = waits_row past off r.0 f r.2 (waits_same sv ks up off plain k.at.cell ∙ (sym (waits_is k.at.cell) ∙ k.waits)) in
          let hit : hits (serial_of r.0) (off.rel ++ off.tail) n ≡ true = subst (λ (b : Node). hits (serial_of b) (off.rel ++ off.tail) n ≡ true) (sym same) (sym (hit_is k.base n) ∙ k.reached) in
          law.1 (r.0, r.1, w.0, w.1, (λ e. k.other (sym (ap serial_of same) ∙ e)), hit)

  module _ (m1 : Store) (s1 : Shaped m1) (nest1 : Nested (cells m1)) (e1 : cells m1 ≡ map (with_at (signed_for top.role.0) p) (cells m0)) where
    gn : (c : Cell) → num (g c) ≡ num c
    gn = g_num (cells m0) s0.rising s0.apart top p

    in_now : (d : Cell) → In d (cells m0) → In (g d) (cells m1)
    in_now d i = subst (λ (zs : List Cell). In (g d) zs) (sym e1) (in_map g d (cells m0) i)

    was : (d : Cell) → In d (cells m1) → (c : Cell) × In c (cells m0) × (g c ≡ d)
    was d i = from_map g d (cells m0) (subst (λ (zs : List Cell). In d zs) e1 i)

    tells_now : (d : Cell) (n : Node) → Tells (cells m0) d n → Tells (cells m1) (g d) n
    tells_now d n t = subst (λ (zs : List Cell). Tells zs (g d) n) (sym e1) (tells_map g gn (g_parent (cells m0) s0.rising s0.apart top p) (g_kind (cells m0) s0.rising s0.apart top p) (cells m0) d n t)

    tree_now : TreeOf (cells m1) T
    tree_now = subst (λ (zs : List Cell). TreeOf zs T) (sym e1) (tree_signed (cells m0) s0.rising s0.apart top p T tree_then)

    base_tells : Tells (cells m0) c0 m
    base_tells =
        let r = node_of c0 i0 in
        subst (λ (x : Node). Tells (cells m0) c0 x) (one r.0 m (inside r.0 r.1) (inside m mi) (sym r.2 ∙ me)) r.3

    top_kept : (n : Node) → In n ns → later n ≡ true → IsKept (cells m1) T top n
    top_kept n i h = subst (λ (zs : List Cell). IsKept zs T top n) (sym e1) ((kept_signed (cells m0) s0.rising s0.apart top p T n c0 i0 at).1 (subst (λ (z : ℕ). IsKeptBut (cells m0) T top n z) (sym me) ((tops_then n i).0 h)))

    kept_top : (n : Node) → In n ns → IsKept (cells m1) T top n → later n ≡ true
    kept_top n i h = (tops_then n i).1 (subst (λ (z : ℕ). IsKeptBut (cells m0) T top n z) me ((kept_signed (cells m0) s0.rising s0.apart top p T n c0 i0 at).0 (subst (λ (zs : List Cell). IsKept zs T top n) e1 h)))

    module _ (d : Cell) (i : In d (cells m0)) where
      abbrev n : Node
      n = (node_of d i).0

      ni : In n ns
      ni = (node_of d i).1

      d_tells : Tells (cells m0) d n
      d_tells = (node_of d i).3

      roles_now : (g d).row.roles ≡ d.row.roles
      roles_now = go (d.place == p)
        where
          go : (b : Bool) → (cond b (record { place = d.place; row = signed_for top.role.0 d.row }) d).row.roles ≡ d.row.roles
          go true = refl
          go false = refl

      later_here : is_top (past_acted (Offed (off_tree off) (serial_of m)) past) (off_tree off) (node_for past.tree.nodes (num (g d))) ≡ later n
      later_here = ap later (ap (node_for past.tree.nodes) (gn d ∙ (node_of d i).2) ∙ node_for_is past.tree.nodes one n (inside n ni))

      loses_parts : loses (g d) ≡ true → (set.contains (g d).row.roles off.role.0 ≡ true) × (later n ≡ false)
      loses_parts h =
          let q = and_parts (set.contains (g d).row.roles off.role.0) (not (is_top (past_acted (Offed (off_tree off) (serial_of m)) past) (off_tree off) (node_for past.tree.nodes (num (g d))))) h in
          (q.0, sym later_here ∙ not-true _ q.1)

      loses_from : set.contains (g d).row.roles off.role.0 ≡ true → later n ≡ false → loses (g d) ≡ true
      loses_from h f = and_from (set.contains (g d).row.roles off.role.0) (not (is_top (past_acted (Offed (off_tree off) (serial_of m)) past) (off_tree off) (node_for past.tree.nodes (num (g d))))) h (ap not (later_here ∙ f))

      was_top : set.contains (g d).row.roles off.role.0 ≡ true → is_top past (off_tree off) n ≡ true
      was_top h = sym (keeps d n i ni (node_of d i).2) ∙ (ap (λ z. set.contains z off.role.0) (sym roles_now) ∙ h)

      -- what goes lies below the base
      below : set.contains (g d).row.roles off.role.0 ≡ true → later n ≡ false → In m (above n)
      below h f = elim (cases_Bool (within (serial_of m) n)) [
        | inl y ↦ within_is past.tree (is_grown past is) m n (inside m mi) (inside n ni) y
        | inr y ↦ absurd (false≢true (sym f ∙ ((tops_by_act past is (off_tree off) stated m base n (inside n ni)).2 (λ u. true≢false (sym (open_above n m u) ∙ y)) ∙ was_top h)))
      ]

      lose_within : loses (g d) ≡ true → Within (cells m1) (g c0) (g d)
      lose_within h =
          let q = loses_parts h in
          within_node m1 s1 nest1 (g c0) (g d) m n (in_now c0 i0) (in_now d i) (tells_now c0 m base_tells) (tells_now d n d_tells) (below q.0 q.1)

      -- a base that leads to it stands above or below this one
      kept_other : Within (cells m1) (g c0) (g d) → later n ≡ true → BaseAbove (cells m0) off c0 ⊎ BaseBelow (cells m0) off c0
      kept_other w h =
          let j = node_within m1 s1 nest1 (g c0) (g d) m (in_now c0 i0) (in_now d i) (tells_now c0 m base_tells) w in
          let same : j.0 ≡ n = tells_same (cells m1) s1.rising (g d) j.0 n j.1 (tells_now d n d_tells) in
          let up : In m (above n) = subst (λ (x : Node). In m (above x)) same j.2 in
          let b = (tops_then n ni).0 h in
          let bt = tree_then.told b.place b.base b.at in
          let bup : In b.base (above n) = gives_above m0 s0 T tree_then b.base n top.rel top.tail (role_kind top.kind) bt ni b.reached in
          let desc = tells_descends (cells m0) d n d_tells in
          elim (cases_lt (serial_of m) (serial_of b.base)) [
            | inl lo ↦ inr (b.at.cell, b.at.among, inner c0 b.at.cell m b.base i0 b.at.among base_tells b.at.tells (chain_low n b.base m desc bup up (omega arith)) (λ z. b.other (sym z)), sym (waits_is b.at.cell) ∙ b.waits)
            | inr hi ↦ inl (b.at.cell, b.at.among, inner b.at.cell c0 b.base m b.at.among i0 b.at.tells base_tells (chain_low n m b.base desc up bup hi) b.other, sym (waits_is b.at.cell) ∙ b.waits)
          ]
        where
          inner : (a c : Cell) (x y : Node) → In a (cells m0) → In c (cells m0) → Tells (cells m0) a x → Tells (cells m0) c y → In x (above y) → (serial_of x ≡ serial_of y → ⊥) → Inside (cells m0) a c
          inner a c x y ia ic ta tc u n = elim (within_node m0 s0 nest0 a c x y ia ic ta tc u) [
            | inl z ↦ absurd (n (sym (tells_serial (cells m0) a x ta) ∙ (ap num z ∙ tells_serial (cells m0) c y tc)))
            | inr z ↦ z
          ]

      -- below the base, where its path has no descendant step, none leads to it
      alone_not : all_child (path_of past.plan (off_tree off).base) ≡ true → Within (cells m1) (g c0) (g d) → later n ≡ false
      alone_not c w =
          let j = node_within m1 s1 nest1 (g c0) (g d) m (in_now c0 i0) (in_now d i) (tells_now c0 m base_tells) w in
          let same : j.0 ≡ n = tells_same (cells m1) s1.rising (g d) j.0 n j.1 (tells_now d n d_tells) in
          (alone_takes past is (off_tree off) stated m base c n (inside n ni) (subst (λ (x : Node). In m (above x)) same j.2)).1

    module _ (others alone : Bool) (alone_is : alone ≡ true → all_child (path_of past.plan (off_tree off).base) ≡ true) (law : (others ≡ true) ↔ ((alone ≡ false) × (BaseAbove (cells m0) off c0 ⊎ BaseBelow (cells m0) off c0)))
        (apart : top.own.0 ≡ top.role.0 → ⊥) where
      each_row : (d : Cell) → In d (cells m0) → (loses (g d) ≡ true) ↔ Loses (cells m1) T top others (g c0) (g d)
      each_row d i = (to, from)
        where
          to : loses (g d) ≡ true → Loses (cells m1) T top others (g c0) (g d)
          to h = let q = loses_parts d i h in record {
            within = lose_within d i h;
            has = ap (set.contains (g d).row.roles) role_is ∙ q.0;
            unkept = λ _ j t kept.
                let same : j ≡ n d i = tells_same (cells m1) s1.rising (g d) j (n d i) t (tells_now d (n d i) (d_tells d i)) in
                false≢true (sym q.1 ∙ kept_top (n d i) (ni d i) (subst (λ (x : Node). IsKept (cells m1) T top x) same kept));
          }

          from : Loses (cells m1) T top others (g c0) (g d) → loses (g d) ≡ true
          from l = loses_from d i (ap (set.contains (g d).row.roles) (sym role_is) ∙ l.has) (false_from_ne_true _ (λ h. elim (cases_Bool others) [
            | inl y ↦ l.unkept y (n d i) (tells_now d (n d i) (d_tells d i)) (top_kept (n d i) (ni d i) h)
            | inr y ↦ elim (cases_Bool alone) [
              | inl z ↦ false≢true (sym (alone_not d i (alone_is z) l.within) ∙ h)
              | inr z ↦ false≢true (sym y ∙ law.1 (z, kept_other d i l.within h))
            ]
          ]))

      pub recounting : Recounting (cells m1) p top others
      recounting = record {
        tree = T;
        base = g c0;
        loses = loses;
        told = tree_now;
        among = in_now c0 i0;
        place = g_place (cells m0) s0.rising s0.apart top p c0 ∙ at;
        apart = apart;
        each = record {
          each = λ d i. let x = was d i in subst (λ (y : Cell). (loses y ≡ true) ↔ Loses (cells m1) T top others (g c0) y) x.2 (each_row x.0 x.1);
          told = λ d i. let x = was d i in (n x.0 x.1, subst (λ (y : Cell). Tells (cells m1) y (n x.0 x.1)) x.2 (tells_now x.0 (n x.0 x.1) (d_tells x.0 x.1)));
        };
      }

      -- whose test is this one
      pub recounting_loses : recounting.loses ≡ loses
      unfolding recounting
      recounting_loses = refl
