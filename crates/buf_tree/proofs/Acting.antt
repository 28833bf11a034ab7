-- What a statement that is carried out makes of a buffer.
use Rattle.std.proofs.Common.{◌≡◌, ◌==◌, ℕ, suc, ◌+◌, Bool, true, false, cond, not, ◌&&◌, ◌||◌, List, [], ◌∷◌, ◌++◌, length, map, refl, sym, ◌∙◌, ap, subst, inl, inr, ◌⊎◌, Option, arith}
use Rattle.std.specs.List.{filter}
use Rattle.std.proofs.lemmas.List.{append-nil, map-append}
use Rattle.std.specs.Ordering.{nat_cmp}
use Rattle.std.specs.FinSet as set
use Rattle.std.proofs.Math.Bool.{or-false}
use Rattle.std.proofs.lemmas.Bool.{and_parts, eqb-true, eq-eqb}
use Rattle.gcx_model.specs.declared.item.Off.{Off}
use Rattle.gcx_model.specs.ItemView.{off_tree}
use Rattle.gcx_model.specs.Tree.{Node, serial_of, is_open_at}
use Rattle.gcx_model.specs.Placed.{offs_in, is_own}
use Rattle.gcx_model.specs.Run.{Offed}
use Rattle.gcx_model.specs.Held.{held, is_held, live}
use Rattle.gcx_model.specs.Past.{Past, past_acted, is_ahead, waiting_offs}
use Rattle.base_laws.proofs.Bools.{same_bools}
use Rattle.base_laws.proofs.Members.{in_map, from_map}
use Rattle.past_laws.specs.Pasts.{bases}
use Rattle.tree_laws.proofs.Lists.{In, In-filter}
use Rattle.past_laws.proofs.Awaited.{waiting_law}
use Rattle.past_laws.proofs.PastForms.{past_acts}
use Rattle.node_store.specs.Rows.{changed_at, paid_by}
use Rattle.buf_tree.specs.Row.{Row}
use Rattle.buf_tree.specs.declared.ahead.Ahead.{Ahead}
use Rattle.buf_tree.specs.Rows.{signed_for, IsDead}
use Rattle.buf_tree.specs.Shape.{Store, Cell, num, cells, CellsRise, Shaped, with_at, at_place}
use Rattle.buf_tree.specs.Purge.{is_gone, Keeps, Tidy, Purged}
use Rattle.buf_tree.specs.View.{View, Kept, capped, num_in, serial_at}
use Rattle.buf_tree.specs.Calls.{Signed, role_count, left_out}
use Rattle.buf_tree.specs.Spread.{SpreadView, SpreadsAs, is_alone_in, with_roles}
use Rattle.buf_tree.specs.Sweep.{taken_by}
use Rattle.buf_tree.specs.Withdraw.{Taking, Withdrawn, TellsKeepers}
use Rattle.buf_tree.specs.Stands.{Seen, seen, told, StandsFor, KeepsAs, awaited_by, Due, IsAhead, IsBehind}
use Rattle.buf_tree.proofs.Shaping.{at_place_is, rising_same}
use Rattle.buf_tree.proofs.Changes.{map-map, g_num, g_place, g_parent}
use Rattle.buf_tree.proofs.Keeping.{ready_changed, cells_changed}
use Rattle.buf_tree.proofs.Bridging.{cell_node}
use Rattle.buf_tree.proofs.Signing.{sign_cell, rows_signed}
use Rattle.buf_tree.proofs.Losing as losing
use Rattle.buf_tree.proofs.SpreadTells.{alone_is}
use Rattle.buf_tree.proofs.Spreading.{in_union}
use Rattle.buf_tree.proofs.Losing.{is_base, roles_signed}
use Rattle.buf_tree.proofs.Taking.{bare, bare_alike, bare_rising}
use Rattle.buf_tree.proofs.Withdrawing.{left_is, roles_counted}

-- ---- the row signed

keeps_signed : (k : ℕ) (r : Row) → ((signed_for k r).serial ≡ r.serial) × ((signed_for k r).parent ≡ r.parent)
keeps_signed k r = (refl, refl)

same_num : (k p : ℕ) (c : Cell) → num (with_at (signed_for k) p c) ≡ num c
same_num k p = g_num (signed_for k) p (keeps_signed k)

module _ (k p : ℕ) where
  abbrev g : Cell → Cell
  g = with_at (signed_for k) p

  g_dead : (c : Cell) → IsDead (g c).row → IsDead c.row
  g_dead c = go (c.place == p)
    where
      go : (b : Bool) → IsDead (cond b (record { place = c.place; row = signed_for k c.row }) c).row → IsDead c.row
      go true d = d
      go false d = d

  tidy_signed : (xs : List Cell) → Tidy xs → Tidy (map g xs)
  tidy_signed xs t c i =
      let x = from_map g c xs i in
      subst (λ (z : Cell). Keeps (map g xs) z) x.2 (elim (t x.0 x.1) [
        | inl alive ↦ inl (λ dead. alive (g_dead x.0 dead))
        | inr d ↦ inr (g d.0, in_map g d.0 xs d.1, (λ q. not (same_num k p d.0 q == 0) && (g_parent (signed_for k) p (keeps_signed k) d.0 q == same_num k p x.0 q)) ∙ d.2)
      ])

  same_count : (r : ℕ) (xs : List Cell) → role_count r (map g xs) ≡ role_count r xs
  same_count r [] = refl
  same_count r (x ∷ xs) = ap (λ s. length (cond (set.contains s r) (g x ∷ filter (λ c. set.contains c.row.roles r) (map g xs)) (filter (λ c. set.contains c.row.roles r) (map g xs)))) (roles_signed k p x) ∙ go (set.contains x.row.roles r) (same_count r xs)
    where
      go : (b : Bool) → role_count r (map g xs) ≡ role_count r xs
          → length (cond b (g x ∷ filter (λ c. set.contains c.row.roles r) (map g xs)) (filter (λ c. set.contains c.row.roles r) (map g xs))) ≡ length (cond b (x ∷ filter (λ c. set.contains c.row.roles r) xs) (filter (λ c. set.contains c.row.roles r) xs))
      go true h = ap suc h
      go false h = h

pub kept_signed : (m m' : Store) (k p : ℕ) (gone : List ℕ) (cap count nodes : ℕ) → m' ≡ changed_at (paid_by (signed_for k)) p m → Kept m gone cap count nodes → (c : Cell) → In c (cells m) → c.place ≡ p → Kept m' gone cap count nodes
kept_signed m m' k p gone cap count nodes f h c i e =
    subst (λ (z : Store). Kept z gone cap count nodes) (sym f)
    (let r = ready_changed (signed_for k) (keeps_signed k) (λ r o. o) m p gone cap count nodes h c i e in record {
      shape = r.shape;
      tidy = subst (λ (zs : List Cell). Tidy zs) (sym (cells_changed (signed_for k) (keeps_signed k) (λ r o. o) m p h.shape)) (tidy_signed k p (cells m) h.tidy);
      held = r.held;
      room = r.room;
      below = r.below;
      ordered = r.ordered;
    })

pub cells_signed : (m m' : Store) (k p : ℕ) → m' ≡ changed_at (paid_by (signed_for k)) p m → Shaped m → cells m' ≡ map (with_at (signed_for k) p) (cells m)
cells_signed m m' k p f s = ap cells f ∙ cells_changed (signed_for k) (keeps_signed k) (λ r o. o) m p s

-- ---- what a call answers for

-- the view in between, where the row at the place is signed
pub record Between (v w : View) (k p : ℕ) : Type 0 where
  pub rows : w.rows ≡ map (with_at (signed_for k) p) v.rows
  pub gone : w.gone ≡ v.gone
  pub nodes : w.nodes ≡ v.nodes
  pub taken : w.taken ≡ v.taken
  pub most : w.most ≡ v.most
  pub spread : w.spread ≡ v.spread

pub signed_by : (v u w : View) (k p : ℕ) (loses : Cell → Bool) → CellsRise v.rows → CellsRise u.rows → Between v u k p → Withdrawn u w loses k → ((c : Cell) → In c u.rows → loses c ≡ true → set.contains c.row.roles k ≡ true) → Signed v w k
signed_by v u w k p loses rise rise' b h has = record {
  places = λ c i.
      let x = from_map (bare loses k) c u.rows (In-filter (λ (x : Cell). not (is_gone h.leaves.left x)) c (taken_by loses k u.rows) (subst (λ (zs : List Cell). In c zs) h.leaves.purged.leaves.rows i)).0 in
      let y = from_map (with_at (signed_for k) p) x.0 v.rows (subst (λ (zs : List Cell). In x.0 zs) b.rows x.1) in (
        y.0,
        y.1,
        sym (g_place (signed_for k) p (keeps_signed k) y.0) ∙ ap (λ (z : Cell). z.place) y.2 ∙ (bare_alike loses k x.0).place ∙ ap (λ (z : Cell). z.place) x.2,
        sym (same_num k p y.0) ∙ ap num y.2 ∙ (bare_alike loses k x.0).serial ∙ ap num x.2,
      );
  gone = h.leaves.gone ∙ (λ t. b.gone t ++ left t);
  fewer = (let e = count in omega arith);
  taken = h.taken ∙ ap capped (let e = count in let f = b.taken in omega arith);
  nodes = h.nodes ∙ b.nodes;
  most = h.most ∙ b.most;
  spread = h.spread ∙ b.spread;
}
  where
    both : Cell → Cell
    both c = bare loses k (with_at (signed_for k) p c)

    rows : map both v.rows ≡ taken_by loses k u.rows
    rows = sym (map-map (with_at (signed_for k) p) (bare loses k) v.rows) ∙ ap (taken_by loses k) (sym b.rows)

    count : length (filter loses u.rows) + role_count k w.rows ≡ role_count k v.rows
    count = roles_counted loses k u.rows w.rows h.leaves.left h.leaves.purged has ∙ ap (role_count k) b.rows ∙ same_count k p k v.rows

    left : h.leaves.left ≡ left_out v.rows w.rows
    left = left_is both (λ c. sym (bare_alike loses k (with_at (signed_for k) p c)).serial ∙ same_num k p c) v.rows w.rows h.leaves.left rise
        (subst (λ (zs : List Cell). Purged zs w.rows h.leaves.left) (sym rows) h.leaves.purged)

-- ---- a past for which the buffer stands

module _ (m0 m1 : Store) (v : View) (p : ℕ) (off : Off) (e0 : cells m0 ≡ v.rows) (gone : List ℕ) (cap count nodes : ℕ) (h : Kept m0 gone cap count nodes) (f : m1 ≡ changed_at (paid_by (signed_for off.role.0)) p m0)
    (c0 : Cell) (i0 : In c0 v.rows) (at : c0.place ≡ p) (own : (set.contains c0.row.roles off.own.0 ≡ true) ⊎ (set.contains c0.row.signed off.own.0 ≡ true)) (past : Past) (st : StandsFor v past) (stated : In (off_tree off) (offs_in past.plan.body)) where
  pub here : In c0 (cells m0)
  here = subst (λ (zs : List Cell). In c0 zs) (sym e0) i0

  pub rows0 : map seen (cells m0) ≡ map (told past) (held past.plan past.tree past.acts)
  rows0 = ap (map seen) e0 ∙ st.rows

  pub node : (n : Node) × In n (held past.plan past.tree past.acts) × (seen c0 ≡ told past n)
  node = cell_node past st.is_past (cells m0) h.shape.rising rows0 c0 here

  pub base : In node.0 (bases past (off_tree off))
  base = is_base past st.is_past off stated c0 node.0 node.1 node.2 own

  in_tree : (n : Node) → In n (held past.plan past.tree past.acts) → In n past.tree.nodes
  in_tree n i = (In-filter (is_held past.plan past.tree past.acts) n past.tree.nodes i).0

  kept : Kept m1 gone cap count nodes
  kept = kept_signed m0 m1 off.role.0 p gone cap count nodes f h c0 here at

  rows1 : cells m1 ≡ map (with_at (signed_for off.role.0) p) (cells m0)
  rows1 = cells_signed m0 m1 off.role.0 p f h.shape

  abbrev keeps : ℕ → Bool
  keeps = losing.stays past st.is_past m0 h.shape h.ordered.nested rows0 off stated c0 here p at node.0 node.1 node.2 base

  -- the rows that lose the role
  abbrev pub loses : Cell → Bool
  loses = losing.loses past st.is_past m0 h.shape h.ordered.nested rows0 off stated c0 here p at node.0 node.1 node.2 base

  pub taking : (others : Bool) → TellsKeepers (is_alone_in v.spread off.base.0) (cells m0) p off others → Taking (cells m1) p off others
  taking others law =
      losing.taking past st.is_past m0 h.shape h.ordered.nested rows0 off stated c0 here p at node.0 node.1 node.2 base m1 kept.shape kept.ordered.nested rows1 others (is_alone_in v.spread off.base.0)
      (alone_is past st.is_past v.spread st.spread off.base.0)
      (law c0 here at)

  pub taking_loses : (others : Bool) (law : TellsKeepers (is_alone_in v.spread off.base.0) (cells m0) p off others) → (taking others law).loses ≡ loses
  unfolding taking
  taking_loses others law =
      losing.taking_loses past st.is_past m0 h.shape h.ordered.nested rows0 off stated c0 here p at node.0 node.1 node.2 base m1 kept.shape kept.ordered.nested rows1 others (is_alone_in v.spread off.base.0)
      (alone_is past st.is_past v.spread st.spread off.base.0)
      (law c0 here at)

  pub loses_has : (c : Cell) → loses c ≡ true → set.contains c.row.roles off.role.0 ≡ true
  loses_has c e = (and_parts (set.contains c.row.roles off.role.0) _ e).0

  -- a role from above that isn't this one changes nothing
  pub loses_even : (X : set.FinSet nat_cmp) (c : Cell) → set.contains X off.role.0 ≡ false → loses (with_roles X c) ≡ loses c
  loses_even X c e = ap (λ b. b && not (keeps (num c))) (in_union c.row.roles X off.role.0 ∙ (ap (λ b. set.contains c.row.roles off.role.0 || b) e ∙ or-false (set.contains c.row.roles off.role.0)))

  -- a row loses the role where it has it, and it isn't live at its node then
  pub loses_live : (c : Cell) (n : Node) → In n past.tree.nodes → num c ≡ serial_of n → loses c ≡ (set.contains c.row.roles off.role.0 && not (live past.plan past.tree (past.acts ++ Offed (off_tree off) (serial_of node.0) ∷ []) n off.role.0))
  loses_live c n i e =
      ap (λ b. set.contains c.row.roles off.role.0 && not b)
      (ap keeps e ∙ losing.stays_is past st.is_past m0 h.shape h.ordered.nested rows0 off stated c0 here p at node.0 node.1 node.2 base n i)

  pub serial_here : serial_at p v.rows ≡ serial_of node.0
  serial_here =
      ap num_in (ap (λ (q : ℕ). at_place q v.rows) (sym at) ∙ at_place_is v.rows (subst (λ (zs : List Cell). (a b : Cell) → In a zs → In b zs → a.place ≡ b.place → a ≡ b) e0 h.shape.apart) c0 i0)
      ∙ ap (λ (z : Seen). z.serial) node.2

  rows_acted : (u w : View) → u.rows ≡ cells m1 → Withdrawn u w loses off.role.0 → map seen w.rows ≡ map (told (past_acted (Offed (off_tree off) (serial_of node.0)) past)) (held past.plan past.tree (past.acts ++ Offed (off_tree off) (serial_of node.0) ∷ []))
  rows_acted u w e d =
      rows_signed past st.is_past (off_tree off) stated node.0 base (cells m0) w.rows d.leaves.left (λ c. keeps (num c)) p rows0 each
      (subst (λ (zs : List Cell). CellsRise zs) (sym same) (bare_rising loses off.role.0 (map (with_at (signed_for off.role.0) p) (cells m0)) (subst (λ (zs : List Cell). CellsRise zs) rows1 kept.shape.rising)))
      (subst (λ (zs : List Cell). Purged zs w.rows d.leaves.left) (sym (same ∙ ap (taken_by loses off.role.0) (sym (e ∙ rows1)))) d.leaves.purged)
    where
      same : map (sign_cell (λ c. keeps (num c)) p off.role.0) (cells m0) ≡ taken_by loses off.role.0 (map (with_at (signed_for off.role.0) p) (cells m0))
      same = losing.rows_then past st.is_past m0 h.shape h.ordered.nested rows0 off stated c0 here p at node.0 node.1 node.2 base

      each : (c : Cell) (n : Node) → In c (cells m0) → In n (held past.plan past.tree past.acts) → seen c ≡ told past n
          → (keeps (num c) ≡ live past.plan past.tree (past.acts ++ Offed (off_tree off) (serial_of node.0) ∷ []) n off.role.0) × ((c.place == p) ≡ (serial_of node.0 == serial_of n))
      each c n i j e = (
        ap keeps (ap (λ (z : Seen). z.serial) e) ∙ losing.stays_is past st.is_past m0 h.shape h.ordered.nested rows0 off stated c0 here p at node.0 node.1 node.2 base n (in_tree n j),
        same_bools (c.place == p) (serial_of node.0 == serial_of n)
            (λ q. eq-eqb _ _ (sym (ap (λ (z : Seen). z.serial) node.2) ∙ ap num (h.shape.apart c0 c here i (at ∙ sym (eqb-true c.place p q))) ∙ ap (λ (z : Seen). z.serial) e))
            (λ q. eq-eqb c.place p (ap (λ (z : Cell). z.place) (rising_same (cells m0) h.shape.rising c c0 i here (ap (λ (z : Seen). z.serial) e ∙ sym (eqb-true _ _ q) ∙ sym (ap (λ (z : Seen). z.serial) node.2))) ∙ at)),
      )

  -- the statements that wait then
  waits : (b : Bool) → is_ahead past.tree (Offed (off_tree off) (serial_of node.0)) ≡ b → waiting_offs (past_acted (Offed (off_tree off) (serial_of node.0)) past) ≡ waiting_offs past ++ cond b (record { level = c0.row.level; off = off_tree off } ∷ []) []
  waits b e =
      (waiting_law past st.is_past).2 (off_tree off) node.0 (in_tree node.0 node.1)
      ∙ (λ t. waiting_offs past ++ cond (e t) (record { level = sym (ap (λ (z : Seen). z.level) node.2) t; off = off_tree off } ∷ []) [])

  one_cell : (c : Cell) → In c v.rows → c.place ≡ p → c ≡ c0
  one_cell c i e = h.shape.apart c c0 (subst (λ (zs : List Cell). In c zs) (sym e0) i) here (e ∙ sym at)

  open_here : is_open_at past.tree.at (serial_of node.0) ≡ c0.row.is_open
  open_here = sym (ap (λ (z : Seen). z.is_open) node.2)

  is_behind : IsBehind v p off → is_ahead past.tree (Offed (off_tree off) (serial_of node.0)) ≡ false
  is_behind b = elim b.either [
    | inl e ↦ ap (λ z. z && not (is_own (off_tree off))) (open_here ∙ ap (λ (x : Cell). x.row.is_open) (sym (one_cell b.cell b.among b.place)) ∙ e)
    | inr e ↦ ap (λ z. is_open_at past.tree.at (serial_of node.0) && not z) e ∙ never (is_open_at past.tree.at (serial_of node.0))
  ]
    where
      never : (z : Bool) → (z && false) ≡ false
      never true = refl
      never false = refl

  is_before : IsAhead v p off → is_ahead past.tree (Offed (off_tree off) (serial_of node.0)) ≡ true
  is_before b = (λ t. (open_here ∙ ap (λ (x : Cell). x.row.is_open) (sym (one_cell b.cell b.among b.place)) ∙ b.is_open) t && not (b.steps t))

  acted : (u w : View) → u.rows ≡ cells m1 → u.nodes ≡ v.nodes → u.spread ≡ v.spread → Withdrawn u w loses off.role.0 → map awaited_by w.waiting ≡ waiting_offs (past_acted (Offed (off_tree off) (serial_of node.0)) past)
      → KeepsAs w (past_acted (Offed (off_tree off) (serial_at p v.rows)) past) → StandsFor w (past_acted (Offed (off_tree off) (serial_at p v.rows)) past)
  acted u w e n s d q k = subst (λ (z : ℕ). StandsFor w (past_acted (Offed (off_tree off) z) past)) (sym serial_here) (record {
    is_past = (past_acts past st.is_past).1 (off_tree off) node.0 stated base;
    spread = subst (λ (z : Option SpreadView). SpreadsAs z past.plan) (sym (d.spread ∙ s)) st.spread;
    rows = rows_acted u w e d;
    kept = subst (λ (z : ℕ). KeepsAs w (past_acted (Offed (off_tree off) z) past)) serial_here k (rows_acted u w e d);
    waiting = q;
    nodes = d.nodes ∙ n ∙ st.nodes;
  })

  pub stands_behind : (u w : View) → u.rows ≡ cells m1 → u.nodes ≡ v.nodes → u.spread ≡ v.spread → u.waiting ≡ v.waiting → Withdrawn u w loses off.role.0 → KeepsAs w (past_acted (Offed (off_tree off) (serial_at p v.rows)) past) → IsBehind v p off → StandsFor w (past_acted (Offed (off_tree off) (serial_at p v.rows)) past)
  stands_behind u w e n s q d k b = acted u w e n s d (ap (map awaited_by) (d.waiting ∙ q) ∙ st.waiting ∙ sym (waits false (is_behind b) ∙ append-nil (waiting_offs past))) k

  pub stands_ahead : (u w : View) (a : Ahead) → u.rows ≡ cells m1 → u.nodes ≡ v.nodes → u.spread ≡ v.spread → u.waiting ≡ v.waiting ++ a ∷ [] → a.level ≡ c0.row.level → a.off ≡ off → Withdrawn u w loses off.role.0 → KeepsAs w (past_acted (Offed (off_tree off) (serial_at p v.rows)) past) → IsAhead v p off → StandsFor w (past_acted (Offed (off_tree off) (serial_at p v.rows)) past)
  stands_ahead u w a e n s q l o d k b = acted u w e n s d (
      ap (map awaited_by) (d.waiting ∙ q)
      ∙ map-append awaited_by v.waiting (a ∷ [])
      ∙ (λ t. st.waiting t ++ record { level = l t; off = off_tree (o t) } ∷ [])
      ∙ sym (waits true (is_before b)))
      k

-- ---- a statement that is due

module _ (m0 m1 : Store) (v : View) (p : ℕ) (off : Off) (e0 : cells m0 ≡ v.rows) (gone : List ℕ) (cap count nodes : ℕ) (h : Kept m0 gone cap count nodes) (f : m1 ≡ changed_at (paid_by (signed_for off.role.0)) p m0) (due : Due v p off) where
  cell_there : In due.cell (cells m0)
  cell_there = subst (λ (zs : List Cell). In due.cell zs) (sym e0) due.among

  pub due_kept : Kept m1 gone cap count nodes
  due_kept = kept_signed m0 m1 off.role.0 p gone cap count nodes f h due.cell cell_there due.place

  module _ (u w : View) (is : u.rows ≡ cells m1)
      (withdrawn_for : (past : Past) (st : StandsFor v past) (stated : In (off_tree off) (offs_in past.plan.body)) → Withdrawn u w (loses m0 m1 v p off e0 gone cap count nodes h f due.cell due.among due.place due.base past st stated) off.role.0) where
    pub due_signed : u.gone ≡ v.gone → u.nodes ≡ v.nodes → u.taken ≡ v.taken → u.most ≡ v.most → u.spread ≡ v.spread → Signed v w off.role.0
    due_signed a b c d s = signed_by v u w off.role.0 p (loses m0 m1 v p off e0 gone cap count nodes h f due.cell due.among due.place due.base due.past due.stands due.stated)
        (subst (λ (zs : List Cell). CellsRise zs) e0 h.shape.rising)
        (subst (λ (zs : List Cell). CellsRise zs) (sym is) due_kept.shape.rising)
        (record { rows = is ∙ cells_signed m0 m1 off.role.0 p f h.shape ∙ ap (map (with_at (signed_for off.role.0) p)) e0; gone = a; nodes = b; taken = c; most = d; spread = s })
        (withdrawn_for due.past due.stands due.stated)
        (λ x i. loses_has m0 m1 v p off e0 gone cap count nodes h f due.cell due.among due.place due.base due.past due.stands due.stated x)

    pub due_behind : u.nodes ≡ v.nodes → u.spread ≡ v.spread → u.waiting ≡ v.waiting → IsBehind v p off → (past : Past) → StandsFor v past → In (off_tree off) (offs_in past.plan.body) → KeepsAs w (past_acted (Offed (off_tree off) (serial_at p v.rows)) past) → StandsFor w (past_acted (Offed (off_tree off) (serial_at p v.rows)) past)
    due_behind n s q b past st stated k = stands_behind m0 m1 v p off e0 gone cap count nodes h f due.cell due.among due.place due.base past st stated u w is n s q (withdrawn_for past st stated) k b

    pub due_ahead : (a : Ahead) → u.nodes ≡ v.nodes → u.spread ≡ v.spread → u.waiting ≡ v.waiting ++ a ∷ [] → a.level ≡ due.cell.row.level → a.off ≡ off → IsAhead v p off
        → (past : Past) → StandsFor v past → In (off_tree off) (offs_in past.plan.body) → KeepsAs w (past_acted (Offed (off_tree off) (serial_at p v.rows)) past) → StandsFor w (past_acted (Offed (off_tree off) (serial_at p v.rows)) past)
    due_ahead a n s q l o b past st stated k = stands_ahead m0 m1 v p off e0 gone cap count nodes h f due.cell due.among due.place due.base past st stated u w a is n s q l o (withdrawn_for past st stated) k b
