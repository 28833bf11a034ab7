-- Which rows lose the role of a statement that is carried out at a node, as a past tells it.
use Rattle.std.proofs.Common.{◌≡◌, ◌==◌, ℕ, Bool, true, false, cond, not, ◌&&◌, List, [], ◌∷◌, ◌++◌, map, refl, sym, ◌∙◌, ap, subst, inl, inr, ◌⊎◌, arith}
use Rattle.std.specs.Prelude.{◌↔◌}
use Rattle.std.specs.Ordering.{nat_cmp}
use Rattle.std.specs.Cmp.{nat_cmp_total, unsigned_tied}
use Rattle.std.specs.FinSet as set
use Rattle.std.specs.FinSet.{FinSet, same_set, contains-remove, nat_cmp-IsAntisymmetric}
use Rattle.std.proofs.lemmas.Bool.{and_parts, and_from, false≢true, not-true, eqb-true, eq-eqb, ne_eqb, cases_eq, cases_Bool, false_from_ne_true, cases_lt}
use Rattle.gcx_base.specs.declared.steps.Step.{Step}
use Rattle.gcx_model.specs.declared.item.Off.{Off}
use Rattle.gcx_model.specs.ItemView.{off_tree, role_kind}
use Rattle.gcx_model.specs.Core.{RoleTarget, Own, First, Whole, OffTree}
use Rattle.gcx_model.specs.Tree.{Tree, Node, Root, serial_of, above}
use Rattle.gcx_model.specs.Placed.{offs_in, is_own, is_own_kind, is_empty}
use Rattle.gcx_model.specs.Run.{Offed}
use Rattle.gcx_model.specs.Held.{held, held_tree, is_held, live, reaches, gives, path_of}
use Rattle.gcx_model.specs.Past.{Past, IsPast}
use Rattle.gcx_model.specs.Variables.{all_child}
use Rattle.base_laws.proofs.Members.{in_map, from_map, map_same}
use Rattle.past_laws.specs.Pasts.{bases}
use Rattle.tree_laws.proofs.Lists.{In, In-filter}
use Rattle.tree_laws.proofs.Matches.{Numbered-same, Matches-in}
use Rattle.past_laws.proofs.Bases.{is_grown, live_by_bases, own_tells}
use Rattle.past_laws.proofs.Changes.{live_by_act}
use Rattle.past_laws.proofs.RowFacts.{bases_above, row_tells}
use Rattle.spread_laws.proofs.Acted.{alone_takes}
use Rattle.buf_tree.specs.Rows.{signed_for, untaken}
use Rattle.buf_tree.specs.Shape.{Store, Cell, num, cells, Shaped, with_at}
use Rattle.buf_tree.specs.Walk.{Nested, Inside, Within}
use Rattle.buf_tree.specs.Ways.{Tells, TreeOf, IsKept, IsKeptBut, BaseAbove, BaseBelow}
use Rattle.buf_tree.specs.Sweep.{Loses, taken_by}
use Rattle.buf_tree.specs.Withdraw.{Taking, MayKeep}
use Rattle.buf_tree.specs.Stands.{Seen, seen, told}
use Rattle.buf_tree.proofs.Shaping.{rising_same}
use Rattle.buf_tree.proofs.Changes.{map-map}
use Rattle.buf_tree.proofs.Climbing.{tells_serial, tells_descends, tells_same}
use Rattle.buf_tree.proofs.Ways.{chain_low}
use Rattle.buf_tree.proofs.Reaching.{gives_above}
use Rattle.buf_tree.proofs.Passing.{node_within, within_node}
use Rattle.buf_tree.proofs.Signs.{g_num, g_parent, g_kind, g_place, tells_map, tree_signed, kept_signed}
use Rattle.buf_tree.proofs.Bridging.{has_from, cell_node, tells, past_tree, kept_live}
use Rattle.buf_tree.proofs.Signing.{has_live, sign_row, sign_cell}

-- the node of this number
abbrev pub node_for : List Node → ℕ → Node
node_for [] k = Root
node_for (n ∷ ns) k = cond (serial_of n == k) n (node_for ns k)

pub node_for_is : (ns : List Node) → ((a b : Node) → In a ns → In b ns → serial_of a ≡ serial_of b → a ≡ b) → (n : Node) → In n ns → node_for ns (serial_of n) ≡ n
node_for_is [] one n i = absurd i
node_for_is (x ∷ ns) one n i = go (serial_of x == serial_of n) refl i (λ j. node_for_is ns (λ a b k l. one a b (inr k) (inr l)) n j)
  where
    go : (b : Bool) → (serial_of x == serial_of n) ≡ b → In n (x ∷ ns) → (In n ns → node_for ns (serial_of n) ≡ n) → cond b x (node_for ns (serial_of n)) ≡ n
    go true e j ih = one x n (inl refl) j (eqb-true _ _ e)
    go false e (inl f) ih = absurd (false≢true (sym e ∙ eq-eqb _ _ (ap serial_of f)))
    go false e (inr j) ih = ih j

-- a statement that takes back its base's own role reaches the base alone
own_reaches : (P : Tree) (o : OffTree) (b n : Node) → is_own o ≡ true → reaches P o b n ≡ (serial_of n == serial_of b)
own_reaches P o b n h = go o.kind o.rel h
  where
    go : (k : RoleTarget) (rel : List Step) → (is_own_kind k && is_empty rel) ≡ true → gives P (serial_of b) rel o.tail k n ≡ (serial_of n == serial_of b)
    go Own [] e = refl
    go Own (x ∷ rel) e = absurd (false≢true e)
    go First rel e = absurd (false≢true e)
    go Whole rel e = absurd (false≢true e)

-- a role that isn't there is taken in vain
pub remove_none : (S : FinSet nat_cmp) (k : ℕ) → set.contains S k ≡ false → set.remove S k ≡ S
remove_none S k e = same_set nat_cmp_total nat_cmp-IsAntisymmetric (set.remove S k) S (λ r. contains-remove nat_cmp_total S k r ∙ elim (cases_eq r k) [
  | inl d ↦ ap (λ b. not b && set.contains S r) (unsigned_tied r k ∙ eq-eqb r k d) ∙ sym (ap (set.contains S) d ∙ e)
  | inr d ↦ ap (λ b. not b && set.contains S r) (unsigned_tied r k ∙ ne_eqb r k d)
])

-- the base's row is that of a base
pub is_base : (past : Past) (is : IsPast past) (off : Off) (stated : In (off_tree off) (offs_in past.plan.body)) (c : Cell) (m : Node) → In m (held past.plan past.tree past.acts) → seen c ≡ told past m
    → (set.contains c.row.roles off.own.0 ≡ true) ⊎ (set.contains c.row.signed off.own.0 ≡ true) → In m (bases past (off_tree off))
is_base past is off stated c m i e h =
    (own_tells past is (off_tree off) stated m (In-filter (is_held past.plan past.tree past.acts) m past.tree.nodes i).0).0.1
    (elim h [
      | inl a ↦ inl ((row_tells past is m off.own.0).0.0 (has_from _ _ (sym (ap (λ (z : Seen). set.contains z.roles off.own.0) e) ∙ a)))
      | inr a ↦ inr ((row_tells past is m off.own.0).1.0 (has_from _ _ (sym (ap (λ (z : Seen). set.contains z.signed off.own.0) e) ∙ a)))
    ])

-- a signed row has its roles
pub roles_signed : (k p : ℕ) (c : Cell) → (with_at (signed_for k) p c).row.roles ≡ c.row.roles
roles_signed k p c = go (c.place == p)
  where
    go : (b : Bool) → (cond b (record { place = c.place; row = signed_for k c.row }) c).row.roles ≡ c.row.roles
    go true = refl
    go false = refl

module _ (past : Past) (is : IsPast past) (m0 : Store) (s0 : Shaped m0) (nest0 : Nested (cells m0)) (rows : map seen (cells m0) ≡ map (told past) (held past.plan past.tree past.acts)) (off : Off) (stated : In (off_tree off) (offs_in past.plan.body))
    (c0 : Cell) (i0 : In c0 (cells m0)) (p : ℕ) (at : c0.place ≡ p) (m : Node) (mi : In m (held past.plan past.tree past.acts)) (me : seen c0 ≡ told past m) (base : In m (bases past (off_tree off))) where
  abbrev s : OffTree
  s = off_tree off

  abbrev k : ℕ
  k = off.role.0

  abbrev ns : List Node
  ns = held past.plan past.tree past.acts

  abbrev T : Tree
  T = held_tree past.plan past.tree past.acts

  -- the role is live there behind the statement
  abbrev later : Node → Bool
  later n = live past.plan past.tree (past.acts ++ Offed (off_tree off) (serial_of m) ∷ []) n off.role.0

  abbrev pub stays : ℕ → Bool
  stays j = live past.plan past.tree (past.acts ++ Offed (off_tree off) (serial_of m) ∷ []) (node_for past.tree.nodes j) off.role.0

  -- the rows that lose it
  abbrev pub loses : Cell → Bool
  loses d = set.contains d.row.roles off.role.0 && not (stays (num d))

  abbrev g : Cell → Cell
  g = with_at (signed_for off.role.0) p

  inside : (n : Node) → In n ns → In n past.tree.nodes
  inside n i = (In-filter (is_held past.plan past.tree past.acts) n past.tree.nodes i).0

  one : (a b : Node) → In a past.tree.nodes → In b past.tree.nodes → serial_of a ≡ serial_of b → a ≡ b
  one = Numbered-same 0 past.tree.nodes (is_grown past is).numbered

  pub stays_is : (n : Node) → In n past.tree.nodes → stays (serial_of n) ≡ live past.plan past.tree (past.acts ++ Offed (off_tree off) (serial_of m) ∷ []) n off.role.0
  stays_is n i = ap later (node_for_is past.tree.nodes one n i)

  has_role : (c : Cell) (n : Node) → seen c ≡ told past n → (r : ℕ) → set.contains c.row.roles r ≡ live past.plan past.tree past.acts n r
  has_role c n e r = ap (λ (z : Seen). set.contains z.roles r) e ∙ has_live past is n r

  serial : (c : Cell) (n : Node) → seen c ≡ told past n → num c ≡ serial_of n
  serial c n e = ap (λ (z : Seen). z.serial) e

  -- a node that loses the role is reached from the base
  lost_reached : (n : Node) → In n past.tree.nodes → live past.plan past.tree past.acts n off.role.0 ≡ true → later n ≡ false → reaches past.tree (off_tree off) m n ≡ true
  lost_reached n i h f =
      let b = (live_by_bases past is (off_tree off) stated n i).0 h in
      elim (cases_eq (serial_of b.0) (serial_of m)) [
        | inl e ↦ (
            let same : b.0 ≡ m = one b.0 m (Matches-in past.tree 0 _ b.0 b.1).0 (inside m mi) e in
            subst (λ (x : Node). reaches past.tree (off_tree off) x n ≡ true) same b.3)
        | inr d ↦ absurd (false≢true (sym f ∙ (live_by_act past is (off_tree off) stated m base n i).1.1 (b.0, b.1, b.2, d, b.3)))
      ]

  module _ (m1 : Store) (s1 : Shaped m1) (nest1 : Nested (cells m1)) (e1 : cells m1 ≡ map (with_at (signed_for off.role.0) p) (cells m0)) where
    gn : (c : Cell) → num (g c) ≡ num c
    gn = g_num (cells m0) s0.rising s0.apart off p

    in_now : (d : Cell) → In d (cells m0) → In (g d) (cells m1)
    in_now d i = subst (λ (zs : List Cell). In (g d) zs) (sym e1) (in_map g d (cells m0) i)

    was : (d : Cell) → In d (cells m1) → (c : Cell) × In c (cells m0) × (g c ≡ d)
    was d i = from_map g d (cells m0) (subst (λ (zs : List Cell). In d zs) e1 i)

    tells_then : (d : Cell) (n : Node) → In n ns → seen d ≡ told past n → Tells (cells m0) d n
    tells_then = tells past is (cells m0) s0.rising rows

    tells_now : (d : Cell) (n : Node) → In n ns → seen d ≡ told past n → Tells (cells m1) (g d) n
    tells_now d n i e = subst (λ (zs : List Cell). Tells zs (g d) n) (sym e1) (tells_map g gn (g_parent (cells m0) s0.rising s0.apart off p) (g_kind (cells m0) s0.rising s0.apart off p) (cells m0) d n (tells_then d n i e))

    tree_then : TreeOf (cells m0) T
    tree_then = past_tree past is (cells m0) s0.rising rows

    tree_now : TreeOf (cells m1) T
    tree_now = subst (λ (zs : List Cell). TreeOf zs T) (sym e1) (tree_signed (cells m0) s0.rising s0.apart off p T tree_then)

    -- the rows tell where the role is live then
    kept_then : (n : Node) → In n ns → (later n ≡ true) ↔ IsKeptBut (cells m0) T off n (serial_of m)
    kept_then = kept_live past is (cells m0) s0.rising rows off stated m base

    live_kept : (n : Node) → In n ns → later n ≡ true → IsKept (cells m1) T off n
    live_kept n i h = subst (λ (zs : List Cell). IsKept zs T off n) (sym e1) ((kept_signed (cells m0) s0.rising s0.apart off p T n c0 i0 at).1 (subst (λ (z : ℕ). IsKeptBut (cells m0) T off n z) (sym (serial c0 m me)) ((kept_then n i).0 h)))

    kept_is_live : (n : Node) → In n ns → IsKept (cells m1) T off n → later n ≡ true
    kept_is_live n i h = (kept_then n i).1 (subst (λ (z : ℕ). IsKeptBut (cells m0) T off n z) (serial c0 m me) ((kept_signed (cells m0) s0.rising s0.apart off p T n c0 i0 at).0 (subst (λ (zs : List Cell). IsKept zs T off n) e1 h)))

    -- what tells of the row d, which has the node n
    module _ (d : Cell) (i : In d (cells m0)) (n : Node) (ni : In n ns) (e : seen d ≡ told past n) where
      stays_here : stays (num (g d)) ≡ later n
      stays_here = ap stays (gn d ∙ serial d n e) ∙ stays_is n (inside n ni)

      loses_parts : loses (g d) ≡ true → (set.contains (g d).row.roles off.role.0 ≡ true) × (later n ≡ false)
      loses_parts h =
          let q = and_parts (set.contains (g d).row.roles off.role.0) (not (stays (num (g d)))) h in
          (q.0, sym stays_here ∙ not-true _ q.1)

      loses_from : set.contains (g d).row.roles off.role.0 ≡ true → later n ≡ false → loses (g d) ≡ true
      loses_from h f = and_from (set.contains (g d).row.roles off.role.0) (not (stays (num (g d)))) h (ap not (stays_here ∙ f))

      was_live : set.contains (g d).row.roles off.role.0 ≡ true → live past.plan past.tree past.acts n off.role.0 ≡ true
      was_live h = sym (has_role d n e off.role.0) ∙ ap (λ z. set.contains z off.role.0) (sym (roles_signed off.role.0 p d)) ∙ h

      below : set.contains (g d).row.roles off.role.0 ≡ true → later n ≡ false → In m (above n)
      below h f = (bases_above past is (off_tree off) m base n (inside n ni)).0 (lost_reached n (inside n ni) (was_live h) f)

      lose_within : loses (g d) ≡ true → Within (cells m1) (g c0) (g d)
      lose_within h =
          let q = loses_parts h in
          within_node m1 s1 nest1 (g c0) (g d) m n (in_now c0 i0) (in_now d i) (tells_now c0 m mi me) (tells_now d n ni e) (below q.0 q.1)

      -- a base that keeps the role stands above or below this one
      kept_other : Within (cells m1) (g c0) (g d) → later n ≡ true → BaseAbove (cells m0) off c0 ⊎ BaseBelow (cells m0) off c0
      kept_other w h =
          let j = node_within m1 s1 nest1 (g c0) (g d) m (in_now c0 i0) (in_now d i) (tells_now c0 m mi me) w in
          let same : j.0 ≡ n = tells_same (cells m1) s1.rising (g d) j.0 n j.1 (tells_now d n ni e) in
          let up : In m (above n) = subst (λ (x : Node). In m (above x)) same j.2 in
          let b = (kept_then n ni).0 h in
          let bt = tree_then.told b.place b.base b.at in
          let bup : In b.base (above n) = gives_above m0 s0 T tree_then b.base n off.rel off.tail (role_kind off.kind) bt ni b.reached in
          let desc = tells_descends (cells m0) d n (tells_then d n ni e) in
          elim (cases_lt (serial_of m) (serial_of b.base)) [
            | inl lo ↦ inr (b.at.cell, b.at.among, inner c0 b.at.cell m b.base i0 b.at.among (tells_then c0 m mi me) b.at.tells (chain_low n b.base m desc bup up (omega arith)) (λ z. b.other (sym z)), b.waits)
            | inr hi ↦ inl (b.at.cell, b.at.among, inner b.at.cell c0 b.base m b.at.among i0 b.at.tells (tells_then c0 m mi me) (chain_low n m b.base desc up bup hi) b.other, b.waits)
          ]
        where
          inner : (a c : Cell) (x y : Node) → In a (cells m0) → In c (cells m0) → Tells (cells m0) a x → Tells (cells m0) c y → In x (above y) → (serial_of x ≡ serial_of y → ⊥) → Inside (cells m0) a c
          inner a c x y ia ic ta tc u n = elim (within_node m0 s0 nest0 a c x y ia ic ta tc u) [
            | inl z ↦ absurd (n (sym (tells_serial (cells m0) a x ta) ∙ ap num z ∙ tells_serial (cells m0) c y tc))
            | inr z ↦ z
          ]

      -- below the base, where its path has no descendant step, none leads to it
      alone_not : all_child (path_of past.plan (off_tree off).base) ≡ true → Within (cells m1) (g c0) (g d) → later n ≡ false
      alone_not c w =
          let j = node_within m1 s1 nest1 (g c0) (g d) m (in_now c0 i0) (in_now d i) (tells_now c0 m mi me) w in
          let same : j.0 ≡ n = tells_same (cells m1) s1.rising (g d) j.0 n j.1 (tells_now d n ni e) in
          (alone_takes past is (off_tree off) stated m base c n (inside n ni) (subst (λ (x : Node). In m (above x)) same j.2)).0

    module _ (others alone : Bool) (alone_is : alone ≡ true → all_child (path_of past.plan (off_tree off).base) ≡ true) (law : (others ≡ true) ↔ MayKeep alone (cells m0) off c0) where
      each_row : is_own (off_tree off) ≡ false → (d : Cell) → In d (cells m0) → (loses (g d) ≡ true) ↔ Loses (cells m1) T off others (g c0) (g d)
      each_row o d i = (to, from)
        where
          n : (n : Node) × In n ns × (seen d ≡ told past n)
          n = cell_node past is (cells m0) s0.rising rows d i

          to : loses (g d) ≡ true → Loses (cells m1) T off others (g c0) (g d)
          to h = let q = loses_parts d i n.0 n.1 n.2 h in record {
            within = lose_within d i n.0 n.1 n.2 h;
            has = q.0;
            unkept = λ _ j t kept.
                let same : j ≡ n.0 = tells_same (cells m1) s1.rising (g d) j n.0 t (tells_now d n.0 n.1 n.2) in
                false≢true (sym q.1 ∙ kept_is_live n.0 n.1 (subst (λ (x : Node). IsKept (cells m1) T off x) same kept));
          }

          from : Loses (cells m1) T off others (g c0) (g d) → loses (g d) ≡ true
          from l = loses_from d i n.0 n.1 n.2 l.has (false_from_ne_true _ (λ h. elim (cases_Bool others) [
            | inl y ↦ l.unkept y n.0 (tells_now d n.0 n.1 n.2) (live_kept n.0 n.1 h)
            | inr y ↦ elim (cases_Bool alone) [
              | inl z ↦ false≢true (sym (alone_not d i n.0 n.1 n.2 (alone_is z) l.within) ∙ h)
              | inr z ↦ false≢true (sym y ∙ law.1 (z, o, kept_other d i n.0 n.1 n.2 l.within h))
            ]
          ]))

      own_row : is_own (off_tree off) ≡ true → (d : Cell) → In d (cells m0) → (loses (g d) ≡ true) ↔ ((g c0 ≡ g d) × (set.contains (g d).row.roles off.role.0 ≡ true))
      own_row o d i = (to, from)
        where
          n : (n : Node) × In n ns × (seen d ≡ told past n)
          n = cell_node past is (cells m0) s0.rising rows d i

          to : loses (g d) ≡ true → (g c0 ≡ g d) × (set.contains (g d).row.roles off.role.0 ≡ true)
          to h =
              let q = loses_parts d i n.0 n.1 n.2 h in
              let r = lost_reached n.0 (inside n.0 n.1) (was_live d i n.0 n.1 n.2 q.0) q.1 in
              let z : serial_of n.0 ≡ serial_of m = eqb-true _ _ (sym (own_reaches past.tree (off_tree off) m n.0 o) ∙ r) in
              (ap g (rising_same (cells m0) s0.rising c0 d i0 i (serial c0 m me ∙ sym z ∙ sym (serial d n.0 n.2))), q.0)

          from : (g c0 ≡ g d) × (set.contains (g d).row.roles off.role.0 ≡ true) → loses (g d) ≡ true
          from l = loses_from d i n.0 n.1 n.2 l.1 (false_from_ne_true _ (λ h.
              let b = (live_by_act past is (off_tree off) stated m base n.0 (inside n.0 n.1)).1.0 h in
              let r : serial_of n.0 ≡ serial_of b.0 = eqb-true _ _ (sym (own_reaches past.tree (off_tree off) b.0 n.0 o) ∙ b.4) in
              b.3 (sym r ∙ sym (serial d n.0 n.2) ∙ sym (gn d) ∙ sym (ap num l.0) ∙ gn c0 ∙ serial c0 m me)))

      pub taking : Taking (cells m1) p off others
      taking = record {
        tree = T;
        base = g c0;
        loses = loses;
        told = tree_now;
        among = in_now c0 i0;
        place = g_place (cells m0) s0.rising s0.apart off p c0 ∙ at;
        each = record {
          own = λ o d i. let x = was d i in subst (λ (y : Cell). (loses y ≡ true) ↔ ((g c0 ≡ y) × (set.contains y.row.roles off.role.0 ≡ true))) x.2 (own_row o x.0 x.1);
          rest = λ o. record {
            each = λ d i. let x = was d i in subst (λ (y : Cell). (loses y ≡ true) ↔ Loses (cells m1) T off others (g c0) y) x.2 (each_row o x.0 x.1);
            told = λ d i. let x = was d i in let n = cell_node past is (cells m0) s0.rising rows x.0 x.1 in (n.0, subst (λ (y : Cell). Tells (cells m1) y n.0) x.2 (tells_now x.0 n.0 n.1 n.2));
          };
        };
      }

      -- whose test is this one
      pub taking_loses : taking.loses ≡ loses
      unfolding taking
      taking_loses = refl

  -- the rows then, each with the roles that are left
  pub rows_then : map (sign_cell (λ c. stays (num c)) p off.role.0) (cells m0) ≡ taken_by loses off.role.0 (map (with_at (signed_for off.role.0) p) (cells m0))
  rows_then = map_same (sign_cell (λ c. stays (num c)) p off.role.0) (λ c. t (with_at (signed_for off.role.0) p c)) (cells m0) (λ c i. each c)
      ∙ sym (map-map (with_at (signed_for off.role.0) p) t (cells m0))
    where
      t : Cell → Cell
      t c = cond (loses c) (record { place = c.place; row = untaken off.role.0 c.row }) c

      each : (c : Cell) → sign_cell (λ c. stays (num c)) p off.role.0 c ≡ t (with_at (signed_for off.role.0) p c)
      each c = go stays (c.place == p) (set.contains c.row.roles off.role.0) refl (stays (num c)) refl
        where
          w : Bool → Cell
          w b = cond b (record { place = c.place; row = signed_for off.role.0 c.row }) c

          go : (st : ℕ → Bool) (b h : Bool) → set.contains c.row.roles off.role.0 ≡ h → (y : Bool) → st (num c) ≡ y
              → ◌≡◌ {A = Cell} (record { place = c.place; row = sign_row b (st (num c)) off.role.0 c.row }) (cond (set.contains (w b).row.roles off.role.0 && not (st (num (w b)))) (record { place = (w b).place; row = untaken off.role.0 (w b).row }) (w b))
          go st true true e true f = rw (e, f) refl
          go st true true e false f = rw (e, f) refl
          go st true false e true f = rw (e, f) refl
          go st true false e false f = rw (e, f) (ap (λ z. record { place = c.place; row = record c.row { roles = z; signed = set.insert c.row.signed off.role.0 } }) (remove_none c.row.roles off.role.0 e))
          go st false true e true f = rw (e, f) refl
          go st false true e false f = rw (e, f) refl
          go st false false e true f = rw (e, f) refl
          go st false false e false f = rw (e, f) (ap (λ z. record { place = c.place; row = record c.row { roles = z } }) (remove_none c.row.roles off.role.0 e))
