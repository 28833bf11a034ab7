-- The rows of a past have the nodes that are held, and tell which of them keep a role behind a statement.
use Rattle.std.proofs.Common.{◌≡◌, ℕ, true, ◌||◌, not, List, [], ◌∷◌, ◌++◌, map, refl, sym, ◌∙◌, ap, subst, inl, inr, ◌⊎◌, arith}
use Rattle.std.specs.Prelude.{◌↔◌}
use Rattle.std.specs.Ordering.{nat_cmp}
use Rattle.std.specs.Cmp.{nat_cmp_total}
use Rattle.std.specs.FinSet as set
use Rattle.std.specs.FinSet.{from_list, contains-from_list}
use Rattle.std.proofs.lemmas.Bool.{or_cases, or_left, or_right, and_parts, and_from, true≢false, cases_Bool, not-true}
use Rattle.gcx_model.specs.declared.item.Off.{Off}
use Rattle.gcx_model.specs.ItemView.{off_tree}
use Rattle.gcx_model.specs.Tree.{Node, Root, Under, serial_of}
use Rattle.gcx_model.specs.Placed.{offs_in}
use Rattle.gcx_model.specs.Run.{Offed}
use Rattle.gcx_model.specs.Held.{held, held_tree, is_held, live, reaches, roles_live}
use Rattle.gcx_model.specs.Past.{Past, IsPast, roles_signed}
use Rattle.past_laws.specs.Pasts.{bases}
use Rattle.tree_laws.proofs.Lists.{In, In-filter}
use Rattle.tree_laws.proofs.Matches.{Rising-filter}
use Rattle.tree_laws.proofs.Chains.{above_self}
use Rattle.past_laws.proofs.Bases.{is_grown}
use Rattle.past_laws.proofs.RowFacts.{held_above, kept_by_rows}
use Rattle.buf_tree.specs.Shape.{Cell, num, CellsRise}
use Rattle.buf_tree.specs.Stands.{Seen, seen, told}
use Rattle.buf_tree.specs.Ways.{Tells, NodeOf, TreeOf, is_waiting, IsKeptBut}
use Rattle.buf_tree.proofs.Standing.{pair_left, parent_told}
use Rattle.buf_tree.proofs.Signing.{listed, in_listed}
use Rattle.buf_tree.proofs.Climbing.{tells_same}

pub has_from : (ks : List ℕ) (q : ℕ) → set.contains (from_list {R = nat_cmp} ks) q ≡ true → In q ks
has_from ks q h = in_listed ks q (sym (contains-from_list nat_cmp_total ks q) ∙ h)

pub has_to : (ks : List ℕ) (q : ℕ) → In q ks → set.contains (from_list {R = nat_cmp} ks) q ≡ true
has_to ks q i = contains-from_list nat_cmp_total ks q ∙ listed ks q i

-- of a statement a row tells whether its node is a base that isn't signed
module _ (past : Past) (off : Off) where
  pub waits_row : (b : Node) (c : Cell) → seen c ≡ told past b → is_waiting c.row off ≡ true
      → (In off.own.0 (roles_live past.plan past.tree past.acts b) ⊎ In off.own.0 (roles_signed past.plan past.acts b)) × (In off.role.0 (roles_signed past.plan past.acts b) → ⊥)
  waits_row b c e w =
      let p = and_parts (set.contains c.row.roles off.own.0 || set.contains c.row.signed off.own.0) (not (set.contains c.row.signed off.role.0)) w in (
        elim (or_cases (set.contains c.row.roles off.own.0) (set.contains c.row.signed off.own.0) p.0) [
          | inl h ↦ inl (has_from _ _ (sym (ap (λ (z : Seen). set.contains z.roles off.own.0) e) ∙ h))
          | inr h ↦ inr (has_from _ _ (sym (ap (λ (z : Seen). set.contains z.signed off.own.0) e) ∙ h))
        ],
        (λ i. true≢false (sym (has_to _ _ i) ∙ sym (ap (λ (z : Seen). set.contains z.signed off.role.0) e) ∙ not-true _ p.1)),
      )

  pub row_waits : (b : Node) (c : Cell) → seen c ≡ told past b → In off.own.0 (roles_live past.plan past.tree past.acts b) ⊎ In off.own.0 (roles_signed past.plan past.acts b) → (In off.role.0 (roles_signed past.plan past.acts b) → ⊥) → is_waiting c.row off ≡ true
  row_waits b c e o n = and_from (set.contains c.row.roles off.own.0 || set.contains c.row.signed off.own.0) (not (set.contains c.row.signed off.role.0))
      (elim o [
        | inl i ↦ or_left _ _ (ap (λ (z : Seen). set.contains z.roles off.own.0) e ∙ has_to _ _ i)
        | inr i ↦ or_right (set.contains c.row.roles off.own.0) _ (ap (λ (z : Seen). set.contains z.signed off.own.0) e ∙ has_to _ _ i)
      ])
      (elim (cases_Bool (set.contains c.row.signed off.role.0)) [
        | inl h ↦ absurd (n (has_from _ _ (sym (ap (λ (z : Seen). set.contains z.signed off.role.0) e) ∙ h)))
        | inr h ↦ ap not h
      ])

module _ (past : Past) (is : IsPast past) (xs : List Cell) (rise : CellsRise xs) (rows : map seen xs ≡ map (told past) (held past.plan past.tree past.acts)) where
  abbrev ns : List Node
  ns = held past.plan past.tree past.acts

  pub cell_node : (c : Cell) → In c xs → (n : Node) × In n ns × (seen c ≡ told past n)
  cell_node c i = pair_left seen (told past) xs ns rows c i

  node_cell : (n : Node) → In n ns → (c : Cell) × In c xs × (told past n ≡ seen c)
  node_cell n i = pair_left (told past) seen ns xs (sym rows) n i

  inside : (n : Node) → In n ns → In n past.tree.nodes
  inside n i = (In-filter (is_held past.plan past.tree past.acts) n past.tree.nodes i).0

  pub tells : (c : Cell) (n : Node) → In n ns → seen c ≡ told past n → Tells xs c n
  tells c Root i e = (ap (λ (z : Seen). z.serial) e, ap (λ (z : Seen). z.kind) e)
  tells c (Under p s k) i e =
      let up = held_above past is (Under p s k) p i (inr (above_self p)) in
      let d = node_cell p up in
      let below = (is_grown past is).below p s k (inside (Under p s k) i) in
      let serial : num c ≡ s = ap (λ (z : Seen). z.serial) e in
      let here : serial_of p ≡ num d.0 = ap (λ (z : Seen). z.serial) d.2 in
      let parent = parent_told c.row p s k (λ z. omega arith) serial (ap (λ (z : Seen). z.parent) e) in
      (serial, ap (λ (z : Seen). z.kind) e, (d.0, d.1, (parent ∙ here, omega arith), tells d.0 p up (sym d.2)))

  node_held : (p : ℕ) (n : Node) → (u : NodeOf xs p n) → In n ns × (seen u.cell ≡ told past n)
  node_held p n u =
      let c = cell_node u.cell u.among in
      let same : c.0 ≡ n = tells_same xs rise u.cell c.0 n (tells u.cell c.0 c.1 c.2) u.tells in
      (subst (λ (x : Node). In x ns) same c.1, subst (λ (x : Node). seen u.cell ≡ told past x) same c.2)

  pub held_row : (n : Node) → In n ns → (p : ℕ) × NodeOf xs p n
  held_row n i = let c = node_cell n i in (c.0.place, record { cell = c.0; among = c.1; place = refl; tells = tells c.0 n i (sym c.2) })

  pub past_tree : TreeOf xs (held_tree past.plan past.tree past.acts)
  past_tree = record {
    told = λ p n u. (node_held p n u).0;
    row = held_row;
    rising = Rising-filter 0 (is_held past.plan past.tree past.acts) past.tree.nodes (is_grown past is).numbered;
  }

  module _ (off : Off) (stated : In (off_tree off) (offs_in past.plan.body)) (m : Node) (base : In m (bases past (off_tree off))) where
    -- the role is live at a held node behind the statement exactly where the statement reaches it from another row that waits
    pub kept_live : (n : Node) → In n ns → (live past.plan past.tree (past.acts ++ Offed (off_tree off) (serial_of m) ∷ []) n off.role.0 ≡ true) ↔ IsKeptBut xs (held_tree past.plan past.tree past.acts) off n (serial_of m)
    kept_live n i = (to, from)
      where
        law : (live past.plan past.tree (past.acts ++ Offed (off_tree off) (serial_of m) ∷ []) n off.role.0 ≡ true) ↔ ((b : Node) × In b ns
            × (In off.own.0 (roles_live past.plan past.tree past.acts b) ⊎ In off.own.0 (roles_signed past.plan past.acts b)) × (In off.role.0 (roles_signed past.plan past.acts b) → ⊥)
            × (serial_of b ≡ serial_of m → ⊥) × (reaches (held_tree past.plan past.tree past.acts) (off_tree off) b n ≡ true))
        law = kept_by_rows past is (off_tree off) stated m base n i

        to : live past.plan past.tree (past.acts ++ Offed (off_tree off) (serial_of m) ∷ []) n off.role.0 ≡ true → IsKeptBut xs (held_tree past.plan past.tree past.acts) off n (serial_of m)
        to h =
            let k = law.0 h in
            let c = node_cell k.0 k.1 in
            record {
              place = c.0.place;
              base = k.0;
              at = record { cell = c.0; among = c.1; place = refl; tells = tells c.0 k.0 k.1 (sym c.2) };
              other = k.4;
              waits = row_waits past off k.0 c.0 (sym c.2) k.2 k.3;
              reached = k.5;
            }

        from : IsKeptBut xs (held_tree past.plan past.tree past.acts) off n (serial_of m) → live past.plan past.tree (past.acts ++ Offed (off_tree off) (serial_of m) ∷ []) n off.role.0 ≡ true
        from k =
            let h = node_held k.place k.base k.at in
            let w = waits_row past off k.base k.at.cell h.1 k.waits in
            law.1 (k.base, h.0, w.0, w.1, k.other, k.reached)
