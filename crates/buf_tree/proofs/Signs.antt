-- Rows of which one is signed for a statement: they have the same nodes, and that one doesn't wait any more.
use Rattle.std.proofs.Common.{◌≡◌, ◌==◌, ℕ, Bool, true, false, cond, ◌||◌, not, List, map, refl, sym, ◌∙◌, ap, subst, inl, inr, arith}
use Rattle.std.specs.Prelude.{◌↔◌}
use Rattle.std.specs.Cmp.{nat_cmp_total, unsigned_tied}
use Rattle.std.specs.FinSet as set
use Rattle.std.specs.FinSet.{contains-insert}
use Rattle.std.proofs.lemmas.Bool.{and_parts, or_left, false≢true, eqb-true, eq-eqb, cases_Bool}
use Rattle.gcx_model.specs.declared.item.Off.{Off}
use Rattle.gcx_model.specs.Tree.{Tree, Node, Root, Under}
use Rattle.base_laws.proofs.Members.{in_map, from_map}
use Rattle.tree_laws.proofs.Lists.{In}
use Rattle.buf_tree.specs.Rows.{signed_for}
use Rattle.buf_tree.specs.Shape.{Cell, num, CellsRise, with_at}
use Rattle.buf_tree.specs.Ways.{Tells, NodeOf, TreeOf, is_waiting, IsKept, IsKeptBut}
use Rattle.buf_tree.proofs.Shaping.{rising_same}
use Rattle.buf_tree.proofs.Climbing.{tells_serial}

-- rows that keep their serials, parents and kinds tell of the same nodes
module _ (g : Cell → Cell) (n_ : (c : Cell) → num (g c) ≡ num c) (p_ : (c : Cell) → (g c).row.parent ≡ c.row.parent) (k_ : (c : Cell) → (g c).row.kind ≡ c.row.kind) (xs : List Cell) where
  pub tells_map : (c : Cell) (n : Node) → Tells xs c n → Tells (map g xs) (g c) n
  tells_map c Root t = (n_ c ∙ t.0, k_ c ∙ t.1)
  tells_map c (Under p s k) t =
      let e = t.2 in
      let l = e.2.1 in
      let a = n_ c in
      let b = n_ e.0 in
      (n_ c ∙ t.0, k_ c ∙ t.1, (g e.0, in_map g e.0 xs e.1, (p_ c ∙ e.2.0 ∙ sym (n_ e.0), omega arith), tells_map e.0 p e.3))

  pub tells_unmap : (c : Cell) (n : Node) → Tells (map g xs) (g c) n → Tells xs c n
  tells_unmap c Root t = (sym (n_ c) ∙ t.0, sym (k_ c) ∙ t.1)
  tells_unmap c (Under p s k) t =
      let e = t.2 in
      let x = from_map g e.0 xs e.1 in
      let same : num e.0 ≡ num x.0 = sym (ap num x.2) ∙ n_ x.0 in
      let l = e.2.1 in
      let a = n_ c in
      (sym (n_ c) ∙ t.0, sym (k_ c) ∙ t.1, (x.0, x.1, (sym (p_ c) ∙ e.2.0 ∙ same, omega arith), tells_unmap x.0 p (subst (λ (y : Cell). Tells (map g xs) y p) (sym x.2) e.3)))

module _ (xs : List Cell) (rise : CellsRise xs) (apart : (a b : Cell) → In a xs → In b xs → a.place ≡ b.place → a ≡ b) (off : Off) (p : ℕ) where
  abbrev g : Cell → Cell
  g = with_at (signed_for off.role.0) p

  pub g_place : (c : Cell) → (g c).place ≡ c.place
  g_place c = go (c.place == p)
    where
      go : (b : Bool) → (cond b (record { place = c.place; row = signed_for off.role.0 c.row }) c).place ≡ c.place
      go true = refl
      go false = refl

  pub g_num : (c : Cell) → num (g c) ≡ num c
  g_num c = go (c.place == p)
    where
      go : (b : Bool) → num (cond b (record { place = c.place; row = signed_for off.role.0 c.row }) c) ≡ num c
      go true = refl
      go false = refl

  pub g_parent : (c : Cell) → (g c).row.parent ≡ c.row.parent
  g_parent c = go (c.place == p)
    where
      go : (b : Bool) → (cond b (record { place = c.place; row = signed_for off.role.0 c.row }) c).row.parent ≡ c.row.parent
      go true = refl
      go false = refl

  pub g_kind : (c : Cell) → (g c).row.kind ≡ c.row.kind
  g_kind c = go (c.place == p)
    where
      go : (b : Bool) → (cond b (record { place = c.place; row = signed_for off.role.0 c.row }) c).row.kind ≡ c.row.kind
      go true = refl
      go false = refl

  g_other : (c : Cell) → (c.place == p) ≡ false → g c ≡ c
  g_other c e = ap (λ b. cond b (record { place = c.place; row = signed_for off.role.0 c.row }) c) e

  g_here : (c : Cell) → (c.place == p) ≡ true → is_waiting (g c).row off ≡ true → ⊥
  g_here c e w =
      let is : g c ≡ record { place = c.place; row = signed_for off.role.0 c.row } = ap (λ b. cond b (record { place = c.place; row = signed_for off.role.0 c.row }) c) e in
      let v = ap (λ (x : Cell). is_waiting x.row off) (sym is) ∙ w in
      let q = and_parts (set.contains c.row.roles off.own.0 || set.contains (set.insert c.row.signed off.role.0) off.own.0) (not (set.contains (set.insert c.row.signed off.role.0) off.role.0)) v in
      let has : set.contains (set.insert c.row.signed off.role.0) off.role.0 ≡ true = contains-insert nat_cmp_total c.row.signed off.role.0 off.role.0 ∙ or_left _ _ (unsigned_tied off.role.0 off.role.0 ∙ eq-eqb off.role.0 off.role.0 refl) in
      false≢true (sym (ap not has) ∙ q.1)

  node_back : (q : ℕ) (b : Node) → (u : NodeOf (map g xs) q b) → (x : Cell) × In x xs × (g x ≡ u.cell) × Tells xs x b
  node_back q b u =
      let x = from_map g u.cell xs u.among in
      (x.0, x.1, x.2, tells_unmap g g_num g_parent g_kind xs x.0 b (subst (λ (y : Cell). Tells (map g xs) y b) (sym x.2) u.tells))

  abbrev node_on : (q : ℕ) (b : Node) → NodeOf xs q b → NodeOf (map g xs) q b
  node_on q b u = record { cell = g u.cell; among = in_map g u.cell xs u.among; place = g_place u.cell ∙ u.place; tells = tells_map g g_num g_parent g_kind xs u.cell b u.tells }

  pub tree_signed : (T : Tree) → TreeOf xs T → TreeOf (map g xs) T
  tree_signed T t = record {
    told = λ q b u. let x = node_back q b u in t.told x.0.place b (record { cell = x.0; among = x.1; place = refl; tells = x.3 });
    row = λ b i. let r = t.row b i in (r.0, node_on r.0 b r.1);
    rising = t.rising;
  }

  -- so the signed row is no base that keeps the role
  pub kept_signed : (T : Tree) (n : Node) (c : Cell) → In c xs → c.place ≡ p → IsKept (map g xs) T off n ↔ IsKeptBut xs T off n (num c)
  kept_signed T n c i e = (to, from)
    where
      to : IsKept (map g xs) T off n → IsKeptBut xs T off n (num c)
      to k =
          let x = node_back k.place k.base k.at in
          let w : is_waiting (g x.0).row off ≡ true = ap (λ (y : Cell). is_waiting y.row off) x.2 ∙ k.waits in
          elim (cases_Bool (x.0.place == p)) [
            | inl h ↦ absurd (g_here x.0 h w)
            | inr h ↦ record {
              place = x.0.place;
              base = k.base;
              at = record { cell = x.0; among = x.1; place = refl; tells = x.3 };
              other = λ z.
                  let same : x.0 ≡ c = rising_same xs rise x.0 c x.1 i (tells_serial xs x.0 k.base x.3 ∙ z) in
                  false≢true (sym h ∙ eq-eqb x.0.place p (ap (λ (y : Cell). y.place) same ∙ e));
              waits = ap (λ (y : Cell). is_waiting y.row off) (sym (g_other x.0 h)) ∙ w;
              reached = k.reached;
            }
          ]

      from : IsKeptBut xs T off n (num c) → IsKept (map g xs) T off n
      from k = record {
        place = k.place;
        base = k.base;
        at = node_on k.place k.base k.at;
        waits = elim (cases_Bool (k.at.cell.place == p)) [
          | inl h ↦ (
              let same : k.at.cell ≡ c = apart k.at.cell c k.at.among i (eqb-true k.at.cell.place p h ∙ sym e) in
              absurd (k.other (sym (tells_serial xs k.at.cell k.base k.at.tells) ∙ ap num same)))
          | inr h ↦ ap (λ (y : Cell). is_waiting y.row off) (g_other k.at.cell h) ∙ k.waits
        ];
        reached = k.reached;
      }
