-- What a statement takes from the rows that contracts see it takes from those kept, where its role isn't spread.
use Rattle.std.proofs.Common.{◌≡◌, ℕ, Bool, true, false, List, [], refl, sym, ◌∙◌, ap, subst, inl, inr, Option}
use Rattle.std.specs.Prelude.{◌↔◌}
use Rattle.std.specs.FinSet.{contains}
use Rattle.gcx_model.specs.declared.item.Off.{Off}
use Rattle.gcx_model.specs.ItemView.{off_tree}
use Rattle.gcx_model.specs.Placed.{is_own}
use Rattle.gcx_model.specs.Tree.{Node}
use Rattle.tree_laws.proofs.Lists.{In}
use Rattle.buf_tree.specs.Shape.{Cell}
use Rattle.buf_tree.specs.Spread.{SpreadView, is_spread_in, with_roles, seen_rows}
use Rattle.buf_tree.specs.Sweep.{Loses}
use Rattle.buf_tree.specs.Walk.{Inside, Within}
use Rattle.buf_tree.specs.Ways.{Tells, TreeOf, IsKept}
use Rattle.buf_tree.specs.Withdraw.{Taking}
use Rattle.buf_tree.proofs.Lifting.{seen_is, seen_in, seen_from, tells_kept, tree_kept, unspread_same, kept_seen, seen_kept, inside_seen, seen_inside}
use Rattle.buf_tree.proofs.Signs.{tells_map}
use Rattle.buf_tree.proofs.Spreading.{Roles, Upward, spread_cell, from_above, from_in, retained_in}

module _ (sv : Option SpreadView) (ks rs : List Cell) (up : Upward [] ks) (apart : (a b : Cell) → In a ks → In b ks → a.place ≡ b.place → a ≡ b) (seen_as : rs ≡ seen_rows sv ks) (p : ℕ) (off : Off) (others : Bool)
    (plain : is_spread_in sv off.role.0 ≡ false) (own : is_spread_in sv off.own.0 ≡ false) (t : Taking rs p off others) (even : (X : Roles) (c : Cell) → contains X off.role.0 ≡ false → t.loses (with_roles X c) ≡ t.loses c) where
  abbrev sp : ℕ → Bool
  sp = is_spread_in sv

  abbrev f : Cell → Cell
  f = spread_cell (is_spread_in sv) (seen_rows sv ks)

  base : (c : Cell) × In c ks × (f c ≡ t.base)
  base = seen_from sv ks up t.base (subst (λ (zs : List Cell). In t.base zs) seen_as t.among)

  lose_same : (d : Cell) → t.loses (f d) ≡ t.loses d
  lose_same d = even (from_above sp (seen_rows sv ks) d) d (retained_in (from_above sp (seen_rows sv ks) d) sp off.role.0 (from_in sp (seen_rows sv ks) d) plain)

  in_seen : (d : Cell) → In d ks → In (f d) rs
  in_seen d i = subst (λ (zs : List Cell). In (f d) zs) (sym seen_as) (seen_in sv ks up d i)

  same_from : (c d : Cell) → In c ks → In d ks → f c ≡ f d → c ≡ d
  same_from c d i j e = apart c d i j (ap (λ (z : Cell). z.place) e)

  has_same : (d : Cell) → contains (f d).row.roles off.role.0 ≡ contains d.row.roles off.role.0
  has_same d = unspread_same sv ks up off.role.0 plain d

  tells_up : (d : Cell) (n : Node) → Tells ks d n → Tells rs (f d) n
  tells_up d n h = subst (λ (zs : List Cell). Tells zs (f d) n) (sym (seen_as ∙ seen_is sv ks up)) (tells_map f (λ c. refl) (λ c. refl) (λ c. refl) ks d n h)

  tells_down : (d : Cell) (n : Node) → Tells rs (f d) n → Tells ks d n
  tells_down d n h = tells_kept sv ks up d n (subst (λ (zs : List Cell). Tells zs (f d) n) seen_as h)

  kept_up : (n : Node) → IsKept ks t.tree off n → IsKept rs t.tree off n
  kept_up n k = subst (λ (zs : List Cell). IsKept zs t.tree off n) (sym seen_as) (kept_seen sv ks up t.tree off n own k)

  kept_down : (n : Node) → IsKept rs t.tree off n → IsKept ks t.tree off n
  kept_down n k = seen_kept sv ks up t.tree off n own (subst (λ (zs : List Cell). IsKept zs t.tree off n) seen_as k)

  within_up : (c d : Cell) → Within ks c d → Within rs (f c) (f d)
  within_up c d (inl e) = inl (ap f e)
  within_up c d (inr i) = inr (subst (λ (zs : List Cell). Inside zs (f c) (f d)) (sym seen_as) (inside_seen sv ks up c d i))

  within_down : (c d : Cell) → In c ks → In d ks → Within rs (f c) (f d) → Within ks c d
  within_down c d i j (inl e) = inl (same_from c d i j e)
  within_down c d i j (inr w) = inr (seen_inside sv ks up c d (subst (λ (zs : List Cell). Inside zs (f c) (f d)) seen_as w))

  own_row : is_own (off_tree off) ≡ true → (d : Cell) → In d ks → (t.loses d ≡ true) ↔ ((base.0 ≡ d) × (contains d.row.roles off.role.0 ≡ true))
  own_row o d i = (
    (λ h. let r = (t.each.own o (f d) (in_seen d i)).0 (lose_same d ∙ h) in (same_from base.0 d base.1 i (base.2 ∙ r.0), sym (has_same d) ∙ r.1)),
    (λ r. sym (lose_same d) ∙ (t.each.own o (f d) (in_seen d i)).1 (sym base.2 ∙ ap f r.0, has_same d ∙ r.1)),
  )

  rest_row : is_own (off_tree off) ≡ false → (d : Cell) → In d ks → (t.loses d ≡ true) ↔ Loses ks t.tree off others base.0 d
  rest_row o d i = (to, from)
    where
      to : t.loses d ≡ true → Loses ks t.tree off others base.0 d
      to h =
          let l = ((t.each.rest o).each (f d) (in_seen d i)).0 (lose_same d ∙ h) in
          record {
            within = within_down base.0 d base.1 i (subst (λ (b : Cell). Within rs b (f d)) (sym base.2) l.within);
            has = sym (has_same d) ∙ l.has;
            unkept = λ y n h k. l.unkept y n (tells_up d n h) (kept_up n k);
          }

      from : Loses ks t.tree off others base.0 d → t.loses d ≡ true
      from l = sym (lose_same d) ∙ ((t.each.rest o).each (f d) (in_seen d i)).1 (record {
        within = subst (λ (b : Cell). Within rs b (f d)) base.2 (within_up base.0 d l.within);
        has = has_same d ∙ l.has;
        unkept = λ y n h k. l.unkept y n (tells_down d n h) (kept_down n k);
      })

  pub taking_kept : Taking ks p off others
  taking_kept = record {
    tree = t.tree;
    base = base.0;
    loses = t.loses;
    told = tree_kept sv ks up t.tree (subst (λ (zs : List Cell). TreeOf zs t.tree) seen_as t.told);
    among = base.1;
    place = ap (λ (z : Cell). z.place) base.2 ∙ t.place;
    each = record {
      own = own_row;
      rest = λ o. record {
        told = λ d i. let r = (t.each.rest o).told (f d) (in_seen d i) in (r.0, tells_down d r.0 r.1);
        each = rest_row o;
      };
    };
  }

  -- by the same test
  pub taking_kept_loses : taking_kept.loses ≡ t.loses
  unfolding taking_kept
  taking_kept_loses = refl
