-- An edit of rows that leaves their spread roles is one of the rows that contracts see, and what leaves then leaves of them.
use Rattle.std.proofs.Common.{◌≡◌, ◌==◌, ℕ, Bool, true, false, cond, List, [], map, refl, sym, ◌∙◌, ap, subst, inl, inr, ◌⊎◌, Option, arith}
use Rattle.std.specs.FinSet.{contains, retain, union}
use Rattle.base_laws.proofs.Members.{in_map, from_map}
use Rattle.tree_laws.proofs.Lists.{In}
use Rattle.buf_tree.specs.Row.{Row}
use Rattle.buf_tree.specs.Rows.{shut_row, untaken}
use Rattle.buf_tree.specs.Shape.{Cell, num, CellsRise, Above, with_at}
use Rattle.buf_tree.specs.Purge.{Purged}
use Rattle.buf_tree.specs.Spread.{SpreadView, is_spread_in, with_roles, is_covered, seen_rows, TellsCovered}
use Rattle.buf_tree.specs.View.{Innermost}
use Rattle.buf_tree.specs.Calls.{HasRole}
use Rattle.buf_tree.proofs.Lifting.{rising_map, purged_lift, seen_in, seen_from, unspread_same}
use Rattle.buf_tree.proofs.SeenBack.{removed_same, removed_union}
use Rattle.buf_tree.proofs.Spreading.{Roles, Upward, upward, spread_cell, retained_in, above_map, covered_map}

-- ---- what contracts say of a row seen holds of the row kept

module _ (s : Option SpreadView) (ks : List Cell) (up : Upward [] ks) where
  abbrev f : Cell → Cell
  f = spread_cell (is_spread_in s) (seen_rows s ks)

  pub innermost_kept : (p : ℕ) → Innermost (seen_rows s ks) p → Innermost ks p
  innermost_kept p i =
      let x = seen_from s ks up i.cell i.among in
      record {
        cell = x.0;
        among = x.1;
        place = ap (λ (z : Cell). z.place) x.2 ∙ i.place;
        is_open = ap (λ (z : Cell). z.row.is_open) x.2 ∙ i.is_open;
        last = λ d j o. let l = i.last (f d) (seen_in s ks up d j) o in let e = ap num x.2 in omega arith;
      }

  pub role_kept : (p k : ℕ) → is_spread_in s k ≡ false → HasRole (seen_rows s ks) p k → HasRole ks p k
  role_kept p k h r =
      let x = seen_from s ks up r.cell r.among in
      record {
        cell = x.0;
        among = x.1;
        place = ap (λ (z : Cell). z.place) x.2 ∙ r.place;
        has = sym (unspread_same s ks up k h x.0) ∙ (ap (λ (z : Cell). contains z.row.roles k) x.2 ∙ r.has);
      }

-- ---- an edit of rows

module _ (s : Option SpreadView) (g : Cell → Cell) (n : (c : Cell) → num (g c) ≡ num c) (par : (c : Cell) → (g c).row.parent ≡ c.row.parent) (ret : (c : Cell) → retain (g c).row.roles (is_spread_in s) ≡ retain c.row.roles (is_spread_in s))
    (cov : (c : Cell) → (g c).row.covered ≡ c.row.covered) (w : (X : Roles) (c : Cell) → retain X (is_spread_in s) ≡ X → g (with_roles X c) ≡ with_roles X (g c))
    (ks : List Cell) (rise : CellsRise ks) (above : (c : Cell) → In c ks → (num c ≡ 0) ⊎ Above ks c) where
  abbrev sp : ℕ → Bool
  sp = is_spread_in s

  edit_seen : seen_rows s (map g ks) ≡ map g (seen_rows s ks)
  edit_seen = above_map sp g n par ret w ks (upward ks rise above)

  edit_above : (c : Cell) → In c (map g ks) → (num c ≡ 0) ⊎ Above (map g ks) c
  edit_above c i =
      let x = from_map g c ks i in
      subst (λ (z : Cell). (num z ≡ 0) ⊎ Above (map g ks) z) x.2 (elim (above x.0 x.1) [
        | inl e ↦ inl (n x.0 ∙ e)
        | inr a ↦ (
            let u = n a.0 in
            let v = n x.0 in
            let l = a.3 in
            inr (g a.0, in_map g a.0 ks a.1, n a.0 ∙ (a.2 ∙ sym (par x.0)), omega arith))
      ])

  edit_covers : TellsCovered s ks → TellsCovered s (map g ks)
  edit_covers h c i =
      let x = from_map g c ks i in
      subst (λ (z : Cell). z.row.covered ≡ is_covered sp (seen_rows s (map g ks)) z) x.2
      (cov x.0 ∙ (h x.0 x.1 ∙ (sym (covered_map sp g n par ret (seen_rows s ks) x.0) ∙ ap (λ (zs : List Cell). is_covered sp zs (g x.0)) (sym edit_seen))))

  pub edit_purged : TellsCovered s ks → (ys : List Cell) (gone : List ℕ) → CellsRise ys → ((c : Cell) → In c ys → (num c ≡ 0) ⊎ Above ys c) → Purged (map g ks) ys gone → Purged (map g (seen_rows s ks)) (seen_rows s ys) gone × TellsCovered s ys
  edit_purged h ys gone r a p =
      let q = purged_lift s (map g ks) ys gone (rising_map g n ks rise) r edit_above a (edit_covers h) p in
      (subst (λ (zs : List Cell). Purged zs (seen_rows s ys) gone) edit_seen q.0, q.1)

-- of the row at a place
module _ (s : Option SpreadView) (h : Row → Row) (p : ℕ) (hs : (r : Row) → (h r).serial ≡ r.serial) (hp : (r : Row) → (h r).parent ≡ r.parent) (hr : (r : Row) → retain (h r).roles (is_spread_in s) ≡ retain r.roles (is_spread_in s))
    (hc : (r : Row) → (h r).covered ≡ r.covered)
    (hw : (X : Roles) (r : Row) → retain X (is_spread_in s) ≡ X → h (record r { roles = union r.roles X; covered = false }) ≡ record (h r) { roles = union (h r).roles X; covered = false })
    (ks : List Cell) (rise : CellsRise ks) (above : (c : Cell) → In c ks → (num c ≡ 0) ⊎ Above ks c) where
  at_num : (c : Cell) → num (with_at h p c) ≡ num c
  at_num c = go (c.place == p)
    where
      go : (b : Bool) → num (cond b (record { place = c.place; row = h c.row }) c) ≡ num c
      go true = hs c.row
      go false = refl

  at_parent : (c : Cell) → (with_at h p c).row.parent ≡ c.row.parent
  at_parent c = go (c.place == p)
    where
      go : (b : Bool) → (cond b (record { place = c.place; row = h c.row }) c).row.parent ≡ c.row.parent
      go true = hp c.row
      go false = refl

  at_spread : (c : Cell) → retain (with_at h p c).row.roles (is_spread_in s) ≡ retain c.row.roles (is_spread_in s)
  at_spread c = go (c.place == p)
    where
      go : (b : Bool) → retain (cond b (record { place = c.place; row = h c.row }) c).row.roles (is_spread_in s) ≡ retain c.row.roles (is_spread_in s)
      go true = hr c.row
      go false = refl

  at_covered : (c : Cell) → (with_at h p c).row.covered ≡ c.row.covered
  at_covered c = go (c.place == p)
    where
      go : (b : Bool) → (cond b (record { place = c.place; row = h c.row }) c).row.covered ≡ c.row.covered
      go true = hc c.row
      go false = refl

  at_with : (X : Roles) (c : Cell) → retain X (is_spread_in s) ≡ X → with_at h p (with_roles X c) ≡ with_roles X (with_at h p c)
  at_with X c e = go (c.place == p)
    where
      go : (b : Bool) → cond b (record { place = c.place; row = h (with_roles X c).row }) (with_roles X c) ≡ with_roles X (cond b (record { place = c.place; row = h c.row }) c)
      go true = ap (λ (r : Row). record { place = c.place; row = r }) (hw X c.row e)
      go false = refl

  pub at_purged : TellsCovered s ks → (ys : List Cell) (gone : List ℕ) → CellsRise ys → ((c : Cell) → In c ys → (num c ≡ 0) ⊎ Above ys c) → Purged (map (with_at h p) ks) ys gone → Purged (map (with_at h p) (seen_rows s ks)) (seen_rows s ys) gone × TellsCovered s ys
  at_purged = edit_purged s (with_at h p) at_num at_parent at_spread at_covered at_with ks rise above

-- the node at the place is closed, and what nothing keeps leaves
pub shut_purged : (s : Option SpreadView) (p : ℕ) (ks : List Cell) → CellsRise ks → ((c : Cell) → In c ks → (num c ≡ 0) ⊎ Above ks c) → TellsCovered s ks → (ys : List Cell) (gone : List ℕ) → CellsRise ys → ((c : Cell) → In c ys → (num c ≡ 0) ⊎ Above ys c)
    → Purged (map (with_at shut_row p) ks) ys gone → Purged (map (with_at shut_row p) (seen_rows s ks)) (seen_rows s ys) gone × TellsCovered s ys
shut_purged s p ks rise above = at_purged s shut_row p (λ r. refl) (λ r. refl) (λ r. refl) (λ r. refl) (λ X r e. refl) ks rise above

-- a role that isn't spread is taken from it
pub untaken_purged : (s : Option SpreadView) (k p : ℕ) → is_spread_in s k ≡ false → (ks : List Cell) → CellsRise ks → ((c : Cell) → In c ks → (num c ≡ 0) ⊎ Above ks c) → TellsCovered s ks
    → (ys : List Cell) (gone : List ℕ) → CellsRise ys → ((c : Cell) → In c ys → (num c ≡ 0) ⊎ Above ys c)
    → Purged (map (with_at (untaken k) p) ks) ys gone → Purged (map (with_at (untaken k) p) (seen_rows s ks)) (seen_rows s ys) gone × TellsCovered s ys
untaken_purged s k p plain ks rise above = at_purged s (untaken k) p (λ r. refl) (λ r. refl) (λ r. removed_same (is_spread_in s) k plain r.roles) (λ r. refl)
    (λ X r e. ap (λ (z : Roles). record r { roles = z; covered = false }) (removed_union k r.roles X (retained_in X (is_spread_in s) k e plain)))
    ks rise above
