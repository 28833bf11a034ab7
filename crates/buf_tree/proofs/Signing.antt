-- The rows behind a statement, once each row's roles are those that are left.
use Rattle.std.proofs.Common.{◌≡◌, ◌==◌, ℕ, Bool, true, false, cond, not, ◌&&◌, ◌||◌, List, [], ◌∷◌, map, refl, sym, ◌∙◌, ap, subst, inl, inr}
use Rattle.std.specs.List.{filter, list_any}
use Rattle.std.specs.Ordering.{nat_cmp, eq_by_cmp}
use Rattle.std.specs.Cmp.{nat_cmp_total, unsigned_tied}
use Rattle.std.specs.FinSet as set
use Rattle.std.specs.FinSet.{FinSet, from_list, same_set, contains-from_list, contains-insert, contains-remove, nat_cmp-IsAntisymmetric}
use Rattle.std.proofs.lemmas.Bool.{or_cases, or_left, or_right, eqb-true, eq-eqb, ne_eqb, cases_eq, false≢true}
use Rattle.gcx_model.specs.Tree.{Node, Under, serial_of}
use Rattle.gcx_model.specs.Core.{OffTree}
use Rattle.gcx_model.specs.Run.{Offed}
use Rattle.gcx_model.specs.Placed.{offs_in}
use Rattle.gcx_model.specs.Held.{live, roles_live, is_held, held}
use Rattle.gcx_model.specs.Past.{Past, IsPast, past_acted, is_signed, roles_signed}
use Rattle.base_laws.proofs.Bools.{same_bools}
use Rattle.past_laws.specs.Pasts.{bases}
use Rattle.tree_laws.proofs.Lists.{In, In-filter, In-kept}
use Rattle.past_laws.proofs.Bases.{is_grown, live_by_bases}
use Rattle.past_laws.proofs.Changes.{live_by_act, signed_by_act}
use Rattle.placed_laws.proofs.HeldChanges.{held_by_act}
use Rattle.past_laws.proofs.PastForms.{past_acts}
use Rattle.past_laws.proofs.RowFacts.{row_tells}
use Rattle.buf_tree.specs.Row.{Row}
use Rattle.buf_tree.specs.Shape.{Cell, CellsRise}
use Rattle.buf_tree.specs.Purge.{Purged}
use Rattle.buf_tree.specs.Stands.{Seen, seen, told}
use Rattle.buf_tree.proofs.Changes.{map-map}
use Rattle.buf_tree.proofs.Standing.{rows_held, held_up}
use Rattle.buf_tree.proofs.Feeding.{map_both}

-- the row signed for the role k, where `here`, and without the role, unless it stays
abbrev pub sign_row : (here stays : Bool) → ℕ → Row → Row
sign_row here stays k r = record r {
  roles = cond stays r.roles (set.remove r.roles k);
  signed = cond here (set.insert r.signed k) r.signed;
}

-- the row at the place p signed, and the role taken from the rows that nothing keeps it for
abbrev pub sign_cell : (Cell → Bool) → ℕ → ℕ → Cell → Cell
sign_cell keeps p k c = record { place = c.place; row = sign_row (c.place == p) (keeps c) k c.row }

-- what a list of numbers has
pub listed : (xs : List ℕ) (q : ℕ) → In q xs → list_any (eq_by_cmp nat_cmp q) xs ≡ true
listed [] q i = absurd i
listed (x ∷ xs) q (inl e) = or_left _ _ (unsigned_tied q x ∙ eq-eqb q x (sym e))
listed (x ∷ xs) q (inr i) = or_right _ _ (listed xs q i)

pub in_listed : (xs : List ℕ) (q : ℕ) → list_any (eq_by_cmp nat_cmp q) xs ≡ true → In q xs
in_listed [] q h = absurd (false≢true h)
in_listed (x ∷ xs) q h = elim (or_cases (eq_by_cmp nat_cmp q x) (list_any (eq_by_cmp nat_cmp q) xs) h) [
  | inl e ↦ inl (sym (eqb-true q x (sym (unsigned_tied q x) ∙ e)))
  | inr k ↦ inr (in_listed xs q k)
]

pub has_listed : (xs : List ℕ) (q : ℕ) (b : Bool) → (In q xs → b ≡ true) → (b ≡ true → In q xs) → set.contains (from_list {R = nat_cmp} xs) q ≡ b
has_listed xs q b to from = contains-from_list nat_cmp_total xs q ∙ same_bools _ b (λ h. to (in_listed xs q h)) (λ h. listed xs q (from h))

-- the roles of a row as a set are those live at its node, and the roles signed at it those signed
pub has_live : (past : Past) → IsPast past → (n : Node) (r : ℕ) → set.contains (told past n).roles r ≡ live past.plan past.tree past.acts n r
has_live past is n r = has_listed (roles_live past.plan past.tree past.acts n) r (live past.plan past.tree past.acts n r) (row_tells past is n r).0.0 (row_tells past is n r).0.1

pub has_signed : (past : Past) → IsPast past → (n : Node) (r : ℕ) → set.contains (told past n).signed r ≡ is_signed past.plan past.acts n r
has_signed past is n r = has_listed (roles_signed past.plan past.acts n) r (is_signed past.plan past.acts n r) (row_tells past is n r).1.0 (row_tells past is n r).1.1

module _ (past : Past) (is : IsPast past) (s : OffTree) (stated : In s (offs_in past.plan.body)) (m : Node) (base : In m (bases past s)) where
  abbrev now : Past
  now = past_acted (Offed s (serial_of m)) past

  is_now : IsPast now
  is_now = (past_acts past is).1 s m stated base

  -- a role that is live then was so before
  was_live : (n : Node) → In n past.tree.nodes → live past.plan past.tree now.acts n s.role ≡ true → live past.plan past.tree past.acts n s.role ≡ true
  was_live n i e =
      let b = (live_by_act past is s stated m base n i).1.0 e in
      (live_by_bases past is s stated n i).1 (b.0, b.1, b.2, b.4)

  -- the roles live then
  roles_then : (n : Node) → In n past.tree.nodes
      → cond (live past.plan past.tree now.acts n s.role) (from_list {R = nat_cmp} (roles_live past.plan past.tree past.acts n)) (set.remove (from_list {R = nat_cmp} (roles_live past.plan past.tree past.acts n)) s.role) ≡ from_list (roles_live past.plan past.tree now.acts n)
  roles_then n i = go (live past.plan past.tree now.acts n s.role) refl
    where
      S : FinSet nat_cmp
      S = from_list {R = nat_cmp} (roles_live past.plan past.tree past.acts n)

      other : (r : ℕ) → (r ≡ s.role → ⊥) → live past.plan past.tree past.acts n r ≡ live past.plan past.tree now.acts n r
      other r d = sym ((live_by_act past is s stated m base n i).0 r d)

      go : (b : Bool) → live past.plan past.tree now.acts n s.role ≡ b → cond b S (set.remove S s.role) ≡ from_list (roles_live past.plan past.tree now.acts n)
      go true e = same_set nat_cmp_total nat_cmp-IsAntisymmetric S (from_list (roles_live past.plan past.tree now.acts n)) (λ r. has_live past is n r ∙ each r ∙ sym (has_live now is_now n r))
        where
          each : (r : ℕ) → live past.plan past.tree past.acts n r ≡ live past.plan past.tree now.acts n r
          each r = elim (cases_eq r s.role) [
            | inl d ↦ ap (live past.plan past.tree past.acts n) d ∙ was ∙ sym (ap (live past.plan past.tree now.acts n) d ∙ e)
            | inr d ↦ other r d
          ]
            where
              was : live past.plan past.tree past.acts n s.role ≡ true
              was = was_live n i e
      go false e = same_set nat_cmp_total nat_cmp-IsAntisymmetric (set.remove S s.role) (from_list (roles_live past.plan past.tree now.acts n)) (λ r. contains-remove nat_cmp_total S s.role r ∙ elim (cases_eq r s.role) [
        | inl d ↦ ap (λ b. not b && set.contains S r) (unsigned_tied r s.role ∙ eq-eqb r s.role d) ∙ sym (has_live now is_now n r ∙ ap (live past.plan past.tree now.acts n) d ∙ e)
        | inr d ↦ ap (λ b. not b && set.contains S r) (unsigned_tied r s.role ∙ ne_eqb r s.role d) ∙ has_live past is n r ∙ other r d ∙ sym (has_live now is_now n r)
      ])

  -- the roles signed then
  signed_then : (n : Node)
      → cond (serial_of m == serial_of n) (set.insert (from_list {R = nat_cmp} (roles_signed past.plan past.acts n)) s.role) (from_list {R = nat_cmp} (roles_signed past.plan past.acts n)) ≡ from_list (roles_signed past.plan now.acts n)
  signed_then n = go (serial_of m == serial_of n) refl
    where
      T : FinSet nat_cmp
      T = from_list {R = nat_cmp} (roles_signed past.plan past.acts n)

      either : (a b : Bool) → (a || b) ≡ (b || (a && true))
      either true true = refl
      either true false = refl
      either false true = refl
      either false false = refl

      alone : (a b : Bool) → b ≡ (b || (a && false))
      alone true true = refl
      alone true false = refl
      alone false true = refl
      alone false false = refl

      go : (h : Bool) → (serial_of m == serial_of n) ≡ h → cond h (set.insert T s.role) T ≡ from_list (roles_signed past.plan now.acts n)
      go true e = same_set nat_cmp_total nat_cmp-IsAntisymmetric (set.insert T s.role) (from_list (roles_signed past.plan now.acts n)) (λ r.
          contains-insert nat_cmp_total T s.role r
          ∙ ap (λ b. b || set.contains T r) (unsigned_tied r s.role)
          ∙ ap (λ b. (r == s.role) || b) (has_signed past is n r)
          ∙ either (r == s.role) (is_signed past.plan past.acts n r)
          ∙ ap (λ b. is_signed past.plan past.acts n r || ((r == s.role) && b)) (sym e)
          ∙ sym (has_signed now is_now n r ∙ (signed_by_act past is s stated m n).0 r))
      go false e = same_set nat_cmp_total nat_cmp-IsAntisymmetric T (from_list (roles_signed past.plan now.acts n)) (λ r.
          has_signed past is n r
          ∙ alone (r == s.role) (is_signed past.plan past.acts n r)
          ∙ ap (λ b. is_signed past.plan past.acts n r || ((r == s.role) && b)) (sym e)
          ∙ sym (has_signed now is_now n r ∙ (signed_by_act past is s stated m n).0 r))

  -- a row that is signed so tells its node behind the statement
  pub sign_tells : (c : Cell) (n : Node) (keeps : Cell → Bool) (q : ℕ) → In n past.tree.nodes → seen c ≡ told past n → keeps c ≡ live past.plan past.tree now.acts n s.role → (c.place == q) ≡ (serial_of m == serial_of n)
      → seen (sign_cell keeps q s.role c) ≡ told now n
  sign_tells c n keeps q i e f g =
      ap (λ (z : Seen). record z { roles = cond (keeps c) z.roles (set.remove z.roles s.role); signed = cond (c.place == q) (set.insert z.signed s.role) z.signed }) e
      ∙ (λ t. record (told past n) { roles = cond (f t) (told past n).roles (set.remove (told past n).roles s.role); signed = cond (g t) (set.insert (told past n).signed s.role) (told past n).signed })
      ∙ (λ t. record (told past n) { roles = roles_then n i t; signed = signed_then n t })

  -- so the rows are right behind the departures
  pub rows_signed : (xs ys : List Cell) (gone : List ℕ) (keeps : Cell → Bool) (q : ℕ) → map seen xs ≡ map (told past) (held past.plan past.tree past.acts)
      → ((c : Cell) (n : Node) → In c xs → In n (held past.plan past.tree past.acts) → seen c ≡ told past n → (keeps c ≡ live past.plan past.tree now.acts n s.role) × ((c.place == q) ≡ (serial_of m == serial_of n)))
      → CellsRise (map (sign_cell keeps q s.role) xs) → Purged (map (sign_cell keeps q s.role) xs) ys gone → map seen ys ≡ map (told now) (held now.plan now.tree now.acts)
  rows_signed xs ys gone keeps q e f rise u =
      rows_held now (is_grown now is_now) (map (sign_cell keeps q s.role) xs) ys gone rise u (held past.plan past.tree past.acts)
      (map-map (sign_cell keeps q s.role) seen xs
      ∙ map_both seen (told past) (λ c. seen (sign_cell keeps q s.role c)) (told now) xs (held past.plan past.tree past.acts) e
      (λ c n j k h. let z = f c n j k h in sign_tells c n keeps q (In-filter (is_held past.plan past.tree past.acts) n past.tree.nodes k).0 h z.0 z.1))
      (λ n j. (In-filter (is_held past.plan past.tree past.acts) n past.tree.nodes j).0)
      (λ n t k j. let z = In-filter (is_held past.plan past.tree past.acts) (Under n t k) past.tree.nodes j in In-kept (is_held past.plan past.tree past.acts) n past.tree.nodes ((is_grown past is).upward n t k z.0) (held_up past (is_grown past is) n t k z.0 z.1))
      all
      ∙ ap (map (told now)) (sym then)
    where
      then : held now.plan now.tree now.acts ≡ filter (is_held now.plan now.tree now.acts) (held past.plan past.tree past.acts)
      then = held_by_act is.core is.good past.plan is.placed past.tree past.acts (Offed s (serial_of m))

      all : (n : Node) → In n past.tree.nodes → is_held now.plan now.tree now.acts n ≡ true → In n (held past.plan past.tree past.acts)
      all n j h = (In-filter (is_held now.plan now.tree now.acts) n (held past.plan past.tree past.acts) (subst (λ (zs : List Node). In n zs) then (In-kept (is_held now.plan now.tree now.acts) n past.tree.nodes j h))).0
