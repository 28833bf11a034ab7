-- A row behind the others in the rows that contracts see; and rows of a buffer in which no role is spread, which are kept as they are seen.
use Rattle.std.proofs.Common.{◌≡◌, ◌==◌, ℕ, Bool, true, false, cond, not, ◌&&◌, List, [], ◌∷◌, ◌++◌, map, refl, sym, ◌∙◌, ap, subst, inl, inr, ◌⊎◌, None, Option}
use Rattle.std.specs.FinSet.{len, retain}
use Rattle.std.proofs.lemmas.Bool.{false≢true, eq-eqb}
use Rattle.gcx_model.specs.Held.{held}
use Rattle.gcx_model.specs.Past.{Past}
use Rattle.tree_laws.proofs.Lists.{In, In-append}
use Rattle.buf_tree.specs.Shape.{Cell, num, Above}
use Rattle.buf_tree.specs.Spread.{SpreadView, is_spread_in, roles_at, with_roles, is_covered, seen_rows, TellsCovered}
use Rattle.buf_tree.specs.Stands.{Seen, seen, told}
use Rattle.buf_tree.proofs.Feeding.{map_both}
use Rattle.buf_tree.proofs.KeptStands.{kept_set}
use Rattle.buf_tree.proofs.Lifting.{seen_in, seen_is, unspread_same}
use Rattle.buf_tree.proofs.Changes.{map-map}
use Rattle.buf_tree.proofs.Spreading.{Roles, Upward, spread_cell, same_roles, above_push}

roles_front : (xs zs : List Cell) (a : Cell) → In a xs → roles_at (xs ++ zs) (num a) ≡ roles_at xs (num a)
roles_front [] zs a i = absurd i
roles_front (x ∷ xs) zs a i = go (num x == num a) refl i (λ j. roles_front xs zs a j)
  where
    go : (b : Bool) → (num x == num a) ≡ b → In a (x ∷ xs) → (In a xs → roles_at (xs ++ zs) (num a) ≡ roles_at xs (num a)) → cond b x.row.roles (roles_at (xs ++ zs) (num a)) ≡ cond b x.row.roles (roles_at xs (num a))
    go true e j ih = refl
    go false e (inl f) ih = absurd (false≢true (sym e ∙ eq-eqb (num x) (num a) (ap num f)))
    go false e (inr j) ih = ih j

covered_front : (sp : ℕ → Bool) (rs zs : List Cell) (d : Cell) → (num d ≡ 0) ⊎ Above rs d → is_covered sp (rs ++ zs) d ≡ is_covered sp rs d
covered_front sp rs zs d (inl e) =
    let z = eq-eqb (num d) 0 e in
    ap (λ b. not b && not (len (retain (roles_at (rs ++ zs) d.row.parent) sp) == 0)) z ∙ sym (ap (λ b. not b && not (len (retain (roles_at rs d.row.parent) sp) == 0)) z)
covered_front sp rs zs d (inr a) =
    ap (λ (S : Roles). not (num d == 0) && not (len (retain S sp) == 0)) (subst (λ (q : ℕ). roles_at (rs ++ zs) q ≡ roles_at rs q) a.2 (roles_front rs zs a.0 a.1))

module _ (s : Option SpreadView) (ks : List Cell) (up : Upward [] ks) (above : (c : Cell) → In c ks → (num c ≡ 0) ⊎ Above ks c) (c : Cell) where
  abbrev rs : List Cell
  rs = seen_rows s ks

  -- the new row as it is seen
  abbrev pub new : Cell
  new = with_roles (retain (roles_at (seen_rows s ks) c.row.parent) (is_spread_in s)) c

  pub pushed_seen : seen_rows s (ks ++ c ∷ []) ≡ seen_rows s ks ++ with_roles (retain (roles_at (seen_rows s ks) c.row.parent) (is_spread_in s)) c ∷ []
  pushed_seen = above_push (is_spread_in s) ks c

  above_seen : (d : Cell) → (num d ≡ 0) ⊎ Above ks d → (num d ≡ 0) ⊎ Above rs d
  above_seen d (inl e) = inl e
  above_seen d (inr a) = inr (spread_cell (is_spread_in s) rs a.0, seen_in s ks up a.0 a.1, a.2, a.3)

  pub pushed_covers : TellsCovered s ks → Above ks c → c.row.covered ≡ is_covered (is_spread_in s) (seen_rows s ks) c → TellsCovered s (ks ++ c ∷ [])
  pushed_covers h a e d i =
      subst (λ (zs : List Cell). d.row.covered ≡ is_covered (is_spread_in s) zs d) (sym pushed_seen) (elim (In-append d ks (c ∷ []) i) [
        | inl j ↦ h d j ∙ sym (covered_front (is_spread_in s) rs (new ∷ []) d (above_seen d (above d j)))
        | inr j ↦ elim j [
          | inl f ↦ subst (λ (z : Cell). z.row.covered ≡ is_covered (is_spread_in s) (rs ++ new ∷ []) z) f (e ∙ sym (covered_front (is_spread_in s) rs (new ∷ []) c (above_seen c (inr a))))
          | inr z ↦ absurd z
        ]
      ])

-- ---- no role is spread

none_same : (ks : List Cell) (up : Upward [] ks) (c : Cell) → (spread_cell (is_spread_in None) (seen_rows None ks) c).row.roles ≡ c.row.roles
none_same ks up c = same_roles (spread_cell (is_spread_in None) (seen_rows None ks) c).row.roles c.row.roles (λ k. unspread_same None ks up k refl c)

-- so the rows kept have the roles that are live, where those seen stand for the past
pub none_keeps : (past : Past) (ks : List Cell) → Upward [] ks → map seen (seen_rows None ks) ≡ map (told past) (held past.plan past.tree past.acts) → map (λ c. c.row.roles) ks ≡ map (kept_set None past) (held past.plan past.tree past.acts)
none_keeps past ks up e =
    sym (map_roles ks)
    ∙ (sym (map-map (spread_cell (is_spread_in None) (seen_rows None ks)) (λ (c : Cell). c.row.roles) ks)
    ∙ (sym (ap (map (λ (c : Cell). c.row.roles)) (seen_is None ks up))
    ∙ map_both seen (told past) (λ (c : Cell). c.row.roles) (kept_set None past) (seen_rows None ks) (held past.plan past.tree past.acts) e (λ c n i j h. ap (λ (z : Seen). z.roles) h)))
  where
    map_roles : (xs : List Cell) → map (λ c. (spread_cell (is_spread_in None) (seen_rows None ks) c).row.roles) xs ≡ map (λ c. c.row.roles) xs
    map_roles [] = refl
    map_roles (x ∷ xs) = λ t. none_same ks up x t ∷ map_roles xs t
