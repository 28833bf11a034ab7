-- Tops tell where spread roles are live.
use Rattle.std.proofs.Common.{◌≡◌, ℕ, Bool, true, false, cond, not, ◌&&◌, ◌||◌, ◌++◌, length, refl, sym, ◌∙◌, ap, subst, inl, inr, Some, None, Option}
use Rattle.std.proofs.Math.Bool.{or-false}
use Rattle.std.proofs.lemmas.Bool.{or_cases, or_left, or_right, and_parts, and_from, not-true}
use Rattle.gcx_base.specs.declared.kind.Kind.{Kind}
use Rattle.gcx_model.specs.Tree.{Node, Root, Under, serial_of, above}
use Rattle.gcx_model.specs.Paths.{hits}
use Rattle.gcx_model.specs.Members.{In, count}
use Rattle.gcx_model.specs.Core.{RoleTarget, Own, First, Whole, OffTree}
use Rattle.gcx_model.specs.Placed.{offs_in}
use Rattle.gcx_model.specs.Held.{statement_of, gives, signed, on_off, live}
use Rattle.gcx_model.specs.Past.{Past, IsPast}
use Rattle.base_laws.proofs.Bools.{same_bools}
use Rattle.tree_laws.proofs.Lists.{any_in, any_from}
use Rattle.tree_laws.proofs.Chains.{above_self}
use Rattle.tree_laws.proofs.Fed.{root_from}
use Rattle.placed_laws.proofs.PlanStatements.{one_statement_law}
use Rattle.past_laws.specs.Pasts.{bases}
use Rattle.past_laws.proofs.Bases.{is_grown, tells, reached_live, live_reached}
use Rattle.past_laws.proofs.Changes.{filter_both}
use Rattle.spread_laws.specs.Tops.{is_whole_kind, is_spread, is_top, is_kept_at}
use Rattle.spread_laws.specs.Keeping.{LiveByTops, LiveByKept, KeptTells, KeptAreLive}

-- a base that isn't signed, from which the statement's steps and its tail lead to the node
abbrev pub LedFrom : Past → OffTree → Node → Type 0
LedFrom past s n = (m : Node) × In m (bases past s) × (signed past.acts s m ≡ false) × (hits (serial_of m) (s.rel ++ s.tail) n ≡ true)

module _ (past : Past) (s : OffTree) (n : Node) where
  abbrev pub leads : Node → Bool
  leads m = not (signed past.acts s m) && hits (serial_of m) (s.rel ++ s.tail) n

  pub led : is_top past s n ≡ true → LedFrom past s n
  led h =
      let r = any_in leads (bases past s) h in
      let a = and_parts (not (signed past.acts s r.0)) (hits (serial_of r.0) (s.rel ++ s.tail) n) r.2 in
      (r.0, r.1, not-true (signed past.acts s r.0) a.0, a.1)

  pub is_led : LedFrom past s n → is_top past s n ≡ true
  is_led b = any_from leads b.0 (bases past s) b.1 (and_from _ _ (ap not b.2) b.3)

pub live_by_tops : LiveByTops
live_by_tops past is s i whole n j = (there, back)
  where
    there : live past.plan past.tree past.acts n s.role ≡ true → (a : Node) × In a (above n) × (is_top past s a ≡ true)
    there h =
        let r = live_reached past is s i n h in
        let g : gives past.tree (serial_of r.0) s.rel s.tail Whole n ≡ true = subst (λ (k : RoleTarget). gives past.tree (serial_of r.0) s.rel s.tail k n ≡ true) whole r.3 in
        let a = any_in (hits (serial_of r.0) (s.rel ++ s.tail)) (above n) g in
        (a.0, a.1, is_led past s a.0 (r.0, r.1, r.2, a.2))

    back : (a : Node) × In a (above n) × (is_top past s a ≡ true) → live past.plan past.tree past.acts n s.role ≡ true
    back h =
        let b = led past s h.0 h.2 in
        let g : gives past.tree (serial_of b.0) s.rel s.tail Whole n ≡ true = any_from (hits (serial_of b.0) (s.rel ++ s.tail)) h.0 (above n) h.1 b.3 in
        reached_live past is s i b.0 n j b.1 b.2 (subst (λ (k : RoleTarget). gives past.tree (serial_of b.0) s.rel s.tail k n ≡ true) (sym whole) g)

-- what is kept of a role that has this statement
abbrev pub kept_by : Past → Node → ℕ → Option OffTree → Bool
kept_by past n r o = cond (on_off (λ s. is_whole_kind s.kind) o) (on_off (λ s. is_top past s n) o) (live past.plan past.tree past.acts n r)

module _ (past : Past) (is : IsPast past) where
  -- a role that has a statement has that of the plan
  pub stated_in : (r : ℕ) (s : OffTree) → statement_of past.plan r ≡ Some s → In s (offs_in past.plan.body) × (s.role ≡ r)
  stated_in r s e = (one_statement_law is.core is.good past.plan is.placed r s).0 e

  module _ (r : ℕ) (s : OffTree) (e : statement_of past.plan r ≡ Some s) (whole : s.kind ≡ Whole) where
    live_top : (n : Node) → In n past.tree.nodes → live past.plan past.tree past.acts n r ≡ true → (a : Node) × In a (above n) × (is_top past s a ≡ true)
    live_top n j h =
        let q = stated_in r s e in
        (live_by_tops past is s q.0 whole n j).0 (subst (λ (z : ℕ). live past.plan past.tree past.acts n z ≡ true) (sym q.1) h)

    top_live : (n : Node) → In n past.tree.nodes → (a : Node) → In a (above n) → is_top past s a ≡ true → live past.plan past.tree past.acts n r ≡ true
    top_live n j a u t =
        let q = stated_in r s e in
        subst (λ (z : ℕ). live past.plan past.tree past.acts n z ≡ true) q.1 ((live_by_tops past is s q.0 whole n j).1 (a, u, t))

    whole_root : live past.plan past.tree past.acts Root r ≡ is_top past s Root
    whole_root = same_bools (live past.plan past.tree past.acts Root r) (is_top past s Root) there (top_live Root root Root (inl refl))
      where
        root : In Root past.tree.nodes
        root = root_from past.tree is.grown

        there : live past.plan past.tree past.acts Root r ≡ true → is_top past s Root ≡ true
        there h =
            let a = live_top Root root h in
            elim a.1 [ inl f ↦ subst (λ (x : Node). is_top past s x ≡ true) (sym f) a.2 | inr z ↦ absurd z ]

    whole_under : (p : Node) (q : ℕ) (k : Kind) → In (Under p q k) past.tree.nodes
        → live past.plan past.tree past.acts (Under p q k) r ≡ (is_top past s (Under p q k) || live past.plan past.tree past.acts p r)
    whole_under p q k j = same_bools (live past.plan past.tree past.acts (Under p q k) r) (is_top past s (Under p q k) || live past.plan past.tree past.acts p r) there back
      where
        parent : In p past.tree.nodes
        parent = (is_grown past is).upward p q k j

        there : live past.plan past.tree past.acts (Under p q k) r ≡ true → (is_top past s (Under p q k) || live past.plan past.tree past.acts p r) ≡ true
        there h =
            let a = live_top (Under p q k) j h in
            elim a.1 [
              | inl f ↦ or_left _ _ (subst (λ (x : Node). is_top past s x ≡ true) (sym f) a.2)
              | inr u ↦ or_right _ _ (top_live p parent a.0 u a.2)
            ]

        back : (is_top past s (Under p q k) || live past.plan past.tree past.acts p r) ≡ true → live past.plan past.tree past.acts (Under p q k) r ≡ true
        back h = elim (or_cases (is_top past s (Under p q k)) (live past.plan past.tree past.acts p r) h) [
          | inl t ↦ top_live (Under p q k) j (Under p q k) (inl refl) t
          | inr l ↦ (let a = live_top p parent l in top_live (Under p q k) j a.0 (inr a.1) a.2)
        ]

pub live_by_kept : LiveByKept
live_by_kept past is r = (at_root (statement_of past.plan r) refl, λ p q k j. under p q k j (statement_of past.plan r) refl)
  where
    at_root : (o : Option OffTree) → statement_of past.plan r ≡ o → live past.plan past.tree past.acts Root r ≡ kept_by past Root r o
    at_root None e = refl
    at_root (Some s) e = go s.kind refl
      where
        go : (k : RoleTarget) → s.kind ≡ k → live past.plan past.tree past.acts Root r ≡ cond (is_whole_kind k) (is_top past s Root) (live past.plan past.tree past.acts Root r)
        go Own f = refl
        go First f = refl
        go Whole f = whole_root past is r s e f

    under : (p : Node) (q : ℕ) (kd : Kind) → In (Under p q kd) past.tree.nodes → (o : Option OffTree) → statement_of past.plan r ≡ o
        → live past.plan past.tree past.acts (Under p q kd) r ≡ (kept_by past (Under p q kd) r o || (on_off (λ (s : OffTree). is_whole_kind s.kind) o && live past.plan past.tree past.acts p r))
    under p q kd j None e = sym (or-false (live past.plan past.tree past.acts (Under p q kd) r))
    under p q kd j (Some s) e = go s.kind refl
      where
        go : (k : RoleTarget) → s.kind ≡ k
            → live past.plan past.tree past.acts (Under p q kd) r ≡ (cond (is_whole_kind k) (is_top past s (Under p q kd)) (live past.plan past.tree past.acts (Under p q kd) r) || (is_whole_kind k && live past.plan past.tree past.acts p r))
        go Own f = sym (or-false (live past.plan past.tree past.acts (Under p q kd) r))
        go First f = sym (or-false (live past.plan past.tree past.acts (Under p q kd) r))
        go Whole f = whole_under past is r s e f p q kd j

pub kept_tells : KeptTells
kept_tells past is s i n =
    let e = (tells past is s i).stated in
    (ap (on_off (λ (o : OffTree). is_whole_kind o.kind)) e, ap (kept_by past n s.role) e)

module _ (past : Past) (is : IsPast past) (n : Node) (j : In n past.tree.nodes) (r : ℕ) where
  kept_live : is_kept_at past n r ≡ true → live past.plan past.tree past.acts n r ≡ true
  kept_live h = at (statement_of past.plan r) refl h
    where
      at : (o : Option OffTree) → statement_of past.plan r ≡ o → kept_by past n r o ≡ true → live past.plan past.tree past.acts n r ≡ true
      at None e k = k
      at (Some s) e k = go s.kind refl k
        where
          go : (c : RoleTarget) → s.kind ≡ c → cond (is_whole_kind c) (is_top past s n) (live past.plan past.tree past.acts n r) ≡ true → live past.plan past.tree past.acts n r ≡ true
          go Own f t = t
          go First f t = t
          go Whole f t = top_live past is r s e f n j n (above_self n) t

  kept_same : is_spread past.plan r ≡ false → is_kept_at past n r ≡ live past.plan past.tree past.acts n r
  kept_same h = ap (λ (c : Bool). cond c (on_off (λ (s : OffTree). is_top past s n) (statement_of past.plan r)) (live past.plan past.tree past.acts n r)) h

  -- those kept are live, and pass this test
  pub kept_parts : is_kept_at past n r ≡ (live past.plan past.tree past.acts n r && (not (is_spread past.plan r) || is_kept_at past n r))
  kept_parts =
      same_bools (is_kept_at past n r) (live past.plan past.tree past.acts n r && (not (is_spread past.plan r) || is_kept_at past n r))
      (λ h. and_from _ _ (kept_live h) (or_right _ _ h))
      (λ h.
      let a = and_parts (live past.plan past.tree past.acts n r) (not (is_spread past.plan r) || is_kept_at past n r) h in
      elim (or_cases (not (is_spread past.plan r)) (is_kept_at past n r) a.1) [ inl x ↦ kept_same (not-true _ x) ∙ a.0 | inr x ↦ x ])

pub kept_are_live : KeptAreLive
kept_are_live past is n j = (
  kept_live past is n j,
  kept_same past is n j,
  filter_both (λ (r : ℕ). not (is_spread past.plan r) || is_kept_at past n r) (live past.plan past.tree past.acts n) (is_kept_at past n) (count 0 (length past.plan.roles)) (kept_parts past is n j),
)
