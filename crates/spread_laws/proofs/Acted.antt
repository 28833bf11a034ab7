-- Tops behind an action.
use Rattle.std.proofs.Common.{◌≡◌, ℕ, Bool, true, false, cond, not, ◌&&◌, ◌||◌, List, [], ◌∷◌, ◌++◌, length, refl, sym, ◌∙◌, ap, subst, ◌⊎◌, Some, None, Option, eqb}
use Rattle.std.specs.List.{filter}
use Rattle.std.proofs.Math.Bool.{and-true, or-false}
use Rattle.std.proofs.Math.Path.{fun_ext}
use Rattle.std.proofs.lemmas.Bool.{or_parts, or_from, true≢false, false≢true, eqb-true, eq-eqb, ne_eqb, false_from_ne_true}
use Rattle.gcx_model.specs.Tree.{Node, serial_of, above, Tree}
use Rattle.gcx_model.specs.Paths.{any, all, hits, matches}
use Rattle.gcx_model.specs.Members.{In, count}
use Rattle.gcx_model.specs.Core.{OffTree, PlanTree}
use Rattle.gcx_model.specs.Run.{Wrote, Offed}
use Rattle.gcx_model.specs.Placed.{offs_in}
use Rattle.gcx_model.specs.Held.{path_of, statement_of, given, is_off, signed, reaches, on_off, live, roles_live, is_held, held}
use Rattle.gcx_model.specs.Past.{Past, past_acted, IsPast, roles_signed}
use Rattle.base_laws.proofs.Bools.{same_bools}
use Rattle.tree_laws.proofs.Lists.{In-filter, filter_same}
use Rattle.tree_laws.proofs.Chains.{hits_above}
use Rattle.tree_laws.proofs.Matches.{Numbered-same, Matches-in}
use Rattle.placed_laws.proofs.Stays.{any-append, any_same}
use Rattle.past_laws.specs.Pasts.{bases}
use Rattle.past_laws.proofs.Bases.{is_grown, tells, reached_live}
use Rattle.past_laws.proofs.Changes.{filter_both, live_by_act, signed_by_act}
use Rattle.past_laws.proofs.PastForms.{past_acts}
use Rattle.past_laws.proofs.RowFacts.{held_above, bases_above}
use Rattle.spread_laws.specs.Tops.{is_whole_kind, is_spread, is_top, is_kept_at}
use Rattle.spread_laws.specs.Keeping.{KeptByWrite, TopsByAct, TopsByRows, KeptByAct, AloneTakes}
use Rattle.spread_laws.proofs.Tops.{leads, led, is_led, kept_by, stated_in, kept_tells}
use Rattle.spread_laws.proofs.Opened.{base_row, row_base, unsigned_row, row_unsigned}

-- a write signs nothing

abbrev Signs : Type 0
Signs = OffTree → Node → Bool

abbrev live_with : PlanTree → Tree → Signs → Node → ℕ → Bool
live_with plan P sg n r = given plan P n r && not (given plan P n r && on_off (λ o. all (λ m. not (reaches P o m n) || sg o m) (matches P 0 (path_of plan o.base))) (statement_of plan r))

abbrev kept_with : PlanTree → Tree → Signs → Node → List ℕ
kept_with plan P sg n =
    filter (λ r. cond (is_spread plan r) (on_off (λ s. any (λ m. not (sg s m) && hits (serial_of m) (s.rel ++ s.tail) n) (matches P 0 (path_of plan s.base))) (statement_of plan r)) (live_with plan P sg n r))
    (count 0 (length plan.roles))

pub kept_by_write : KeptByWrite
kept_by_write past b n = ap (λ (sg : Signs). kept_with past.plan past.tree sg n) same
  where
    same : signed (past.acts ++ Wrote b ∷ []) ≡ signed past.acts
    same = fun_ext (λ o. fun_ext (λ m. any-append (is_off o (serial_of m)) past.acts (Wrote b ∷ []) ∙ or-false (signed past.acts o m)))

-- a statement

module _ (past : Past) (is : IsPast past) (s : OffTree) (stands : In s (offs_in past.plan.body)) (m : Node) (base : In m (bases past s)) where
  abbrev after : Past
  after = past_acted (Offed s (serial_of m)) past

  signed_after : (o : OffTree) → In o (offs_in past.plan.body) → (b : Node) → signed (past.acts ++ Offed s (serial_of m) ∷ []) o b ≡ (signed past.acts o b || (eqb o.role s.role && eqb (serial_of m) (serial_of b)))
  signed_after o j b =
      let e = (tells past is o j).stated in
      sym (ap (on_off (λ (x : OffTree). signed (past.acts ++ Offed s (serial_of m) ∷ []) x b)) e)
      ∙ ((signed_by_act past is s stands m b).0 o.role ∙ ap (λ z. z || (eqb o.role s.role && eqb (serial_of m) (serial_of b))) (ap (on_off (λ (x : OffTree). signed past.acts x b)) e))

  other_after : (o : OffTree) → In o (offs_in past.plan.body) → (o.role ≡ s.role → ⊥) → (b : Node) → signed (past.acts ++ Offed s (serial_of m) ∷ []) o b ≡ signed past.acts o b
  other_after o j h b = signed_after o j b ∙ (ap (λ z. signed past.acts o b || (z && eqb (serial_of m) (serial_of b))) (ne_eqb o.role s.role h) ∙ or-false (signed past.acts o b))

  own_after : (b : Node) → signed (past.acts ++ Offed s (serial_of m) ∷ []) s b ≡ (signed past.acts s b || eqb (serial_of m) (serial_of b))
  own_after b = signed_after s stands b ∙ ap (λ z. signed past.acts s b || (z && eqb (serial_of m) (serial_of b))) (eq-eqb s.role s.role refl)

  base_in : In m past.tree.nodes
  base_in = (Matches-in past.tree 0 (path_of past.plan s.base) m base).0

  module _ (n : Node) (i : In n past.tree.nodes) where
    -- another base leads to the node
    abbrev ByOther : Type 0
    ByOther = (b : Node) × In b (bases past s) × (signed past.acts s b ≡ false) × (serial_of b ≡ serial_of m → ⊥) × (hits (serial_of b) (s.rel ++ s.tail) n ≡ true)

    other_tops : (o : OffTree) → In o (offs_in past.plan.body) → (o.role ≡ s.role → ⊥) → is_top (past_acted (Offed s (serial_of m)) past) o n ≡ is_top past o n
    other_tops o j h = any_same (leads after o n) (leads past o n) (bases past o) (λ b k. ap (λ z. not z && hits (serial_of b) (o.rel ++ o.tail) n) (other_after o j h b))

    by_other : is_top (past_acted (Offed s (serial_of m)) past) s n ≡ true → ByOther
    by_other h =
        let r = led after s n h in
        let u = or_parts (signed past.acts s r.0) (eqb (serial_of m) (serial_of r.0)) (sym (own_after r.0) ∙ r.2) in
        (r.0, r.1, u.0, (λ e. true≢false (sym (eq-eqb (serial_of m) (serial_of r.0) (sym e)) ∙ u.1)), r.3)

    other_by : ByOther → is_top (past_acted (Offed s (serial_of m)) past) s n ≡ true
    other_by b = is_led after s n (b.0, b.1, own_after b.0 ∙ or_from (signed past.acts s b.0) (eqb (serial_of m) (serial_of b.0)) b.2 (ne_eqb (serial_of m) (serial_of b.0) (λ e. b.3 (sym e))), b.4)

    -- it was a top before
    was_top : is_top (past_acted (Offed s (serial_of m)) past) s n ≡ true → is_top past s n ≡ true
    was_top h = let r = by_other h in is_led past s n (r.0, r.1, r.2, r.4)

    -- what leads to the node is the node or above it
    led_above : (b : Node) → In b (bases past s) → hits (serial_of b) (s.rel ++ s.tail) n ≡ true → In b (above n)
    led_above b k h = hits_above past.tree (is_grown past is) b (s.rel ++ s.tail) n (Matches-in past.tree 0 (path_of past.plan s.base) b k).0 i h

    outside : (In m (above n) → ⊥) → is_top (past_acted (Offed s (serial_of m)) past) s n ≡ is_top past s n
    outside out = same_bools (is_top after s n) (is_top past s n) was_top stays
      where
        stays : is_top past s n ≡ true → is_top (past_acted (Offed s (serial_of m)) past) s n ≡ true
        stays h =
            let b = led past s n h in
            let ib = (Matches-in past.tree 0 (path_of past.plan s.base) b.0 b.1).0 in
            other_by (b.0, b.1, b.2, (λ e. out (subst (λ (z : Node). In z (above n)) (Numbered-same 0 past.tree.nodes (is_grown past is).numbered b.0 m ib base_in e) (led_above b.0 b.1 b.3))), b.3)

    -- the roles kept

    was_live : live past.plan past.tree (past.acts ++ Offed s (serial_of m) ∷ []) n s.role ≡ true → live past.plan past.tree past.acts n s.role ≡ true
    was_live h = let r = (live_by_act past is s stands m base n i).1.0 h in reached_live past is s stands r.0 n i r.1 r.2 r.4

    was_kept : is_kept_at (past_acted (Offed s (serial_of m)) past) n s.role ≡ true → is_kept_at past n s.role ≡ true
    was_kept h = (kept_tells past is s stands n).1 ∙ go (is_whole_kind s.kind) (sym (kept_tells after ((past_acts past is).1 s m stands base) s stands n).1 ∙ h)
      where
        go : (c : Bool) → cond c (is_top (past_acted (Offed s (serial_of m)) past) s n) (live past.plan past.tree (past.acts ++ Offed s (serial_of m) ∷ []) n s.role) ≡ true
            → cond c (is_top past s n) (live past.plan past.tree past.acts n s.role) ≡ true
        go true e = was_top e
        go false e = was_live e

    others_kept : (r : ℕ) → (r ≡ s.role → ⊥) → is_kept_at (past_acted (Offed s (serial_of m)) past) n r ≡ is_kept_at past n r
    others_kept r h = at (statement_of past.plan r) refl
      where
        lives : live past.plan past.tree (past.acts ++ Offed s (serial_of m) ∷ []) n r ≡ live past.plan past.tree past.acts n r
        lives = (live_by_act past is s stands m base n i).0 r h

        same : (o : OffTree) → In o (offs_in past.plan.body) → (o.role ≡ s.role → ⊥) → (c : Bool)
            → cond c (is_top (past_acted (Offed s (serial_of m)) past) o n) (live past.plan past.tree (past.acts ++ Offed s (serial_of m) ∷ []) n r) ≡ cond c (is_top past o n) (live past.plan past.tree past.acts n r)
        same o j d true = other_tops o j d
        same o j d false = lives

        at : (o : Option OffTree) → statement_of past.plan r ≡ o → kept_by (past_acted (Offed s (serial_of m)) past) n r o ≡ kept_by past n r o
        at None e = lives
        at (Some o) e = let q = stated_in past is r o e in same o q.0 (λ f. h (sym q.1 ∙ f)) (is_whole_kind o.kind)

pub tops_by_act : TopsByAct
tops_by_act past is s j m base n i = (other_tops past is s j m base n i, (by_other past is s j m base n i, other_by past is s j m base n i), outside past is s j m base n i)

pub tops_by_rows : TopsByRows
tops_by_rows past is s j m base n i = (there, back)
  where
    inside : In n past.tree.nodes
    inside = (In-filter (is_held past.plan past.tree past.acts) n past.tree.nodes i).0

    there : is_top (past_acted (Offed s (serial_of m)) past) s n ≡ true
        → (b : Node) × In b (held past.plan past.tree past.acts)
        × (In s.own (roles_live past.plan past.tree past.acts b) ⊎ In s.own (roles_signed past.plan past.acts b)) × (In s.role (roles_signed past.plan past.acts b) → ⊥)
        × (serial_of b ≡ serial_of m → ⊥) × (hits (serial_of b) (s.rel ++ s.tail) n ≡ true)
    there h =
        let r = by_other past is s j m base n inside h in
        let ib = (Matches-in past.tree 0 (path_of past.plan s.base) r.0 r.1).0 in
        (r.0, held_above past is n r.0 i (led_above past is s j m base n inside r.0 r.1 r.4), base_row past is s j r.0 ib r.1, unsigned_row past is s j r.0 r.2, r.3, r.4)

    back : (b : Node) × In b (held past.plan past.tree past.acts)
        × (In s.own (roles_live past.plan past.tree past.acts b) ⊎ In s.own (roles_signed past.plan past.acts b)) × (In s.role (roles_signed past.plan past.acts b) → ⊥)
        × (serial_of b ≡ serial_of m → ⊥) × (hits (serial_of b) (s.rel ++ s.tail) n ≡ true)
        → is_top (past_acted (Offed s (serial_of m)) past) s n ≡ true
    back h =
        let ib : In h.0 past.tree.nodes = (In-filter (is_held past.plan past.tree past.acts) h.0 past.tree.nodes h.1).0 in
        other_by past is s j m base n inside (h.0, row_base past is s j h.0 ib h.2, row_unsigned past is s j h.0 h.3, h.4, h.5)

pub kept_by_act : KeptByAct
kept_by_act past is s j m base n i = go (after_ s.role) refl
  where
    after_ : ℕ → Bool
    after_ r = is_kept_at (past_acted (Offed s (serial_of m)) past) n r

    before : ℕ → Bool
    before r = is_kept_at past n r

    cs : List ℕ
    cs = count 0 (length past.plan.roles)

    kept : after_ s.role ≡ true → (r : ℕ) → (c : Bool) → eqb r s.role ≡ c → after_ r ≡ before r
    kept h r true e = subst (λ (z : ℕ). after_ z ≡ before z) (sym (eqb-true r s.role e)) (h ∙ sym (was_kept past is s j m base n i h))
    kept h r false e = others_kept past is s j m base n i r (λ f. false≢true (sym e ∙ eq-eqb r s.role f))

    lost : after_ s.role ≡ false → (r : ℕ) → (c : Bool) → eqb r s.role ≡ c → after_ r ≡ (before r && not c)
    lost h r true e = subst (λ (z : ℕ). after_ z ≡ (before z && false)) (sym (eqb-true r s.role e)) (h ∙ none (before s.role))
      where
        none : (x : Bool) → false ≡ (x && false)
        none true = refl
        none false = refl
    lost h r false e = others_kept past is s j m base n i r (λ f. false≢true (sym e ∙ eq-eqb r s.role f)) ∙ sym (and-true (before r))

    go : (c : Bool) → after_ s.role ≡ c → filter after_ cs ≡ cond c (filter before cs) (filter (λ r. not (eqb r s.role)) (filter before cs))
    go true h = filter_same after_ before cs (λ r k. kept h r (eqb r s.role) refl)
    go false h = filter_both (λ (r : ℕ). not (eqb r s.role)) before after_ cs (λ r. lost h r (eqb r s.role) refl)

pub alone_takes : AloneTakes
alone_takes past is s j m base alone n i up = (
  false_from_ne_true (live past.plan past.tree (past.acts ++ Offed s (serial_of m) ∷ []) n s.role) (λ h.
      let r = (live_by_act past is s j m base n i).1.0 h in
      other r.0 r.1 r.3 ((bases_above past is s r.0 r.1 n i).0 r.4)),
  false_from_ne_true (is_top (past_acted (Offed s (serial_of m)) past) s n) (λ h.
      let r = by_other past is s j m base n i h in
      other r.0 r.1 r.3 (led_above past is s j m base n i r.0 r.1 r.4)),
)
  where
    -- another base isn't above the node
    other : (b : Node) → In b (bases past s) → (serial_of b ≡ serial_of m → ⊥) → In b (above n) → ⊥
    other b k d v = d (ap serial_of (((bases_above past is s m base n i).1 b k up v).1 alone))
