-- The roles that are kept at a new node, and that it has with those from above.
use Rattle.std.proofs.Common.{◌≡◌, ℕ, Bool, true, false, cond, not, ◌&&◌, ◌||◌, List, [], ◌++◌, length, map, refl, sym, ◌∙◌, ap, subst, inl, inr, ◌⊎◌, Some, None, Option}
use Rattle.std.specs.Prelude.{◌↔◌, slice_index_or, option_map, is_some}
use Rattle.std.specs.Ordering.{nat_cmp}
use Rattle.std.specs.FinSet.{FinSet, from_list, contains, retain, union}
use Rattle.std.proofs.lemmas.Bool.{and_parts}
use Rattle.gcx_base.specs.declared.kind.Kind.{Kind}
use Rattle.gcx_model.specs.declared.item.Off.{Off}
use Rattle.gcx_model.specs.ItemView.{off_tree}
use Rattle.gcx_model.specs.Core.{OffTree}
use Rattle.gcx_model.specs.Growth.{may_come}
use Rattle.gcx_model.specs.Paths.{hits}
use Rattle.gcx_model.specs.Placed.{offs_in}
use Rattle.gcx_model.specs.Tree.{TreeToken, Node, Under, serial_of, above, grow}
use Rattle.gcx_model.specs.Held.{path_of, statement_of, on_off, given, live, roles_live, held}
use Rattle.gcx_model.specs.Members.{count}
use Rattle.gcx_base.specs.declared.steps.Step.{Step}
use Rattle.gcx_model.specs.Past.{Past, IsPast, Opens, past_fed, open_nodes, open_from, roles_signed}
use Rattle.base_laws.proofs.Bools.{same_bools}
use Rattle.tree_laws.proofs.Lists.{In, filter_same}
use Rattle.tree_laws.proofs.Matches.{Matches-from}
use Rattle.past_laws.proofs.Ahead.{new_unsigned}
use Rattle.past_laws.proofs.Bases.{is_grown, tells}
use Rattle.past_laws.proofs.Changes.{live_by_feed}
use Rattle.past_laws.proofs.PastForms.{past_feeds}
use Rattle.past_laws.proofs.RowFacts.{held_above}
use Rattle.past_laws.specs.Pasts.{bases}
use Rattle.spread_laws.specs.Tops.{is_whole_kind, is_spread, is_top, is_kept_at, roles_kept, top_off, top_in}
use Rattle.spread_laws.proofs.Tops.{kept_parts, kept_tells, stated_in}
use Rattle.spread_laws.proofs.Opened.{new_tops, base_row, own_given as base_given}
use Rattle.buf_tree.specs.Shape.{Cell, CellsRise}
use Rattle.buf_tree.specs.Spread.{SpreadView, SpreadsAs, is_spread_in, roles_at, seen_rows}
use Rattle.buf_tree.specs.Stands.{Seen, seen, told}
use Rattle.buf_tree.specs.Tops.{IsNewTop, StaysAt}
use Rattle.buf_tree.proofs.Feeding.{at_held}
use Rattle.buf_tree.specs.Ways.{Tells}
use Rattle.buf_tree.proofs.Bridging.{cell_node, tells as node_tells, has_to, waits_row, row_waits}
use Rattle.buf_tree.proofs.Climbing.{tells_same}
use Rattle.buf_tree.proofs.KeptRows.{has_live_role, has_kept_role, under_roles}
use Rattle.buf_tree.proofs.Lifting.{seen_in, seen_from, seen_rising, tells_kept, waits_same}
use Rattle.buf_tree.proofs.Spreading.{Upward, spread_cell, in_retain, same_roles, roles_self}
use Rattle.buf_tree.proofs.SpreadTells.{spreads, top_tells, none_of, some_of, some_same}
use Rattle.buf_tree.proofs.Standing.{pair_left}

-- The rows kept are ks, those seen stand for the past, and the token opens n below p, which has these roles.
module _ (past : Past) (is : IsPast past) (s : SpreadView) (of_plan : SpreadsAs (Some s) past.plan) (ks : List Cell) (up : Upward [] ks) (rise : CellsRise ks)
    (rows : map seen (seen_rows (Some s) ks) ≡ map (told past) (held past.plan past.tree past.acts)) (t : TreeToken) (may : may_come t past.tree ≡ true)
    (p : Node) (k : ℕ) (kind : Kind) (new : Opens past.tree t (Under p k kind)) (at : past.tree.at ≡ Some p)
    (roles : FinSet nat_cmp) (left : roles ≡ from_list (roles_live past.plan (grow t past.tree) past.acts (Under p k kind))) where
  abbrev now : Past
  now = past_fed t past

  abbrev n : Node
  n = Under p k kind

  abbrev rs : List Cell
  rs = seen_rows (Some s) ks

  abbrev sp : ℕ → Bool
  sp = is_spread_in (Some s)

  is_now : IsPast now
  is_now = past_feeds past is t may

  rise_rs : CellsRise rs
  rise_rs = seen_rising (Some s) ks up rise

  has : (r : ℕ) → contains roles r ≡ live past.plan (grow t past.tree) past.acts n r
  has r = ap (λ z. contains z r) left ∙ has_live_role now is_now n r

  open_is : open_nodes past.tree ≡ above p
  open_is = ap open_from at

  row_of : (m : Node) → In m (held past.plan past.tree past.acts) → (d : Cell) × In d ks × (seen (spread_cell (is_spread_in (Some s)) (seen_rows (Some s) ks) d) ≡ told past m) × Tells ks d m
  row_of m i =
      let r = pair_left (told past) seen (held past.plan past.tree past.acts) rs (sym rows) m i in
      let x = seen_from (Some s) ks up r.0 r.1 in
      let e = ap seen x.2 ∙ sym r.2 in
      (x.0, x.1, e, tells_kept (Some s) ks up x.0 m (node_tells past is rs rise_rs rows (spread_cell sp rs x.0) m i e))

  -- open nodes are held
  open_held : (b : Node) → In b (open_nodes past.tree) → In b (held past.plan past.tree past.acts)
  open_held b i = held_above past is p b (at_held past is p at) (subst (λ (z : List Node). In b z) open_is i)

  node_of : (d : Cell) → In d ks → (m : Node) × (seen (spread_cell sp rs d) ≡ told past m) × Tells ks d m
  node_of d i =
      let f : Cell = spread_cell sp rs d in
      let r = cell_node past is rs rise_rs rows f (seen_in (Some s) ks up d i) in
      (r.0, r.2, tells_kept (Some s) ks up d r.0 (node_tells past is rs rise_rs rows f r.0 r.1 r.2))

  -- a base's own role is given to the new node exactly where it has it
  own_given : (o : OffTree) → In o (offs_in past.plan.body) → given past.plan (grow t past.tree) n o.own ≡ live past.plan (grow t past.tree) past.acts n o.own
  own_given o stated = same_bools (given past.plan (grow t past.tree) n o.own) (live past.plan (grow t past.tree) past.acts n o.own)
      (λ g. elim (base_row now is_now o stated n new.0 (is_base g)) [
        | inl i ↦ sym (has_live_role now is_now n o.own) ∙ has_to (roles_live past.plan (grow t past.tree) past.acts n) o.own i
        | inr i ↦ absurd (subst (λ (z : List ℕ). In o.own z) (new_unsigned past is t n new).1 i)
      ])
      (λ l. (and_parts (given past.plan (grow t past.tree) n o.own) _ l).0)
    where
      is_base : given past.plan (grow t past.tree) n o.own ≡ true → In n (bases now o)
      is_base g = Matches-from (grow t past.tree) 0 (path_of past.plan o.base) n new.0 (sym (base_given now is_now o stated (grow t past.tree) n) ∙ g)

  -- of a spread role the test tells whether the node is a top
  module _ (o : OffTree) (stated : In o (offs_in past.plan.body)) (top : Off) (said : off_tree top ≡ top_off o) where
    own_is : top.own.0 ≡ o.own
    own_is = ap (λ (x : OffTree). x.own) said

    role_is : top.role.0 ≡ o.role
    role_is = ap (λ (x : OffTree). x.role) said

    rel_is : top.rel ≡ o.rel ++ o.tail
    rel_is = ap (λ (x : OffTree). x.rel) said

    plain : is_spread_in (Some s) top.own.0 ≡ false
    plain = ap (is_spread_in (Some s)) own_is ∙ (spreads past is s of_plan o.own ∙ own_kind)
      where
        own_kind : is_spread past.plan o.own ≡ false
        own_kind =
            let q = tells past is o stated in
            ap (is_spread past.plan) (sym q.own_role)
            ∙ (ap (on_off (λ (x : OffTree). is_whole_kind x.kind)) (tells past is q.own q.own_in).stated ∙ ap is_whole_kind q.own_kind)

    top_now : (is_top now o n ≡ true) ↔ IsNewTop ks top roles p n
    top_now = (to, from)
      where
        law : (is_top now o n ≡ true) ↔ (((o.rel ++ o.tail ≡ []) × (given past.plan (grow t past.tree) n o.own ≡ true))
            ⊎ ((b : Node) × In b (open_nodes past.tree)
            × (In o.own (roles_live past.plan past.tree past.acts b) ⊎ In o.own (roles_signed past.plan past.acts b)) × (In o.role (roles_signed past.plan past.acts b) → ⊥)
            × (hits (serial_of b) (o.rel ++ o.tail) n ≡ true)))
        law = new_tops past is t n new o stated

        to : is_top now o n ≡ true → IsNewTop ks top roles p n
        to h = elim (law.0 h) [
          | inl e ↦ inl (rel_is ∙ e.0, ap (contains roles) own_is ∙ (has o.own ∙ (sym (own_given o stated) ∙ e.1)))
          | inr e ↦ (
              let over : In e.0 (above p) = subst (λ (z : List Node). In e.0 z) open_is e.1 in
              let c = row_of e.0 (open_held e.0 e.1) in
              inr (record {
                place = c.0.place;
                base = e.0;
                at = record { cell = c.0; among = c.1; place = refl; tells = c.3 };
                up = over;
                waits = sym (waits_same (Some s) ks up top plain c.0)
                    ∙ row_waits past top e.0 (spread_cell sp rs c.0) c.2 (subst (λ (z : ℕ). In z (roles_live past.plan past.tree past.acts e.0) ⊎ In z (roles_signed past.plan past.acts e.0)) (sym own_is) e.2) (λ i. e.3 (subst (λ (z : ℕ). In z (roles_signed past.plan past.acts e.0)) role_is i));
                hit = ap (λ (z : List Step). hits (serial_of e.0) z n) rel_is ∙ e.4;
              }))
        ]

        from : IsNewTop ks top roles p n → is_top now o n ≡ true
        from (inl e) = law.1 (inl (sym rel_is ∙ e.0, own_given o stated ∙ (sym (has o.own) ∙ (ap (contains roles) (sym own_is) ∙ e.1))))
        from (inr e) =
            let r = node_of e.at.cell e.at.among in
            let same : r.0 ≡ e.base = tells_same ks rise e.at.cell r.0 e.base r.2 e.at.tells in
            let told' : seen (spread_cell sp rs e.at.cell) ≡ told past e.base = subst (λ (b : Node). seen (spread_cell sp rs e.at.cell) ≡ told past b) same r.1 in
            let w = waits_row past top e.base (spread_cell sp rs e.at.cell) told' (waits_same (Some s) ks up top plain e.at.cell ∙ e.waits) in
            law.1 (inr (
              e.base,
              subst (λ (z : List Node). In e.base z) (sym open_is) e.up,
              subst (λ (z : ℕ). In z (roles_live past.plan past.tree past.acts e.base) ⊎ In z (roles_signed past.plan past.acts e.base)) own_is w.0,
              (λ i. w.1 (subst (λ (z : ℕ). In z (roles_signed past.plan past.acts e.base)) (sym role_is) i)),
              ap (λ (z : List Step). hits (serial_of e.base) z n) (sym rel_is) ∙ e.hit,
            ))

  role_in : (r : ℕ) (top : Off) → slice_index_or s.tops r None ≡ Some top → (o : OffTree) × In o (offs_in past.plan.body) × (o.role ≡ r) × (off_tree top ≡ top_off o) × (statement_of past.plan r ≡ Some o) × (is_whole_kind o.kind ≡ true)
  role_in r top e = go (statement_of past.plan r) refl (sym (ap (option_map off_tree) e) ∙ top_tells past is s of_plan r)
    where
      go : (x : Option OffTree) → statement_of past.plan r ≡ x → Some (off_tree top) ≡ top_in x → (o : OffTree) × In o (offs_in past.plan.body) × (o.role ≡ r) × (off_tree top ≡ top_off o) × (statement_of past.plan r ≡ Some o) × (is_whole_kind o.kind ≡ true)
      go None f h = absurd (cc)
      go (Some o) f h = kind_is (is_whole_kind o.kind) refl h
        where
          kind_is : (b : Bool) → is_whole_kind o.kind ≡ b → Some (off_tree top) ≡ cond b (Some (top_off o)) None → (o : OffTree) × In o (offs_in past.plan.body) × (o.role ≡ r) × (off_tree top ≡ top_off o) × (statement_of past.plan r ≡ Some o) × (is_whole_kind o.kind ≡ true)
          kind_is true g h = let q = stated_in past is r o f in (o, q.0, q.1, some_same (off_tree top) (top_off o) h, f, g)
          kind_is false g h = absurd (cc)

  -- a test by the past
  abbrev pub by_past : ℕ → Bool
  by_past r = not (is_spread past.plan r) || is_kept_at (past_fed t past) (Under p k kind) r

  pub by_past_stays : StaysAt ks s.tops roles p (Under p k kind) by_past
  by_past_stays = record {
    others = λ r e. ap (λ b. not b || is_kept_at now n r) (sym (spreads past is s of_plan r) ∙ ap is_some e);
    at_tops = λ r top e.
        let x = role_in r top e in
        let tn = top_now x.0 x.1 top x.3 in
        let spread_is : is_spread past.plan r ≡ true = ap (on_off (λ (o : OffTree). is_whole_kind o.kind)) x.4 ∙ x.5 in
        let kept_is : by_past r ≡ is_top now x.0 n = ap (λ b. not b || is_kept_at now n r) spread_is ∙ (ap (is_kept_at now n) (sym x.2) ∙ ((kept_tells now is_now x.0 x.1 n).1 ∙ ap (λ b. cond b (is_top now x.0 n) (live past.plan (grow t past.tree) past.acts n x.0.role)) x.5)) in
        ((λ h. tn.0 (sym kept_is ∙ h)), (λ h. kept_is ∙ tn.1 h));
  }

  module _ (stays : ℕ → Bool) (test : StaysAt ks s.tops roles p (Under p k kind) stays) where
    -- the test tells which of the roles are kept
    stays_is : (r : ℕ) → (contains roles r && stays r) ≡ is_kept_at now n r
    stays_is r = (λ j. has r j && stays r) ∙ (go (statement_of past.plan r) refl ∙ sym (kept_parts now is_now n new.0 r))
      where
        go : (o : Option OffTree) → statement_of past.plan r ≡ o → (live past.plan (grow t past.tree) past.acts n r && stays r) ≡ (live past.plan (grow t past.tree) past.acts n r && (not (is_spread past.plan r) || is_kept_at now n r))
        go None e = ap (λ b. live past.plan (grow t past.tree) past.acts n r && b) (test.others r (none_of (slice_index_or s.tops r None) (top_tells past is s of_plan r ∙ ap top_in e)) ∙ sym (ap (λ b. not b || is_kept_at now n r) (ap (on_off (λ (x : OffTree). is_whole_kind x.kind)) e)))
        go (Some o) e = kind_is (is_whole_kind o.kind) refl
          where
            q : In o (offs_in past.plan.body) × (o.role ≡ r)
            q = stated_in past is r o e

            spread_is : is_spread past.plan r ≡ is_whole_kind o.kind
            spread_is = ap (on_off (λ (x : OffTree). is_whole_kind x.kind)) e

            kind_is : (b : Bool) → is_whole_kind o.kind ≡ b → (live past.plan (grow t past.tree) past.acts n r && stays r) ≡ (live past.plan (grow t past.tree) past.acts n r && (not (is_spread past.plan r) || is_kept_at now n r))
            kind_is false f = ap (λ b. live past.plan (grow t past.tree) past.acts n r && b) (test.others r (none_of (slice_index_or s.tops r None) (top_tells past is s of_plan r ∙ (ap top_in e ∙ ap (λ b. cond b (Some (top_off o)) None) f))) ∙ sym (ap (λ b. not b || is_kept_at now n r) (spread_is ∙ f)))
            kind_is true f =
                let x = some_of (slice_index_or s.tops r None) (top_off o) (top_tells past is s of_plan r ∙ (ap top_in e ∙ ap (λ b. cond b (Some (top_off o)) None) f)) in
                let tn = top_now o q.0 x.0 x.2 in
                let st : stays r ≡ is_top now o n = same_bools (stays r) (is_top now o n) (λ h. tn.1 ((test.at_tops r x.0 x.1).0 h)) (λ h. (test.at_tops r x.0 x.1).1 (tn.0 h)) in
                let kt : is_kept_at now n r ≡ is_top now o n = ap (is_kept_at now n) (sym q.1) ∙ ((kept_tells now is_now o q.0 n).1 ∙ ap (λ b. cond b (is_top now o n) (live past.plan (grow t past.tree) past.acts n o.role)) f) in
                ap (λ b. live past.plan (grow t past.tree) past.acts n r && b) (st ∙ sym (ap (λ b. not b || is_kept_at now n r) (spread_is ∙ f) ∙ kt))

    -- so these are kept at the new node,
    pub kept_new : retain roles stays ≡ from_list (roles_kept now n)
    kept_new = same_roles (retain roles stays) (from_list (roles_kept now n)) (λ r. in_retain roles stays r ∙ (stays_is r ∙ sym (has_kept_role now is_now n new.0 r)))

    -- and with those of its parent it has them all
    pub roles_new : union (retain roles stays) (retain (roles_at (seen_rows (Some s) ks) (serial_of p)) sp) ≡ roles
    roles_new =
        (λ j. union (kept_new j) (retain (parent_has j) sp))
        ∙ (under_roles now is_now sp (spreads past is s of_plan) p k kind new.0 ∙ sym left)
      where
        parent_has : roles_at (seen_rows (Some s) ks) (serial_of p) ≡ from_list (roles_live past.plan (grow t past.tree) past.acts p)
        parent_has =
            let i = at_held past is p at in
            let c = row_of p i in
            let d : Cell = spread_cell sp rs c.0 in
            ap (roles_at rs) (sym (ap (λ (z : Seen). z.serial) c.2))
            ∙ (roles_self rs rise_rs d (seen_in (Some s) ks up c.0 c.1)
            ∙ (ap (λ (z : Seen). z.roles) c.2
            ∙ sym (ap (λ zs. from_list {R = nat_cmp} zs) (filter_same (live past.plan (grow t past.tree) past.acts p) (live past.plan past.tree past.acts p) (count 0 (length past.plan.roles)) (λ r z. (live_by_feed past is t p ((is_grown past is).at_in p at)).0 r)))))
