-- A new node where roles are spread: with those of its parent the roles kept at its row are all that are left to it, and each past that the buffer stood for tells that these are kept there.
use Rattle.std.proofs.Common.{◌≡◌, ℕ, ◌<◌, true, List, [], ◌∷◌, ◌++◌, length, map, drop, refl, sym, ◌∙◌, ap, subst, inl, inr, Bool, Some, arith}
use Rattle.std.specs.Ordering.{nat_cmp}
use Rattle.std.specs.FinSet.{FinSet, from_list, retain, union}
use Rattle.gcx_base.specs.declared.kind.Kind.{Kind}
use Rattle.gcx_model.specs.Growth.{may_come}
use Rattle.gcx_model.specs.Held.{given, taken, roles_live, held, is_held}
use Rattle.gcx_model.specs.Members.{count}
use Rattle.gcx_model.specs.Past.{Past, IsPast, Opens, IsNode, past_grown, token_for}
use Rattle.gcx_model.specs.Tree.{TreeToken, Node, Under, serial_of, grow}
use Rattle.base_laws.proofs.Members.{in_drop}
use Rattle.tree_laws.proofs.Lists.{In, In-filter, In-left, In-append}
use Rattle.tree_laws.proofs.Matches.{Numbered-high, Numbered-same, added, grow_nodes}
use Rattle.past_laws.proofs.Bases.{is_grown}
use Rattle.past_laws.proofs.PastForms.{past_feeds}
use Rattle.buf_tree.specs.PassedCalls.{LeftTo, KeptTo}
use Rattle.buf_tree.specs.Shape.{Cell, num, CellsRise}
use Rattle.buf_tree.specs.Spread.{SpreadView, SpreadsAs, is_spread_in, roles_at, seen_rows}
use Rattle.buf_tree.specs.Stands.{Seen, seen, told}
use Rattle.buf_tree.specs.Tops.{KeptOf, StaysAt}
use Rattle.buf_tree.specs.Ways.{Tells, NodeOf}
use Rattle.buf_tree.proofs.Bridging.{cell_node, tells as node_tells}
use Rattle.buf_tree.proofs.Climbing.{tells_same}
use Rattle.buf_tree.proofs.KeptStands.{kept_set, kept_fed, kept_nums, kept_moved}
use Rattle.buf_tree.proofs.Lifting.{seen_in, seen_rising, tells_kept}
use Rattle.buf_tree.proofs.OpenedRoles.{by_past, by_past_stays, kept_new, roles_new}
use Rattle.buf_tree.proofs.Opening.{less_filtered}
use Rattle.buf_tree.proofs.Spreading.{Upward, spread_cell}
use Rattle.buf_tree.proofs.WithRoles.{new_alone}

-- The rows kept are ks; c0 is that of the innermost open node p.
module _ (s : SpreadView) (ks : List Cell) (up : Upward [] ks) (rise : CellsRise ks) (past : Past) (is : IsPast past) (of_plan : SpreadsAs (Some s) past.plan)
    (rows : map seen (seen_rows (Some s) ks) ≡ map (told past) (held past.plan past.tree past.acts)) (kind : Kind) (node : IsNode kind) (may : may_come (token_for kind) past.tree ≡ true)
    (p : Node) (at : past.tree.at ≡ Some p) (roles : FinSet nat_cmp) (left : LeftTo past (token_for kind) roles) (q : ℕ) (c0 : Cell) (i0 : In c0 ks) (here : c0.place ≡ q) (me : num c0 ≡ serial_of p) where
  abbrev t : TreeToken
  t = token_for kind

  abbrev rs : List Cell
  rs = seen_rows (Some s) ks

  -- the new node
  abbrev pub born : Node
  born = Under p (length past.tree.nodes) kind

  one : (a b : Node) → In a past.tree.nodes → In b past.tree.nodes → serial_of a ≡ serial_of b → a ≡ b
  one = Numbered-same 0 past.tree.nodes (is_grown past is).numbered

  p_in : In p past.tree.nodes
  p_in = (is_grown past is).at_in p at

  low : serial_of p < length past.tree.nodes
  low = let l = Numbered-high 0 past.tree.nodes (is_grown past is).numbered p p_in in omega arith

  alone : drop (length past.tree.nodes) (grow t past.tree).nodes ≡ born ∷ []
  alone = new_alone past.tree p at kind node

  opens : Opens past.tree t born
  opens = (
    in_drop (length past.tree.nodes) born (grow t past.tree).nodes (subst (λ (zs : List Node). In born zs) (sym alone) (inl refl)),
    (λ j. let l = Numbered-high 0 past.tree.nodes (is_grown past is).numbered born j in absurd (omega arith)),
  )

  left_live : roles ≡ from_list (roles_live past.plan (grow t past.tree) past.acts born)
  left_live = left born alone ∙ ap (λ zs. from_list {R = nat_cmp} zs) (less_filtered (given past.plan (grow t past.tree) born) (taken past.plan (grow t past.tree) past.acts born) (count 0 (length past.plan.roles)))

  p_tells : Tells ks c0 p
  p_tells =
      let r = cell_node past is rs (seen_rising (Some s) ks up rise) rows (spread_cell (is_spread_in (Some s)) rs c0) (seen_in (Some s) ks up c0 i0) in
      let same : r.0 ≡ p = one r.0 p (In-filter (is_held past.plan past.tree past.acts) r.0 past.tree.nodes r.1).0 p_in (sym (ap (λ (z : Seen). z.serial) r.2) ∙ me) in
      subst (λ (x : Node). Tells ks c0 x) same (tells_kept (Some s) ks up c0 r.0 (node_tells past is rs (seen_rising (Some s) ks up rise) rows (spread_cell (is_spread_in (Some s)) rs c0) r.0 r.1 r.2))

  p_row : NodeOf ks q p
  p_row = record { cell = c0; among = i0; place = here; tells = p_tells }

  stays : ℕ → Bool
  stays = by_past past is s of_plan ks up rise rows t may p (length past.tree.nodes) kind opens at roles left_live

  test : StaysAt ks s.tops roles p born stays
  unfolding stays
  test = by_past_stays past is s of_plan ks up rise rows t may p (length past.tree.nodes) kind opens at roles left_live

  abbrev now : Past
  now = past_grown t past

  is_now : IsPast (past_grown t past)
  is_now = let f = past_feeds past is t may in record { core = f.core; good = f.good; placed = f.placed; grown = f.grown; stated = f.stated; within = is.within }

  more : (n : Node) → In n past.tree.nodes → In n (grow t past.tree).nodes
  more n i = subst (λ (zs : List Node). In n zs) (sym (grow_nodes t past.tree)) (In-left n past.tree.nodes (added t past.tree) i)

  -- What is kept at the new node, by the past, is what the rows tell.
  pub known_born : ((a b : Cell) → In a ks → In b ks → a.place ≡ b.place → a ≡ b) → (R : FinSet nat_cmp) → KeptTo past (token_for kind) R → KeptOf (Some s) ks q kind (length past.tree.nodes) roles R
  known_born apart R says x u l tells held =
      let at_q : u.cell ≡ c0 = apart u.cell c0 u.among i0 (u.place ∙ sym here) in
      let same : x ≡ p = tells_same ks rise c0 x p (subst (λ (c : Cell). Tells ks c x) at_q u.tells) p_tells in
      says born alone
      ∙ sym (kept_new past is s of_plan ks up rise rows t may p (length past.tree.nodes) kind opens at roles left_live tells
      (subst (λ (z : Node). StaysAt ks s.tops roles z (Under z (length past.tree.nodes) kind) tells) same held))

  -- R are the roles kept at the new row.
  module _ (R : FinSet nat_cmp) (keeps : KeptOf (Some s) ks q kind (length past.tree.nodes) roles R) where
    kept_is : R ≡ retain roles stays
    kept_is = keeps p p_row low stays test

    -- these are kept at the new node
    pub kept_born : R ≡ kept_set (Some s) (past_grown t past) born
    kept_born = kept_is ∙ kept_new past is s of_plan ks up rise rows t may p (length past.tree.nodes) kind opens at roles left_live stays test

    -- and with those of its parent they are all that are left
    pub seen_born : union R (retain (roles_at (seen_rows (Some s) ks) (serial_of p)) (is_spread_in (Some s))) ≡ roles
    seen_born =
        ap (λ (S : FinSet nat_cmp). union S (retain (roles_at rs (serial_of p)) (is_spread_in (Some s)))) kept_is
        ∙ roles_new past is s of_plan ks up rise rows t may p (length past.tree.nodes) kind opens at roles left_live stays test

    -- so what is kept stands for the past with the node, where what is seen does
    pub keeps_born : (c : Cell) → num c ≡ length past.tree.nodes → c.row.roles ≡ R → (rs' : List Cell) → map num (ks ++ c ∷ []) ≡ map num rs' → map (λ d. d.row.roles) ks ≡ map (kept_set (Some s) past) (held past.plan past.tree past.acts)
        → map seen rs' ≡ map (told (past_grown t past)) (held past.plan (grow t past.tree) past.acts)
        → map (λ d. d.row.roles) (ks ++ c ∷ []) ≡ map (kept_set (Some s) (past_grown t past)) (held past.plan (grow t past.tree) past.acts)
    keeps_born c nc rc rs' nums' kept =
        kept_moved (Some s) past now is is_now more (λ n i. kept_fed (Some s) past is t n i) ks rs (ks ++ c ∷ []) rs' (kept_nums (Some s) ks up) rows kept nums' (λ d i. elim (In-append d ks (c ∷ []) i) [
          | inl j ↦ inl (d, j, refl, refl)
          | inr j ↦ elim j [
            | inl e ↦ inr (λ n k h. subst (λ (x : Cell). x.row.roles ≡ kept_set (Some s) now n) e (rc ∙ (kept_born ∙ ap (kept_set (Some s) now) (born_is n k (sym nc ∙ (ap num e ∙ h))))))
            | inr z ↦ absurd z
          ]
        ])
      where
        born_is : (n : Node) → In n (held past.plan (grow t past.tree) past.acts) → length past.tree.nodes ≡ serial_of n → born ≡ n
        born_is n k h = Numbered-same 0 (grow t past.tree).nodes (is_grown now is_now).numbered born n opens.0 (In-filter (is_held past.plan (grow t past.tree) past.acts) n (grow t past.tree).nodes k).0 h
