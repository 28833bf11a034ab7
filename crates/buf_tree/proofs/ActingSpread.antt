-- What a statement that is carried out makes of a buffer in which roles may be spread: of the rows kept, and of those that contracts see.
use Rattle.std.proofs.Common.{◌≡◌, ◌==◌, ℕ, Bool, true, false, cond, not, ◌&&◌, List, [], ◌∷◌, ◌++◌, map, refl, sym, ◌∙◌, ap, subst, inl, inr, ◌⊎◌, Some, None, Option}
use Rattle.std.specs.Prelude.{◌↔◌, IsSome, is_some}
use Rattle.std.specs.Ordering.{nat_cmp}
use Rattle.std.specs.FinMap.{get}
use Rattle.std.specs.FinSet.{from_list, remove, retain, contains}
use Rattle.std.proofs.lemmas.Bool.{false≢true}
use Rattle.gcx_base.specs.declared.steps.Step.{Step}
use Rattle.gcx_model.specs.declared.item.Off.{Off}
use Rattle.gcx_model.specs.ItemView.{off_tree}
use Rattle.gcx_model.specs.Core.{RoleTarget, Own, First, Whole, OffTree}
use Rattle.gcx_model.specs.Tree.{Node, Root, Under, serial_of}
use Rattle.gcx_model.specs.Placed.{offs_in, is_own, is_own_kind, is_empty}
use Rattle.gcx_model.specs.Run.{Offed}
use Rattle.gcx_model.specs.Held.{held, is_held, live}
use Rattle.gcx_model.specs.Past.{Past, IsPast, past_acted, parent_serial}
use Rattle.base_laws.proofs.Members.{from_map, map_same}
use Rattle.tree_laws.proofs.Lists.{In, In-filter}
use Rattle.tree_laws.proofs.Matches.{Numbered-same}
use Rattle.past_laws.specs.Pasts.{bases}
use Rattle.past_laws.proofs.Bases.{is_grown}
use Rattle.past_laws.proofs.PastForms.{past_acts}
use Rattle.spread_laws.specs.Tops.{is_whole_kind, is_spread, is_top, is_kept_at, roles_kept, top_off}
use Rattle.spread_laws.proofs.Tops.{kept_tells, kept_are_live}
use Rattle.node_store.specs.Rows.{changed_at, paid_by}
use Rattle.buf_tree.specs.Rows.{signed_for, untaken}
use Rattle.buf_tree.specs.Shape.{Store, Cell, num, cells, Shaped, with_at}
use Rattle.buf_tree.specs.Purge.{is_gone, Purged}
use Rattle.buf_tree.specs.Recount.{Recounting, uncovered, is_lost}
use Rattle.buf_tree.specs.Spread.{SpreadView, SpreadsAs, is_spread_in, is_alone_in, with_roles, is_covered, seen_rows, TellsCovered}
use Rattle.buf_tree.specs.Stands.{Seen, seen, told, parent_seen, StandsFor, KeepsAs, Due}
use Rattle.buf_tree.specs.Sweep.{taken_by}
use Rattle.buf_tree.specs.View.{View, Kept, serial_at}
use Rattle.buf_tree.specs.Walk.{Inside}
use Rattle.buf_tree.specs.Ways.{BaseAbove, BaseBelow, is_waiting}
use Rattle.buf_tree.specs.Withdraw.{Taking, TakenBack, SpreadBack, SeenTaken, TakingFrom, top_for, MayKeep, TellsKeepers}
use Rattle.buf_tree.proofs.Acting as acting
use Rattle.buf_tree.proofs.Acting.{kept_signed, cells_signed}
use Rattle.buf_tree.proofs.Changes.{map-map}
use Rattle.buf_tree.proofs.Feeding.{map_both}
use Rattle.buf_tree.proofs.KeptRows.{Paired, KeepsRow, ParentOf, has_kept_role}
use Rattle.buf_tree.proofs.KeptStands.{kept_set, kept_at, kept_all, kept_nums, nums_told, kept_acted, keeps_then}
use Rattle.buf_tree.proofs.Lifting.{seen_in, seen_from, seen_shape, kept_lift, waits_same, inside_seen, seen_inside}
use Rattle.buf_tree.proofs.Losing.{remove_none, node_for, node_for_is}
use Rattle.buf_tree.proofs.LosingTops as tops
use Rattle.buf_tree.proofs.LostRows.{paired_from, held_nodes_up, lost_is}
use Rattle.buf_tree.proofs.SeenBack.{plain_back, spread_back}
use Rattle.buf_tree.proofs.Seeking.{used_there}
use Rattle.buf_tree.proofs.Shaping.{built, cells_is}
use Rattle.buf_tree.proofs.SpreadTells.{spreads, alone_is, own_plain, top_none, top_is}
use Rattle.buf_tree.proofs.Spreading.{Roles, Upward, upward, spread_cell, above_map, covered_map}
use Rattle.buf_tree.proofs.Standing.{pair_left}
use Rattle.buf_tree.proofs.TakingKept.{taking_kept, taking_kept_loses}
use Rattle.buf_tree.proofs.Taking.{bare, bare_alike, was_bare}

-- a statement for whole subtrees doesn't reach its base alone
whole_reaches : (o : OffTree) → is_whole_kind o.kind ≡ true → is_own o ≡ false
whole_reaches o h = go o.kind o.rel h
  where
    go : (k : RoleTarget) (rel : List Step) → is_whole_kind k ≡ true → (is_own_kind k && is_empty rel) ≡ false
    go Own rel e = absurd (false≢true e)
    go First rel e = absurd (false≢true e)
    go Whole rel e = refl

-- what is taken from a row that loses the role where it has it and it isn't to stay
stays_or_goes : (S : Roles) (k : ℕ) (stays : Bool) → cond (contains S k && not stays) (remove S k) S ≡ cond stays S (remove S k)
stays_or_goes S k true = none (contains S k)
  where
    none : (b : Bool) → cond (b && false) (remove S k) S ≡ S
    none true = refl
    none false = refl
stays_or_goes S k false = go (contains S k) refl
  where
    go : (b : Bool) → contains S k ≡ b → cond (b && true) (remove S k) S ≡ remove S k
    go true e = refl
    go false e = sym (remove_none S k e)

-- the roles of a row that may lose one
bare_roles : (loses : Cell → Bool) (k : ℕ) (c : Cell) → (bare loses k c).row.roles ≡ cond (loses c) (remove c.row.roles k) c.row.roles
bare_roles loses k c = go (loses c)
  where
    go : (b : Bool) → (cond b (record { place = c.place; row = untaken k c.row }) c).row.roles ≡ cond b (remove c.row.roles k) c.row.roles
    go true = refl
    go false = refl

parent_from : (b : Bool) (x y : ℕ) → cond b None (Some x) ≡ Some y → x ≡ y
parent_from true x y e = absurd (cc)
parent_from false x y e = cc

-- ---- a row signed

module _ (k p : ℕ) where
  abbrev sign : Cell → Cell
  sign = with_at (signed_for k) p

  sign_num : (c : Cell) → num (sign c) ≡ num c
  sign_num c = go (c.place == p)
    where
      go : (b : Bool) → num (cond b (record { place = c.place; row = signed_for k c.row }) c) ≡ num c
      go true = refl
      go false = refl

  sign_parent : (c : Cell) → (sign c).row.parent ≡ c.row.parent
  sign_parent c = go (c.place == p)
    where
      go : (b : Bool) → (cond b (record { place = c.place; row = signed_for k c.row }) c).row.parent ≡ c.row.parent
      go true = refl
      go false = refl

  sign_roles : (c : Cell) → (sign c).row.roles ≡ c.row.roles
  sign_roles c = go (c.place == p)
    where
      go : (b : Bool) → (cond b (record { place = c.place; row = signed_for k c.row }) c).row.roles ≡ c.row.roles
      go true = refl
      go false = refl

  sign_covered : (c : Cell) → (sign c).row.covered ≡ c.row.covered
  sign_covered c = go (c.place == p)
    where
      go : (b : Bool) → (cond b (record { place = c.place; row = signed_for k c.row }) c).row.covered ≡ c.row.covered
      go true = refl
      go false = refl

  sign_with : (X : Roles) (c : Cell) → sign (with_roles X c) ≡ with_roles X (sign c)
  sign_with X c = go (c.place == p)
    where
      go : (b : Bool) → cond b (record { place = c.place; row = signed_for k (with_roles X c).row }) (with_roles X c) ≡ with_roles X (cond b (record { place = c.place; row = signed_for k c.row }) c)
      go true = refl
      go false = refl

-- ---- a statement that is due

module _ (m0 m1 : Store) (v : View) (p : ℕ) (off : Off) (e0 : seen_rows v.spread (cells m0) ≡ v.rows) (k0 : cells m0 ≡ v.kept) (gone : List ℕ) (cap count nodes : ℕ) (h : Kept m0 gone cap count nodes) (cov : TellsCovered v.spread (cells m0))
    (f : m1 ≡ changed_at (paid_by (signed_for off.role.0)) p m0) (due : Due v p off) where
  abbrev pub sv : Option SpreadView
  sv = v.spread

  abbrev pub xs : List Cell
  xs = seen_rows v.spread (cells m0)

  -- a store that holds the rows seen, and the same behind the signing
  abbrev pub seen0 : Store
  seen0 = built (seen_rows v.spread (cells m0)) (seen_rows v.spread (cells m0))

  abbrev pub seen1 : Store
  seen1 = changed_at (paid_by (signed_for off.role.0)) p (built (seen_rows v.spread (cells m0)) (seen_rows v.spread (cells m0)))

  abbrev fc : Cell → Cell
  fc = spread_cell (is_spread_in v.spread) (seen_rows v.spread (cells m0))

  abbrev g : Cell → Cell
  g = with_at (signed_for off.role.0) p

  up : Upward [] (cells m0)
  up = upward (cells m0) h.shape.rising h.shape.up

  is0 : cells seen0 ≡ xs
  is0 = cells_is seen0 xs (seen_shape sv m0 h.shape)

  pub kept0 : Kept seen0 gone cap count nodes
  kept0 = kept_lift sv m0 gone cap count nodes h cov

  pub rows0 : cells seen0 ≡ v.rows
  rows0 = is0 ∙ e0

  -- the row at the place, as it is kept
  cell : (c : Cell) × In c (cells m0) × (fc c ≡ due.cell)
  cell = seen_from sv (cells m0) up due.cell (subst (λ (zs : List Cell). In due.cell zs) (sym e0) due.among)

  here : cell.0.place ≡ p
  here = ap (λ (z : Cell). z.place) cell.2 ∙ due.place

  pub there : IsSome (get m0 p)
  there = used_there m0 h.shape cell.0 cell.1 p here

  pub kept1 : Kept m1 gone cap count nodes
  kept1 = kept_signed m0 m1 off.role.0 p gone cap count nodes f h cell.0 cell.1 here

  rows_then : cells m1 ≡ map g (cells m0)
  rows_then = cells_signed m0 m1 off.role.0 p f h.shape

  signed_seen : seen_rows sv (cells m1) ≡ map g xs
  signed_seen =
      ap (λ (zs : List Cell). seen_rows sv zs) rows_then
      ∙ above_map (is_spread_in sv) g (sign_num off.role.0 p) (sign_parent off.role.0 p) (λ c. ap (λ (z : Roles). retain z (is_spread_in sv)) (sign_roles off.role.0 p c)) (λ X c e. sign_with off.role.0 p X c) (cells m0) up

  pub covers1 : TellsCovered v.spread (cells m1)
  covers1 c i =
      let x = from_map g c (cells m0) (subst (λ (zs : List Cell). In c zs) rows_then i) in
      subst (λ (z : Cell). z.row.covered ≡ is_covered (is_spread_in sv) (seen_rows sv (cells m1)) z) x.2
      (sign_covered off.role.0 p x.0
      ∙ (cov x.0 x.1
      ∙ (sym (covered_map (is_spread_in sv) g (sign_num off.role.0 p) (sign_parent off.role.0 p) (λ d. ap (λ (z : Roles). retain z (is_spread_in sv)) (sign_roles off.role.0 p d)) xs x.0)
      ∙ ap (λ (zs : List Cell). is_covered (is_spread_in sv) zs (g x.0)) (sym signed_seen))))

  pub is1 : cells seen1 ≡ seen_rows v.spread (cells m1)
  is1 = cells_signed seen0 seen1 off.role.0 p refl kept0.shape ∙ (ap (map g) is0 ∙ sym signed_seen)

  up1 : Upward [] (cells m1)
  up1 = upward (cells m1) kept1.shape.rising kept1.shape.up

  plain_own : is_spread_in sv off.own.0 ≡ false
  plain_own = own_plain due.past due.stands.is_past off due.stated sv due.stands.spread

  -- other bases stand where they do among the rows seen
  bases_up : (c : Cell) → BaseAbove (cells m0) off c ⊎ BaseBelow (cells m0) off c → BaseAbove xs off (fc c) ⊎ BaseBelow xs off (fc c)
  bases_up c (inl b) = inl (fc b.0, seen_in sv (cells m0) up b.0 b.1, inside_seen sv (cells m0) up b.0 c b.2, waits_same sv (cells m0) up off plain_own b.0 ∙ b.3)
  bases_up c (inr b) = inr (fc b.0, seen_in sv (cells m0) up b.0 b.1, inside_seen sv (cells m0) up c b.0 b.2, waits_same sv (cells m0) up off plain_own b.0 ∙ b.3)

  bases_down : (c : Cell) → BaseAbove xs off (fc c) ⊎ BaseBelow xs off (fc c) → BaseAbove (cells m0) off c ⊎ BaseBelow (cells m0) off c
  bases_down c (inl b) =
      let x = seen_from sv (cells m0) up b.0 b.1 in
      inl (x.0, x.1, seen_inside sv (cells m0) up x.0 c (subst (λ (z : Cell). Inside xs z (fc c)) (sym x.2) b.2), sym (waits_same sv (cells m0) up off plain_own x.0) ∙ (ap (λ (z : Cell). is_waiting z.row off) x.2 ∙ b.3))
  bases_down c (inr b) =
      let x = seen_from sv (cells m0) up b.0 b.1 in
      inr (x.0, x.1, seen_inside sv (cells m0) up c x.0 (subst (λ (z : Cell). Inside xs (fc c) z) (sym x.2) b.2), sym (waits_same sv (cells m0) up off plain_own x.0) ∙ (ap (λ (z : Cell). is_waiting z.row off) x.2 ∙ b.3))

  module _ (others : Bool) (law : TellsKeepers (is_alone_in v.spread off.base.0) (cells m0) p off others) where
    law_seen : TellsKeepers (is_alone_in sv off.base.0) (cells seen0) p off others
    law_seen c i e =
        let x = seen_from sv (cells m0) up c (subst (λ (zs : List Cell). In c zs) is0 i) in
        let w = law x.0 x.1 (ap (λ (z : Cell). z.place) x.2 ∙ e) in
        subst (λ (zs : List Cell). (others ≡ true) ↔ MayKeep (is_alone_in sv off.base.0) zs off c) (sym is0)
        (subst (λ (z : Cell). (others ≡ true) ↔ MayKeep (is_alone_in sv off.base.0) xs off z) x.2
        ((λ o. let r = w.0 o in (r.0, r.1, bases_up x.0 r.2)), (λ r. w.1 (r.0, r.1, bases_down x.0 r.2))))

    module _ (past : Past) (st : StandsFor v past) (stated : In (off_tree off) (offs_in past.plan.body)) where
      -- the rows seen that lose the role
      abbrev pub loses : Cell → Bool
      loses = acting.loses seen0 seen1 v p off rows0 gone cap count nodes kept0 refl due.cell due.among due.place due.base past st stated

      taking0 : Taking (cells seen1) p off others
      taking0 = acting.taking seen0 seen1 v p off rows0 gone cap count nodes kept0 refl due.cell due.among due.place due.base past st stated others law_seen

      taking0_loses : taking0.loses ≡ loses
      unfolding taking0
      taking0_loses = acting.taking_loses seen0 seen1 v p off rows0 gone cap count nodes kept0 refl due.cell due.among due.place due.base past st stated others law_seen

      even : (X : Roles) (c : Cell) → contains X off.role.0 ≡ false → loses (with_roles X c) ≡ loses c
      even = acting.loses_even seen0 seen1 v p off rows0 gone cap count nodes kept0 refl due.cell due.among due.place due.base past st stated

      abbrev is : IsPast past
      is = st.is_past

      abbrev ns : List Node
      ns = held past.plan past.tree past.acts

      pub base_node : (m : Node) × In m ns × (seen due.cell ≡ told past m)
      base_node = acting.node seen0 seen1 v p off rows0 gone cap count nodes kept0 refl due.cell due.among due.place due.base past st stated

      is_base : In base_node.0 (bases past (off_tree off))
      unfolding base_node
      is_base = acting.base seen0 seen1 v p off rows0 gone cap count nodes kept0 refl due.cell due.among due.place due.base past st stated

      abbrev pub now : Past
      now = past_acted (Offed (off_tree off) (serial_of base_node.0)) past

      is_now : IsPast now
      is_now = (past_acts past is).1 (off_tree off) base_node.0 stated is_base

      inside : (n : Node) → In n ns → In n past.tree.nodes
      inside n i = (In-filter (is_held past.plan past.tree past.acts) n past.tree.nodes i).0

      rows_are : map seen xs ≡ map (told past) ns
      rows_are = ap (map seen) e0 ∙ st.rows

      kept_are : map (λ (c : Cell). c.row.roles) (cells m0) ≡ map (kept_set sv past) ns
      kept_are = ap (map (λ (c : Cell). c.row.roles)) k0 ∙ st.kept

      -- each row kept has what is kept at its node
      keeps : (d : Cell) (n : Node) → In d (cells m0) → In n ns → num d ≡ serial_of n → d.row.roles ≡ kept_set sv past n
      keeps d n i j e = kept_at sv past (cells m0) xs ns (kept_nums sv (cells m0) up) rows_are kept_are is inside d n i j e

      node_of : (d : Cell) → In d (cells m0) → (n : Node) × In n ns × (seen (fc d) ≡ told past n)
      node_of d i = pair_left seen (told past) xs ns rows_are (fc d) (seen_in sv (cells m0) up d i)

      now_live : (c : Cell) (n : Node) → In n past.tree.nodes → num c ≡ serial_of n → loses c ≡ (contains c.row.roles off.role.0 && not (live now.plan now.tree now.acts n off.role.0))
      unfolding base_node
      now_live c n i e = acting.loses_live seen0 seen1 v p off rows0 gone cap count nodes kept0 refl due.cell due.among due.place due.base past st stated c n i e

      acted : (n : Node) → In n past.tree.nodes → kept_set sv now n ≡ cond (keeps_then sv now n off.role.0) (kept_set sv past n) (remove (kept_set sv past n) off.role.0)
      acted n i = kept_acted sv past is (off_tree off) stated base_node.0 is_base n i

      -- the row stands where one of the old rows did, without the role where it loses it
      abbrev WasKept : (Cell → Bool) → Cell → Type 0
      WasKept lost c = (d : Cell) × In d (cells m0) × (num c ≡ num d) × (c.row.parent ≡ d.row.parent) × (c.row.roles ≡ cond (lost (g d)) (remove d.row.roles off.role.0) d.row.roles)

      was_kept : (lost : Cell → Bool) (c : Cell) → In c (taken_by lost off.role.0 (cells m1)) → WasKept lost c
      was_kept lost c i =
          let x = was_bare lost off.role.0 c (cells m1) i in
          let y = from_map g x.0 (cells m0) (subst (λ (zs : List Cell). In x.0 zs) rows_then x.1) in
          let s = bare_alike lost off.role.0 x.0 in (
            y.0,
            y.1,
            sym (ap num x.2) ∙ (sym s.serial ∙ (sym (ap num y.2) ∙ sign_num off.role.0 p y.0)),
            sym (ap (λ (z : Cell). z.row.parent) x.2) ∙ (sym s.parent ∙ (sym (ap (λ (z : Cell). z.row.parent) y.2) ∙ sign_parent off.role.0 p y.0)),
            sym (ap (λ (z : Cell). z.row.roles) x.2)
                ∙ (bare_roles lost off.role.0 x.0
                ∙ (sym (ap (λ (z : Cell). cond (lost z) (remove z.row.roles off.role.0) z.row.roles) y.2) ∙ ap (λ (S : Roles). cond (lost (g y.0)) (remove S off.role.0) S) (sign_roles off.role.0 p y.0))),
          )

      -- so it has what is kept at its node then, where the test goes by what stays kept there
      then_kept : (lost : Cell → Bool) → ((d : Cell) (n : Node) → In d (cells m0) → In n ns → num d ≡ serial_of n → lost (g d) ≡ (contains d.row.roles off.role.0 && not (keeps_then sv now n off.role.0)))
          → (c : Cell) → WasKept lost c → (n : Node) → In n past.tree.nodes → num c ≡ serial_of n → c.row.roles ≡ kept_set sv now n
      then_kept lost test c w n i e =
          let r = node_of w.0 w.1 in
          let num_d : num w.0 ≡ serial_of r.0 = ap (λ (z : Seen). z.serial) r.2 in
          let is_n : r.0 ≡ n = Numbered-same 0 past.tree.nodes (is_grown past is).numbered r.0 n (inside r.0 r.1) i (sym num_d ∙ (sym w.2 ∙ e)) in
          let in_n : In n ns = subst (λ (z : Node). In z ns) is_n r.1 in
          let at_n : num w.0 ≡ serial_of n = sym w.2 ∙ e in
          w.4
          ∙ (ap (λ b. cond b (remove w.0.row.roles off.role.0) w.0.row.roles) (test w.0 n w.1 in_n at_n)
          ∙ (stays_or_goes w.0.row.roles off.role.0 (keeps_then sv now n off.role.0)
          ∙ (ap (λ (S : Roles). cond (keeps_then sv now n off.role.0) S (remove S off.role.0)) (keeps w.0 n w.1 in_n at_n) ∙ sym (acted n i))))

      -- ---- a role that isn't spread

      module _ (plain : top_for v.spread off ≡ None) where
        plain_role : is_spread_in sv off.role.0 ≡ false
        plain_role = top_none past is off stated sv plain

        pub plain_taking : Taking (cells m1) p off others
        plain_taking = taking_kept sv (cells m1) (cells seen1) up1 kept1.shape.apart is1 p off others plain_role plain_own taking0
            (λ X c e. subst (λ (l : Cell → Bool). l (with_roles X c) ≡ l c) (sym taking0_loses) (even X c e))

        plain_loses : plain_taking.loses ≡ loses
        unfolding plain_taking
        plain_loses = taking_kept_loses sv (cells m1) (cells seen1) up1 kept1.shape.apart is1 p off others plain_role plain_own taking0
            (λ X c e. subst (λ (l : Cell → Bool). l (with_roles X c) ≡ l c) (sym taking0_loses) (even X c e))
            ∙ taking0_loses

        -- what stays kept is what stays live
        same_then : (n : Node) → In n past.tree.nodes → keeps_then sv now n off.role.0 ≡ live now.plan now.tree now.acts n off.role.0
        same_then n i = go sv st.spread plain_role
          where
            go : (s : Option SpreadView) → SpreadsAs s past.plan → is_spread_in s off.role.0 ≡ false → keeps_then s now n off.role.0 ≡ live now.plan now.tree now.acts n off.role.0
            go None a b = refl
            go (Some w) a b = (kept_are_live now is_now n i).1 off.role.0 (sym (spreads now is_now w a off.role.0) ∙ b)

        plain_test : (d : Cell) (n : Node) → In d (cells m0) → In n ns → num d ≡ serial_of n → loses (g d) ≡ (contains d.row.roles off.role.0 && not (keeps_then sv now n off.role.0))
        plain_test d n i j e =
            now_live (g d) n (inside n j) (sign_num off.role.0 p d ∙ e)
            ∙ (λ t. contains (sign_roles off.role.0 p d t) off.role.0 && not (sym (same_then n (inside n j)) t))

      -- ---- a spread one

      module _ (top : Off) (is_for : top_for v.spread off ≡ Some top) where
        tells_top : (off_tree top ≡ top_off (off_tree off)) × (is_whole_kind (off_tree off).kind ≡ true)
        tells_top = top_is past is off stated sv st.spread top is_for

        -- what holds of a table that has the role
        spread_is : (P : Option SpreadView → Type 0) → ((w : SpreadView) → SpreadsAs (Some w) past.plan → P (Some w)) → P v.spread
        spread_is P hold = go v.spread st.spread is_for
          where
            go : (s : Option SpreadView) → SpreadsAs s past.plan → top_for s off ≡ Some top → P s
            go None a b = absurd (cc)
            go (Some w) a b = hold w a

        -- such a role is kept at the tops
        at_tops : (q : Past) → IsPast q → In (off_tree off) (offs_in q.plan.body) → (n : Node) → is_kept_at q n off.role.0 ≡ is_top q (off_tree off) n
        at_tops q iq j n = (kept_tells q iq (off_tree off) j n).1 ∙ ap (λ b. cond b (is_top q (off_tree off) n) (live q.plan q.tree q.acts n off.role.0)) tells_top.1

        top_then : (n : Node) → keeps_then v.spread now n off.role.0 ≡ is_top now (off_tree off) n
        top_then n = spread_is (λ s. keeps_then s now n off.role.0 ≡ is_top now (off_tree off) n) (λ w a. at_tops now is_now stated n)

        has_top : (d : Cell) (n : Node) → In d (cells m0) → In n ns → num d ≡ serial_of n → contains d.row.roles off.role.0 ≡ is_top past (off_tree off) n
        has_top d n i j e =
            ap (λ (S : Roles). contains S off.role.0) (keeps d n i j e)
            ∙ spread_is (λ s. contains (kept_set s past n) off.role.0 ≡ is_top past (off_tree off) n) (λ w a. has_kept_role past is n (inside n j) off.role.0 ∙ at_tops past is stated n)

        spreads_now : (r : ℕ) → is_spread_in v.spread r ≡ is_spread now.plan r
        spreads_now r = spread_is (λ s. is_spread_in s r ≡ is_spread now.plan r) (λ w a. spreads now is_now w a r)

        kept_now : (n : Node) → kept_set v.spread now n ≡ from_list {R = nat_cmp} (roles_kept now n)
        kept_now n = spread_is (λ s. kept_set s now n ≡ from_list {R = nat_cmp} (roles_kept now n)) (λ w a. refl)

        base_num : num cell.0 ≡ serial_of base_node.0
        base_num = ap num cell.2 ∙ ap (λ (z : Seen). z.serial) base_node.2

        -- the rows that keep the role no more
        abbrev lost : Cell → Bool
        lost d = contains d.row.roles off.role.0 && not (is_top now (off_tree off) (node_for past.tree.nodes (num d)))

        rows_top : cells m1 ≡ map (with_at (signed_for top.role.0) p) (cells m0)
        rows_top = rows_then ∙ ap (λ (k : ℕ). map (with_at (signed_for k) p) (cells m0)) (sym (ap (λ (o : OffTree). o.role) tells_top.0))

        law_top : (others ≡ true) ↔ ((is_alone_in v.spread off.base.0 ≡ false) × (BaseAbove (cells m0) off cell.0 ⊎ BaseBelow (cells m0) off cell.0))
        law_top =
            let w = law cell.0 cell.1 here in (
              (λ o. let r = w.0 o in (r.0, r.2)),
              (λ r. w.1 (r.0, whole_reaches (off_tree off) tells_top.1, r.1)),
            )

        role_spread : is_spread_in v.spread off.role.0 ≡ true
        role_spread = go v.spread is_for
          where
            go : (s : Option SpreadView) → top_for s off ≡ Some top → is_spread_in s off.role.0 ≡ true
            go None a = absurd (cc)
            go (Some w) a = ap is_some a

        -- it isn't the base's own
        apart_top : top.own.0 ≡ top.role.0 → ⊥
        apart_top e =
            let own : top.own.0 ≡ off.own.0 = ap (λ (o : OffTree). o.own) tells_top.0 in
            let role : top.role.0 ≡ off.role.0 = ap (λ (o : OffTree). o.role) tells_top.0 in
            false≢true (sym plain_own ∙ (ap (is_spread_in v.spread) (sym own ∙ (e ∙ role)) ∙ role_spread))

        pub top_taking : Recounting (cells m1) p top others
        top_taking = tops.recounting past is m0 h.shape h.ordered.nested sv rows_are off top stated tells_top.0 plain_own has_top cell.0 cell.1 p here base_node.0 base_node.1 base_num is_base m1 kept1.shape kept1.ordered.nested rows_top
            others (is_alone_in v.spread off.base.0)
            (alone_is past is sv st.spread off.base.0)
            law_top apart_top

        top_loses : top_taking.loses ≡ lost
        unfolding top_taking
        top_loses = tops.recounting_loses past is m0 h.shape h.ordered.nested sv rows_are off top stated tells_top.0 plain_own has_top cell.0 cell.1 p here base_node.0 base_node.1 base_num is_base m1 kept1.shape kept1.ordered.nested rows_top
            others (is_alone_in v.spread off.base.0)
            (alone_is past is sv st.spread off.base.0)
            law_top apart_top

        one : (a b : Node) → In a past.tree.nodes → In b past.tree.nodes → serial_of a ≡ serial_of b → a ≡ b
        one = Numbered-same 0 past.tree.nodes (is_grown past is).numbered

        top_test : (d : Cell) (n : Node) → In d (cells m0) → In n ns → num d ≡ serial_of n → lost (g d) ≡ (contains d.row.roles off.role.0 && not (keeps_then sv now n off.role.0))
        top_test d n i j e =
            let at_n : is_top now (off_tree off) (node_for past.tree.nodes (num (g d))) ≡ keeps_then sv now n off.role.0 =
            ap (λ (z : ℕ). is_top now (off_tree off) (node_for past.tree.nodes z)) (sign_num off.role.0 p d ∙ e)
            ∙ (ap (is_top now (off_tree off)) (node_for_is past.tree.nodes one n (inside n j)) ∙ sym (top_then n)) in
            λ t. contains (sign_roles off.role.0 p d t) off.role.0 && not (at_n t)

        parent_as : (c : Cell) → WasKept lost c → (n : Node) → In n past.tree.nodes → num c ≡ serial_of n → ParentOf c n
        parent_as c w n i e =
            let r = node_of w.0 w.1 in
            let is_n : r.0 ≡ n = one r.0 n (inside r.0 r.1) i (sym (ap (λ (z : Seen). z.serial) r.2) ∙ (sym w.2 ∙ e)) in
            go n (ap (λ (z : Seen). z.parent) r.2 ∙ ap parent_serial is_n)
          where
            go : (z : Node) → parent_seen w.0.row ≡ parent_serial z → ParentOf c z
            go Root f = tt
            go (Under q s k) f = w.3 ∙ parent_from (num w.0 == 0) w.0.row.parent (serial_of q) f

        module _ (between : List Cell) (rows : map uncovered between ≡ map uncovered (taken_by lost off.role.0 (cells m1))) where
          was_between : (c : Cell) → In c between → WasKept lost c
          was_between c i =
              let x = pair_left uncovered uncovered between (taken_by lost off.role.0 (cells m1)) rows c i in
              let w = was_kept lost x.0 x.1 in
              (w.0, w.1, ap num x.2 ∙ w.2, ap (λ (z : Cell). z.row.parent) x.2 ∙ w.3, ap (λ (z : Cell). z.row.roles) x.2 ∙ w.4)

          nums_between : map num between ≡ map serial_of ns
          nums_between =
              map_both uncovered uncovered num num between (taken_by lost off.role.0 (cells m1)) rows (λ c x i j e. ap num e)
              ∙ (map-map (bare lost off.role.0) num (cells m1)
              ∙ (map_same (λ c. num (bare lost off.role.0 c)) num (cells m1) (λ c i. sym (bare_alike lost off.role.0 c).serial)
              ∙ (ap (map num) rows_then
              ∙ (map-map g num (cells m0)
              ∙ (map_same (λ c. num (g c)) num (cells m0) (λ c i. sign_num off.role.0 p c)
              ∙ (kept_nums sv (cells m0) up ∙ nums_told past xs ns rows_are))))))

          keep_between : Paired (KeepsRow now is_now) between ns
          keep_between = paired_from (KeepsRow now is_now) between ns nums_between (λ c n i j e. (
            e,
            parent_as c (was_between c i) n (inside n j) e,
            then_kept lost top_test c (was_between c i) n (inside n j) e ∙ kept_now n,
          ))

          -- the rows seen that lost the role
          lost_seen : (c : Cell) → In c (seen_rows v.spread (cells m1)) → is_lost off.role.0 (seen_rows v.spread between) c ≡ loses c
          lost_seen c i =
              let x = seen_from sv (cells m1) up1 c i in
              let y = from_map g x.0 (cells m0) (subst (λ (zs : List Cell). In x.0 zs) rows_then x.1) in
              let r = node_of y.0 y.1 in
              let e : num c ≡ serial_of r.0 = sym (ap num x.2) ∙ (sym (ap num y.2) ∙ (sign_num off.role.0 p y.0 ∙ ap (λ (z : Seen). z.serial) r.2)) in
              lost_is now is_now (is_spread_in v.spread) spreads_now between ns keep_between (held_nodes_up past is) inside c r.0 r.1 e off.role.0
              ∙ sym (now_live c r.0 (inside r.0 r.1) e)

      -- ---- whether it is spread or not

      pub taking_from : TakingFrom (top_for v.spread off) (cells m1) p off others
      taking_from = go (top_for v.spread off) refl
        where
          go : (o : Option Off) → top_for v.spread off ≡ o → TakingFrom o (cells m1) p off others
          go None e = plain_taking e
          go (Some top) e = top_taking top e

      module _ (m2 : Store) (s2 : Shaped m2) (g0 g1 : List ℕ) (taken : ℕ) where
        -- what is taken from the rows seen, and what those kept have then
        abbrev pub Done : Type 0
        Done = SeenTaken v.spread m1 m2 loses off.role.0 g0 g1 taken × TellsCovered v.spread (cells m2)
            × ((c : Cell) (n : Node) → In c (cells m2) → In n past.tree.nodes → num c ≡ serial_of n → c.row.roles ≡ kept_set v.spread now n)

        left_in : (ys : List Cell) (left : List ℕ) → Purged ys (cells m2) left → (c : Cell) → In c (cells m2) → In c ys
        left_in ys left u c i = (In-filter (λ (z : Cell). not (is_gone left z)) c ys (subst (λ (zs : List Cell). In c zs) u.leaves.rows i)).0

        plain_done : (plain : top_for v.spread off ≡ None) → TakenBack m1 m2 (plain_taking plain).loses off.role.0 g0 g1 taken → Done
        plain_done plain b0 =
            let b : TakenBack m1 m2 loses off.role.0 g0 g1 taken = subst (λ (l : Cell → Bool). TakenBack m1 m2 l off.role.0 g0 g1 taken) (plain_loses plain) b0 in
            let r = plain_back sv m1 m2 kept1.shape s2 covers1 off.role.0 loses g0 g1 taken (plain_role plain) even b in (
              record { left = (b.left.0, b.left.1, r.0); taken = r.2 },
              r.1,
              (λ c n i j e. then_kept loses (plain_test plain) c (was_kept loses c (left_in (taken_by loses off.role.0 (cells m1)) b.left.0 b.left.2 c i)) n j e),
            )

        top_done : (top : Off) (is_for : top_for v.spread off ≡ Some top) → SpreadBack v.spread m1 m2 (top_taking top is_for).loses off.role.0 g0 g1 taken → Done
        top_done top is_for b0 =
            let b : SpreadBack v.spread m1 m2 (lost top is_for) off.role.0 g0 g1 taken = subst (λ (l : Cell → Bool). SpreadBack v.spread m1 m2 l off.role.0 g0 g1 taken) (top_loses top is_for) b0 in
            let r = spread_back v.spread m1 m2 kept1.shape s2 covers1 off.role.0 (lost top is_for) g0 g1 taken b loses (lost_seen top is_for b.between b.rows) in (
              record { left = (b.left.0, b.left.1, r.0); taken = r.2 },
              r.1,
              (λ c n i j e. then_kept (lost top is_for) (top_test top is_for) c (was_between top is_for b.between b.rows c (left_in b.between b.left.0 b.left.2 c i)) n j e),
            )

        pub done : (top_for v.spread off ≡ None → (t : Taking (cells m1) p off others) → TakenBack m1 m2 t.loses off.role.0 g0 g1 taken)
            → ((top : Off) → top_for v.spread off ≡ Some top → (t : Recounting (cells m1) p top others) → SpreadBack v.spread m1 m2 t.loses off.role.0 g0 g1 taken)
            → Done
        done a b = go (top_for v.spread off) refl
          where
            go : (o : Option Off) → top_for v.spread off ≡ o → Done
            go None e = plain_done e (a e (plain_taking e))
            go (Some top) e = top_done top e (b top e (top_taking top e))

        -- so where the rows seen stand for the past then, those kept do
        pub keeps_as : Done → (w : View) → w.rows ≡ seen_rows v.spread (cells m2) → w.kept ≡ cells m2 → w.spread ≡ v.spread → KeepsAs w (past_acted (Offed (off_tree off) (serial_at p v.rows)) past)
        unfolding base_node
        keeps_as d w er ek es rows =
            let serial : serial_at p v.rows ≡ serial_of base_node.0 = acting.serial_here seen0 seen1 v p off rows0 gone cap count nodes kept0 refl due.cell due.among due.place due.base past st stated in
            let rows' : map seen w.rows ≡ map (told now) (held now.plan now.tree now.acts) = subst (λ (z : ℕ). map seen w.rows ≡ map (told (past_acted (Offed (off_tree off) z) past)) (held past.plan past.tree (past.acts ++ Offed (off_tree off) z ∷ []))) serial rows in
            let kept' : map (λ (c : Cell). c.row.roles) (cells m2) ≡ map (kept_set v.spread now) (held now.plan now.tree now.acts) =
            kept_all v.spread now (cells m2) (seen_rows v.spread (cells m2)) (held now.plan now.tree now.acts) (kept_nums v.spread (cells m2) (upward (cells m2) s2.rising s2.up)) (ap (map seen) (sym er) ∙ rows')
            (λ c n i j e. d.2 c n i (In-filter (is_held now.plan now.tree now.acts) n now.tree.nodes j).0 e) in
            subst (λ (z : ℕ). map (λ (c : Cell). c.row.roles) w.kept ≡ map (kept_set w.spread (past_acted (Offed (off_tree off) z) past)) (held past.plan past.tree (past.acts ++ Offed (off_tree off) z ∷ []))) (sym serial)
            (ap (map (λ (c : Cell). c.row.roles)) ek ∙ (kept' ∙ ap (λ (s : Option SpreadView). map (kept_set s now) (held now.plan now.tree now.acts)) (sym es)))
