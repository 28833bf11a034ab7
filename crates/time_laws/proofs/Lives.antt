-- Until when roles are live and nodes are held.
use Rattle.std.proofs.Common.{◌≡◌, ℕ, zero, suc, ◌+◌, ◌<◌, ◌≤◌, Bool, true, false, not, ◌&&◌, ◌||◌, List, [], ◌∷◌, ◌++◌, length, refl, sym, ◌∙◌, ap, subst, inl, inr, arith, leb, ltb, append_assoc, None, Option}
use Rattle.std.specs.Prelude.{take, drop}
use Rattle.std.specs.List.{filter}
use Rattle.std.proofs.lemmas.Bool.{leb-true, le-leb, lt-ltb, ltb-true, false≢true, true≢false, and_parts, and_from, false_from_ne_true, eqb-true}
use Rattle.std.proofs.lemmas.List.{take-append-drop}
use Rattle.std.proofs.Math.Seq.{take-length}
use Rattle.gcx_base.specs.declared.steps.Step.{Step}
use Rattle.gcx_model.specs.Tree.{Node, serial_of, above, within, Tree, TreeToken, opening, grow, grow_all, is_open_at}
use Rattle.gcx_model.specs.Paths.{any, matches}
use Rattle.gcx_model.specs.Members.{count}
use Rattle.gcx_model.specs.Core.{RoleTarget, BodyTree, OffTree, PlanTree}
use Rattle.gcx_model.specs.Run.{Action, Offed, env0}
use Rattle.gcx_model.specs.Cores.{Good}
use Rattle.gcx_model.specs.Roles.{roles_of}
use Rattle.gcx_model.specs.Placed.{offs_in, of_role, Placed}
use Rattle.gcx_model.specs.Growth.{Leads, stays, more, may_come, may_all}
use Rattle.gcx_model.specs.Held.{path_of, gives, signed, reaches, given, taken, all_signed, live, is_live, is_held}
use Rattle.gcx_model.specs.Points.{actions, so_far, CoreState, here, fed, acted}
use Rattle.gcx_model.specs.Past.{Past, IsPast}
use Rattle.base_laws.proofs.Bools.{same_bools}
use Rattle.base_laws.proofs.Numbers.{count_high, in_count}
use Rattle.tree_laws.specs.Growth.{AllClosed}
use Rattle.placed_laws.specs.Balance.{is_taking}
use Rattle.tree_laws.proofs.Lists.{In, Once, In-right, In-append, In-filter, In-kept, any_in, any_from}
use Rattle.tree_laws.proofs.Matches.{Grown, Grown-grow, Grown-all, Grown-opening, Matches-in, Matches-from}
use Rattle.tree_laws.proofs.Chains.{above_in}
use Rattle.placed_laws.proofs.Stays.{gives_same, all_in}
use Rattle.tree_laws.proofs.Fed.{nodes_stay, root_from}
use Rattle.tree_laws.proofs.Growing.{leads}
use Rattle.placed_laws.proofs.RunForms.{prefix_law}
use Rattle.placed_laws.proofs.Balances.{balance_law, once_law, offs_at_matches}
use Rattle.past_laws.proofs.PastForms.{core_state_past}
use Rattle.past_laws.proofs.Bases.{live_by_bases, or_not}
use Rattle.past_laws.proofs.RowFacts.{bases_above}
use Rattle.placed_laws.proofs.Told.{told, taken_told}
use Rattle.placed_laws.proofs.Unique.{row_below}
use Rattle.tree_laws.proofs.OffsSigned.{signed_is_off}
use Rattle.placed_laws.proofs.Lasting.{given_stays}
use Rattle.time_laws.specs.Times.{Clock, IsClock, clock_of, tree_at, is_there}
use Rattle.time_laws.specs.Leaving.{count_offs, last_from, last_of, freed_of}
use Rattle.time_laws.specs.Laws.{LiveByTimes, HeldByTimes}
use Rattle.time_laws.proofs.Clocks.{split_at, the_clock}
use Rattle.time_laws.proofs.LastOffs.{count-append, last_after, Found, last_found, once_split, greatest_least, greatest_found}

split_in : (x : Action) (xs : List Action) → In x xs → (us vs : List Action) × (xs ≡ us ++ x ∷ vs)
split_in x [] i = absurd i
split_in x (y ∷ xs) (inl e) = ([], xs, ap (λ (z : Action). z ∷ xs) e)
split_in x (y ∷ xs) (inr i) = let r = split_in x xs i in (y ∷ r.0, r.1, ap (λ z. y ∷ z) r.2)

may_split : (j : ℕ) (ts : List TreeToken) (P : Tree) → may_all ts P ≡ true → (may_all (take j ts) P ≡ true) × (may_all (drop j ts) (grow_all (take j ts) P) ≡ true)
may_split zero ts P h = (refl, h)
may_split (suc j) [] P h = (refl, refl)
may_split (suc j) (t ∷ ts) P h =
    let a = and_parts (may_come t P) (may_all ts (grow t P)) h in
    let r = may_split j ts (grow t P) a.1 in
    (and_from (may_come t P) (may_all (take j ts) (grow t P)) a.0 r.0, r.1)

gives_on : (us : List TreeToken) (P : Tree) → Grown P → (m : ℕ) (rel tail : List Step) (k : RoleTarget) (n : Node) → In n P.nodes → gives (grow_all us P) m rel tail k n ≡ gives P m rel tail k n
gives_on [] P w m rel tail k n i = refl
gives_on (t ∷ us) P w m rel tail k n i = gives_on us (grow t P) (Grown-grow t P w) m rel tail k n (nodes_stay (t ∷ []) P n i) ∙ gives_same t P w m rel tail k n i

fed_state : (plan : PlanTree) (P : Tree) → Leads opening P → CoreState plan P 0
fed_state plan P stays = here
fed_state plan P (more {Q = Q} l g) = fed (fed_state plan Q l) g

pub core_state : (plan : PlanTree) (P : Tree) → Leads opening P → (k : ℕ) → k ≤ length (actions plan P) → CoreState plan P k
core_state plan P l zero h = fed_state plan P l
core_state plan P l (suc k) h = acted (core_state plan P l k (omega arith)) (omega arith)

module _ (core : BodyTree) (good : Good core) (plan : PlanTree) (pl : Placed core plan) (ts : List TreeToken) (may : may_all ts opening ≡ true) (shut : (grow_all ts opening).at ≡ None) (c : Clock) (ck : IsClock c ts (grow_all ts opening) (length ts)) where
  abbrev pub C : Tree
  C = grow_all ts opening

  grown_at : (j : ℕ) → Grown (tree_at ts j)
  grown_at j = Grown-all (take j ts) opening Grown-opening

  pub lead_to : (j : ℕ) → Leads opening (tree_at ts j)
  lead_to j = leads (take j ts) opening (may_split j ts opening may).0

  pub lead_on : (j : ℕ) → Leads (tree_at ts j) (grow_all ts opening)
  lead_on j = subst (λ (z : Tree). Leads (tree_at ts j) z) (sym (split_at j ts opening)) (leads (drop j ts) (tree_at ts j) (may_split j ts opening may).1)

  -- one token on
  pub lead_step : (j : ℕ) → Leads (tree_at ts j) (tree_at ts (suc j))
  lead_step j = go j ts opening may
    where
      go : (j : ℕ) (ts : List TreeToken) (P : Tree) → may_all ts P ≡ true → Leads (grow_all (take j ts) P) (grow_all (take (suc j) ts) P)
      go zero [] P h = stays
      go zero (t ∷ ts) P h = leads (t ∷ []) P (and_from (may_come t P) true (and_parts (may_come t P) (may_all ts (grow t P)) h).0 refl)
      go (suc j) [] P h = stays
      go (suc j) (t ∷ ts) P h = go j ts (grow t P) (and_parts (may_come t P) (may_all ts (grow t P)) h).1

  lead_all : Leads opening (grow_all ts opening)
  lead_all = leads ts opening may

  closed_all : AllClosed (grow_all ts opening)
  closed_all m i = ap (λ (z : Option Node). not (is_open_at z (serial_of m))) shut

  -- how the whole run goes on behind the first k actions at the time j
  pub goes_on : (j k : ℕ) → (rest : List Action) × (actions plan (grow_all ts opening) ≡ so_far plan (tree_at ts j) k ++ rest)
  goes_on j k =
      let r = (prefix_law (tree_at ts j) (grow_all ts opening) (lead_to j) (lead_on j) plan.body env0 (λ x. root_from (tree_at ts j) (lead_to j))).0 in (
        drop k (actions plan (tree_at ts j)) ++ r.0,
        r.1 ∙ (ap (λ (z : List Action). z ++ r.0) (sym (take-append-drop k (actions plan (tree_at ts j)))) ∙ append_assoc (take k (actions plan (tree_at ts j))) (drop k (actions plan (tree_at ts j))) r.0),
      )

  all_taken : so_far plan (grow_all ts opening) (length (actions plan (grow_all ts opening))) ≡ actions plan (grow_all ts opening)
  all_taken = take-length (actions plan (grow_all ts opening))

  all_state : CoreState plan (grow_all ts opening) (length (actions plan (grow_all ts opening)))
  all_state = core_state plan (grow_all ts opening) lead_all (length (actions plan (grow_all ts opening))) (omega arith)

  once_all : Once (filter is_taking (actions plan (grow_all ts opening)))
  once_all = subst (λ (z : List Action). Once (filter is_taking z)) all_taken (once_law core good plan pl (grow_all ts opening) (length (actions plan (grow_all ts opening))) all_state)

  module _ (j k : ℕ) (lj : j ≤ length ts) (lk : k ≤ length (actions plan (tree_at ts j))) where
    abbrev A : List Action
    A = so_far plan (tree_at ts j) k

    abbrev past_at : Past
    past_at = record { plan = plan; tree = tree_at ts j; acts = so_far plan (tree_at ts j) k; fed = 0 }

    is_past_at : let past : Past = record { plan = plan; tree = tree_at ts j; acts = so_far plan (tree_at ts j) k; fed = 0 } in IsPast past
    is_past_at = core_state_past core good plan pl (tree_at ts j) k (core_state plan (tree_at ts j) (lead_to j) k lk) 0 (omega arith)

    same_reach : (o : OffTree) (m n : Node) → In n (tree_at ts j).nodes → reaches (grow_all ts opening) o m n ≡ reaches (tree_at ts j) o m n
    same_reach o m n i = ap (λ (z : Tree). reaches z o m n) (split_at j ts opening) ∙ gives_on (drop j ts) (tree_at ts j) (grown_at j) (serial_of m) o.rel o.tail o.kind n i

    in_all : (n : Node) → In n (tree_at ts j).nodes → In n (grow_all ts opening).nodes
    in_all n i = subst (λ (z : Tree). In n z.nodes) (sym (split_at j ts opening)) (nodes_stay (drop j ts) (tree_at ts j) n i)

    -- a role is live: then a statement that is yet to come reaches the node
    live_later : (n : Node) → In n (tree_at ts j).nodes → is_live plan (tree_at ts j) (so_far plan (tree_at ts j) k) n ≡ true → count_offs (so_far plan (tree_at ts j) k) < last_of (grow_all ts opening) (actions plan (grow_all ts opening)) n
    live_later n i h =
        let r = any_in (live plan (tree_at ts j) (so_far plan (tree_at ts j) k) n) (count 0 (length plan.roles)) h in
        let low : r.0 < length (roles_of core) = let a = count_high 0 (length plan.roles) r.0 r.1 in let b = ap length pl.roles in omega arith in
        let one = pl.one r.0 low in
        let f = In-filter (of_role r.0) one.0 (offs_in plan.body) (subst (λ (z : List OffTree). In one.0 z) (sym one.1) (inl refl)) in
        let o : OffTree = one.0 in
        let role : o.role ≡ r.0 = eqb-true o.role r.0 f.1 in
        let lv : live plan (tree_at ts j) (so_far plan (tree_at ts j) k) n o.role ≡ true = subst (λ (z : ℕ). live plan (tree_at ts j) (so_far plan (tree_at ts j) k) n z ≡ true) (sym role) r.2 in
        let b = (live_by_bases past_at is_past_at o f.0 n i).0 lv in
        let m : Node = b.0 in
        let base = Matches-in (tree_at ts j) 0 (path_of plan o.base) m b.1 in
        let base_all : In m (matches (grow_all ts opening) 0 (path_of plan o.base)) = Matches-from (grow_all ts opening) 0 (path_of plan o.base) m (in_all m base.0) base.1 in
        let g : given plan (grow_all ts opening) n o.role ≡ true = given_stays plan (tree_at ts j) (grow_all ts opening) (lead_to j) (lead_on j) n o.role i ∙ (and_parts (given plan (tree_at ts j) n o.role) (not (taken plan (tree_at ts j) (so_far plan (tree_at ts j) k) n o.role)) lv).0 in
        let t : taken plan (grow_all ts opening) (actions plan (grow_all ts opening)) n o.role ≡ true = balance_law core good plan pl (grow_all ts opening) lead_all closed_all n o.role ∙ g in
        let tl = told core good plan pl o f.0 in
        let s = (and_parts (given plan (grow_all ts opening) n o.role) (all_signed (path_of plan) (grow_all ts opening) (actions plan (grow_all ts opening)) n o) (sym (taken_told plan o tl (grow_all ts opening) (actions plan (grow_all ts opening)) n) ∙ t)).1 in
        let x = all_in (λ (z : Node). not (reaches (grow_all ts opening) o z n) || signed (actions plan (grow_all ts opening)) o z) (matches (grow_all ts opening) 0 (path_of plan o.base)) s m base_all in
        let rch : reaches (grow_all ts opening) o m n ≡ true = same_reach o m n i ∙ b.3 in
        let sg : signed (actions plan (grow_all ts opening)) o m ≡ true = or_not (reaches (grow_all ts opening) o m n) (signed (actions plan (grow_all ts opening)) o m) x rch in
        let e = goes_on j k in
        elim (In-append (Offed o (serial_of m)) (so_far plan (tree_at ts j) k) e.0 (subst (λ (z : List Action). In (Offed o (serial_of m)) z) e.1 ((signed_is_off (actions plan (grow_all ts opening)) o m).0 sg))) [
          | inl q ↦ absurd (false≢true (sym b.2 ∙ (signed_is_off (so_far plan (tree_at ts j) k) o m).1 q))
          | inr q ↦ (
              let u = split_in (Offed o (serial_of m)) e.0 q in
              let sp : actions plan (grow_all ts opening) ≡ (so_far plan (tree_at ts j) k ++ u.0) ++ Offed o (serial_of m) ∷ u.1
              = e.1 ∙ (ap (λ (z : List Action). so_far plan (tree_at ts j) k ++ z) u.2 ∙ sym (append_assoc (so_far plan (tree_at ts j) k) u.0 (Offed o (serial_of m) ∷ u.1))) in
              let l = last_after (grow_all ts opening) 0 (so_far plan (tree_at ts j) k ++ u.0) u.1 o (serial_of m) n 0 (omega arith) rch in
              let c = count-append (so_far plan (tree_at ts j) k) u.0 in
              subst (λ (z : List Action). count_offs (so_far plan (tree_at ts j) k) < last_of (grow_all ts opening) z n) (sym sp) (omega arith))
        ]

    -- and where one is yet to come, its role is live
    later_live : (n : Node) → In n (tree_at ts j).nodes → count_offs (so_far plan (tree_at ts j) k) < last_of (grow_all ts opening) (actions plan (grow_all ts opening)) n → is_live plan (tree_at ts j) (so_far plan (tree_at ts j) k) n ≡ true
    later_live n i h = elim (last_found (grow_all ts opening) 0 (actions plan (grow_all ts opening)) n 0) [
      | inl e ↦ absurd (omega (arith, e, h))
      | inr f ↦ found f
    ]
      where
        found : Found (grow_all ts opening) 0 (actions plan (grow_all ts opening)) n (last_from (grow_all ts opening) 0 (actions plan (grow_all ts opening)) n 0) → is_live plan (tree_at ts j) (so_far plan (tree_at ts j) k) n ≡ true
        found f =
            let act : Action = Offed f.off f.place in
            let there : In act (actions plan (grow_all ts opening)) = subst (λ (z : List Action). In act z) (sym f.split) (In-right act f.before (act ∷ f.after) (inl refl)) in
            let om = offs_at_matches core good plan pl (grow_all ts opening) (length (actions plan (grow_all ts opening))) all_state f.off f.place (subst (λ (z : List Action). In act z) (sym all_taken) there) in
            let m : Node = om.1.0 in
            let rch : reaches (grow_all ts opening) f.off m n ≡ true = ap (λ (z : ℕ). gives (grow_all ts opening) z f.off.rel f.off.tail f.off.kind n) om.1.2 ∙ f.reaches in
            let past : Past = record { plan = plan; tree = grow_all ts opening; acts = so_far plan (grow_all ts opening) (length (actions plan (grow_all ts opening))); fed = 0 } in
            let is : IsPast past = core_state_past core good plan pl (grow_all ts opening) (length (actions plan (grow_all ts opening))) all_state 0 (omega arith) in
            let up : In m (above n) = (bases_above past is f.off m om.1.1 n (in_all n i)).0 rch in
            let here_too : In m (tree_at ts j).nodes = above_in (tree_at ts j) (grown_at j) n m i up in
            let base : In m (matches (tree_at ts j) 0 (path_of plan f.off.base)) = Matches-from (tree_at ts j) 0 (path_of plan f.off.base) m here_too (Matches-in (grow_all ts opening) 0 (path_of plan f.off.base) m om.1.1).1 in
            let e = goes_on j k in
            let uns : signed (so_far plan (tree_at ts j) k) f.off m ≡ false = false_from_ne_true (signed (so_far plan (tree_at ts j) k) f.off m) (λ q.
            let inA : In act (so_far plan (tree_at ts j) k) = subst (λ (z : ℕ). In (Offed f.off z) (so_far plan (tree_at ts j) k)) om.1.2 ((signed_is_off (so_far plan (tree_at ts j) k) f.off m).0 q) in
            let c = once_split (so_far plan (tree_at ts j) k) e.0 f.before f.after f.off f.place (subst (λ (z : List Action). Once (filter is_taking z)) e.1 once_all) inA (sym e.1 ∙ f.split) in
            let d = f.number in
            omega (arith, c, d, h)) in
            let lv = (live_by_bases past_at is_past_at f.off om.0 n i).1 (m, base, uns, sym (same_reach f.off m n i) ∙ rch) in
            let tl = told core good plan pl f.off om.0 in
            let low : f.off.role < length plan.roles = row_below plan.roles f.off.role tl.row tl.at in
            let z : 0 + f.off.role ≡ f.off.role = omega arith in
            any_from (live plan (tree_at ts j) (so_far plan (tree_at ts j) k) n) f.off.role (count 0 (length plan.roles)) (subst (λ (y : ℕ). In y (count 0 (length plan.roles))) z (in_count 0 (length plan.roles) f.off.role low)) lv

    pub live_then : (n : Node) → In n (tree_at ts j).nodes → is_live plan (tree_at ts j) (so_far plan (tree_at ts j) k) n ≡ ltb (count_offs (so_far plan (tree_at ts j) k)) (last_of (grow_all ts opening) (actions plan (grow_all ts opening)) n)
    live_then n i = same_bools (is_live plan (tree_at ts j) (so_far plan (tree_at ts j) k) n) (ltb (count_offs (so_far plan (tree_at ts j) k)) (last_of (grow_all ts opening) (actions plan (grow_all ts opening)) n))
        (λ h. lt-ltb (count_offs (so_far plan (tree_at ts j) k)) (last_of (grow_all ts opening) (actions plan (grow_all ts opening)) n) (live_later n i h))
        (λ h. later_live n i (ltb-true (count_offs (so_far plan (tree_at ts j) k)) (last_of (grow_all ts opening) (actions plan (grow_all ts opening)) n) h))

    pub known_there : (n : Node) → In n (tree_at ts j).nodes → In n (grow_all ts opening).nodes × (c.opened (serial_of n) ≤ j)
    known_there n i =
        let f = In-filter (is_there c j) n (grow_all ts opening).nodes (subst (λ (z : List Node). In n z) (ck.nodes j lj) i) in
        (f.0, leb-true (c.opened (serial_of n)) j f.1)

    -- of a closed node: a role is live in it until its last statement
    held_closed : (n : Node) → In n (tree_at ts j).nodes → c.closed (serial_of n) ≤ j
        → any (λ m. within (serial_of n) m && is_live plan (tree_at ts j) (so_far plan (tree_at ts j) k) m) (tree_at ts j).nodes ≡ ltb (count_offs (so_far plan (tree_at ts j) k)) (freed_of (grow_all ts opening) (actions plan (grow_all ts opening)) n)
    held_closed n i d =
        same_bools (any (λ m. within (serial_of n) m && is_live plan (tree_at ts j) (so_far plan (tree_at ts j) k) m) (tree_at ts j).nodes) (ltb (count_offs (so_far plan (tree_at ts j) k)) (freed_of (grow_all ts opening) (actions plan (grow_all ts opening)) n))
        (λ h.
        let r = any_in (λ (m : Node). within (serial_of n) m && is_live plan (tree_at ts j) (so_far plan (tree_at ts j) k) m) (tree_at ts j).nodes h in
        let a = and_parts (within (serial_of n) r.0) (is_live plan (tree_at ts j) (so_far plan (tree_at ts j) k) r.0) r.2 in
        let l = live_later r.0 r.1 a.1 in
        let g = greatest_least (last_of (grow_all ts opening) (actions plan (grow_all ts opening))) (filter (within (serial_of n)) (grow_all ts opening).nodes) r.0 (In-kept (within (serial_of n)) r.0 (grow_all ts opening).nodes (in_all r.0 r.1) a.0) in
        lt-ltb (count_offs (so_far plan (tree_at ts j) k)) (freed_of (grow_all ts opening) (actions plan (grow_all ts opening)) n) (omega (arith, l, g)))
        (λ h.
        let r = greatest_found (last_of (grow_all ts opening) (actions plan (grow_all ts opening))) (filter (within (serial_of n)) (grow_all ts opening).nodes) (count_offs (so_far plan (tree_at ts j) k))
        (ltb-true (count_offs (so_far plan (tree_at ts j) k)) (freed_of (grow_all ts opening) (actions plan (grow_all ts opening)) n) h) in
        let f = In-filter (within (serial_of n)) r.0 (grow_all ts opening).nodes r.1 in
        let q = ck.inside n r.0 (in_all n i) f.0 f.1 in
        let o : c.opened (serial_of r.0) ≤ j = let q0 = q.0 in let q1 = q.1 in omega (arith, q0, q1, d) in
        let there : In r.0 (tree_at ts j).nodes = subst (λ (z : List Node). In r.0 z) (sym (ck.nodes j lj)) (In-kept (is_there c j) r.0 (grow_all ts opening).nodes f.0 (le-leb (c.opened (serial_of r.0)) j o)) in
        any_from (λ (m : Node). within (serial_of n) m && is_live plan (tree_at ts j) (so_far plan (tree_at ts j) k) m) r.0 (tree_at ts j).nodes there (and_from (within (serial_of n) r.0) (is_live plan (tree_at ts j) (so_far plan (tree_at ts j) k) r.0) f.1 (later_live r.0 there r.2)))

    pub held_then : (n : Node) → In n (tree_at ts j).nodes → is_held plan (tree_at ts j) (so_far plan (tree_at ts j) k) n
        ≡ (not (leb (c.closed (serial_of n)) j) || ltb (count_offs (so_far plan (tree_at ts j) k)) (freed_of (grow_all ts opening) (actions plan (grow_all ts opening)) n))
    held_then n i = go (leb (c.closed (serial_of n)) j) refl (is_open_at (tree_at ts j).at (serial_of n)) (ck.closed j lj n (known_there n i).0 (known_there n i).1)
      where
        inner : Bool
        inner = any (λ m. within (serial_of n) m && is_live plan (tree_at ts j) (so_far plan (tree_at ts j) k) m) (tree_at ts j).nodes

        late : Bool
        late = ltb (count_offs (so_far plan (tree_at ts j) k)) (freed_of (grow_all ts opening) (actions plan (grow_all ts opening)) n)

        go : (x : Bool) → leb (c.closed (serial_of n)) j ≡ x → (y : Bool) → not y ≡ leb (c.closed (serial_of n)) j → (y || inner) ≡ (not x || late)
        go true e true h = absurd (false≢true (h ∙ e))
        go true e false h = held_closed n i (leb-true (c.closed (serial_of n)) j e)
        go false e true h = refl
        go false e false h = absurd (true≢false (h ∙ e))

pub live_by_times : LiveByTimes
live_by_times core good plan pl ts may shut j k lj lk n i = live_then core good plan pl ts may shut (clock_of ts) (the_clock ts shut) j k lj lk n i

pub held_by_times : HeldByTimes
held_by_times core good plan pl ts may shut c ck j k lj lk n i = held_then core good plan pl ts may shut c ck j k lj lk n i
