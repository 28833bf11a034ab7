-- The lines of the demand run, told by times.
use Rattle.std.proofs.Common.{◌≡◌, ℕ, zero, suc, ◌+◌, ◌<◌, ◌≤◌, Bool, true, false, cond, not, ◌&&◌, ◌||◌, List, [], ◌∷◌, ◌++◌, length, map, refl, sym, ◌∙◌, ap, subst, inl, inr, arith, leb, ltb, eqb, append_assoc, None}
use Rattle.std.specs.Prelude.{take, drop, reverse}
use Rattle.std.specs.List.{filter}
use Rattle.std.proofs.lemmas.Bool.{le-leb, lt-leb, lt-ltb, le-ltb, eq-eqb, ne_eqb, cases_lt, cases_order, eqb-true, and_left}
use Rattle.std.proofs.lemmas.List.{length-append, take-append-drop}
use Rattle.std.proofs.lemmas.List.Elements.{filter-append}
use Rattle.std.proofs.Math.Seq.{take-length}
use Rattle.gcx_model.specs.Tree.{Node, Root, serial_of, within, Tree, TreeToken, opening, grow, grow_all}
use Rattle.gcx_model.specs.Core.{BodyTree, OffTree, PlanTree}
use Rattle.gcx_model.specs.Run.{Action, Wrote, Offed, env0}
use Rattle.gcx_model.specs.Cores.{Good}
use Rattle.gcx_model.specs.Placed.{Placed}
use Rattle.gcx_model.specs.Growth.{Leads, may_all}
use Rattle.gcx_model.specs.Held.{is_held, held, has_serial}
use Rattle.gcx_model.specs.Points.{actions, so_far}
use Rattle.gcx_model.specs.Demand.{Line, Written, SignedOff, Left, action_line, left, act_lines, opened_line, feed_line, feed_lines, demand, trace_lines}
use Rattle.base_laws.proofs.Bools.{same_bools}
use Rattle.tree_laws.proofs.Lists.{In, In-left, In-right, In-filter, In-kept, any_in, any_from, filter_none, filter_same}
use Rattle.tree_laws.proofs.Matches.{Grown, Grown-all, Grown-opening, Numbered-same, Numbered-high, added, grow_nodes}
use Rattle.placed_laws.proofs.RunForms.{prefix_law}
use Rattle.tree_laws.proofs.Fed.{root_from}
use Rattle.tree_laws.proofs.Freeze.{within_self}
use Rattle.placed_laws.proofs.Stays.{new_serial}
use Rattle.time_laws.specs.Times.{Clock, IsClock, tree_at, is_there, TimedAction, timed_acts, due}
use Rattle.time_laws.specs.Leaving.{count_offs, freed_of, left_where, is_freed, is_closed_and_freed, act_told, acts_told, next_due, tokens_told, told_by_times}
use Rattle.time_laws.specs.Laws.{TraceByTimes}
use Rattle.time_laws.proofs.Runs.{run_by_times}
use Rattle.time_laws.proofs.Lives.{lead_to, lead_step, held_then, known_there}
use Rattle.time_laws.proofs.LastOffs.{count-append}

-- ---- filters

filter_twice : (p q : Node → Bool) (xs : List Node) → filter p (filter q xs) ≡ filter (λ n. q n && p n) xs
filter_twice p q [] = refl
filter_twice p q (x ∷ xs) = go (q x) (p x) refl refl (filter_twice p q xs)
  where
    go : (a b : Bool) → q x ≡ a → p x ≡ b → filter p (filter q xs) ≡ filter (λ n. q n && p n) xs
        → filter p (cond a (x ∷ filter q xs) (filter q xs)) ≡ cond (a && b) (x ∷ filter (λ n. q n && p n) xs) (filter (λ n. q n && p n) xs)
    go true true e f ih = rw f (ap (λ z. x ∷ z) ih)
    go true false e f ih = rw f ih
    go false b e f ih = ih

has_own : (P : Tree) → Grown P → (p : Node → Bool) (n : Node) → In n P.nodes → has_serial (filter p P.nodes) (serial_of n) ≡ p n
has_own P w p n i = same_bools (has_serial (filter p P.nodes) (serial_of n)) (p n)
    (λ h.
    let r = any_in (λ (m : Node). eqb (serial_of m) (serial_of n)) (filter p P.nodes) h in
    let f = In-filter p r.0 P.nodes r.1 in
    subst (λ (z : Node). p z ≡ true) (Numbered-same 0 P.nodes w.numbered r.0 n f.0 i (eqb-true (serial_of r.0) (serial_of n) r.2)) f.1)
    (λ h. any_from (λ (m : Node). eqb (serial_of m) (serial_of n)) n (filter p P.nodes) (In-kept p n P.nodes i h) (eq-eqb (serial_of n) (serial_of n) refl))

drop_front : (xs ys : List Node) → drop (length xs) (xs ++ ys) ≡ ys
drop_front [] ys = refl
drop_front (x ∷ xs) ys = drop_front xs ys

within_own : (n : Node) → within (serial_of n) n ≡ true
within_own n = within_self (serial_of n) n (eq-eqb (serial_of n) (serial_of n) refl)

-- ---- numbers: x and y tell whether a node is closed by a time and by the next one, f when it is freed, k how many statements were carried out

freed_now : (x : Bool) (f k : ℕ) → ((not x || ltb k f) && not (not x || ltb (suc k) f)) ≡ (x && eqb f (suc k))
freed_now false f k = refl
freed_now true f k = elim (cases_order f (suc k)) [
  | inl e ↦ rw (lt-ltb k f (omega (arith, e)), le-ltb (suc k) f (omega (arith, e)), eq-eqb f (suc k) e) refl
  | inr q ↦ elim q [
    | inl l ↦ rw (le-ltb k f (omega (arith, l)), ne_eqb f (suc k) (λ e. omega (arith, e, l))) refl
    | inr l ↦ rw (lt-ltb k f (omega (arith, l)), lt-ltb (suc k) f l, ne_eqb f (suc k) (λ e. omega (arith, e, l))) refl
  ]
]

never_both : (a : Bool) → (a && not a) ≡ false
never_both true = refl
never_both false = refl

not_ltb : (k f : ℕ) → not (ltb k f) ≡ leb f k
not_ltb k f = elim (cases_lt k f) [
  | inl l ↦ rw (lt-ltb k f l, lt-leb f k l) refl
  | inr l ↦ rw (le-ltb k f l, le-leb f k l) refl
]

-- an old node leaves with the token at the time suc j
over_old : (d j f k : ℕ) → ((not (leb d j) || ltb k f) && not (not (leb d (suc j)) || ltb k f)) ≡ (eqb d (suc j) && leb f k)
over_old d j f k = elim (cases_order d (suc j)) [
  | inl e ↦ rw (lt-leb d j (omega (arith, e)), le-leb d (suc j) (omega (arith, e)), eq-eqb d (suc j) e) (not_ltb k f)
  | inr q ↦ elim q [
    | inl l ↦ rw (le-leb d j (omega (arith, l)), le-leb d (suc j) (omega (arith, l)), ne_eqb d (suc j) (λ e. omega (arith, e, l))) (never_both (ltb k f))
    | inr l ↦ rw (lt-leb d j (omega (arith, l)), lt-leb d (suc j) l, ne_eqb d (suc j) (λ e. omega (arith, e, l))) refl
  ]
]

-- a new one that is opened at this time
over_new : (d j f k : ℕ) → j < d → not (not (leb d (suc j)) || ltb k f) ≡ (eqb d (suc j) && leb f k)
over_new d j f k l = elim (cases_order d (suc j)) [
  | inl e ↦ rw (le-leb d (suc j) (omega (arith, e)), eq-eqb d (suc j) e) (not_ltb k f)
  | inr q ↦ elim q [
    | inl m ↦ absurd (omega (arith, l, m))
    | inr m ↦ rw (lt-leb d (suc j) m, ne_eqb d (suc j) (λ e. omega (arith, e, m))) refl
  ]
]

module _ (core : BodyTree) (good : Good core) (plan : PlanTree) (pl : Placed core plan) (full : List TreeToken) (may : may_all full opening ≡ true) (shut : (grow_all full opening).at ≡ None) (c : Clock) (ck : IsClock c full (grow_all full opening) (length full)) where
  abbrev C : Tree
  C = grow_all full opening

  grown_at : (j : ℕ) → Grown (tree_at full j)
  grown_at j = Grown-all (take j full) opening Grown-opening

  abbrev closed_at : Node → ℕ
  closed_at n = c.closed (serial_of n)

  abbrev freed_at : Node → ℕ
  freed_at n = freed_of (grow_all full opening) (actions plan (grow_all full opening)) n

  -- what passes among the nodes at a time passes among all, where it asks that the node is closed by then
  pub among_all : (j : ℕ) → j ≤ length full → (p : Node → Bool) → ((n : Node) → In n (grow_all full opening).nodes → j < c.opened (serial_of n) → p n ≡ false) → filter p (tree_at full j).nodes ≡ filter p (grow_all full opening).nodes
  among_all j l p h =
      ap (filter p) (ck.nodes j l) ∙ (filter_twice p (is_there c j) (grow_all full opening).nodes
      ∙ filter_same (λ n. is_there c j n && p n) p (grow_all full opening).nodes (λ n i. elim (cases_lt j (c.opened (serial_of n))) [
        | inl a ↦ and_left (is_there c j n) (p n) (lt-leb (c.opened (serial_of n)) j a) ∙ sym (h n i a)
        | inr a ↦ ap (λ z. z && p n) (le-leb (c.opened (serial_of n)) j a)
      ]))

  opened_before : (n : Node) → In n (grow_all full opening).nodes → c.opened (serial_of n) ≤ c.closed (serial_of n)
  opened_before n i = (ck.inside n n i i (within_own n)).0

  -- ---- one action

  act_step : (j k : ℕ) → j ≤ length full → (o : OffTree) (m : ℕ) → suc k ≤ length (actions plan (tree_at full j)) → so_far plan (tree_at full j) (suc k) ≡ so_far plan (tree_at full j) k ++ Offed o m ∷ []
      → left (held plan (tree_at full j) (so_far plan (tree_at full j) k)) (held plan (tree_at full j) (so_far plan (tree_at full j) (suc k)))
      ≡ left_where (grow_all full opening) (is_freed c (grow_all full opening) (actions plan (grow_all full opening)) j (suc (count_offs (so_far plan (tree_at full j) k))))
  act_step j k lj o m lk e =
      ap (λ z. map Left (map serial_of (reverse z)))
      (filter_twice (λ n. not (has_serial (held plan P A2) (serial_of n))) (is_held plan P A1) P.nodes
      ∙ (filter_same (λ n. is_held plan P A1 n && not (has_serial (held plan P A2) (serial_of n))) q P.nodes each
      ∙ among_all j lj q (λ n i l. and_left (leb (closed_at n) j) (eqb (freed_at n) (suc (count_offs A1))) (lt-leb (closed_at n) j (let x = opened_before n i in omega (arith, x, l))))))
    where
      P : Tree
      P = tree_at full j

      A1 : List Action
      A1 = so_far plan (tree_at full j) k

      A2 : List Action
      A2 = so_far plan (tree_at full j) (suc k)

      q : Node → Bool
      q = is_freed c (grow_all full opening) (actions plan (grow_all full opening)) j (suc (count_offs A1))

      more : count_offs A2 ≡ suc (count_offs A1)
      more = ap count_offs e ∙ (count-append A1 (Offed o m ∷ []) ∙ omega arith)

      each : (n : Node) → In n P.nodes → (is_held plan P A1 n && not (has_serial (held plan P A2) (serial_of n))) ≡ q n
      each n i =
          ap (λ z. is_held plan P A1 n && not z) (has_own P (grown_at j) (is_held plan P A2) n i)
          ∙ (ap (λ z. z && not (is_held plan P A2 n)) (held_then core good plan pl full may shut c ck j k lj (omega (arith, lk)) n i)
          ∙ (ap (λ z. (not (leb (closed_at n) j) || ltb (count_offs A1) (freed_at n)) && not z) (held_then core good plan pl full may shut c ck j (suc k) lj lk n i)
          ∙ (ap (λ (z : ℕ). (not (leb (closed_at n) j) || ltb (count_offs A1) (freed_at n)) && not (not (leb (closed_at n) j) || ltb z (freed_at n))) more
          ∙ freed_now (leb (closed_at n) j) (freed_at n) (count_offs A1))))

  -- a write frees none
  write_step : (j k : ℕ) → (b : List ℕ) → so_far plan (tree_at full j) (suc k) ≡ so_far plan (tree_at full j) k ++ Wrote b ∷ [] → suc k ≤ length (actions plan (tree_at full j)) → j ≤ length full
      → left (held plan (tree_at full j) (so_far plan (tree_at full j) k)) (held plan (tree_at full j) (so_far plan (tree_at full j) (suc k))) ≡ []
  write_step j k b e lk lj =
      ap (λ z. map Left (map serial_of (reverse z)))
      (filter_twice (λ n. not (has_serial (held plan (tree_at full j) (so_far plan (tree_at full j) (suc k))) (serial_of n))) (is_held plan (tree_at full j) (so_far plan (tree_at full j) k)) (tree_at full j).nodes
      ∙ filter_none (λ n. is_held plan (tree_at full j) (so_far plan (tree_at full j) k) n && not (has_serial (held plan (tree_at full j) (so_far plan (tree_at full j) (suc k))) (serial_of n))) (tree_at full j).nodes (λ n i.
      ap (λ z. is_held plan (tree_at full j) (so_far plan (tree_at full j) k) n && not z) (has_own (tree_at full j) (grown_at j) (is_held plan (tree_at full j) (so_far plan (tree_at full j) (suc k))) n i)
      ∙ (ap (λ z. z && not (is_held plan (tree_at full j) (so_far plan (tree_at full j) (suc k)) n)) (held_then core good plan pl full may shut c ck j k lj (omega (arith, lk)) n i)
      ∙ (ap (λ z. (not (leb (closed_at n) j) || ltb (count_offs (so_far plan (tree_at full j) k)) (freed_at n)) && not z) (held_then core good plan pl full may shut c ck j (suc k) lj lk n i)
      ∙ (ap (λ (z : ℕ). (not (leb (closed_at n) j) || ltb (count_offs (so_far plan (tree_at full j) k)) (freed_at n)) && not (not (leb (closed_at n) j) || ltb z (freed_at n)))
      (ap count_offs e ∙ (count-append (so_far plan (tree_at full j) k) (Wrote b ∷ []) ∙ omega arith))
      ∙ never_both (not (leb (closed_at n) j) || ltb (count_offs (so_far plan (tree_at full j) k)) (freed_at n)))))))

  -- ---- the actions at one time

  take_next : (k : ℕ) (xs ys : List Action) (a : Action) (more : List Action) → xs ≡ take k xs ++ a ∷ more → k ≤ length xs → take (suc k) xs ≡ take k xs ++ a ∷ []
  take_next zero [] ys a more e l = absurd (cc)
  take_next zero (x ∷ xs) ys a more e l = let f : x ≡ a = cc in ap (λ (z : Action). z ∷ []) f
  take_next (suc k) [] ys a more e l = absurd (omega (arith, l))
  take_next (suc k) (x ∷ xs) ys a more e l = let f : xs ≡ take k xs ++ a ∷ more = cc in ap (λ z. x ∷ z) (take_next k xs ys a more f (omega (arith, l)))

  acts_on : (j : ℕ) → j ≤ length full → (more : List Action) (k : ℕ) → actions plan (tree_at full j) ≡ so_far plan (tree_at full j) k ++ more → k ≤ length (actions plan (tree_at full j))
      → act_lines plan (tree_at full j) (so_far plan (tree_at full j) k) more
      ≡ acts_told c (grow_all full opening) (actions plan (grow_all full opening)) j (count_offs (so_far plan (tree_at full j) k)) more
  acts_on j lj [] k e lk = refl
  acts_on j lj (a ∷ more) k e lk =
      let P : Tree = tree_at full j in
      let A1 : List Action = so_far plan P k in
      let A2 : List Action = so_far plan P (suc k) in
      let next : A2 ≡ A1 ++ a ∷ [] = take_next k (actions plan P) [] a more e lk in
      let rest : actions plan P ≡ A2 ++ more = e ∙ (sym (append_assoc A1 (a ∷ []) more) ∙ ap (λ (z : List Action). z ++ more) (sym next)) in
      let long : suc k ≤ length (actions plan P) = longer k (actions plan P) a more e lk in
      let ih = acts_on j lj more (suc k) rest long in
      let number : count_offs A2 ≡ count_offs (a ∷ []) + count_offs A1 = ap count_offs next ∙ (count-append A1 (a ∷ []) ∙ omega arith) in
      ap (λ (z : List Action). action_line a ∷ (left (held plan P A1) (held plan P z) ++ act_lines plan P z more)) (sym next)
      ∙ (ap (λ z. action_line a ∷ (left (held plan P A1) (held plan P A2) ++ z)) ih
      ∙ (ap (λ (z : ℕ). action_line a ∷ (left (held plan P A1) (held plan P A2) ++ acts_told c (grow_all full opening) (actions plan (grow_all full opening)) j z more)) number
      ∙ own a next long))
    where
      longer : (k : ℕ) (xs : List Action) (a : Action) (more : List Action) → xs ≡ take k xs ++ a ∷ more → k ≤ length xs → suc k ≤ length xs
      longer zero [] a more e l = absurd (cc)
      longer zero (x ∷ xs) a more e l = omega arith
      longer (suc k) [] a more e l = absurd (omega (arith, l))
      longer (suc k) (x ∷ xs) a more e l = let f : xs ≡ take k xs ++ a ∷ more = cc in let h = longer k xs a more f (omega (arith, l)) in omega (arith, h)

      own : (a : Action) → so_far plan (tree_at full j) (suc k) ≡ so_far plan (tree_at full j) k ++ a ∷ [] → suc k ≤ length (actions plan (tree_at full j))
          → let R : List Line = acts_told c (grow_all full opening) (actions plan (grow_all full opening)) j (count_offs (a ∷ []) + count_offs (so_far plan (tree_at full j) k)) more in
          action_line a ∷ (left (held plan (tree_at full j) (so_far plan (tree_at full j) k)) (held plan (tree_at full j) (so_far plan (tree_at full j) (suc k))) ++ R)
          ≡ act_told c (grow_all full opening) (actions plan (grow_all full opening)) j (count_offs (so_far plan (tree_at full j) k)) a ++ R
      own (Wrote b) n l = ap (λ z. Written (length b) ∷ (z ++ acts_told c (grow_all full opening) (actions plan (grow_all full opening)) j (count_offs (Wrote b ∷ []) + count_offs (so_far plan (tree_at full j) k)) more)) (write_step j k b n l lj)
      own (Offed o m) n l = ap (λ z. SignedOff m o.role ∷ (z ++ acts_told c (grow_all full opening) (actions plan (grow_all full opening)) j (count_offs (Offed o m ∷ []) + count_offs (so_far plan (tree_at full j) k)) more)) (act_step j k lj o m l n)

  take_front : (xs ys : List Action) → take (length xs) (xs ++ ys) ≡ xs
  take_front [] ys = refl
  take_front (x ∷ xs) ys = ap (λ z. x ∷ z) (take_front xs ys)

  acts_grow : (j : ℕ) → (t : TreeToken) → tree_at full (suc j) ≡ grow t (tree_at full j) → (rest : List Action) × (actions plan (tree_at full (suc j)) ≡ actions plan (tree_at full j) ++ rest)
  acts_grow j t e =
      let l = lead_to core good plan pl full may shut c ck j in
      let m : Leads (tree_at full j) (tree_at full (suc j)) = leads_one j t e in
      (prefix_law (tree_at full j) (tree_at full (suc j)) l m plan.body env0 (λ x. root_from (tree_at full j) l)).0
    where
      leads_one : (j : ℕ) (t : TreeToken) → tree_at full (suc j) ≡ grow t (tree_at full j) → Leads (tree_at full j) (tree_at full (suc j))
      leads_one j t e = lead_step core good plan pl full may shut c ck j

  -- ---- a token

  token_step : (j : ℕ) → suc j ≤ length full → (t : TreeToken) → tree_at full (suc j) ≡ grow t (tree_at full j)
      → left (held plan (tree_at full j) (actions plan (tree_at full j)) ++ drop (length (tree_at full j).nodes) (tree_at full (suc j)).nodes) (held plan (tree_at full (suc j)) (actions plan (tree_at full j)))
      ≡ left_where (grow_all full opening) (is_closed_and_freed c (grow_all full opening) (actions plan (grow_all full opening)) (suc j) (count_offs (actions plan (tree_at full j))))
  token_step j lj t e =
      ap (λ z. map Left (map serial_of (reverse z)))
      (ap (λ z. filter g (held plan P A ++ z)) dropped
      ∙ (filter-append g (held plan P A) new
      ∙ (ap (λ z. z ++ filter g new) (filter_twice g (is_held plan P A) P.nodes ∙ filter_same (λ n. is_held plan P A n && g n) q P.nodes old_each)
      ∙ (ap (λ z. filter q P.nodes ++ z) (filter_same g q new new_each)
      ∙ (sym (filter-append q P.nodes new)
      ∙ (ap (filter q) (sym nodes_are)
      ∙ among_all (suc j) lj q (λ n i l. and_left (eqb (closed_at n) (suc j)) (leb (freed_at n) k) (ne_eqb (closed_at n) (suc j) (λ f. let x = opened_before n i in omega (arith, x, l, f))))))))))
    where
      P : Tree
      P = tree_at full j

      Q : Tree
      Q = tree_at full (suc j)

      A : List Action
      A = actions plan (tree_at full j)

      k : ℕ
      k = count_offs (actions plan (tree_at full j))

      new : List Node
      new = added t (tree_at full j)

      g : Node → Bool
      g n = not (has_serial (held plan (tree_at full (suc j)) (actions plan (tree_at full j))) (serial_of n))

      q : Node → Bool
      q = is_closed_and_freed c (grow_all full opening) (actions plan (grow_all full opening)) (suc j) (count_offs (actions plan (tree_at full j)))

      nodes_are : (tree_at full (suc j)).nodes ≡ (tree_at full j).nodes ++ added t (tree_at full j)
      nodes_are = ap (λ (z : Tree). z.nodes) e ∙ grow_nodes t (tree_at full j)

      dropped : drop (length (tree_at full j).nodes) (tree_at full (suc j)).nodes ≡ added t (tree_at full j)
      dropped = ap (λ (z : List Node). drop (length (tree_at full j).nodes) z) nodes_are ∙ drop_front (tree_at full j).nodes (added t (tree_at full j))

      K : ℕ
      K = length (actions plan (tree_at full j))

      before_is : so_far plan (tree_at full j) (length (actions plan (tree_at full j))) ≡ actions plan (tree_at full j)
      before_is = take-length (actions plan (tree_at full j))

      -- the actions so far are the first ones behind the token too
      grows : (rest : List Action) × (actions plan (tree_at full (suc j)) ≡ actions plan (tree_at full j) ++ rest)
      grows = acts_grow j t e

      after_is : so_far plan (tree_at full (suc j)) (length (actions plan (tree_at full j))) ≡ actions plan (tree_at full j)
      after_is = ap (λ (z : List Action). take (length (actions plan (tree_at full j))) z) grows.1 ∙ take_front (actions plan (tree_at full j)) grows.0

      fits : length (actions plan (tree_at full j)) ≤ length (actions plan (tree_at full (suc j)))
      fits = let h = ap length grows.1 ∙ length-append (actions plan (tree_at full j)) grows.0 in omega (arith, h)

      held_before : (n : Node) → In n (tree_at full j).nodes → is_held plan (tree_at full j) (actions plan (tree_at full j)) n ≡ (not (leb (closed_at n) j) || ltb (count_offs (actions plan (tree_at full j))) (freed_at n))
      held_before n i = subst (λ (z : List Action). is_held plan (tree_at full j) z n ≡ (not (leb (closed_at n) j) || ltb (count_offs z) (freed_at n))) before_is (held_then core good plan pl full may shut c ck j (length (actions plan (tree_at full j))) (omega (arith, lj)) (omega arith) n i)

      held_behind : (n : Node) → In n (tree_at full (suc j)).nodes → is_held plan (tree_at full (suc j)) (actions plan (tree_at full j)) n ≡ (not (leb (closed_at n) (suc j)) || ltb (count_offs (actions plan (tree_at full j))) (freed_at n))
      held_behind n i = subst (λ (z : List Action). is_held plan (tree_at full (suc j)) z n ≡ (not (leb (closed_at n) (suc j)) || ltb (count_offs z) (freed_at n))) after_is (held_then core good plan pl full may shut c ck (suc j) (length (actions plan (tree_at full j))) lj fits n i)

      gone_is : (n : Node) → In n (tree_at full (suc j)).nodes → g n ≡ not (not (leb (closed_at n) (suc j)) || ltb k (freed_at n))
      gone_is n i = ap not (has_own (tree_at full (suc j)) (grown_at (suc j)) (is_held plan (tree_at full (suc j)) (actions plan (tree_at full j))) n i ∙ held_behind n i)

      old_in : (n : Node) → In n (tree_at full j).nodes → In n (tree_at full (suc j)).nodes
      old_in n i = subst (λ (z : List Node). In n z) (sym nodes_are) (In-left n (tree_at full j).nodes (added t (tree_at full j)) i)

      new_in : (n : Node) → In n (added t (tree_at full j)) → In n (tree_at full (suc j)).nodes
      new_in n i = subst (λ (z : List Node). In n z) (sym nodes_are) (In-right n (tree_at full j).nodes (added t (tree_at full j)) i)

      old_each : (n : Node) → In n (tree_at full j).nodes → (is_held plan (tree_at full j) (actions plan (tree_at full j)) n && g n) ≡ q n
      old_each n i = ap (λ z. z && g n) (held_before n i) ∙ (ap (λ z. (not (leb (closed_at n) j) || ltb k (freed_at n)) && z) (gone_is n (old_in n i)) ∙ over_old (closed_at n) j (freed_at n) k)

      not_old : (n : Node) → In n (added t (tree_at full j)) → In n (tree_at full j).nodes → ⊥
      not_old n a i =
          let s = new_serial t (tree_at full j) (grown_at j) n a in
          let r = Numbered-high 0 (tree_at full j).nodes (grown_at j).numbered n i in
          omega (arith, s, r)

      -- a new node is opened at this time, and not before
      new_late : (n : Node) → In n (tree_at full (suc j)).nodes → In n (added t (tree_at full j)) → j < closed_at n
      new_late n i a =
          let x = known_there core good plan pl full may shut c ck (suc j) 0 lj (omega arith) n i in
          let y = opened_before n x.0 in
          elim (cases_lt j (c.opened (serial_of n))) [
            | inl l ↦ omega (arith, l, y)
            | inr l ↦ absurd (not_old n a (subst (λ (z : List Node). In n z) (sym (ck.nodes j (omega (arith, lj)))) (In-kept (is_there c j) n (grow_all full opening).nodes x.0 (le-leb (c.opened (serial_of n)) j l))))
          ]

      new_each : (n : Node) → In n (added t (tree_at full j)) → g n ≡ q n
      new_each n i = gone_is n (new_in n i) ∙ over_new (closed_at n) j (freed_at n) k (new_late n (new_in n i) i)

  -- ---- all tokens

  due_is : (j : ℕ) → j ≤ length full → actions plan (tree_at full j) ≡ due j (timed_acts c (grow_all full opening) plan)
  due_is j l = run_by_times c full (grow_all full opening) (length full) ck plan j l

  joined : (f x y z : List Line) → (f ++ (x ++ y)) ++ z ≡ f ++ (x ++ (y ++ z))
  joined f x y z = append_assoc f (x ++ y) z ∙ ap (λ w. f ++ w) (append_assoc x y z)

  told_on : (rest pre us : List TreeToken) (j : ℕ) → length pre ≡ j → full ≡ pre ++ (rest ++ us)
      → demand plan rest (tree_at full j)
      ≡ tokens_told plan c (grow_all full opening) (timed_acts c (grow_all full opening) plan) (actions plan (grow_all full opening)) rest (tree_at full j) j
  told_on [] pre us j n e = refl
  told_on (t ∷ rest) pre us j n e =
      ap (λ (z : Tree). feed_lines plan t P z A ++ demand plan rest z) (sym grown)
      ∙ (ap (λ z. (feed_line plan t P.at P Q ++ (z ++ act_lines plan Q A (drop (length A) (actions plan Q)))) ++ demand plan rest Q) (token_step j lj t grown)
      ∙ (ap (λ z. (feed_line plan t P.at P Q ++ (over A ++ z)) ++ demand plan rest Q) acts_are
      ∙ (joined (feed_line plan t P.at P Q) (over A) (acts_by A (drop (length A) (actions plan Q))) (demand plan rest Q)
      ∙ (ap (λ z. feed_line plan t P.at P Q ++ (over A ++ (acts_by A (drop (length A) (actions plan Q)) ++ z))) (told_on rest (pre ++ t ∷ []) us (suc j) (length-append pre (t ∷ []) ∙ omega (arith, n)) (e ∙ sym (append_assoc pre (t ∷ []) (rest ++ us))))
      ∙ (ap (λ (z : List Action). feed_line plan t P.at P Q ++ (over z ++ (acts_by z (drop (length z) (actions plan Q)) ++ tail Q))) (due_is j (omega (arith, lj)))
      ∙ (ap (λ (z : List Action). feed_line plan t P.at P Q ++ (over (due j T') ++ (acts_by (due j T') (drop (length (due j T')) z) ++ tail Q))) (due_is (suc j) lj)
      ∙ ap (λ (z : Tree). feed_line plan t P.at P z ++ (over (due j T') ++ (acts_by (due j T') (next_due T' j) ++ tail z))) grown))))))
    where
      P : Tree
      P = tree_at full j

      Q : Tree
      Q = tree_at full (suc j)

      A : List Action
      A = actions plan (tree_at full j)

      T' : List TimedAction
      T' = timed_acts c (grow_all full opening) plan

      over : List Action → List Line
      over a = left_where (grow_all full opening) (is_closed_and_freed c (grow_all full opening) (actions plan (grow_all full opening)) (suc j) (count_offs a))

      acts_by : List Action → List Action → List Line
      acts_by a more = acts_told c (grow_all full opening) (actions plan (grow_all full opening)) (suc j) (count_offs a) more

      tail : Tree → List Line
      tail z = tokens_told plan c (grow_all full opening) (timed_acts c (grow_all full opening) plan) (actions plan (grow_all full opening)) rest z (suc j)

      lj : suc j ≤ length full
      lj = let h = ap length e ∙ length-append pre (t ∷ (rest ++ us)) in omega (arith, h, n)

      grow_take : (xs : List TreeToken) (more : List TreeToken) (R : Tree) → grow_all (take (suc (length xs)) (xs ++ t ∷ more)) R ≡ grow t (grow_all (take (length xs) (xs ++ t ∷ more)) R)
      grow_take [] more R = refl
      grow_take (x ∷ xs) more R = grow_take xs more (grow x R)

      grown : tree_at full (suc j) ≡ grow t (tree_at full j)
      grown = subst (λ (z : ℕ). grow_all (take (suc z) full) opening ≡ grow t (grow_all (take z full) opening)) n
          (subst (λ (z : List TreeToken). grow_all (take (suc (length pre)) z) opening ≡ grow t (grow_all (take (length pre) z) opening)) (sym e) (grow_take pre (rest ++ us) opening))

      behind : (more : List Action) × (actions plan (tree_at full (suc j)) ≡ actions plan (tree_at full j) ++ more)
      behind = acts_grow j t grown

      so_far_is : so_far plan (tree_at full (suc j)) (length (actions plan (tree_at full j))) ≡ actions plan (tree_at full j)
      so_far_is = ap (λ (z : List Action). take (length (actions plan (tree_at full j))) z) behind.1 ∙ take_front (actions plan (tree_at full j)) behind.0

      fits : length (actions plan (tree_at full j)) ≤ length (actions plan (tree_at full (suc j)))
      fits = let h = ap length behind.1 ∙ length-append (actions plan (tree_at full j)) behind.0 in omega (arith, h)

      acts_are : act_lines plan (tree_at full (suc j)) (actions plan (tree_at full j)) (drop (length (actions plan (tree_at full j))) (actions plan (tree_at full (suc j))))
          ≡ acts_told c (grow_all full opening) (actions plan (grow_all full opening)) (suc j) (count_offs (actions plan (tree_at full j))) (drop (length (actions plan (tree_at full j))) (actions plan (tree_at full (suc j))))
      acts_are = subst (λ (z : List Action). act_lines plan (tree_at full (suc j)) z (drop (length (actions plan (tree_at full j))) (actions plan (tree_at full (suc j))))
          ≡ acts_told c (grow_all full opening) (actions plan (grow_all full opening)) (suc j) (count_offs z) (drop (length (actions plan (tree_at full j))) (actions plan (tree_at full (suc j))))) so_far_is
          (acts_on (suc j) lj (drop (length (actions plan (tree_at full j))) (actions plan (tree_at full (suc j)))) (length (actions plan (tree_at full j)))
          (sym (take-append-drop (length (actions plan (tree_at full j))) (actions plan (tree_at full (suc j))))) fits)

  pub told_all : (ts us : List TreeToken) → full ≡ ts ++ us
      → trace_lines plan ts ≡ told_by_times plan c (grow_all full opening) (timed_acts c (grow_all full opening) plan) (actions plan (grow_all full opening)) ts
  told_all ts us e =
      ap (λ z. opened_line plan opening Root ∷ (z ++ demand plan ts opening)) (acts_on 0 (omega arith) (actions plan opening) 0 refl (omega arith))
      ∙ (ap (λ z. opened_line plan opening Root ∷ (acts_told c (grow_all full opening) (actions plan (grow_all full opening)) 0 0 z ++ demand plan ts opening)) (due_is 0 (omega arith))
      ∙ ap (λ z. opened_line plan opening Root ∷ (acts_told c (grow_all full opening) (actions plan (grow_all full opening)) 0 0 (due 0 (timed_acts c (grow_all full opening) plan)) ++ z)) (told_on ts [] us 0 refl e))

pub trace_by_times : TraceByTimes
trace_by_times core good plan pl ts us may shut c ck = told_all core good plan pl (ts ++ us) may shut c ck ts us refl
