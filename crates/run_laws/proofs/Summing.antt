-- The sums of the roles given and taken, by their nodes.
use Rattle.std.proofs.Common.{◌≡◌, ℕ, suc, ◌+◌, ◌*◌, ◌≤◌, Bool, true, false, cond, not, ◌&&◌, ◌||◌, List, [], ◌∷◌, ◌++◌, length, refl, sym, ◌∙◌, ap, subst, inl, inr, arith, eqb, sum_by, drop, Some, None, Option}
use Rattle.std.specs.List.{filter}
use Rattle.std.proofs.Math.Seq.{drop-append_seam}
use Rattle.std.proofs.lemmas.List.Sums.{sum-map, sum_by-cons, sum_by_push}
use Rattle.std.proofs.lemmas.Bool.{or_right, and_from, eq-eqb, ne_eqb, true≢false, false≢true}
use Rattle.gcx_model.specs.Tree.{Node, serial_of, within, Tree, TreeToken, opening, grow, is_open_at}
use Rattle.gcx_model.specs.Paths.{matches}
use Rattle.gcx_model.specs.Members.{In, Once, count}
use Rattle.gcx_model.specs.Core.{BodyTree, OffTree, PlanTree}
use Rattle.gcx_model.specs.Run.{Action, Wrote, Offed}
use Rattle.gcx_model.specs.Cores.{Good}
use Rattle.gcx_model.specs.Placed.{offs_in, Placed}
use Rattle.gcx_model.specs.Held.{given, roles_given, taken, live, roles_live, is_live, is_held, roles_taken, sum_given, sum_taken, path_of, statement_of, is_off, signed, reaches, all_signed, on_off}
use Rattle.gcx_model.specs.Growth.{Leads, stays, more, may_come}
use Rattle.gcx_model.specs.Points.{actions}
use Rattle.gcx_model.specs.Past.{Past, past_acted, IsPast, Opens}
use Rattle.base_laws.proofs.Numbers.{once_count}
use Rattle.base_laws.proofs.Lists.{filter_few}
use Rattle.tree_laws.specs.Growth.{AllClosed}
use Rattle.past_laws.specs.Pasts.{bases}
use Rattle.tree_laws.proofs.Lists.{In-filter, any_from, filter_same}
use Rattle.tree_laws.proofs.Matches.{added, grow_nodes}
use Rattle.tree_laws.proofs.Growing.{grows}
use Rattle.tree_laws.proofs.Freeze.{within_self}
use Rattle.placed_laws.proofs.CorePlans.{Once-filter}
use Rattle.placed_laws.proofs.Bridge.{length-count}
use Rattle.placed_laws.proofs.Lasting.{given_stays}
use Rattle.past_laws.proofs.Ahead.{new_node, all_same}
use Rattle.placed_laws.proofs.Stays.{any-append}
use Rattle.std.proofs.Math.Bool.{or-false}
use Rattle.past_laws.proofs.Changes.{live_by_feed, roles_by_act}
use Rattle.past_laws.proofs.RowFacts.{row_tells}
use Rattle.past_laws.proofs.PastForms.{past_acts}
use Rattle.placed_laws.proofs.Balances.{balance_law}
use Rattle.run_laws.specs.Sums.{SumsByFeed, live_at, SumsByAct, TakenIsGiven}

-- Sums over lists

abbrev bit : Bool → ℕ
bit b = cond b 1 0

module _ {X : Type 0} where
  sum_same : (f g : X → ℕ) (xs : List X) → ((x : X) → In x xs → f x ≡ g x) → sum_by f xs ≡ sum_by g xs
  sum_same f g [] h = refl
  sum_same f g (x ∷ xs) h =
      let a = sum_by-cons f x xs in
      let b = sum_by-cons g x xs in
      let c = h x (inl refl) in
      let d = sum_same f g xs (λ y i. h y (inr i)) in
      omega arith

  sum_less : (f g : X → ℕ) (xs : List X) → ((x : X) → f x ≤ g x) → sum_by f xs ≤ sum_by g xs
  sum_less f g [] h = omega arith
  sum_less f g (x ∷ xs) h =
      let a = sum_by-cons f x xs in
      let b = sum_by-cons g x xs in
      let c = h x in
      let d = sum_less f g xs h in
      omega arith

  sum_most : (f : X → ℕ) (m : ℕ) (xs : List X) → ((x : X) → f x ≤ m) → sum_by f xs ≤ length xs * m
  sum_most f m [] h = omega arith
  sum_most f m (x ∷ xs) h =
      let a = sum_by-cons f x xs in
      let b = h x in
      let c = sum_most f m xs h in
      let d : suc (length xs) * m ≡ m + length xs * m = omega arith in
      omega arith

  -- two sums with the numbers of those that pass
  sum_passing : (f g : X → ℕ) (p q : X → Bool) (xs : List X) → ((x : X) → In x xs → f x + bit (p x) ≡ g x + bit (q x)) → sum_by f xs + length (filter p xs) ≡ sum_by g xs + length (filter q xs)
  sum_passing f g p q [] h = refl
  sum_passing f g p q (x ∷ xs) h =
      let a = sum_by-cons f x xs in
      let b = sum_by-cons g x xs in
      let c = h x (inl refl) in
      let d = sum_passing f g p q xs (λ y i. h y (inr i)) in
      let e = one_more p x xs in
      let k = one_more q x xs in
      omega arith
    where
      one_more : (p : X → Bool) (x : X) (xs : List X) → length (filter p (x ∷ xs)) ≡ bit (p x) + length (filter p xs)
      one_more p x xs = go (p x)
        where
          go : (b : Bool) → length (cond b (x ∷ filter p xs) (filter p xs)) ≡ cond b 1 0 + length (filter p xs)
          go true = omega arith
          go false = omega arith

  filter_inner : (p q : X → Bool) (xs : List X) → ((x : X) → In x xs → p x ≡ true → q x ≡ true) → filter p (filter q xs) ≡ filter p xs
  filter_inner p q [] h = refl
  filter_inner p q (x ∷ xs) h = go (p x) (q x) refl refl (filter_inner p q xs (λ y i. h y (inr i)))
    where
      go : (a b : Bool) → p x ≡ a → q x ≡ b → filter p (filter q xs) ≡ filter p xs → filter p (cond b (x ∷ filter q xs) (filter q xs)) ≡ cond a (x ∷ filter p xs) (filter p xs)
      go true true e f r = rw e (ap (λ z. x ∷ z) r)
      go true false e f r = absurd (true≢false (sym (h x (inl refl) e) ∙ f))
      go false true e f r = rw e r
      go false false e f r = r

  -- those that pass the one and those that pass the other are those that pass the third
  filter_parts : (p q r : X → Bool) (xs : List X) → ((x : X) → bit (p x) + bit (q x) ≡ bit (r x)) → length (filter p xs) + length (filter q xs) ≡ length (filter r xs)
  filter_parts p q r [] h = refl
  filter_parts p q r (x ∷ xs) h = go (p x) (q x) (r x) (h x) (filter_parts p q r xs h)
    where
      go : (a b c : Bool) → bit a + bit b ≡ bit c → length (filter p xs) + length (filter q xs) ≡ length (filter r xs)
          → length (cond a (x ∷ filter p xs) (filter p xs)) + length (cond b (x ∷ filter q xs) (filter q xs)) ≡ length (cond c (x ∷ filter r xs) (filter r xs))
      go true true true e h = absurd (omega arith)
      go true true false e h = absurd (omega arith)
      go true false true e h = omega arith
      go true false false e h = absurd (omega arith)
      go false true true e h = omega arith
      go false true false e h = absurd (omega arith)
      go false false true e h = absurd (omega arith)
      go false false false e h = omega arith

-- a number left out of a list that has it once, or not at all
without_one : (k : ℕ) (xs : List ℕ) → (In k xs → ⊥) → filter (λ r. not (eqb r k)) xs ≡ xs
without_one k [] n = refl
without_one k (x ∷ xs) n = rw (ne_eqb x k (λ e. n (inl e))) (ap (λ z. x ∷ z) (without_one k xs (λ i. n (inr i))))

one_fewer : (k : ℕ) (xs : List ℕ) → Once xs → In k xs → suc (length (filter (λ r. not (eqb r k)) xs)) ≡ length xs
one_fewer k [] o i = absurd i
one_fewer k (x ∷ xs) o (inl e) = rw (eq-eqb x k e) (let n : In k xs → ⊥ = λ j. o.0 (subst (λ (z : ℕ). In z xs) (sym e) j) in ap (λ z. suc (length z)) (without_one k xs n))
one_fewer k (x ∷ xs) o (inr i) = rw (ne_eqb x k (λ e. o.0 (subst (λ (z : ℕ). In z xs) (sym e) i))) (ap suc (one_fewer k xs o.1 i))

-- Roles

module _ (plan : PlanTree) where
  abbrev all_roles : List ℕ
  all_roles = count 0 (length plan.roles)

  given_sum : (P : Tree) → sum_given plan P ≡ sum_by (λ n. length (roles_given plan P n)) P.nodes
  given_sum P = sum-map (λ n. length (roles_given plan P n)) P.nodes

  taken_sum : (P : Tree) (A : List Action) → sum_taken plan P A ≡ sum_by (λ n. length (roles_taken plan P A n)) P.nodes
  taken_sum P A = sum-map (λ n. length (roles_taken plan P A n)) P.nodes

  taken_or_live : (P : Tree) (A : List Action) (n : Node) → length (roles_taken plan P A n) + length (roles_live plan P A n) ≡ length (roles_given plan P n)
  taken_or_live P A n = filter_parts (taken plan P A n) (live plan P A n) (given plan P n) all_roles (λ r. go (given plan P n r) _)
    where
      go : (g x : Bool) → bit (g && x) + bit (g && not (g && x)) ≡ bit g
      go true true = refl
      go true false = refl
      go false x = refl

  held_where_live : (P : Tree) (A : List Action) (n : Node) (r : ℕ) → In n P.nodes → In r all_roles → live plan P A n r ≡ true → is_held plan P A n ≡ true
  held_where_live P A n r i j l =
      or_right (is_open_at P.at (serial_of n)) _
      (any_from (λ (m : Node). within (serial_of n) m && is_live plan P A m) n P.nodes i (and_from _ _ (within_self (serial_of n) n (eq-eqb _ _ refl)) (any_from (live plan P A n) r all_roles j l)))

-- A token

module _ (past : Past) (is : IsPast past) (t : TreeToken) (may : may_come t past.tree ≡ true) where
  abbrev Q : Tree
  Q = grow t past.tree

  given_on : (n : Node) (r : ℕ) → In n past.tree.nodes → given past.plan Q n r ≡ given past.plan past.tree n r
  given_on n r i = given_stays past.plan past.tree Q is.grown (more stays (grows t past.tree may)) n r i

  given_few : (n : Node) → In n past.tree.nodes → length (roles_given past.plan Q n) ≡ length (roles_given past.plan past.tree n)
  given_few n i = ap length (filter_same (given past.plan Q n) (given past.plan past.tree n) (all_roles past.plan) (λ r j. given_on n r i))

  taken_few : (n : Node) → In n past.tree.nodes → length (roles_taken past.plan Q past.acts n) ≡ length (roles_taken past.plan past.tree past.acts n)
  taken_few n i =
      let a = taken_or_live past.plan Q past.acts n in
      let b = taken_or_live past.plan past.tree past.acts n in
      let c = given_few n i in
      let d = ap length (filter_same (live past.plan Q past.acts n) (live past.plan past.tree past.acts n) (all_roles past.plan) (λ r j. (live_by_feed past is t n i).0 r)) in
      omega arith

  given_old : sum_by (λ n. length (roles_given past.plan Q n)) past.tree.nodes ≡ sum_by (λ n. length (roles_given past.plan past.tree n)) past.tree.nodes
  given_old = sum_same (λ n. length (roles_given past.plan Q n)) (λ n. length (roles_given past.plan past.tree n)) past.tree.nodes given_few

  taken_old : sum_by (λ n. length (roles_taken past.plan Q past.acts n)) past.tree.nodes ≡ sum_by (λ n. length (roles_taken past.plan past.tree past.acts n)) past.tree.nodes
  taken_old = sum_same (λ n. length (roles_taken past.plan Q past.acts n)) (λ n. length (roles_taken past.plan past.tree past.acts n)) past.tree.nodes taken_few

  with_node : (n : Node) → Opens past.tree t n → Q.nodes ≡ past.tree.nodes ++ n ∷ []
  with_node n o =
      let new : added t past.tree ≡ n ∷ [] = sym (ap (drop (length past.tree.nodes)) (grow_nodes t past.tree) ∙ drop-append_seam past.tree.nodes (added t past.tree)) ∙ (new_node past.tree t n o).0 in
      grow_nodes t past.tree ∙ ap (λ z. past.tree.nodes ++ z) new

  abbrev Grow_by : (g k : ℕ) → Type 0
  Grow_by g k = (sum_given past.plan Q ≡ sum_given past.plan past.tree + g) × (sum_taken past.plan Q past.acts ≡ sum_taken past.plan past.tree past.acts + k)

  opened : (n : Node) → Opens past.tree t n → Grow_by (length (roles_given past.plan Q n)) (length (roles_taken past.plan Q past.acts n))
  opened n o =
      let f : Node → ℕ = λ n. length (roles_given past.plan Q n) in
      let g : Node → ℕ = λ n. length (roles_taken past.plan Q past.acts n) in
      let e = with_node n o in
      let a = given_sum past.plan Q ∙ (ap (sum_by f) e ∙ sum_by_push f past.tree.nodes n) in
      let b = taken_sum past.plan Q past.acts ∙ (ap (sum_by g) e ∙ sum_by_push g past.tree.nodes n) in
      let c = given_old in
      let d = taken_old in
      let h = given_sum past.plan past.tree in
      let k = taken_sum past.plan past.tree past.acts in
      (omega arith, omega arith)

  closed : Q.nodes ≡ past.tree.nodes → (sum_given past.plan Q ≡ sum_given past.plan past.tree) × (sum_taken past.plan Q past.acts ≡ sum_taken past.plan past.tree past.acts)
  closed e = (
    given_sum past.plan Q ∙ (ap (sum_by (λ n. length (roles_given past.plan Q n))) e ∙ (given_old ∙ sym (given_sum past.plan past.tree))),
    taken_sum past.plan Q past.acts ∙ (ap (sum_by (λ n. length (roles_taken past.plan Q past.acts n))) e ∙ (taken_old ∙ sym (taken_sum past.plan past.tree past.acts))),
  )

pub sums_by_feed : SumsByFeed
sums_by_feed past is t may = (opened past is t may, closed past is t may)

-- An action

module _ (past : Past) (is : IsPast past) (s : OffTree) (m : Node) (stated : In s (offs_in past.plan.body)) (base : In m (bases past s)) where
  abbrev B : List Action
  B = past.acts ++ Offed s (serial_of m) ∷ []

  abbrev now : Past
  now = past_acted (Offed s (serial_of m)) past

  is_now : IsPast now
  is_now = (past_acts past is).1 s m stated base

  -- the live roles of a node, and whether the statement's is one of them
  module _ (n : Node) (i : In n past.tree.nodes) where
    abbrev old_roles : List ℕ
    old_roles = roles_live past.plan past.tree past.acts n

    roles_by : (b c : Bool) → live past.plan past.tree B n s.role ≡ b → live past.plan past.tree past.acts n s.role ≡ c
        → length (roles_live past.plan past.tree B n) + bit c ≡ length old_roles + bit b
    roles_by true true e f = let h = ap length (roles_by_act past is s stated m base n i ∙ ap (λ z. cond z old_roles (filter (λ r. not (eqb r s.role)) old_roles)) e) in omega arith
    roles_by true false e f =
        let h = roles_by_act past is s stated m base n i ∙ ap (λ z. cond z old_roles (filter (λ r. not (eqb r s.role)) old_roles)) e in
        let j : In s.role (roles_live past.plan past.tree B n) = (row_tells now is_now n s.role).0.1 e in
        absurd (false≢true (sym f ∙ (row_tells past is n s.role).0.0 (subst (λ (z : List ℕ). In s.role z) h j)))
    roles_by false true e f =
        let h = ap length (roles_by_act past is s stated m base n i ∙ ap (λ z. cond z old_roles (filter (λ r. not (eqb r s.role)) old_roles)) e) in
        let j : In s.role old_roles = (row_tells past is n s.role).0.1 f in
        let k = one_fewer s.role old_roles (Once-filter (live past.plan past.tree past.acts n) (all_roles past.plan) (once_count 0 (length past.plan.roles))) j in
        omega arith
    roles_by false false e f =
        let h = ap length (roles_by_act past is s stated m base n i ∙ ap (λ z. cond z old_roles (filter (λ r. not (eqb r s.role)) old_roles)) e) in
        let k = ap length (without_one s.role old_roles (λ j. false≢true (sym f ∙ (row_tells past is n s.role).0.0 j))) in
        omega arith

    at_node : length (roles_taken past.plan past.tree B n) + bit (live past.plan past.tree B n s.role) ≡ length (roles_taken past.plan past.tree past.acts n) + bit (live past.plan past.tree past.acts n s.role)
    at_node =
        let a = taken_or_live past.plan past.tree B n in
        let b = taken_or_live past.plan past.tree past.acts n in
        let c = roles_by (live past.plan past.tree B n s.role) (live past.plan past.tree past.acts n s.role) refl refl in
        omega arith

  live_held : (A : List Action) → IsPast (record { plan = past.plan; tree = past.tree; acts = A; fed = past.fed }) → live_at past.plan past.tree A s.role ≡ filter (λ n. live past.plan past.tree A n s.role) past.tree.nodes
  live_held A w =
      filter_inner (λ n. live past.plan past.tree A n s.role) (is_held past.plan past.tree A) past.tree.nodes
      (λ n i l. held_where_live past.plan past.tree A n s.role i (In-filter (live past.plan past.tree A n) s.role (all_roles past.plan) ((row_tells (record { plan = past.plan; tree = past.tree; acts = A; fed = past.fed }) w n s.role).0.1 l)).0 l)

  offed : sum_taken past.plan past.tree B + length (live_at past.plan past.tree B s.role) ≡ sum_taken past.plan past.tree past.acts + length (live_at past.plan past.tree past.acts s.role)
  offed =
      let f : Node → ℕ = λ n. length (roles_taken past.plan past.tree B n) in
      let g : Node → ℕ = λ n. length (roles_taken past.plan past.tree past.acts n) in
      let p : Node → Bool = λ n. live past.plan past.tree B n s.role in
      let q : Node → Bool = λ n. live past.plan past.tree past.acts n s.role in
      let a = taken_sum past.plan past.tree B in
      let b = taken_sum past.plan past.tree past.acts in
      let c = ap length (live_held B is_now) in
      let d = ap length (live_held past.acts is) in
      let e = sum_passing f g p q past.tree.nodes at_node in
      omega arith

module _ (past : Past) (b : List ℕ) where
  signed_on : (o : OffTree) (m : Node) → signed (past.acts ++ Wrote b ∷ []) o m ≡ signed past.acts o m
  signed_on o m = any-append (is_off o (serial_of m)) past.acts (Wrote b ∷ []) ∙ or-false (signed past.acts o m)

  taken_on : (n : Node) (r : ℕ) → taken past.plan past.tree (past.acts ++ Wrote b ∷ []) n r ≡ taken past.plan past.tree past.acts n r
  taken_on n r = ap (λ z. given past.plan past.tree n r && z) (go (statement_of past.plan r))
    where
      go : (s : Option OffTree) → on_off (all_signed (path_of past.plan) past.tree (past.acts ++ Wrote b ∷ []) n) s ≡ on_off (all_signed (path_of past.plan) past.tree past.acts n) s
      go None = refl
      go (Some o) =
          all_same (λ (m : Node). not (reaches past.tree o m n) || signed (past.acts ++ Wrote b ∷ []) o m) (λ (m : Node). not (reaches past.tree o m n) || signed past.acts o m) (matches past.tree 0 (path_of past.plan o.base))
          (λ m k. ap (λ z. not (reaches past.tree o m n) || z) (signed_on o m))

  wrote : sum_taken past.plan past.tree (past.acts ++ Wrote b ∷ []) ≡ sum_taken past.plan past.tree past.acts
  wrote =
      let A : List Action = past.acts ++ Wrote b ∷ [] in
      taken_sum past.plan past.tree A
      ∙ (sum_same (λ n. length (roles_taken past.plan past.tree A n)) (λ n. length (roles_taken past.plan past.tree past.acts n)) past.tree.nodes
      (λ n i. ap length (filter_same (taken past.plan past.tree A n) (taken past.plan past.tree past.acts n) (all_roles past.plan) (λ r j. taken_on n r)))
      ∙ sym (taken_sum past.plan past.tree past.acts))

pub sums_by_act : SumsByAct
sums_by_act past is = (offed past is, wrote past)

-- All

all_balanced : (core : BodyTree) → Good core → (plan : PlanTree) → Placed core plan → (P : Tree) → Leads opening P → AllClosed P → sum_taken plan P (actions plan P) ≡ sum_given plan P
all_balanced core good plan pl P l c =
    taken_sum plan P (actions plan P)
    ∙ (sum_same (λ n. length (roles_taken plan P (actions plan P) n)) (λ n. length (roles_given plan P n)) P.nodes
    (λ n i. ap length (filter_same (taken plan P (actions plan P) n) (given plan P n) (all_roles plan) (λ r j. balance_law core good plan pl P l c n r)))
    ∙ sym (given_sum plan P))

module _ (plan : PlanTree) (P : Tree) where
  no_more : (A : List Action) → sum_taken plan P A ≤ sum_given plan P
  no_more A =
      let a = taken_sum plan P A in
      let b = given_sum plan P in
      let c = sum_less (λ n. length (roles_taken plan P A n)) (λ n. length (roles_given plan P n)) P.nodes (λ n. let d = taken_or_live plan P A n in omega arith) in
      omega arith

  few_given : sum_given plan P ≤ length P.nodes * length plan.roles
  few_given =
      let a = given_sum plan P in
      let b = length-count 0 (length plan.roles) in
      let c = sum_most (λ n. length (roles_given plan P n)) (length plan.roles) P.nodes (λ n. let d = filter_few (given plan P n) (all_roles plan) in omega arith) in
      omega arith

pub taken_is_given : TakenIsGiven
taken_is_given = (all_balanced, λ plan P A. (no_more plan P A, few_given plan P))
