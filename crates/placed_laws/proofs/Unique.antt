-- Of the plans that are placed for a core there is one.
use Rattle.std.proofs.Common.{◌≡◌, ℕ, zero, suc, ◌<◌, Bool, true, false, List, [], ◌∷◌, ◌++◌, length, map, refl, sym, ◌∙◌, ap, subst, inl, inr, ◌⊎◌, arith, Some}
use Rattle.std.proofs.lemmas.List.{map-append}
use Rattle.std.proofs.lemmas.Bool.{eqb-true}
use Rattle.gcx_model.specs.Core.{ItemTree, Write, Copy, For, If, SignOff, BodyTree, Nil, Then, OffTree, RoleRowTree, PlanTree}
use Rattle.gcx_model.specs.Variables.{var_tree, vars, item_vars}
use Rattle.gcx_model.specs.Roles.{roles_of}
use Rattle.gcx_model.specs.Cores.{BodyIn, Good}
use Rattle.gcx_model.specs.Placed.{without, offs_in, of_role, row_at, InOrder, OnlyOffs, own_offs, AtEnds, Placed, statement, offs_of, at_end, offs_body, add_offs, place, placed_body, plan_of}
use Rattle.gcx_model.specs.Members.{In, Once}
use Rattle.base_laws.proofs.Members.{in_map}
use Rattle.tree_laws.proofs.Lists.{In-left, In-right, In-append, In-filter}
use Rattle.placed_laws.proofs.CorePlans.{good_once, good_not_zero, same_role, end_in, in_end}
use Rattle.placed_laws.proofs.Placed.{without_is, one_statement, statements_only}
use Rattle.placed_laws.proofs.Bridge.{row_places}
use Rattle.placed_laws.proofs.Ends.{is_statement, statement_in, ends_order, order_same}

-- Bodies and their statements

-- a loop's variable and its body
pub record Loop_body : Type 0 where
  pub var : ℕ
  pub body : BodyTree

abbrev mutual
  item_loops : ItemTree → List Loop_body
  item_loops (Write s) = []
  item_loops (Copy x) = []
  item_loops (For x y s d) = record { var = x; body = d } ∷ loops_in d
  item_loops (If c a b) = loops_in a ++ loops_in b
  item_loops (SignOff o) = []

  loops_in : BodyTree → List Loop_body
  loops_in Nil = []
  loops_in (Then i d) = item_loops i ++ loops_in d

mutual
  item_loop_vars : (i : ItemTree) → map (λ (l : Loop_body). l.var) (item_loops i) ≡ item_vars i
  item_loop_vars (Write s) = refl
  item_loop_vars (Copy x) = refl
  item_loop_vars (For x y s d) = ap (λ z. x ∷ z) (loop_vars d)
  item_loop_vars (If c a b) = map-append (λ (l : Loop_body). l.var) (loops_in a) (loops_in b) ∙ (ap (λ z. z ++ map (λ (l : Loop_body). l.var) (loops_in b)) (loop_vars a) ∙ ap (λ z. vars a ++ z) (loop_vars b))
  item_loop_vars (SignOff o) = refl

  loop_vars : (d : BodyTree) → map (λ (l : Loop_body). l.var) (loops_in d) ≡ vars d
  loop_vars Nil = refl
  loop_vars (Then i d) = map-append (λ (l : Loop_body). l.var) (item_loops i) (loops_in d) ∙ (ap (λ z. z ++ map (λ (l : Loop_body). l.var) (loops_in d)) (item_loop_vars i) ∙ ap (λ z. item_vars i ++ z) (loop_vars d))

pub vars_without : (d : BodyTree) → vars (without d) ≡ vars d
vars_without Nil = refl
vars_without (Then (Write s) d) = vars_without d
vars_without (Then (Copy x) d) = vars_without d
vars_without (Then (For x y s e) d) = ap (λ z. x ∷ (z ++ vars (without d))) (vars_without e) ∙ ap (λ z. x ∷ (vars e ++ z)) (vars_without d)
vars_without (Then (If c a b) d) = ap (λ z. (z ++ vars (without b)) ++ vars (without d)) (vars_without a) ∙ (ap (λ z. (vars a ++ z) ++ vars (without d)) (vars_without b) ∙ ap (λ z. (vars a ++ vars b) ++ z) (vars_without d))
vars_without (Then (SignOff o) d) = vars_without d

Once-map : {X : Type 0} (f : X → ℕ) (xs : List X) (a b : X) → Once (map f xs) → In a xs → In b xs → f a ≡ f b → a ≡ b
Once-map f [] a b o i j e = absurd i
Once-map f (x ∷ xs) a b o (inl g) (inl h) e = sym g ∙ h
Once-map f (x ∷ xs) a b o (inl g) (inr j) e = absurd (o.0 (subst (λ (z : ℕ). In z (map f xs)) (sym e ∙ ap f (sym g)) (in_map f b xs j)))
Once-map f (x ∷ xs) a b o (inr i) (inl h) e = absurd (o.0 (subst (λ (z : ℕ). In z (map f xs)) (e ∙ ap f (sym h)) (in_map f a xs i)))
Once-map f (x ∷ xs) a b o (inr i) (inr j) e = Once-map f xs a b o.1 i j e

none_of_two : (xs ys : List OffTree) → xs ++ ys ≡ [] → (xs ≡ []) × (ys ≡ [])
none_of_two [] ys e = (refl, e)
none_of_two (x ∷ xs) ys e = absurd (cc)

-- what has no statements is itself without them
without_none : (d : BodyTree) → offs_in d ≡ [] → without d ≡ d
without_none Nil e = refl
without_none (Then (Write s) d) e = ap (Then (Write s)) (without_none d e)
without_none (Then (Copy x) d) e = ap (Then (Copy x)) (without_none d e)
without_none (Then (For x y s b) d) e = let q = none_of_two (offs_in b) (offs_in d) e in ap (λ z. Then (For x y s z) (without d)) (without_none b q.0) ∙ ap (Then (For x y s b)) (without_none d q.1)
without_none (Then (If c a b) d) e =
    let q = none_of_two (offs_in a ++ offs_in b) (offs_in d) e in
    let r = none_of_two (offs_in a) (offs_in b) q.0 in
    ap (λ z. Then (If c z (without b)) (without d)) (without_none a r.0) ∙ (ap (λ z. Then (If c a z) (without d)) (without_none b r.1) ∙ ap (Then (If c a b)) (without_none d q.1))
without_none (Then (SignOff o) d) e = absurd (cc)

only_without : (d : BodyTree) → OnlyOffs d → (without d ≡ Nil) × (d ≡ offs_body (own_offs d))
only_without Nil h = (refl, refl)
only_without (Then (Write s) d) h = absurd h
only_without (Then (Copy x) d) h = absurd h
only_without (Then (For x y s b) d) h = absurd h
only_without (Then (If c a b) d) h = absurd h
only_without (Then (SignOff o) d) h = let q = only_without d h in (q.0, ap (Then (SignOff o)) q.1)

module _ (ends : ℕ → List OffTree) where
  -- a body is known by its core, by its own statements and by those of its loops
  rebuilt : (u : ℕ) (d : BodyTree) → AtEnds u d → ((l : Loop_body) → In l (loops_in d) → own_offs l.body ≡ ends l.var) → d ≡ add_offs (place ends (without d)) (own_offs d)
  rebuilt u Nil st h = refl
  rebuilt u (Then (Write s) d) st h = ap (Then (Write s)) (rebuilt u d st h)
  rebuilt u (Then (Copy x) d) st h = ap (Then (Copy x)) (rebuilt u d st h)
  rebuilt u (Then (For x y s e) d) st h =
      let q : e ≡ add_offs (place ends (without e)) (ends x) = rebuilt x e st.0 (λ l i. h l (inr (In-left l (loops_in e) (loops_in d) i))) ∙ ap (add_offs (place ends (without e))) (h (record { var = x; body = e }) (inl refl)) in
      ap (λ z. Then (For x y s z) d) q ∙ ap (Then (For x y s (add_offs (place ends (without e)) (ends x)))) (rebuilt u d st.2 (λ l i. h l (inr (In-right l (loops_in e) (loops_in d) i))))
  rebuilt u (Then (If c a b) d) st h =
      ap (λ z. Then (If c z b) d) (sym (without_none a st.0)) ∙ (ap (λ z. Then (If c (without a) z) d) (sym (without_none b st.1))
      ∙ ap (Then (If c (without a) (without b))) (rebuilt u d st.2 (λ l i. h l (In-right l (loops_in a ++ loops_in b) (loops_in d) i))))
  rebuilt u (Then (SignOff o) d) st h =
      let q = only_without d st.1 in
      ap (Then (SignOff o)) q.1 ∙ ap (λ z. add_offs (place ends z) (o ∷ own_offs d)) (sym q.0)

-- where a statement stands
stands_where : (u : ℕ) (d : BodyTree) (o : OffTree) → AtEnds u d → In o (offs_in d) → (In o (own_offs d) × (o.base ≡ u)) ⊎ ((l : Loop_body) × In l (loops_in d) × In o (own_offs l.body) × (o.base ≡ l.var))
stands_where u Nil o st i = absurd i
stands_where u (Then (Write s) d) o st i = stands_where u d o st i
stands_where u (Then (Copy x) d) o st i = stands_where u d o st i
stands_where u (Then (For x y s e) d) o st i = elim (In-append o (offs_in e) (offs_in d) i) [
  | inl j ↦ elim (stands_where x e o st.0 j) [
    | inl k ↦ inr (record { var = x; body = e }, inl refl, k.0, k.1)
    | inr k ↦ inr (k.0, inr (In-left k.0 (loops_in e) (loops_in d) k.1), k.2, k.3)
  ]
  | inr j ↦ elim (stands_where u d o st.2 j) [
    | inl k ↦ inl k
    | inr k ↦ inr (k.0, inr (In-right k.0 (loops_in e) (loops_in d) k.1), k.2, k.3)
  ]
]
stands_where u (Then (If c a b) d) o st i = elim (In-append o (offs_in a ++ offs_in b) (offs_in d) i) [
  | inl j ↦ absurd (elim (In-append o (offs_in a) (offs_in b) j) [ inl k ↦ subst (λ (z : List OffTree). In o z) st.0 k | inr k ↦ subst (λ (z : List OffTree). In o z) st.1 k ])
  | inr j ↦ elim (stands_where u d o st.2 j) [
    | inl k ↦ inl k
    | inr k ↦ inr (k.0, In-right k.0 (loops_in a ++ loops_in b) (loops_in d) k.1, k.2, k.3)
  ]
]
stands_where u (Then (SignOff t) d) o st (inl e) = inl (inl e, ap (λ (z : OffTree). z.base) (sym e) ∙ st.0)
stands_where u (Then (SignOff t) d) o st (inr i) = elim (stands_where u d o st.2 i) [ inl k ↦ inl (inr k.0, k.1) | inr k ↦ inr k ]

-- a body's own statements are of its variable, and stand in it
own_of : (u : ℕ) (d : BodyTree) (o : OffTree) → AtEnds u d → In o (own_offs d) → (o.base ≡ u) × In o (offs_in d)
own_of u Nil o st i = absurd i
own_of u (Then (Write s) d) o st i = own_of u d o st i
own_of u (Then (Copy x) d) o st i = own_of u d o st i
own_of u (Then (For x y s e) d) o st i = let q = own_of u d o st.2 i in (q.0, In-right o (offs_in e) (offs_in d) q.1)
own_of u (Then (If c a b) d) o st i = let q = own_of u d o st.2 i in (q.0, In-right o (offs_in a ++ offs_in b) (offs_in d) q.1)
own_of u (Then (SignOff t) d) o st (inl e) = (ap (λ (z : OffTree). z.base) (sym e) ∙ st.0, inl e)
own_of u (Then (SignOff t) d) o st (inr i) = let q = own_of u d o st.2 i in (q.0, inr q.1)

-- in what has no statements no loop has any
own_empty : (d : BodyTree) → offs_in d ≡ [] → own_offs d ≡ []
own_empty Nil e = refl
own_empty (Then (Write s) d) e = own_empty d e
own_empty (Then (Copy x) d) e = own_empty d e
own_empty (Then (For x y s b) d) e = own_empty d (none_of_two (offs_in b) (offs_in d) e).1
own_empty (Then (If c a b) d) e = own_empty d (none_of_two (offs_in a ++ offs_in b) (offs_in d) e).1
own_empty (Then (SignOff o) d) e = absurd (cc)

loops_empty : (d : BodyTree) (l : Loop_body) → offs_in d ≡ [] → In l (loops_in d) → own_offs l.body ≡ []
loops_empty Nil l e i = absurd i
loops_empty (Then (Write s) d) l e i = loops_empty d l e i
loops_empty (Then (Copy x) d) l e i = loops_empty d l e i
loops_empty (Then (For x y s b) d) l e (inl g) = ap (λ (z : Loop_body). own_offs z.body) (sym g) ∙ own_empty b (none_of_two (offs_in b) (offs_in d) e).0
loops_empty (Then (For x y s b) d) l e (inr i) = let q = none_of_two (offs_in b) (offs_in d) e in elim (In-append l (loops_in b) (loops_in d) i) [ inl j ↦ loops_empty b l q.0 j | inr j ↦ loops_empty d l q.1 j ]
loops_empty (Then (If c a b) d) l e i =
    let q = none_of_two (offs_in a ++ offs_in b) (offs_in d) e in
    let r = none_of_two (offs_in a) (offs_in b) q.0 in
    elim (In-append l (loops_in a ++ loops_in b) (loops_in d) i) [
      | inl j ↦ elim (In-append l (loops_in a) (loops_in b) j) [ inl k ↦ loops_empty a l r.0 k | inr k ↦ loops_empty b l r.1 k ]
      | inr j ↦ loops_empty d l q.1 j
    ]
loops_empty (Then (SignOff o) d) l e i = absurd (cc)

-- of a loop's body: its own statements are in order and of its variable, and stand in the whole
loop_own : (u : ℕ) (d : BodyTree) (l : Loop_body) → AtEnds u d → In l (loops_in d) → InOrder (own_offs l.body) × ((o : OffTree) → In o (own_offs l.body) → (o.base ≡ l.var) × In o (offs_in d))
loop_own u Nil l st i = absurd i
loop_own u (Then (Write s) d) l st i = loop_own u d l st i
loop_own u (Then (Copy x) d) l st i = loop_own u d l st i
loop_own u (Then (For x y s e) d) l st (inl g) = subst (λ (z : Loop_body). InOrder (own_offs z.body) × ((o : OffTree) → In o (own_offs z.body) → (o.base ≡ z.var) × In o (offs_in (Then (For x y s e) d)))) g
    (st.1, λ o j. let q = own_of x e o st.0 j in (q.0, In-left o (offs_in e) (offs_in d) q.1))
loop_own u (Then (For x y s e) d) l st (inr i) = elim (In-append l (loops_in e) (loops_in d) i) [
  | inl j ↦ (let q = loop_own x e l st.0 j in (q.0, λ o k. let r = q.1 o k in (r.0, In-left o (offs_in e) (offs_in d) r.1)))
  | inr j ↦ (let q = loop_own u d l st.2 j in (q.0, λ o k. let r = q.1 o k in (r.0, In-right o (offs_in e) (offs_in d) r.1)))
]
loop_own u (Then (If c a b) d) l st i = elim (In-append l (loops_in a ++ loops_in b) (loops_in d) i) [
  | inl j ↦ elim (In-append l (loops_in a) (loops_in b) j) [ inl k ↦ none_here a l st.0 k | inr k ↦ none_here b l st.1 k ]
  | inr j ↦ (let q = loop_own u d l st.2 j in (q.0, λ o k. let r = q.1 o k in (r.0, In-right o (offs_in a ++ offs_in b) (offs_in d) r.1)))
]
  where
    none_here : (e : BodyTree) (l : Loop_body) → offs_in e ≡ [] → In l (loops_in e) → InOrder (own_offs l.body) × ((o : OffTree) → In o (own_offs l.body) → (o.base ≡ l.var) × In o (offs_in (Then (If c a b) d)))
    none_here e l f k = let q = loops_empty e l f k in (subst (λ (z : List OffTree). InOrder z) (sym q) tt, λ o m. absurd (subst (λ (z : List OffTree). In o z) q m))
loop_own u (Then (SignOff t) d) l st i = let q = loop_own u d l st.2 i in (q.0, λ o k. let r = q.1 o k in (r.0, inr r.1))

-- The plan of a core is placed for it.

module _ (ends : ℕ → List OffTree) (based : (x : ℕ) (o : OffTree) → In o (ends x) → o.base ≡ x) (ordered : (x : ℕ) → InOrder (ends x)) where
  offs_only : (os : List OffTree) → OnlyOffs (offs_body os)
  offs_only [] = tt
  offs_only (o ∷ os) = offs_only os

  offs_own : (os : List OffTree) → own_offs (offs_body os) ≡ os
  offs_own [] = refl
  offs_own (o ∷ os) = ap (λ z. o ∷ z) (offs_own os)

  offs_stand : (u : ℕ) (os : List OffTree) → ((o : OffTree) → In o os → o.base ≡ u) → AtEnds u (offs_body os)
  offs_stand u [] h = tt
  offs_stand u (o ∷ os) h = (h o (inl refl), offs_only os, offs_stand u os (λ t i. h t (inr i)))

  placed_own : (d : BodyTree) (b : Bool) (L : List ℕ) (os : List OffTree) → BodyIn b L d → own_offs (add_offs (place ends d) os) ≡ os
  placed_own Nil b L os q = offs_own os
  placed_own (Then (Write s) d) b L os q = placed_own d b L os q.1
  placed_own (Then (Copy x) d) b L os q = placed_own d b L os q.1
  placed_own (Then (For x y s e) d) b L os q = placed_own d b L os q.1
  placed_own (Then (If c a e) d) b L os q = placed_own d b L os q.1
  placed_own (Then (SignOff o) d) b L os q = absurd q.0

  core_none : (d : BodyTree) (b : Bool) (L : List ℕ) → BodyIn b L d → offs_in d ≡ []
  core_none Nil b L q = refl
  core_none (Then (Write s) d) b L q = core_none d b L q.1
  core_none (Then (Copy x) d) b L q = core_none d b L q.1
  core_none (Then (For x y s e) d) b L q = ap (λ z. z ++ offs_in d) (core_none e b (x ∷ L) q.0.2) ∙ core_none d b L q.1
  core_none (Then (If c a e) d) b L q = ap (λ z. (z ++ offs_in e) ++ offs_in d) (core_none a false L q.0.1) ∙ (ap (λ z. z ++ offs_in d) (core_none e false L q.0.2) ∙ core_none d b L q.1)
  core_none (Then (SignOff o) d) b L q = absurd q.0

  placed_stand : (u : ℕ) (d : BodyTree) (b : Bool) (L : List ℕ) (os : List OffTree) → BodyIn b L d → ((o : OffTree) → In o os → o.base ≡ u) → AtEnds u (add_offs (place ends d) os)
  placed_stand u Nil b L os q h = offs_stand u os h
  placed_stand u (Then (Write s) d) b L os q h = placed_stand u d b L os q.1 h
  placed_stand u (Then (Copy x) d) b L os q h = placed_stand u d b L os q.1 h
  placed_stand u (Then (For x y s e) d) b L os q h = (placed_stand x e b (x ∷ L) (ends x) q.0.2 (based x), subst (λ (z : List OffTree). InOrder z) (sym (placed_own e b (x ∷ L) (ends x) q.0.2)) (ordered x), placed_stand u d b L os q.1 h)
  placed_stand u (Then (If c a e) d) b L os q h = (core_none a false L q.0.1, core_none e false L q.0.2, placed_stand u d b L os q.1 h)
  placed_stand u (Then (SignOff o) d) b L os q h = absurd q.0

pub row_there : (rs : List RoleRowTree) (r : ℕ) → r < length rs → (row : RoleRowTree) × (row_at rs r ≡ Some row)
row_there [] r l = absurd (omega arith)
row_there (q ∷ rs) zero l = (q, refl)
row_there (q ∷ rs) (suc r) l = row_there rs r (omega arith)

pub row_below : (rs : List RoleRowTree) (k : ℕ) (r : RoleRowTree) → row_at rs k ≡ Some r → k < length rs
row_below [] k r e = absurd (cc)
row_below (q ∷ rs) zero r e = omega arith
row_below (q ∷ rs) (suc k) r e = let h = row_below rs k r e in omega arith

module _ (core : BodyTree) (good : Good core) where
  abbrev all_offs : List OffTree
  all_offs = offs_of core

  abbrev at : ℕ → List OffTree
  at = at_end all_offs

  at_based : (x : ℕ) (o : OffTree) → In o (at x) → o.base ≡ x
  at_based x o i = (end_in all_offs x o i).1

  pub placed : Placed core (plan_of core)
  placed = record {
    is_core = without_is core good;
    vars = refl;
    straight = refl;
    fsa = refl;
    roles = refl;
    one = λ r l. let h = row_there (roles_of core) r l in let p = row_places core good r h.0 h.1 in (statement (var_tree core) (roles_of core) r h.0, one_statement core good (statement (var_tree core) (roles_of core) r h.0) p.1);
    statements = λ o i. is_statement core good o (statements_only core good o i);
    stand = placed_stand at at_based (ends_order core good) 0 core true (0 ∷ []) (at 0) good.inside (at_based 0);
    order = subst (λ (z : List OffTree). InOrder z) (sym (placed_own at at_based (ends_order core good) core true (0 ∷ []) (at 0) good.inside)) (ends_order core good 0);
  }

  module _ (plan : PlanTree) (pl : Placed core plan) where
    -- a statement of the plan is one of the core's
    of_core : (o : OffTree) → In o (offs_in plan.body) → In o all_offs
    of_core o i = statement_in core good o (pl.statements o i)

    -- and each of the core's stands in the plan
    pub in_plan : (o : OffTree) → In o all_offs → In o (offs_in plan.body)
    in_plan o i =
        let s = is_statement core good o i in
        let h = pl.one o.role (row_below (roles_of core) o.role s.row s.at) in
        let j = In-filter (of_role o.role) h.0 (offs_in plan.body) (subst (λ (z : List OffTree). In h.0 z) (sym h.1) (inl refl)) in
        subst (λ (z : OffTree). In z (offs_in plan.body)) (same_role (var_tree core) (roles_of core) 0 (roles_of core) h.0 o (of_core h.0 j.0) i (eqb-true _ _ j.1)) j.0

    plan_vars : vars plan.body ≡ vars core
    plan_vars = sym (vars_without plan.body) ∙ ap vars pl.is_core

    once_loops : Once (map (λ (l : Loop_body). l.var) (loops_in plan.body))
    once_loops = subst (λ (z : List ℕ). Once z) (sym (loop_vars plan.body ∙ plan_vars)) (good_once core good)

    loop_known : (l : Loop_body) → In l (loops_in plan.body) → In l.var (vars core)
    loop_known l i = subst (λ (z : List ℕ). In l.var z) (loop_vars plan.body ∙ plan_vars) (in_map (λ (l : Loop_body). l.var) l (loops_in plan.body) i)

    loop_ends : (l : Loop_body) → In l (loops_in plan.body) → own_offs l.body ≡ at l.var
    loop_ends l i =
        let q = loop_own 0 plan.body l pl.stand i in
        order_same (own_offs l.body) (at l.var) q.0 (ends_order core good l.var)
        (λ o j. let r = q.1 o j in in_end all_offs l.var o (of_core o r.1) r.0)
        (λ o j. let r = end_in all_offs l.var o j in elim (stands_where 0 plan.body o pl.stand (in_plan o r.0)) [
          | inl k ↦ absurd (good_not_zero core good (subst (λ (z : ℕ). In z (vars core)) (sym r.1 ∙ k.1) (loop_known l i)))
          | inr k ↦ subst (λ (z : Loop_body). In o (own_offs z.body)) (Once-map (λ (l : Loop_body). l.var) (loops_in plan.body) k.0 l once_loops k.1 i (sym k.3 ∙ r.1)) k.2
        ])

    top_ends : own_offs plan.body ≡ at 0
    top_ends =
        order_same (own_offs plan.body) (at 0) pl.order (ends_order core good 0)
        (λ o j. let r = own_of 0 plan.body o pl.stand j in in_end all_offs 0 o (of_core o r.1) r.0)
        (λ o j. let r = end_in all_offs 0 o j in elim (stands_where 0 plan.body o pl.stand (in_plan o r.0)) [
          | inl k ↦ k.0
          | inr k ↦ absurd (good_not_zero core good (subst (λ (z : ℕ). In z (vars core)) (sym k.3 ∙ r.1) (loop_known k.0 k.1)))
        ])

    body_is : plan.body ≡ placed_body core
    body_is = rebuilt at 0 plan.body pl.stand loop_ends ∙ (ap (λ z. add_offs (place at z) (own_offs plan.body)) pl.is_core ∙ ap (add_offs (place at core)) top_ends)

    pub unique : plan ≡ plan_of core
    unique = λ i. record { body = body_is i; vars = pl.vars i; straight = pl.straight i; fsa = pl.fsa i; roles = pl.roles i }
