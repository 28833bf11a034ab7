-- The statements of a core are those that its roles tell, and those at the end of a body are in order.
use Rattle.std.proofs.Common.{◌≡◌, ℕ, zero, suc, ◌+◌, ◌<◌, ◌≤◌, Bool, true, false, cond, not, ◌&&◌, List, [], ◌∷◌, ◌++◌, refl, sym, ◌∙◌, ap, subst, inl, inr, ◌⊎◌, arith, add-zero, Some, eqb}
use Rattle.std.specs.List.{filter}
use Rattle.std.proofs.lemmas.Bool.{and_parts, and_from, false≢true, true≢false, eqb-true, eq-eqb, not-true}
use Rattle.gcx_base.specs.declared.steps.Step.{Step}
use Rattle.gcx_model.specs.Core.{OperandTree, Path, Str, Num, CondTree, CondTrees, Always, Exists, Compare, Not, AllOf, AnyOf, no_cond, more_conds, RoleTarget, Own, First, Whole, ItemTree, Write, Copy, For, If, SignOff, BodyTree, Nil, Then, OffTree, RoleRowTree}
use Rattle.gcx_model.specs.Variables.{Var, is_straight, child_var, var_tree, vars, item_vars}
use Rattle.gcx_model.specs.Roles.{own_row, whole_row, operand_rows, cond_rows, conds_rows, item_rows, rows, roles_of}
use Rattle.gcx_model.specs.Cores.{BodyIn, Good}
use Rattle.gcx_model.specs.Placed.{row_at, IsStatement, InOrder, is_own_kind, own_number, statement, statements, offs_of, is_empty, is_own, at_end}
use Rattle.gcx_model.specs.Members.{In, Once}
use Rattle.tree_laws.proofs.Lists.{In-append, In-filter}
use Rattle.placed_laws.proofs.CorePlans.{Fits, good_fits, good_once, good_not_zero, good_based, good_zero, Based, roles_known, no_vars}
use Rattle.placed_laws.proofs.Bridge.{row_places}

-- The Own rows

abbrev own_vars : List RoleRowTree → List ℕ
own_vars [] = []
own_vars (r ∷ rs) = cond (is_own_kind r.kind) (r.var ∷ own_vars rs) (own_vars rs)

own_vars-append : (rs qs : List RoleRowTree) → own_vars (rs ++ qs) ≡ own_vars rs ++ own_vars qs
own_vars-append [] qs = refl
own_vars-append (r ∷ rs) qs = go (is_own_kind r.kind) (own_vars-append rs qs)
  where
    go : (c : Bool) → own_vars (rs ++ qs) ≡ own_vars rs ++ own_vars qs → cond c (r.var ∷ own_vars (rs ++ qs)) (own_vars (rs ++ qs)) ≡ cond c (r.var ∷ own_vars rs) (own_vars rs) ++ own_vars qs
    go true e = ap (λ z. r.var ∷ z) e
    go false e = e

own_operand : (o : OperandTree) → own_vars (operand_rows o) ≡ []
own_operand (Path x tail) = refl
own_operand (Str b) = refl
own_operand (Num l) = refl

mutual
  own_cond : (c : CondTree) → own_vars (cond_rows c) ≡ []
  own_cond Always = refl
  own_cond (Exists x tail) = refl
  own_cond (Compare l rel r) = own_vars-append (operand_rows l) (operand_rows r) ∙ rw (own_operand l, own_operand r) refl
  own_cond (Not c) = own_cond c
  own_cond (AllOf cs) = own_conds cs
  own_cond (AnyOf cs) = own_conds cs

  own_conds : (cs : CondTrees) → own_vars (conds_rows cs) ≡ []
  own_conds no_cond = refl
  own_conds (more_conds c cs) = own_vars-append (cond_rows c) (conds_rows cs) ∙ rw (own_cond c, own_conds cs) refl

mutual
  own_item : (i : ItemTree) → own_vars (item_rows i) ≡ item_vars i
  own_item (Write s) = refl
  own_item (Copy x) = refl
  own_item (For x y s d) = ap (λ z. x ∷ z) (own_rows d)
  own_item (If c a b) = own_vars-append (cond_rows c) (rows a ++ rows b) ∙ (ap (λ z. z ++ own_vars (rows a ++ rows b)) (own_cond c) ∙ (own_vars-append (rows a) (rows b) ∙ (ap (λ z. z ++ own_vars (rows b)) (own_rows a) ∙ ap (λ z. vars a ++ z) (own_rows b))))
  own_item (SignOff o) = refl

  own_rows : (d : BodyTree) → own_vars (rows d) ≡ vars d
  own_rows Nil = refl
  own_rows (Then i d) = own_vars-append (item_rows i) (rows d) ∙ (ap (λ z. z ++ own_vars (rows d)) (own_item i) ∙ ap (λ z. item_vars i ++ z) (own_rows d))

-- an Own row has no tail
abbrev Plain : RoleRowTree → Type 0
Plain r = is_own_kind r.kind ≡ true → r ≡ own_row r.var

plain_operand : (o : OperandTree) (r : RoleRowTree) → In r (operand_rows o) → Plain r
plain_operand (Path x tail) r (inl e) h = absurd (false≢true (ap (λ (z : RoleRowTree). is_own_kind z.kind) e ∙ h))
plain_operand (Path x tail) r (inr i) h = absurd i
plain_operand (Str b) r i h = absurd i
plain_operand (Num l) r i h = absurd i

mutual
  plain_cond : (c : CondTree) (r : RoleRowTree) → In r (cond_rows c) → Plain r
  plain_cond Always r i = absurd i
  plain_cond (Exists x tail) r (inl e) = λ h. absurd (false≢true (ap (λ (z : RoleRowTree). is_own_kind z.kind) e ∙ h))
  plain_cond (Exists x tail) r (inr i) = absurd i
  plain_cond (Compare l rel q) r i = elim (In-append r (operand_rows l) (operand_rows q) i) [ inl j ↦ plain_operand l r j | inr j ↦ plain_operand q r j ]
  plain_cond (Not c) r i = plain_cond c r i
  plain_cond (AllOf cs) r i = plain_conds cs r i
  plain_cond (AnyOf cs) r i = plain_conds cs r i

  plain_conds : (cs : CondTrees) (r : RoleRowTree) → In r (conds_rows cs) → Plain r
  plain_conds no_cond r i = absurd i
  plain_conds (more_conds c cs) r i = elim (In-append r (cond_rows c) (conds_rows cs) i) [ inl j ↦ plain_cond c r j | inr j ↦ plain_conds cs r j ]

plain_own : (x : ℕ) (r : RoleRowTree) → own_row x ≡ r → Plain r
plain_own x r e h = sym e ∙ ap (λ (z : RoleRowTree). own_row z.var) e

plain_whole : (x : ℕ) (r : RoleRowTree) → whole_row x ≡ r → Plain r
plain_whole x r e h = absurd (false≢true (ap (λ (z : RoleRowTree). is_own_kind z.kind) e ∙ h))

mutual
  plain_item : (i : ItemTree) (r : RoleRowTree) → In r (item_rows i) → Plain r
  plain_item (Write s) r i = absurd i
  plain_item (Copy x) r (inl e) = plain_whole x r e
  plain_item (Copy x) r (inr i) = absurd i
  plain_item (For x y s d) r (inl e) = plain_own x r e
  plain_item (For x y s d) r (inr i) = plain_rows d r i
  plain_item (If c a b) r i = elim (In-append r (cond_rows c) (rows a ++ rows b) i) [
    | inl j ↦ plain_cond c r j
    | inr j ↦ elim (In-append r (rows a) (rows b) j) [ inl k ↦ plain_rows a r k | inr k ↦ plain_rows b r k ]
  ]
  plain_item (SignOff o) r i = absurd i

  plain_rows : (d : BodyTree) (r : RoleRowTree) → In r (rows d) → Plain r
  plain_rows Nil r i = absurd i
  plain_rows (Then t d) r i = elim (In-append r (item_rows t) (rows d) i) [ inl j ↦ plain_item t r j | inr j ↦ plain_rows d r j ]

plain : (core : BodyTree) (r : RoleRowTree) → In r (roles_of core) → Plain r
plain core r (inl e) = plain_own 0 r e
plain core r (inr i) = plain_rows core r i

pub row_in : (rs : List RoleRowTree) (j : ℕ) (r : RoleRowTree) → row_at rs j ≡ Some r → In r rs
row_in [] j r e = absurd (cc)
row_in (q ∷ rs) zero r e = inl (cc)
row_in (q ∷ rs) (suc j) r e = inr (row_in rs j r e)

own_has : (rs : List RoleRowTree) (r : RoleRowTree) → In r rs → is_own_kind r.kind ≡ true → In r.var (own_vars rs)
own_has [] r i h = absurd i
own_has (q ∷ rs) r (inl e) h = subst (λ (c : Bool). In r.var (cond c (q.var ∷ own_vars rs) (own_vars rs))) (sym (ap (λ (z : RoleRowTree). is_own_kind z.kind) e ∙ h)) (inl (ap (λ (z : RoleRowTree). z.var) e))
own_has (q ∷ rs) r (inr i) h = go (is_own_kind q.kind) (own_has rs r i h)
  where
    go : (c : Bool) → In r.var (own_vars rs) → In r.var (cond c (q.var ∷ own_vars rs) (own_vars rs))
    go true k = inr k
    go false k = k

-- the row that tells the number of a variable's Own role
own_number_is : (x k : ℕ) (rs : List RoleRowTree) (j : ℕ) → Once (own_vars rs) → row_at rs j ≡ Some (own_row x) → own_number x k rs ≡ k + j
own_number_is x k [] j o e = absurd (cc)
own_number_is x k (q ∷ rs) zero o e =
    let h : q ≡ own_row x = cc in
    let t : (is_own_kind q.kind && eqb q.var x) ≡ true = ap (λ (z : RoleRowTree). is_own_kind z.kind && eqb z.var x) h ∙ eq-eqb x x refl in
    rw (t, add-zero) refl
own_number_is x k (q ∷ rs) (suc j) o e = let g : suc k + j ≡ k + suc j = omega arith in go (is_own_kind q.kind) (eqb q.var x) refl refl (own_number_is x (suc k) rs j (strip (is_own_kind q.kind) o) e ∙ g)
  where
    strip : (c : Bool) → Once (cond c (q.var ∷ own_vars rs) (own_vars rs)) → Once (own_vars rs)
    strip true h = h.1
    strip false h = h

    go : (a b : Bool) → is_own_kind q.kind ≡ a → eqb q.var x ≡ b → own_number x (suc k) rs ≡ k + suc j → cond (a && b) k (own_number x (suc k) rs) ≡ k + suc j
    go true true f g next =
        let h : Once (q.var ∷ own_vars rs) = subst (λ (c : Bool). Once (cond c (q.var ∷ own_vars rs) (own_vars rs))) f o in
        absurd (h.0 (subst (λ (z : ℕ). In z (own_vars rs)) (sym (eqb-true _ _ g)) (own_has rs (own_row x) (row_in rs j (own_row x) e) refl)))
    go true false f g next = next
    go false b f g next = next

own_found : (rs : List RoleRowTree) (x : ℕ) → ((r : RoleRowTree) → In r rs → Plain r) → In x (own_vars rs) → (j : ℕ) × (row_at rs j ≡ Some (own_row x))
own_found [] x h i = absurd i
own_found (q ∷ rs) x h i = go (is_own_kind q.kind) refl i (own_found rs x (λ r k. h r (inr k)))
  where
    later : (j : ℕ) × (row_at rs j ≡ Some (own_row x)) → (j : ℕ) × (row_at (q ∷ rs) j ≡ Some (own_row x))
    later r = (suc r.0, r.1)

    go : (c : Bool) → is_own_kind q.kind ≡ c → In x (cond c (q.var ∷ own_vars rs) (own_vars rs)) → (In x (own_vars rs) → (j : ℕ) × (row_at rs j ≡ Some (own_row x))) → (j : ℕ) × (row_at (q ∷ rs) j ≡ Some (own_row x))
    go true e (inl f) ih = (0, ap Some (h q (inl refl) e ∙ ap own_row f))
    go true e (inr k) ih = later (ih k)
    go false e k ih = later (ih k)

-- lists in order with the same members are the same

abbrev Ahead : OffTree → OffTree → Type 0
Ahead a b = (a.role ≡ a.own → ⊥) × ((b.role ≡ b.own) ⊎ (a.role < b.role))

never_both : (a b : OffTree) → Ahead a b → Ahead b a → ⊥
never_both a b h k = elim h.1 [
  | inl e ↦ k.0 e
  | inr l ↦ elim k.1 [ inl f ↦ h.0 f | inr m ↦ absurd (omega arith) ]
]

never_self : (a : OffTree) → Ahead a a → ⊥
never_self a h = never_both a a h h

pub order_same : (xs ys : List OffTree) → InOrder xs → InOrder ys → ((o : OffTree) → In o xs → In o ys) → ((o : OffTree) → In o ys → In o xs) → xs ≡ ys
order_same [] [] r s f g = refl
order_same [] (y ∷ ys) r s f g = absurd (g y (inl refl))
order_same (x ∷ xs) [] r s f g = absurd (f x (inl refl))
order_same (x ∷ xs) (y ∷ ys) r s f g = rw (same, order_same xs ys r.1 s.1 tail_in tail_out) refl
  where
    least : In x (y ∷ ys) → In y (x ∷ xs) → x ≡ y
    least (inl e) j = sym e
    least (inr i) (inl e) = e
    least (inr i) (inr j) = absurd (never_both x y (r.0 y j) (s.0 x i))

    same : x ≡ y
    same = least (f x (inl refl)) (g y (inl refl))

    tail_in : (z : OffTree) → In z xs → In z ys
    tail_in z i = elim (f z (inr i)) [ inl e ↦ absurd (never_self x (subst (λ (w : OffTree). Ahead x w) (sym (same ∙ e)) (r.0 z i))) | inr j ↦ j ]

    tail_out : (z : OffTree) → In z ys → In z xs
    tail_out z i = elim (g z (inr i)) [ inl e ↦ absurd (never_self y (subst (λ (w : OffTree). Ahead y w) (sym (sym same ∙ e)) (s.0 z i))) | inr j ↦ j ]

-- lists of statements by rising role

abbrev Climbs : List OffTree → Type 0
Climbs [] = Unit {0}
Climbs (a ∷ os) = ((b : OffTree) → In b os → a.role < b.role) × Climbs os

climbs_filter : (p : OffTree → Bool) (os : List OffTree) → Climbs os → Climbs (filter p os)
climbs_filter p [] h = tt
climbs_filter p (a ∷ os) h = go (p a) (climbs_filter p os h.1)
  where
    go : (c : Bool) → Climbs (filter p os) → Climbs (cond c (a ∷ filter p os) (filter p os))
    go true k = (λ b i. h.0 b (In-filter p b os i).0, k)
    go false k = k

role_from : (F : ℕ → Var) (all : List RoleRowTree) (k : ℕ) (rs : List RoleRowTree) (o : OffTree) → In o (statements F all k rs) → k ≤ o.role
role_from F all k [] o i = absurd i
role_from F all k (r ∷ rs) o (inl e) = let f = ap (λ (z : OffTree). z.role) e in omega arith
role_from F all k (r ∷ rs) o (inr i) = let h = role_from F all (suc k) rs o i in omega arith

climbs_statements : (F : ℕ → Var) (all : List RoleRowTree) (k : ℕ) (rs : List RoleRowTree) → Climbs (statements F all k rs)
climbs_statements F all k [] = tt
climbs_statements F all k (r ∷ rs) = (λ b i. let h = role_from F all (suc k) rs b i in omega arith, climbs_statements F all (suc k) rs)

-- a statement's row
statement_row : (F : ℕ → Var) (all : List RoleRowTree) (k : ℕ) (rs : List RoleRowTree) (o : OffTree) → In o (statements F all k rs) → (j : ℕ) × (r : RoleRowTree) × (row_at rs j ≡ Some r) × (o ≡ statement F all (k + j) r)
statement_row F all k [] o i = absurd i
statement_row F all k (r ∷ rs) o (inl e) = (0, r, refl, sym e ∙ ap (λ (z : ℕ). statement F all z r) (sym (add-zero k)))
statement_row F all k (r ∷ rs) o (inr i) =
    let h = statement_row F all (suc k) rs o i in
    let g : suc k + h.0 ≡ k + suc h.0 = omega arith in
    (suc h.0, h.1, h.2, h.3 ∙ ap (λ (z : ℕ). statement F all z h.1) g)

no_append : (xs : List Step) (s : Step) → is_empty (xs ++ s ∷ []) ≡ false
no_append [] s = refl
no_append (x ∷ xs) s = refl

pub cancel : (xs ys zs : List Step) → xs ++ ys ≡ xs ++ zs → ys ≡ zs
cancel [] ys zs e = e
cancel (x ∷ xs) ys zs e = cancel xs ys zs (cc)

-- of each variable of the body, the way from its parent is told by F
parent_of : (F : ℕ → Var) (d : BodyTree) (u : ℕ) (b : Bool) (L : List ℕ) → BodyIn b L d → Fits F u d → (z : ℕ) → In z (vars d) → (c : Bool) × (y : ℕ) × (s : Step) × (F z ≡ child_var c z s (F y))
parent_of F Nil u b L q f z i = absurd i
parent_of F (Then (Write t) d) u b L q f z i = parent_of F d u b L q.1 f.1 z i
parent_of F (Then (Copy x) d) u b L q f z i = parent_of F d u b L q.1 f.1 z i
parent_of F (Then (SignOff o) d) u b L q f z i = absurd q.0
parent_of F (Then (If c a e) d) u b L q f z i = elim (In-append z (vars a ++ vars e) (vars d) i) [
  | inl j ↦ absurd (elim (In-append z (vars a) (vars e) j) [ inl m ↦ no_vars F L L a q.0.1 z m | inr m ↦ no_vars F L L e q.0.2 z m ])
  | inr j ↦ parent_of F d u b L q.1 f.1 z j
]
parent_of F (Then (For x y s e) d) u b L q f z i = elim (In-append z (x ∷ vars e) (vars d) i) [
  | inl j ↦ elim j [
    | inl g ↦ (is_straight u y s (F y), y, s, subst (λ (w : ℕ). F w ≡ child_var (is_straight u y s (F y)) w s (F y)) g f.0.0)
    | inr m ↦ parent_of F e x b (x ∷ L) q.0.2 f.0.1 z m
  ]
  | inr j ↦ parent_of F d u b L q.1 f.1 z j
]

module _ (core : BodyTree) (good : Good core) where
  abbrev V : ℕ → Var
  V = var_tree core

  abbrev all_rows : List RoleRowTree
  all_rows = roles_of core

  abbrev ends : ℕ → List OffTree
  ends = at_end (offs_of core)

  once_own : Once (own_vars all_rows)
  once_own = subst (λ (z : List ℕ). Once (0 ∷ z)) (sym (own_rows core)) (good_not_zero core good, good_once core good)

  -- the number of the Own role of a variable
  own_at : (x : ℕ) → In x (0 ∷ vars core) → row_at all_rows (own_number x 0 all_rows) ≡ Some (own_row x)
  own_at x i =
      let h = own_found all_rows x (plain core) (subst (λ (z : List ℕ). In x (0 ∷ z)) (sym (own_rows core)) i) in
      let n : own_number x 0 all_rows ≡ h.0 = let g : 0 + h.0 ≡ h.0 = omega arith in own_number_is x 0 all_rows h.0 once_own h.1 ∙ g in
      ap (row_at all_rows) n ∙ h.1

  own_only : (x j : ℕ) → row_at all_rows j ≡ Some (own_row x) → own_number x 0 all_rows ≡ j
  own_only x j e = let g : 0 + j ≡ j = omega arith in own_number_is x 0 all_rows j once_own e ∙ g

  known : (r : RoleRowTree) → In r all_rows → Based V (0 ∷ vars core) r.var
  known r i = good_based core good r.var (roles_known core good r i)

  -- no steps lead to a variable from its fsa only where it is straight
  straight_from : (x : ℕ) → In x (0 ∷ vars core) → is_empty (V x).rel ≡ true → (V x).base ≡ x
  straight_from x (inl e) h = ap (λ (z : ℕ). (V z).base) (sym e) ∙ (ap (λ (z : Var). z.base) (good_zero core good) ∙ e)
  straight_from x (inr i) h = let r = parent_of V core 0 true (0 ∷ []) good.inside (good_fits core good) x i in go r.0 r.1 r.2 r.3
    where
      go : (c : Bool) (y : ℕ) (s : Step) → V x ≡ child_var c x s (V y) → (V x).base ≡ x
      go true y s e = ap (λ (z : Var). z.base) e
      go false y s e = absurd (false≢true (sym (no_append (V y).rel s) ∙ (ap (λ (z : Var). is_empty z.rel) (sym e) ∙ h)))

  own_kind : (k : RoleTarget) → is_own_kind k ≡ true → k ≡ Own
  own_kind Own e = refl
  own_kind First e = absurd (false≢true e)
  own_kind Whole e = absurd (false≢true e)

  -- the statement of a row: it takes its base's own role where it has its number
  module _ (o : OffTree) (i : In o (offs_of core)) where
    abbrev its : (j : ℕ) × (r : RoleRowTree) × (row_at all_rows j ≡ Some r) × (o ≡ statement V all_rows (0 + j) r)
    its = statement_row V all_rows 0 all_rows o i

    its_row : row_at all_rows o.role ≡ Some its.1
    its_row = let g : 0 + its.0 ≡ its.0 = omega arith in ap (row_at all_rows) (ap (λ (z : OffTree). z.role) its.3 ∙ g) ∙ its.2

    its_in : In its.1 all_rows
    its_in = row_in all_rows its.0 its.1 its.2

    its_base : o.base ≡ (V (its.1).var).base
    its_base = ap (λ (z : OffTree). z.base) its.3

    its_rel : o.rel ≡ (V (its.1).var).rel
    its_rel = ap (λ (z : OffTree). z.rel) its.3

    its_own : row_at all_rows o.own ≡ Some (own_row o.base)
    its_own =
        let b = known its.1 its_in in
        let e : o.own ≡ own_number o.base 0 all_rows = ap (λ (z : OffTree). z.own) its.3 ∙ ap (λ (z : ℕ). own_number z 0 all_rows) (sym its_base) in
        ap (row_at all_rows) e ∙ own_at o.base (subst (λ (z : ℕ). In z (0 ∷ vars core)) (sym its_base) b.known)

    pub is_statement : IsStatement core o
    is_statement =
        let b = known its.1 its_in in
        record {
          row = its.1;
          at = its_row;
          base = its_base;
          own = its_own;
          rel = ap (λ (z : ℕ). (V z).path ++ o.rel) its_base ∙ (ap (λ z. (V (V (its.1).var).base).path ++ z) its_rel ∙ sym b.path);
          tail = ap (λ (z : OffTree). z.tail) its.3;
          kind = ap (λ (z : OffTree). z.kind) its.3;
        }

    own_role : is_own o ≡ true → o.role ≡ o.own
    own_role h =
        let a = and_parts (is_own_kind o.kind) (is_empty o.rel) h in
        let k : is_own_kind (its.1).kind ≡ true = ap (λ (z : OffTree). is_own_kind z.kind) (sym its.3) ∙ a.0 in
        let s : (V (its.1).var).base ≡ (its.1).var = straight_from (its.1).var (roles_known core good its.1 its_in) (ap is_empty (sym its_rel) ∙ a.1) in
        let p : its.1 ≡ own_row (its.1).var = plain core its.1 its_in k in
        let e : row_at all_rows o.role ≡ Some (own_row o.base) = its_row ∙ ap Some (p ∙ ap own_row (sym s ∙ sym its_base)) in
        sym (own_only o.base o.role e) ∙ own_only o.base o.own its_own

    own_test : o.role ≡ o.own → is_own o ≡ true
    own_test h =
        let e : Some its.1 ≡ Some (own_row o.base) = sym its_row ∙ (ap (row_at all_rows) h ∙ its_own) in
        let f : its.1 ≡ own_row o.base = cc in
        let k : o.kind ≡ Own = ap (λ (z : OffTree). z.kind) its.3 ∙ ap (λ (z : RoleRowTree). z.kind) f in
        let v : (its.1).var ≡ o.base = ap (λ (z : RoleRowTree). z.var) f in
        let b = good_based core good o.base (subst (λ (z : ℕ). In z (0 ∷ vars core)) (sym its_base) (known its.1 its_in).known) in
        let st : (V o.base).straight ≡ true = ap (λ (z : ℕ). (V z).straight) its_base ∙ (known its.1 its_in).straight in
        let r : o.rel ≡ [] = its_rel ∙ (ap (λ (z : ℕ). (V z).rel) v ∙ (b.self st).1) in
        and_from _ _ (ap is_own_kind k) (ap is_empty r)

  -- a statement of the core is that of its role
  pub statement_in : (o : OffTree) → IsStatement core o → In o (offs_of core)
  statement_in o s =
      let r : RoleRowTree = s.row in
      let i = row_in all_rows o.role r s.at in
      let b = known r i in
      let base : o.base ≡ (V r.var).base = s.base in
      let own : o.own ≡ own_number (V r.var).base 0 all_rows = sym (own_only o.base o.own s.own) ∙ ap (λ (z : ℕ). own_number z 0 all_rows) base in
      let rel : o.rel ≡ (V r.var).rel = cancel (V o.base).path o.rel (V r.var).rel (s.rel ∙ (b.path ∙ ap (λ (z : ℕ). (V z).path ++ (V r.var).rel) (sym base))) in
      let e : statement V all_rows o.role r ≡ o = λ p. record { base = sym base p; own = sym own p; role = o.role; rel = sym rel p; tail = sym s.tail p; kind = sym s.kind p } in
      subst (λ (z : OffTree). In z (offs_of core)) e (row_places core good o.role r s.at).1

  -- those at the end of a body are in order

  abbrev All_own : ℕ → List OffTree → Type 0
  All_own b os = (o : OffTree) → In o os → In o (offs_of core) × (o.base ≡ b) × (is_own o ≡ true)

  abbrev None_own : List OffTree → Type 0
  None_own os = (o : OffTree) → In o os → In o (offs_of core) × (is_own o ≡ false)

  own_number_of : (b : ℕ) (o : OffTree) → In o (offs_of core) × (o.base ≡ b) × (is_own o ≡ true) → o.role ≡ own_number b 0 all_rows
  own_number_of b o h = own_role o h.0 h.2 ∙ (sym (own_only o.base o.own (its_own o h.0)) ∙ ap (λ (z : ℕ). own_number z 0 all_rows) h.1)

  owns_order : (b : ℕ) (os : List OffTree) → All_own b os → Climbs os → InOrder os
  owns_order b [] h k = tt
  owns_order b (a ∷ os) h k = (
    λ c i. (let l = k.0 c i in let e = own_number_of b a (h a (inl refl)) in let f = own_number_of b c (h c (inr i)) in absurd (omega arith)),
    owns_order b os (λ o i. h o (inr i)) k.1,
  )

  both_order : (b : ℕ) (xs ys : List OffTree) → None_own xs → All_own b ys → Climbs xs → Climbs ys → InOrder (xs ++ ys)
  both_order b [] ys f g h k = owns_order b ys g k
  both_order b (a ∷ xs) ys f g h k = (
    λ c i. (
      (λ e. let q = f a (inl refl) in true≢false (sym (own_test a q.0 e) ∙ q.1)),
      elim (In-append c xs ys i) [ inl j ↦ inr (h.0 c j) | inr j ↦ (let q = g c j in inl (own_role c q.0 q.2)) ],
    ),
    both_order b xs ys (λ o i. f o (inr i)) g h.1 k,
  )

  pub ends_order : (b : ℕ) → InOrder (ends b)
  ends_order b =
      let climbs : Climbs (offs_of core) = climbs_statements V all_rows 0 all_rows in
      let other : OffTree → Bool = λ o. eqb o.base b && not (is_own o) in
      let itself : OffTree → Bool = λ o. eqb o.base b && is_own o in
      both_order b (filter other (offs_of core)) (filter itself (offs_of core))
      (λ o i. let q = In-filter other o (offs_of core) i in (q.0, not-true _ (and_parts (eqb o.base b) (not (is_own o)) q.1).1))
      (λ o i. let q = In-filter itself o (offs_of core) i in let a = and_parts (eqb o.base b) (is_own o) q.1 in (q.0, eqb-true _ _ a.0, a.1))
      (climbs_filter other (offs_of core) climbs) (climbs_filter itself (offs_of core) climbs)
