-- The variable tree by where the loops stand.
use Rattle.std.proofs.Common.{◌≡◌, ℕ, ◌≤◌, Bool, true, false, cond, not, ◌&&◌, List, [], ◌∷◌, ◌++◌, length, refl, sym, ◌∙◌, ap, subst, inl, inr, arith, eqb}
use Rattle.std.proofs.lemmas.Bool.{and_parts, and_from, false≢true, eqb-true, eq-eqb}
use Rattle.gcx_base.specs.declared.steps.Step.{Step}
use Rattle.gcx_model.specs.Members.{In}
use Rattle.gcx_model.specs.Core.{Write, Copy, For, If, SignOff, BodyTree, Nil, Then}
use Rattle.gcx_model.specs.Variables.{Var, is_child, all_child, one_desc, is_straight, var_of, var_tree, path_in, straight_in, fsa_in, item_vars, vars}
use Rattle.gcx_model.specs.Cores.{BodyIn, Good}
use Rattle.placed_laws.specs.LoopRules.{BodyOf, whole, after_item, inner, this_side, other_side, LoopIn, VariablesOfLoops, descents, PathByLoop, StraightByLoop, FsaByLoop}
use Rattle.tree_laws.proofs.Lists.{In-left, In-right, In-append}
use Rattle.placed_laws.proofs.CorePlans.{Fits, good_fits, good_zero}

-- variables and loops

abbrev Placed_loop : BodyTree → ℕ → Type 0
Placed_loop core x = (u y : ℕ) × (s : Step) × LoopIn core u x y s

loop_of : (core d : BodyTree) (u : ℕ) → BodyOf core u d → (x : ℕ) → In x (vars d) → Placed_loop core x
loop_of core Nil u b x i = absurd i
loop_of core (Then (Write t) d) u b x i = loop_of core d u (after_item b) x i
loop_of core (Then (Copy z) d) u b x i = loop_of core d u (after_item b) x i
loop_of core (Then (SignOff o) d) u b x i = loop_of core d u (after_item b) x i
loop_of core (Then (For z y s e) d) u b x (inl f) = (u, y, s, (e, d, subst (λ (k : ℕ). BodyOf core u (Then (For k y s e) d)) f b))
loop_of core (Then (For z y s e) d) u b x (inr i) = elim (In-append x (vars e) (vars d) i) [ inl j ↦ loop_of core e z (inner b) x j | inr j ↦ loop_of core d u (after_item b) x j ]
loop_of core (Then (If c a e) d) u b x i = elim (In-append x (vars a ++ vars e) (vars d) i) [
  | inl j ↦ elim (In-append x (vars a) (vars e) j) [ inl k ↦ loop_of core a u (this_side b) x k | inr k ↦ loop_of core e u (other_side b) x k ]
  | inr j ↦ loop_of core d u (after_item b) x j
]

vars_in : (core : BodyTree) (u : ℕ) (d : BodyTree) → BodyOf core u d → (x : ℕ) → In x (vars d) → In x (vars core)
vars_in core u d whole x i = i
vars_in core u d (after_item {i = t} h) x i = vars_in core _ _ h x (In-right x (item_vars t) (vars d) i)
vars_in core u d (inner {d = rest} h) x i = vars_in core _ _ h x (inr (In-left x (vars d) (vars rest) i))
vars_in core u d (this_side {b = other} {d = rest} h) x i = vars_in core _ _ h x (In-left x (vars d ++ vars other) (vars rest) (In-left x (vars d) (vars other) i))
vars_in core u d (other_side {a = this} {d = rest} h) x i = vars_in core _ _ h x (In-left x (vars this ++ vars d) (vars rest) (In-right x (vars this) (vars d) i))

pub variables_of_loops : VariablesOfLoops
variables_of_loops core x = ((λ i. loop_of core core 0 whole x i), (λ h. vars_in core h.0 _ h.3.2 x (inl refl)))

-- at each loop the variable tree says what the loop's place makes of its parent; no loop stands in a branch
module _ (core : BodyTree) (good : Good core) where
  abbrev V : ℕ → Var
  V = var_tree core

  abbrev Fitting : ℕ → BodyTree → Type 0
  Fitting u d = (b : Bool) × (L : List ℕ) × BodyIn b L d × (b ≡ true → Fits V u d)

  fitting : (u : ℕ) (d : BodyTree) → BodyOf core u d → Fitting u d
  fitting u d whole = (true, 0 ∷ [], good.inside, λ e. good_fits core good)
  fitting u d (after_item h) = let f = fitting _ _ h in (f.0, f.1, f.2.1, λ e. (f.3 e).1)
  fitting u d (inner {x = x} h) = let f = fitting _ _ h in (f.0, x ∷ f.1, f.2.0.2, λ e. (f.3 e).0.1)
  fitting u d (this_side h) = let f = fitting _ _ h in (false, f.1, f.2.0.1, λ e. absurd (false≢true e))
  fitting u d (other_side h) = let f = fitting _ _ h in (false, f.1, f.2.0.2, λ e. absurd (false≢true e))

  row : (u x y : ℕ) (s : Step) → LoopIn core u x y s → V x ≡ var_of u x y s (V y)
  row u x y s l = let f = fitting u (Then (For x y s l.0) l.1) l.2 in (f.3 f.2.0.0).0.0

  path : (u x y : ℕ) (s : Step) → LoopIn core u x y s → path_in core x ≡ path_in core y ++ s ∷ []
  path u x y s l = ap (λ (v : Var). v.path) (row u x y s l)

  straight : (u x y : ℕ) (s : Step) → LoopIn core u x y s → straight_in core x ≡ is_straight u y s (V y)
  straight u x y s l = ap (λ (v : Var). v.straight) (row u x y s l)

  base : (u x y : ℕ) (s : Step) → LoopIn core u x y s → fsa_in core x ≡ cond (straight_in core x) x (fsa_in core y)
  base u x y s l = ap (λ (v : Var). v.base) (row u x y s l) ∙ ap (λ (c : Bool). cond c x (fsa_in core y)) (sym (straight u x y s l))

pub path_by_loop : PathByLoop
path_by_loop core good = (ap (λ (v : Var). v.path) (good_zero core good), path core good)

-- at most one descendant step

none_from : (steps : List Step) → length (descents steps) ≤ 0 → all_child steps ≡ true
none_from [] l = refl
none_from (s ∷ rest) l = go (is_child s.axis) (none_from rest) l
  where
    go : (c : Bool) → (length (descents rest) ≤ 0 → all_child rest ≡ true) → length (cond (not c) (s ∷ descents rest) (descents rest)) ≤ 0 → (c && all_child rest) ≡ true
    go true ih k = ih k
    go false ih k = absurd (omega arith)

none_then : (steps : List Step) → all_child steps ≡ true → length (descents steps) ≤ 0
none_then [] h = omega arith
none_then (s ∷ rest) h = go (is_child s.axis) (none_then rest) h
  where
    go : (c : Bool) → (all_child rest ≡ true → length (descents rest) ≤ 0) → (c && all_child rest) ≡ true → length (cond (not c) (s ∷ descents rest) (descents rest)) ≤ 0
    go true ih k = ih k
    go false ih k = absurd (false≢true k)

one_from : (steps : List Step) → length (descents steps) ≤ 1 → one_desc steps ≡ true
one_from [] l = refl
one_from (s ∷ rest) l = go (is_child s.axis) (one_from rest) l
  where
    go : (c : Bool) → (length (descents rest) ≤ 1 → one_desc rest ≡ true) → length (cond (not c) (s ∷ descents rest) (descents rest)) ≤ 1 → cond c (one_desc rest) (all_child rest) ≡ true
    go true ih k = ih k
    go false ih k = none_from rest (omega arith)

one_then : (steps : List Step) → one_desc steps ≡ true → length (descents steps) ≤ 1
one_then [] h = omega arith
one_then (s ∷ rest) h = go (is_child s.axis) (one_then rest) h
  where
    go : (c : Bool) → (one_desc rest ≡ true → length (descents rest) ≤ 1) → cond c (one_desc rest) (all_child rest) ≡ true → length (cond (not c) (s ∷ descents rest) (descents rest)) ≤ 1
    go true ih k = ih k
    go false ih k = let l = none_then rest k in omega arith

pub straight_by_loop : StraightByLoop
straight_by_loop core good = (
  ap (λ (v : Var). v.straight) (good_zero core good),
  λ u x y s l.
      let e = straight core good u x y s l in
      let p = path core good u x y s l in (
        (λ h.
            let a = and_parts (straight_in core y) (eqb y u && one_desc (path_in core y ++ s ∷ [])) (sym e ∙ h) in
            let b = and_parts (eqb y u) (one_desc (path_in core y ++ s ∷ [])) a.1 in
            (a.0, sym (eqb-true y u b.0), one_then (path_in core x) (ap one_desc p ∙ b.1))),
        (λ h. e ∙ and_from _ _ h.0 (and_from _ _ (eq-eqb y u (sym h.1)) (ap one_desc (sym p) ∙ one_from (path_in core x) h.2))),
      ),
)

pub fsa_by_loop : FsaByLoop
fsa_by_loop core good = (
  ap (λ (v : Var). v.base) (good_zero core good),
  λ u x y s l. let e = base core good u x y s l in ((λ h. e ∙ ap (λ (c : Bool). cond c x (fsa_in core y)) h), (λ h. e ∙ ap (λ (c : Bool). cond c x (fsa_in core y)) h)),
)
