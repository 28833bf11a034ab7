-- The plan is its core with each statement once.
use Rattle.std.proofs.Common.{◌≡◌, ℕ, Bool, true, false, List, [], ◌∷◌, ◌++◌, refl, sym, ◌∙◌, ap, subst, inl, inr}
use Rattle.std.specs.List.{filter}
use Rattle.std.proofs.lemmas.List.Elements.{filter-append}
use Rattle.std.proofs.lemmas.Bool.{and_parts, eqb-true, not-true}
use Rattle.gcx_base.specs.declared.steps.Step.{Step}
use Rattle.gcx_model.specs.Core.{ItemTree, Write, Copy, For, If, SignOff, BodyTree, Nil, Then, OffTree}
use Rattle.gcx_model.specs.Placed.{of_role, without, item_offs, offs_in, add_offs, offs_body, place, at_end, offs_of}
use Rattle.tree_laws.proofs.Reading.{reading}
use Rattle.gcx_model.specs.Roles.{roles_of}
use Rattle.gcx_model.specs.Variables.{var_tree}
use Rattle.gcx_model.specs.Cores.{BodyIn, Good}
use Rattle.tree_laws.proofs.Lists.{In, In-append, In-filter}
use Rattle.placed_laws.proofs.Needed.{quiet, quiet_item, Own, Before, Itself, Way, Top, Skip, Here}
use Rattle.placed_laws.proofs.CorePlans.{same_role}
use Rattle.placed_laws.proofs.CoreStates.{Only, Only_item, plan_only, role_way}

-- Without its statements the plan is the core.

without_offs : (os : List OffTree) → without (offs_body os) ≡ Nil
without_offs [] = refl
without_offs (o ∷ os) = without_offs os

without_core : (d : BodyTree) (b : Bool) (L : List ℕ) → BodyIn b L d → without d ≡ d
without_core Nil b L q = refl
without_core (Then (Write s) d) b L q = ap (Then (Write s)) (without_core d b L q.1)
without_core (Then (Copy x) d) b L q = ap (Then (Copy x)) (without_core d b L q.1)
without_core (Then (For x y s e) d) b L q = ap (λ z. Then (For x y s z) (without d)) (without_core e b (x ∷ L) q.0.2) ∙ ap (Then (For x y s e)) (without_core d b L q.1)
without_core (Then (If c a e) d) b L q = ap (λ z. Then (If c z (without e)) (without d)) (without_core a false L q.0.1) ∙ (ap (λ z. Then (If c a z) (without d)) (without_core e false L q.0.2) ∙ ap (Then (If c a e)) (without_core d b L q.1))
without_core (Then (SignOff o) d) b L q = absurd q.0

without_placed : (ends : ℕ → List OffTree) (d : BodyTree) (os : List OffTree) (b : Bool) (L : List ℕ) → BodyIn b L d → without (add_offs (place ends d) os) ≡ d
without_placed ends Nil os b L q = without_offs os
without_placed ends (Then (Write s) d) os b L q = ap (Then (Write s)) (without_placed ends d os b L q.1)
without_placed ends (Then (Copy x) d) os b L q = ap (Then (Copy x)) (without_placed ends d os b L q.1)
without_placed ends (Then (For x y s e) d) os b L q = ap (λ z. Then (For x y s z) (without (add_offs (place ends d) os))) (without_placed ends e (ends x) b (x ∷ L) q.0.2) ∙ ap (Then (For x y s e)) (without_placed ends d os b L q.1)
without_placed ends (Then (If c a e) d) os b L q = ap (λ z. Then (If c z (without e)) (without (add_offs (place ends d) os))) (without_core a false L q.0.1) ∙ (ap (λ z. Then (If c a z) (without (add_offs (place ends d) os))) (without_core e false L q.0.2) ∙ ap (Then (If c a e)) (without_placed ends d os b L q.1))
without_placed ends (Then (SignOff o) d) os b L q = absurd q.0

pub without_is : (core : BodyTree) → Good core → without (reading core).body ≡ core
without_is core good = without_placed (at_end (offs_of core)) core (at_end (offs_of core) 0) true (0 ∷ []) good.inside

module _ (Q : OffTree → Type 0) where
  mutual
    item_only_in : (i : ItemTree) (t : OffTree) → Only_item Q i → In t (item_offs i) → Q t
    item_only_in (Write s) t q h = absurd h
    item_only_in (Copy x) t q h = absurd h
    item_only_in (For x y s d) t q h = only_in d t q h
    item_only_in (If c a b) t q h = elim (In-append t (offs_in a) (offs_in b) h) [ inl i ↦ only_in a t q.0 i | inr i ↦ only_in b t q.1 i ]
    item_only_in (SignOff o) t q (inl e) = subst Q e q
    item_only_in (SignOff o) t q (inr h) = absurd h

    only_in : (d : BodyTree) (t : OffTree) → Only Q d → In t (offs_in d) → Q t
    only_in Nil t q h = absurd h
    only_in (Then i d) t q h = elim (In-append t (item_offs i) (offs_in d) h) [ inl j ↦ item_only_in i t q.0 j | inr j ↦ only_in d t q.1 j ]

module _ (p : OffTree → Bool) (b : ℕ) where
  none_of : (xs ys : List OffTree) → filter p xs ≡ [] → filter p ys ≡ [] → filter p (xs ++ ys) ≡ []
  none_of xs ys e f = filter-append p xs ys ∙ (ap (λ z. z ++ filter p ys) e ∙ f)

  mutual
    quiet_item_none : (i : ItemTree) → quiet_item p i ≡ true → filter p (item_offs i) ≡ []
    quiet_item_none (Write s) q = refl
    quiet_item_none (Copy x) q = refl
    quiet_item_none (For x y s d) q = quiet_none d q
    quiet_item_none (If c a e) q = let r = and_parts (quiet p a) (quiet p e) q in none_of (offs_in a) (offs_in e) (quiet_none a r.0) (quiet_none e r.1)
    quiet_item_none (SignOff o) q = rw (not-true (p o) q) refl

    quiet_none : (d : BodyTree) → quiet p d ≡ true → filter p (offs_in d) ≡ []
    quiet_none Nil q = refl
    quiet_none (Then i d) q = let r = and_parts (quiet_item p i) (quiet p d) q in none_of (item_offs i) (offs_in d) (quiet_item_none i r.0) (quiet_none d r.1)

  abbrev One : List OffTree → Type 0
  One xs = (t : OffTree) × (filter p xs ≡ t ∷ [])

  one_left : (xs ys : List OffTree) → One xs → filter p ys ≡ [] → One (xs ++ ys)
  one_left xs ys h e = (h.0, filter-append p xs ys ∙ (ap (λ z. z ++ filter p ys) h.1 ∙ ap (λ z. h.0 ∷ z) e))

  one_right : (xs ys : List OffTree) → filter p xs ≡ [] → One ys → One (xs ++ ys)
  one_right xs ys e h = (h.0, filter-append p xs ys ∙ (ap (λ z. z ++ filter p ys) e ∙ h.1))

  own_one : (d : BodyTree) → Own p b d → One (offs_in d)
  own_one d (Before {i = i} {d = rest} q o) = one_right (item_offs i) (offs_in rest) (quiet_item_none i q) (own_one rest o)
  own_one d (Itself {o = o} {d = rest} f g q) = one_left (o ∷ []) (offs_in rest) (o, rw f refl) (quiet_none rest q)

  way_one : (y : ℕ) (d : BodyTree) (path : List Step) → Way p b y d path → One (offs_in d)
  way_one y d path (Top o) = own_one d o
  way_one y d path (Skip {i = i} {d = rest} {s = s} {path = path'} q wy) = one_right (item_offs i) (offs_in rest) (quiet_item_none i q) (way_one y rest (s ∷ path') wy)
  way_one y d path (Here {x = x} {e = e} {d = rest} {path = path'} wy q) = one_left (offs_in e) (offs_in rest) (way_one x e path' wy) (quiet_none rest q)

-- Of each role exactly one statement stands in the plan, its own.
pub one_statement : (core : BodyTree) → Good core → (o : OffTree) → In o (reading core).offs → filter (of_role o.role) (offs_in (reading core).body) ≡ o ∷ []
one_statement core good o i =
    let w = role_way core good o i in
    let r = way_one (of_role o.role) o.base 0 (reading core).body (var_tree core o.base).path w.0 in
    let t = In-filter (of_role o.role) r.0 (offs_in (reading core).body) (subst (λ (z : List OffTree). In r.0 z) (sym r.1) (inl refl)) in
    let known : In r.0 (offs_of core) = only_in (λ q. In q (offs_of core)) (reading core).body r.0 (plan_only core good) t.0 in
    r.1 ∙ ap (λ (z : OffTree). z ∷ []) (same_role (var_tree core) (roles_of core) 0 (roles_of core) r.0 o known i (eqb-true _ _ t.1))

-- And each that stands there is one of the plan's.
pub statements_only : (core : BodyTree) → Good core → (o : OffTree) → In o (offs_in (reading core).body) → In o (reading core).offs
statements_only core good o i = only_in (λ q. In q (offs_of core)) (reading core).body o (plan_only core good) i
