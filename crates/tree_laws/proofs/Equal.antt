-- The test whether two statements are the same.
use Rattle.std.proofs.Common.{◌≡◌, Bool, true, false, ◌&&◌, List, [], ◌∷◌, refl, sym, ◌∙◌, ap, eqb}
use Rattle.std.specs.Prelude.{bytes_eq}
use Rattle.std.proofs.lemmas.Slice.Eq.{bytes_eq-Decides}
use Rattle.std.proofs.lemmas.Bool.{and_parts, and_from, false≢true, eqb-true, eq-eqb, false_from_ne_true}
use Rattle.gcx_base.specs.declared.steps.Axis.{Axis}
use Rattle.gcx_base.specs.declared.steps.Axis.TheVariants.{Child, Descendant}
use Rattle.gcx_base.specs.declared.steps.Test.{Test}
use Rattle.gcx_base.specs.declared.steps.Test.TheVariants.{Named, AnyElement, AnyText, AnyNode}
use Rattle.gcx_base.specs.declared.steps.Step.{Step}
use Rattle.gcx_model.specs.Core.{RoleTarget, Own, First, Whole, OffTree}
use Rattle.gcx_model.specs.Equal.{axis_eq, test_eq, steps_eq, kind_eq, off_eq}

axis_refl : (a : Axis) → axis_eq a a ≡ true
axis_refl Child = refl
axis_refl Descendant = refl

axis_same : (a b : Axis) → axis_eq a b ≡ true → a ≡ b
axis_same Child Child h = refl
axis_same Child Descendant h = absurd (false≢true h)
axis_same Descendant Child h = absurd (false≢true h)
axis_same Descendant Descendant h = refl

test_refl : (t : Test) → test_eq t t ≡ true
test_refl (Named n) = (bytes_eq-Decides n n).1 refl
test_refl AnyElement = refl
test_refl AnyText = refl
test_refl AnyNode = refl

test_same : (t u : Test) → test_eq t u ≡ true → t ≡ u
test_same (Named m) (Named n) h = ap Named ((bytes_eq-Decides m n).0 h)
test_same AnyElement AnyElement h = refl
test_same AnyText AnyText h = refl
test_same AnyNode AnyNode h = refl
test_same t u h = absurd (false≢true h)

kind_refl : (k : RoleTarget) → kind_eq k k ≡ true
kind_refl Own = refl
kind_refl First = refl
kind_refl Whole = refl

kind_same : (k l : RoleTarget) → kind_eq k l ≡ true → k ≡ l
kind_same Own Own h = refl
kind_same First First h = refl
kind_same Whole Whole h = refl
kind_same k l h = absurd (false≢true h)

steps_refl : (ss : List Step) → steps_eq ss ss ≡ true
steps_refl [] = refl
steps_refl (s ∷ ss) = and_from _ _ (and_from _ _ (axis_refl s.axis) (test_refl s.test)) (steps_refl ss)

steps_same : (ss ts : List Step) → steps_eq ss ts ≡ true → ss ≡ ts
steps_same [] [] h = refl
steps_same [] (t ∷ ts) h = absurd (false≢true h)
steps_same (s ∷ ss) [] h = absurd (false≢true h)
steps_same (s ∷ ss) (t ∷ ts) h =
    let q = and_parts (axis_eq s.axis t.axis && test_eq s.test t.test) (steps_eq ss ts) h in
    let r = and_parts (axis_eq s.axis t.axis) (test_eq s.test t.test) q.0 in
    let e : s ≡ t = ap (λ a. record { axis = a; test = s.test }) (axis_same s.axis t.axis r.0) ∙ ap (λ u. record { axis = t.axis; test = u }) (test_same s.test t.test r.1) in
    ap (λ (z : Step). z ∷ ss) e ∙ ap (λ z. t ∷ z) (steps_same ss ts q.1)

pub off_refl : (o : OffTree) → off_eq o o ≡ true
off_refl o = and_from _ _ (and_from _ _ (and_from _ _ (eq-eqb o.base o.base refl) (eq-eqb o.own o.own refl)) (eq-eqb o.role o.role refl)) (and_from _ _ (and_from _ _ (steps_refl o.rel) (steps_refl o.tail)) (kind_refl o.kind))

pub off_same : (o p : OffTree) → off_eq o p ≡ true → p ≡ o
off_same o p h =
    let q = and_parts (((eqb o.base p.base) && (eqb o.own p.own)) && (eqb o.role p.role)) ((steps_eq o.rel p.rel && steps_eq o.tail p.tail) && kind_eq o.kind p.kind) h in
    let a = and_parts ((eqb o.base p.base) && (eqb o.own p.own)) (eqb o.role p.role) q.0 in
    let b = and_parts (eqb o.base p.base) (eqb o.own p.own) a.0 in
    let c = and_parts (steps_eq o.rel p.rel && steps_eq o.tail p.tail) (kind_eq o.kind p.kind) q.1 in
    let d = and_parts (steps_eq o.rel p.rel) (steps_eq o.tail p.tail) c.0 in
    sym (ap (λ z. record { base = z; own = o.own; role = o.role; rel = o.rel; tail = o.tail; kind = o.kind }) (eqb-true _ _ b.0)
    ∙ (ap (λ z. record { base = p.base; own = z; role = o.role; rel = o.rel; tail = o.tail; kind = o.kind }) (eqb-true _ _ b.1)
    ∙ (ap (λ z. record { base = p.base; own = p.own; role = z; rel = o.rel; tail = o.tail; kind = o.kind }) (eqb-true _ _ a.1)
    ∙ (ap (λ z. record { base = p.base; own = p.own; role = p.role; rel = z; tail = o.tail; kind = o.kind }) (steps_same o.rel p.rel d.0)
    ∙ (ap (λ z. record { base = p.base; own = p.own; role = p.role; rel = p.rel; tail = z; kind = o.kind }) (steps_same o.tail p.tail d.1)
    ∙ ap (λ z. record { base = p.base; own = p.own; role = p.role; rel = p.rel; tail = p.tail; kind = z }) (kind_same o.kind p.kind c.1))))))

pub off_other : (o p : OffTree) → (p ≡ o → ⊥) → off_eq o p ≡ false
off_other o p n = false_from_ne_true _ (λ h. n (off_same o p h))
