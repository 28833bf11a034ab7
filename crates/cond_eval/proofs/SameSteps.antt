-- Steps that are compared.
use Rattle.std.proofs.Common.{◌≡◌, true, refl, ◌∙◌, ap, subst}
use Rattle.std.specs.Bool.{Decides}
use Rattle.std.proofs.lemmas.Bool.{and_from, and_parts, false≢true}
use Rattle.std.proofs.lemmas.Slice.Eq.{bytes_eq-Decides}
use denote.Enum.Bare.{sameb}
use Rattle.gcx_base.specs.contracts.steps.Axis.{the_type as axis_type}
use Rattle.gcx_base.specs.contracts.steps.TestPartialEq.TheImpl as same_test
use Rattle.gcx_base.specs.contracts.steps.StepPartialEq.TheImpl as same_step
use Rattle.gcx_base.specs.declared.steps.Axis.{Axis}
use Rattle.gcx_base.specs.declared.steps.Axis.TheVariants.{Child, Descendant}
use Rattle.gcx_base.specs.declared.steps.Test.{Test}
use Rattle.gcx_base.specs.declared.steps.Test.TheVariants.{Named, AnyElement, AnyText, AnyNode}
use Rattle.gcx_base.specs.declared.steps.Step.{Step}

axis_refl : (x : Axis) → sameb axis_type x x ≡ true
axis_refl Child = refl
axis_refl Descendant = refl

axis_same : (x y : Axis) → sameb axis_type x y ≡ true → x ≡ y
axis_same Child Child e = refl
axis_same Child Descendant e = absurd (false≢true e)
axis_same Descendant Child e = absurd (false≢true e)
axis_same Descendant Descendant e = refl

test_refl : (t : Test) → same_test.eq-value.it t t ≡ true
test_refl (Named n) = (bytes_eq-Decides n n).1 refl
test_refl AnyElement = refl
test_refl AnyText = refl
test_refl AnyNode = refl

test_same : (t u : Test) → same_test.eq-value.it t u ≡ true → t ≡ u
test_same (Named m) (Named n) e = ap Named ((bytes_eq-Decides m n).0 e)
test_same AnyElement AnyElement e = refl
test_same AnyText AnyText e = refl
test_same AnyNode AnyNode e = refl
test_same t u e = absurd (false≢true e)

step_refl : (s : Step) → same_step.eq-value.it s s ≡ true
step_refl s = and_from (sameb axis_type s.axis s.axis) (same_test.eq-value.it s.test s.test) (axis_refl s.axis) (test_refl s.test)

step_same : (s t : Step) → same_step.eq-value.it s t ≡ true → s ≡ t
step_same s t e =
    let p = and_parts (sameb axis_type s.axis t.axis) (same_test.eq-value.it s.test t.test) e in
    ap (λ (x : Axis). record { axis = x; test = s.test }) (axis_same s.axis t.axis p.0) ∙ ap (λ (u : Test). record { axis = t.axis; test = u }) (test_same s.test t.test p.1)

pub step_decides : (s t : Step) → Decides (same_step.eq-value.it s t) (s ≡ t)
step_decides s t = (step_same s t, λ e. subst (λ (z : Step). same_step.eq-value.it s z ≡ true) e (step_refl s))
