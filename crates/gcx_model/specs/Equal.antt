-- Whether two statements are one and the same, as a test (this project's).
use Rattle.std.specs.Prelude.{Bool, true, false, ◌&&◌, List, [], ◌∷◌, ◌==◌, bytes_eq}
use Rattle.gcx_base.specs.declared.steps.Axis.{Axis}
use Rattle.gcx_base.specs.declared.steps.Axis.TheVariants.{Child, Descendant}
use Rattle.gcx_base.specs.declared.steps.Test.{Test}
use Rattle.gcx_base.specs.declared.steps.Test.TheVariants.{Named, AnyElement, AnyText, AnyNode}
use Rattle.gcx_base.specs.declared.steps.Step.{Step}
use Rattle.gcx_model.specs.Core.{RoleTarget, Own, First, Whole, OffTree}

abbrev pub axis_eq : Axis → Axis → Bool
axis_eq Child Child = true
axis_eq Descendant Descendant = true
axis_eq a b = false

abbrev pub test_eq : Test → Test → Bool
test_eq (Named m) (Named n) = bytes_eq m n
test_eq AnyElement AnyElement = true
test_eq AnyText AnyText = true
test_eq AnyNode AnyNode = true
test_eq t u = false

abbrev pub steps_eq : List Step → List Step → Bool
steps_eq [] [] = true
steps_eq (s ∷ ss) (t ∷ ts) = (axis_eq s.axis t.axis && test_eq s.test t.test) && steps_eq ss ts
steps_eq ss ts = false

abbrev pub kind_eq : RoleTarget → RoleTarget → Bool
kind_eq Own Own = true
kind_eq First First = true
kind_eq Whole Whole = true
kind_eq k l = false

abbrev pub off_eq : OffTree → OffTree → Bool
off_eq o p = (((o.base == p.base) && (o.own == p.own)) && (o.role == p.role)) && ((steps_eq o.rel p.rel && steps_eq o.tail p.tail) && kind_eq o.kind p.kind)
