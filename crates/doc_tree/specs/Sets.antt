-- Sets of nodes, and what one step reaches from a set.
use Rattle.std.specs.Prelude.{ℕ, suc, ◌-◌, Bool, false, ◌&&◌, List, map, take, drop}
use Rattle.std.specs.List.{filter}
use Rattle.gcx_base.specs.declared.steps.Axis.{Axis}
use Rattle.gcx_base.specs.declared.steps.Axis.TheVariants.{Child, Descendant}
use Rattle.gcx_base.specs.declared.steps.Step.{Step}
use Rattle.gcx_base.specs.declared.steps.Test.{Test}
use Rattle.gcx_model.specs.Tree.{Node, Root, Under, serial_of, kind_of, above}
use Rattle.gcx_base.specs.Tests.{passes}
use Rattle.gcx_model.specs.Paths.{any}
use Rattle.doc_tree.specs.declared.row.Row.{Row}
use Rattle.doc_tree.specs.Rows.{nodes_of}

-- the numbers of the nodes in the set, in document order
abbrev pub members : (Node → Bool) → List Row → List ℕ
members f rows = map serial_of (filter f (nodes_of rows))

-- the numbers of the nodes of the rows in the range that pass the test
abbrev pub passing : Test → List Row → (from end : ℕ) → List ℕ
passing t rows from end = map serial_of (filter (λ m. passes t (kind_of m)) (take (end - from) (drop (suc from) (nodes_of rows))))

-- the step to the children that pass the test, and that to the descendants
abbrev pub to_children : Test → Step
to_children t = record { axis = Child; test = t }

abbrev pub to_descendants : Test → Step
to_descendants t = record { axis = Descendant; test = t }

-- the parent is in the set
abbrev pub child_of : (Node → Bool) → Node → Bool
child_of f Root = false
child_of f (Under p s k) = f p

-- a node above it is in the set
abbrev pub below : (Node → Bool) → Node → Bool
below f Root = false
below f (Under p s k) = any f (above p)

-- what the axis reaches from the set
abbrev pub along : Axis → (Node → Bool) → Node → Bool
along Child f m = child_of f m
along Descendant f m = below f m

-- what the step reaches from the set
abbrev pub stepped : Step → (Node → Bool) → Node → Bool
stepped s f m = passes s.test (kind_of m) && along s.axis f m
