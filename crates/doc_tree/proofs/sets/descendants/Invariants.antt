use Rattle.std.proofs.Common.{◌≡◌, Bool, drop}
use Rattle.gcx_model.specs.Tree.{Node}
use Rattle.doc_tree.specs.Sets.{members}
use Rattle.doc_tree.proofs.Below.{Goes}
use Rattle.doc_tree.proofs.sets.descendants.Given as goal

abbrev pub invariant-loop-node : goal.invariant-loop-node
invariant-loop-node l = (f : Node → Bool) → l.set ≡ members f l.rows → Goes l.rows l.test f (drop l.node-index l.set) l.done l.found.items
