use Rattle.std.proofs.Common.{◌≡◌, take}
use Rattle.std.specs.Prelude.{flat_map}
use Rattle.gcx_model.specs.Paths.{reach}
use Rattle.doc_tree.specs.Sets.{members, to_children}
use Rattle.doc_tree.proofs.sets.children.Given as goal

abbrev pub invariant-loop-node : goal.invariant-loop-node
invariant-loop-node l = l.found.items ≡ flat_map (λ n. members (reach n (to_children l.test)) l.rows) (take l.node-index l.set)
