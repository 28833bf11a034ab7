use Rattle.std.proofs.Common.{◌≡◌, ◌≤◌, ◌++◌, max}
use Rattle.doc_tree.specs.Sets.{passing}
use Rattle.doc_tree.proofs.sets.put_passing.Given as goal

abbrev pub invariant-loop-index : goal.invariant-loop-index
invariant-loop-index l = record {
  to : l.index ≤ max l.from l.end;
  put : l.found.items ≡ l.fn.found.items ++ passing l.test l.rows l.from l.index;
}
