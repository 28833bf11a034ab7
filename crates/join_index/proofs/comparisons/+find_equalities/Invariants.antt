use Rattle.std.proofs.Common.{take}
use Rattle.join_index.specs.Equalities.{NoneKept}
use Rattle.join_index.proofs.Gathering.{GathersItems}
use Rattle.join_index.proofs.comparisons.+find_equalities.Given as goal

abbrev pub invariant-put_body-loop-item : goal.invariant-put_body-loop-item
invariant-put_body-loop-item l = record {
  all : GathersItems l.fn.found.items l.found.items (take l.item-index l.item-items);
  none : NoneKept l.fn.found.items → NoneKept l.found.items;
}
