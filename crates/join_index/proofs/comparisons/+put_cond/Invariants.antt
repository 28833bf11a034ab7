use Rattle.std.proofs.Common.{take}
use Rattle.join_index.specs.Equalities.{NoneKept}
use Rattle.join_index.proofs.Gathering.{GathersConds}
use Rattle.join_index.proofs.comparisons.+put_cond.Given as goal

abbrev pub invariant-loop-inner : goal.invariant-loop-inner
invariant-loop-inner l = record {
  all : GathersConds l.fn.found.items l.found.items (take l.inner-index l.inner-items);
  none : NoneKept l.fn.found.items → NoneKept l.found.items;
}

abbrev pub decreases-put_cond : goal.decreases-put_cond
decreases-put_cond l = goal.size-put_cond l
