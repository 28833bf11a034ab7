use Rattle.std.proofs.Common.{ap, arith, count_by, is_some}
use Rattle.node_store.proofs.SlabRows.{told_new}
use Rattle.node_store.proofs.slab_nodes.SlabNodes.new.Goals as goal

pub invariant_of-result : goal.invariant_of-result
invariant_of-result g c = (told_new c.new.result c.new.ensures.empty).sound 0 (omega (arith, ap (count_by is_some) c.new.ensures.empty))

pub returns-clause-rows : goal.returns-clause-rows
returns-clause-rows g c = (told_new c.new.result c.new.ensures.empty).rows_are
