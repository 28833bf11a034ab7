use Rattle.join_index.proofs.Others.{compare_without, exists_without}
use Rattle.join_index.proofs.comparisons.gets_no_list.Goals as goal

pub returns-in-Exists : goal.returns-in-Exists
returns-in-Exists c e = exists_without c.args.cond.now c.in-Exists.var c.in-Exists.steps c.in-Exists.is

pub returns-in-Compare : goal.returns-in-Compare
returns-in-Compare c e = compare_without c.args.cond.now c.in-Compare.left c.in-Compare.rel c.in-Compare.right c.in-Compare.is (c.is_other.ensures e)
