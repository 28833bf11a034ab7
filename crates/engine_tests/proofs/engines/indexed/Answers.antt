use Rattle.gcx_model.specs.Tree.{opening}
use Rattle.engine_tests.proofs.engines.indexed.Goals as goal

pub returns : goal.returns
returns c = c.in_ok-conds.ensures.fresh opening
