use Rattle.engine_tests.proofs.Acted.{beside_on}
use Rattle.engine_tests.proofs.engines.turns.act.Goals as goal

pub act-requires : goal.act-requires
act-requires c = record { past = c.requires.0; taken = c.requires.1; beside = c.requires.2; stand = tt }

pub returns : goal.returns
returns c = beside_on _ _ _ _ _ _ _ _ (c.in_ok-act.ensures.acts c.requires.0 c.requires.1 c.requires.2 tt).0
