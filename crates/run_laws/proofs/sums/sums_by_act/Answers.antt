use Rattle.run_laws.proofs.Summing as from
use Rattle.run_laws.proofs.sums.sums_by_act.Goals as goal

pub returns : goal.returns
returns c = from.sums_by_act
