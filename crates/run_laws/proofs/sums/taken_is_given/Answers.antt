use Rattle.run_laws.proofs.Summing as from
use Rattle.run_laws.proofs.sums.taken_is_given.Goals as goal

pub returns : goal.returns
returns c = from.taken_is_given
