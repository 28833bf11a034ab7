use Rattle.outside.proofs.Owing as from
use Rattle.outside.proofs.laws.only_more_taken.Goals as goal

pub returns : goal.returns
returns c = from.only_more_taken
