use Rattle.outside.proofs.Owing as from
use Rattle.outside.proofs.laws.next_write_owed.Goals as goal

pub returns : goal.returns
returns c = from.next_write_owed
