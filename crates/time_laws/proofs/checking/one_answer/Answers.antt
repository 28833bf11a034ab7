use Rattle.time_laws.proofs.Judged as from
use Rattle.time_laws.proofs.checking.one_answer.Goals as goal

pub returns : goal.returns
returns c = from.one_answer
