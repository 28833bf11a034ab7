use Rattle.time_laws.proofs.Judged as from
use Rattle.time_laws.proofs.checking.line_ends_law.Goals as goal

pub returns : goal.returns
returns c = from.line_ends_law
