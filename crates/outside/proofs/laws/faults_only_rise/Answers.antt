use Rattle.outside.proofs.Owing as from
use Rattle.outside.proofs.laws.faults_only_rise.Goals as goal

pub returns : goal.returns
returns c = from.faults_only_rise
