use Rattle.outside.specs.Follows.{wrote_on}
use Rattle.outside.proofs.laws.writes_follow.Goals as goal

pub returns : goal.returns
returns c = wrote_on
