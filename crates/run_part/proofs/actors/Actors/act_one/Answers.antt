use Rattle.std.proofs.Common.{refl}
use Rattle.run_part.proofs.actors.Actors.act_one.Goals as goal

pub act_told-requires-clause-some : goal.act_told-requires-clause-some
act_told-requires-clause-some g c = c.requires

-- any number of bytes may wait
pub act_told-requires-clause-few : goal.act_told-requires-clause-few
act_told-requires-clause-few g c = (tt, tt)

pub returns-clause-err : goal.returns-clause-err
returns-clause-err g c = c.act_told.ensures.err refl

pub returns-clause-projector : goal.returns-clause-projector
returns-clause-projector g c = c.act_told.ensures.alone.projector

pub returns-clause-counts : goal.returns-clause-counts
returns-clause-counts g c = c.act_told.ensures.alone.counts

pub returns-clause-most : goal.returns-clause-most
returns-clause-most g c = c.act_told.ensures.alone.most

pub returns-clause-loans : goal.returns-clause-loans
returns-clause-loans g c = c.act_told.ensures.alone.loans
