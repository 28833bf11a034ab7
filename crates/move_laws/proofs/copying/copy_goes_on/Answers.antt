use Rattle.move_laws.proofs.CopyFrames as from
use Rattle.move_laws.proofs.copying.copy_goes_on.Goals as goal

pub returns : goal.returns
returns c = from.copy_goes_on
