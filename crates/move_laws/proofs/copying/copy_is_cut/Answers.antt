use Rattle.move_laws.proofs.CopyCut as from
use Rattle.move_laws.proofs.copying.copy_is_cut.Goals as goal

pub returns : goal.returns
returns c = from.copy_is_cut
