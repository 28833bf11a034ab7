use Rattle.move_laws.proofs.CopyMoves as from
use Rattle.move_laws.proofs.copying.copy_steps.Goals as goal

pub returns : goal.returns
returns c = from.copy_steps
