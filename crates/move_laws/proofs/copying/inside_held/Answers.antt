use Rattle.move_laws.proofs.CopyMoves as from
use Rattle.move_laws.proofs.copying.inside_held.Goals as goal

pub returns : goal.returns
returns c = from.inside_held
