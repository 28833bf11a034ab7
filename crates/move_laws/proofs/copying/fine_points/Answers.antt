use Rattle.move_laws.proofs.CopyMoves as from
use Rattle.move_laws.proofs.copying.fine_points.Goals as goal

pub returns : goal.returns
returns c = from.fine_points
