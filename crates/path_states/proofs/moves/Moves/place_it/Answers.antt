use Rattle.std.proofs.Common.{Some}
use Rattle.std.proofs.Math.ListN.{length-set}
use Rattle.path_states.proofs.Slots.{adds_set}
use Rattle.path_states.proofs.moves.Moves.place_it.Goals as goal

pub returns-in-Some : goal.returns-in-Some
returns-in-Some c = record { adds = adds_set c.args.self.now.slots.items c.in-Some.at c.args.one; count = length-set c.args.self.now.slots.items c.in-Some.at (Some c.args.one) }
