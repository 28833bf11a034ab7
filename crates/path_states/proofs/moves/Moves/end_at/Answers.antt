use Rattle.std.proofs.Common.{Some, ◌∙◌, ap}
use Rattle.path_states.proofs.Looking.{read_at}
use Rattle.path_states.proofs.Slots.{remembered_at}
use Rattle.path_states.proofs.moves.Moves.end_at.Goals as goal

pub returns-in-Some-slot : goal.returns-in-Some-slot
returns-in-Some-slot c = remembered_at c.args.self.now c.deref.result.now c.args.at c.in-Some-slot.known c.args.from c.args.number c.end_of.result c.deref.ensures.value
    (read_at c.deref.result.now c.args.at c.in-Some.slot.now c.in-Some.ensures.lookup.3.0 c.in-Some.ensures.lookup.1 ∙ ap Some c.in-Some-slot.is) c.end_of.ensures
