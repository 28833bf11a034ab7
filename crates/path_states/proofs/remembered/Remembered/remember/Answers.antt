use Rattle.path_states.proofs.Rooming.{room_moved}
use Rattle.path_states.proofs.Slots.{adds_numbers}
use Rattle.path_states.proofs.remembered.Remembered.remember.Goals as goal

pub returns-in-Some-clause-moves : goal.returns-in-Some-clause-moves
returns-in-Some-clause-moves c = adds_numbers c.args.self.now.moves.slots.items c.put.new.self.slots.items c.in-Some.one c.args.from c.args.number c.args.to c.put.ensures.adds c.in-Some.ensures

pub returns-in-Some-clause-room : goal.returns-in-Some-clause-room
returns-in-Some-clause-room c = room_moved c.args.self.now c.put.new.self c.may_grow-may_grow.result c.put.ensures.count c.may_grow-may_grow.ensures
