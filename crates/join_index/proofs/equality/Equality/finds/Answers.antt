use Rattle.std.proofs.Common.{false}
use Rattle.join_index.proofs.Looking.{fits_look, found_so, may_look, no_list}
use Rattle.join_index.proofs.equality.Equality.finds.Goals as goal

pub returns-in_default-clause-found : goal.returns-in_default-clause-found
returns-in_default-clause-found g c = no_list c.args.buffer.now c.args.place.0 c.args.of.0 c.args.self.now c.args.self.now false c.in_default.is

pub look_up-requires-clause-may : goal.look_up-requires-clause-may
look_up-requires-clause-may g c = may_look c.args.buffer.now c.args.place.0 c.args.of c.args.self.now c.in-Some.list c.in-Some.is c.turn_to.new.seen c.turn_to.ensures c.requires

pub look_up-requires-clause-fits : goal.look_up-requires-clause-fits
look_up-requires-clause-fits g c = fits_look c.args.buffer.now c.args.place.0 c.args.of c.args.self.now c.in-Some.list c.in-Some.is c.turn_to.new.seen c.turn_to.ensures c.requires

pub returns-clause-found : goal.returns-clause-found
returns-clause-found g c =
    found_so c.args.buffer.now c.args.place.0 c.args.of c.args.self.now c.in-Some.list c.in-Some.is c.turn_to.new.seen c.turn_to.ensures c.look_up.new.seen c.in_ok-found.ensures.frame c.in_ok-found.found c.in_ok-found.ensures.told
