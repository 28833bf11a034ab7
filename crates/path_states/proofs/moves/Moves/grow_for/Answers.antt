use Rattle.std.proofs.Common.{inr, refl, ◌∙◌}
use Rattle.path_states.proofs.Slots.{adds_over}
use Rattle.path_states.proofs.moves.Moves.grow_for.Goals as goal

pub returns-in-Ok : goal.returns-in-Ok
returns-in-Ok c = record {
  adds = adds_over c.args.self.now.slots.items c.in-Ok.grown.slots.items c.place_it.new.self.slots.items c.args.one c.in-Ok.ensures.moves c.place_it.ensures.adds;
  count = inr (refl, c.place_it.ensures.count ∙ c.in-Ok.ensures.count);
}
