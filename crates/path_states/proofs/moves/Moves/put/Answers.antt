use Rattle.std.proofs.Common.{◌*◌, ℕ, inl, inr, ◌∙◌, ap}
use Rattle.path_states.proofs.Slots.{adds_twice}
use Rattle.path_states.proofs.moves.Moves.put.Goals as goal

pub returns-then-place_it : goal.returns-then-place_it
returns-then-place_it c = record { adds = c.place_it.ensures.adds; count = inl c.place_it.ensures.count }

pub returns-then-may_grow : goal.returns-then-may_grow
returns-then-may_grow c = record {
  adds = adds_twice c.args.self.now.slots.items c.place_it.new.self.slots.items c.grow_for.new.self.slots.items c.args.one c.place_it.ensures.adds c.grow_for.ensures.adds;
  count = elim c.grow_for.ensures.count [
    | inl e ↦ inl (e ∙ c.place_it.ensures.count)
    | inr g ↦ inr (c.if-may_grow.true, g.1 ∙ ap (λ (z : ℕ). 2 * z) c.place_it.ensures.count)
  ];
}

pub returns-else-may_grow : goal.returns-else-may_grow
returns-else-may_grow c = record { adds = c.place_it.ensures.adds; count = inl c.place_it.ensures.count }
