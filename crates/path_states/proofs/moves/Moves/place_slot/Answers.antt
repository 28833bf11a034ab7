use Rattle.std.proofs.Common.{◌∙◌, ap, inl, inr, Some}
use Rattle.path_states.proofs.moves.Moves.place_slot.Goals as goal

pub returns-in-Some : goal.returns-in-Some
returns-in-Some c = record { count = c.place_it.ensures.count; adds = λ m i. elim (c.place_it.ensures.adds m i) [ inl j ↦ inl j | inr e ↦ inr (c.in-Some.is ∙ ap Some e) ] }
