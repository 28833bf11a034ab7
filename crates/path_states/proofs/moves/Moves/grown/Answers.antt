use Rattle.std.proofs.Common.{List, None, Option, Some, inl, inr, ◌∙◌, subst, arith}
use Rattle.gcx_model.specs.Members.{In}
use Rattle.path_states.specs.declared.moves.Move.{Move}
use Rattle.path_states.proofs.Gaining.{in_get}
use Rattle.path_states.proofs.moves.Moves.grown.Goals as goal

pub loop-slot-init : goal.loop-slot-init
loop-slot-init c = let e = c.in_ok-slots.ensures.count in record { count = omega arith; moves = λ m i. absurd (c.in_ok-slots.ensures.none m i) }

pub loop-slot-preserved : goal.loop-slot-preserved
loop-slot-preserved c = record {
  count = c.place_slot.ensures.count ∙ c.loop-slot.invariant.count;
  moves = λ m i. elim (c.place_slot.ensures.adds m i) [
    | inl j ↦ c.loop-slot.invariant.moves m j
    | inr e ↦ subst (λ (z : List (Option Move)). In (Some m) z) c.deref-slot-items.ensures.value
        (subst (λ (z : Option Move). In z c.deref-slot-items.result.now) e (in_get c.deref-slot-items.result.now c.loop-slot.slot-index None c.loop-slot-test.true))
  ];
}
