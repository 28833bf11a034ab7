use Rattle.std.proofs.Common.{List, [], ◌∷◌, None, length, sym, ap, subst, arith, Option}
use Rattle.std.proofs.lemmas.List.{length-append}
use Rattle.path_states.specs.Moves.{HasNone}
use Rattle.path_states.specs.declared.moves.Move.{Move}
use Rattle.path_states.proofs.Slots.{none_push}
use Rattle.path_states.proofs.moves.empty_slots.Goals as goal

pub loop-init : goal.loop-init
loop-init c = record { none = subst (λ (z : List (Option Move)). HasNone z) (sym c.new-slots.ensures.items) (λ m i. i); count = ap length c.new-slots.ensures.items }

pub loop-preserved : goal.loop-preserved
loop-preserved c =
    let e = ap length c.in_ok-push.ensures.items in
    let f = length-append c.loop.slots.items (None ∷ []) in
    let g = c.loop.invariant.count in
    record { none = none_push c.loop.slots.items c.push.new.self.items c.in_ok-push.ensures.items c.loop.invariant.none; count = omega arith }
