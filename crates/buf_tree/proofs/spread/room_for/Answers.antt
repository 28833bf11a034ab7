use Rattle.std.proofs.Common.{arith, ◌∙◌}
use Rattle.buf_tree.proofs.Tables.{room_next, room_all}
use Rattle.buf_tree.proofs.spread.room_for.Goals as goal

pub loop-slot-init : goal.loop-slot-init
loop-slot-init c = λ r top below e. absurd (omega (arith, below))

pub loop-slot-preserved : goal.loop-slot-preserved
loop-slot-preserved c = room_next c.args.tops.now c.loop-slot.slot-index c.slot-item.result _ _ c.loop-slot-test.true c.loop-slot.invariant c.make_room_for.ensures.grown
    (λ top e. c.in_ok-make_room_for.ensures.room top (c.slot-item.is ∙ e))

pub returns : goal.returns
returns c = room_all c.args.tops.now c.loop-slot.slot-index _ c.loop-slot-test.false c.loop-slot.invariant
