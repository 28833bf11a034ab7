use Rattle.gcx_model.specs.PlanView.{plan_tree}
use Rattle.buffer_tests.proofs.FeedsLate.{late_of}
use Rattle.buffer_tests.proofs.buffers.late.told_late.Goals as goal

pub feed_first-requires : goal.feed_first-requires
feed_first-requires g c =
    (plan_tree c.args.plan.now, late_of (plan_tree c.args.plan.now) c.args.bytes.now _ _ _ (c.in_ok-projector.ensures _ c.args.document.now c.in_ok-reader.ensures))
