use Rattle.std.proofs.Common.{arith}
use Rattle.proj_tree.proofs.Falls.{fall_more}
use Rattle.proj_tree.proofs.depth.depth_behind.Goals as goal

pub loop-step-preserved : goal.loop-step-preserved
loop-step-preserved c =
    fall_more 4294967295 c.args.depth c.loop-step.reached c.saturating_add-reached.result c.fall.result c.args.steps.now c.loop-step.step-index c.step-item.result (omega arith) c.step-item.is
    c.loop-step.invariant c.fall.ensures c.saturating_add-reached.ensures
