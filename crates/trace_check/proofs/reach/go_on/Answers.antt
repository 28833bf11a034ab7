use Rattle.std.proofs.Common.{take, ◌∙◌, ap}
use Rattle.trace_check.specs.Reaching.{numbers_of, stepped_on}
use Rattle.trace_check.proofs.Stepped.{stepped_more}
use Rattle.trace_check.proofs.reach.go_on.Goals as goal

pub loop-step-preserved : goal.loop-step-preserved
loop-step-preserved c f e =
    c.in_ok-nodes.ensures (stepped_on (take c.loop-step.step-index c.args.steps.now) f) (c.deref.ensures.value ∙ c.loop-step.invariant f e)
    ∙ ap (numbers_of c.args.tree.now) (stepped_more c.args.steps.now c.loop-step.step-index c.step-item.result f c.loop-step-test.true c.step-item.is)
