use Rattle.gcx_model.specs.PlanView.{plan_tree}
use Rattle.gcx_model.specs.Past.{opening_past}
use Rattle.buffer_tests.proofs.Feeds.{begun}
use Rattle.buffer_tests.proofs.buffers.begin.Goals as goal

pub buffer_of-requires-clause-given : goal.buffer_of-requires-clause-given
buffer_of-requires-clause-given g c =
    c.in_ok-given.ensures (opening_past (plan_tree c.args.plan.now)) (c.in_ok-projector.ensures.stands c.requires.placed.0 c.requires.placed.1 c.requires.placed.2)

pub returns : goal.returns
returns g c reader document s =
    let q = c.in_ok-projector.ensures.stands c.requires.placed.0 c.requires.placed.1 c.requires.placed.2 in
    begun _ reader document s _ q _ (c.in_ok-projector.ensures.place _ _ c.in_ok-buffer.ensures.started) c.in_ok-buffer.ensures.stands
