use Rattle.gcx_model.specs.Past.{opening_past}
use Rattle.gcx_model.specs.PlanView.{plan_tree}
use Rattle.engine_tests.proofs.engines.turns.begin.Goals as goal

pub new_spread-requires-clause-given : goal.new_spread-requires-clause-given
new_spread-requires-clause-given c =
    let q = c.requires.placed in
    c.in_ok-given.ensures (opening_past (plan_tree c.args.plan.now)) (c.in_ok-projector.ensures.stands q.0 q.1 q.2)

pub returns : goal.returns
returns c = c.in_ok-machine.ensures.stands _ c.in_ok-buffer.ensures.stands c.in_ok-buffer.ensures.started.taken
