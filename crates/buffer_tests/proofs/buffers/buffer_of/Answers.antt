use Rattle.gcx_model.specs.PlanView.{plan_tree}
use Rattle.buffer_tests.proofs.buffers.buffer_of.Goals as goal

pub returns-in_ok-new-clause-stands : goal.returns-in_ok-new-clause-stands
returns-in_ok-new-clause-stands g c = c.in_ok-new.ensures.stands c.requires.placed.0 (plan_tree c.args.plan.now) c.requires.placed.1 c.requires.placed.2 c.requires.given
