use Rattle.std.proofs.Common.{◌∙◌, ap}
use Rattle.gcx_model.specs.ItemView.{body_of}
use Rattle.gcx_model.specs.PlanView.{plan_tree}
use Rattle.pull_eval.specs.Position.{items}
use Rattle.pull_eval.proofs.Beginning.{beside_new}
use Rattle.pull_eval.proofs.machine.Machine.new.Goals as goal

pub returns-clause-stands : goal.returns-clause-stands
returns-clause-stands g c v s e =
    let n = c.new.ensures in
    beside_new (plan_tree c.args.plan.now) c.new.result v
    (record { rest = ap items n.rest ∙ ap body_of c.items.ensures.trees; round = n.round; seen = n.seen; below = n.below; copying = n.copying; turns = n.turns; begun = n.begun }) s e
