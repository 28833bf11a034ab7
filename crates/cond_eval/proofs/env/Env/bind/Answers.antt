use Rattle.std.proofs.Common.{ap, ◌∙◌, arith}
use Rattle.std.specs.FinMap as map
use Rattle.cond_eval.specs.Bindings.{bindings}
use Rattle.cond_eval.proofs.Variables.{bound_more, bound_set}
use Rattle.cond_eval.proofs.env.Env.bind.Goals as goal

pub loop-self-preserved : goal.loop-self-preserved
loop-self-preserved c = ap bindings c.in_ok-push.ensures.items ∙ (bound_more c.loop-self.self-inside.nodes.items ∙ c.loop-self.invariant)

pub returns-clause-ok : goal.returns-clause-ok
returns-clause-ok c =
    bound_set c.loop-self.self-inside.nodes.items c.args.var.0 (record { place = c.args.place; serial = c.args.serial }) (omega arith)
    ∙ ap (λ m. map.insert m c.args.var.0 (c.args.place.0, c.args.serial.0)) (c.loop-self.invariant ∙ c.self.view_is)
