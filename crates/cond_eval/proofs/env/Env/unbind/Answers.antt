use Rattle.std.proofs.Common.{ap, ◌∙◌, refl, arith}
use Rattle.std.specs.FinMap as map
use Rattle.cond_eval.specs.Bindings.{bindings}
use Rattle.cond_eval.proofs.Variables.{bound_cleared, bound_past, not_below}
use Rattle.cond_eval.proofs.env.Env.unbind.Goals as goal
use Rattle.cond_eval.proofs.env.Env.unbind.Goals.{in-Some, in_default}

pub returns : goal.returns
returns c = elim c.match-get_mut.branch [
  | in-Some w ↦ ap (λ s. bindings s.nodes.items) w.self-inside-is ∙ (bound_cleared c.self.inside.nodes.items c.args.var.0 (omega (arith, w.in-Some.ensures.variant.0 refl, c.self.inside.nodes.ok.0)) ∙ ap (λ m. map.remove m c.args.var.0) c.self.view_is)
  | in_default w ↦ ap (λ s. bindings s.nodes.items) w.self-inside-is ∙ (bound_past c.self.inside.nodes.items c.args.var.0 (not_below c.args.var.0 c.self.inside.nodes.items (λ h. w.in_default.ensures.variant.1 (omega (arith, h, c.self.inside.nodes.ok.0)))) ∙ ap (λ m. map.remove m c.args.var.0) c.self.view_is)
]
