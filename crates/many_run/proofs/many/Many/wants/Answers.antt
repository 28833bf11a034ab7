use Rattle.std.proofs.Common.{ap, sym, ◌∙◌}
use Rattle.many_run.specs.View.{ManyView}
use Rattle.many_run.proofs.many.Many.wants.Goals as goal

pub returns-clause-left : goal.returns-clause-left
returns-clause-left g c = λ wanted. let h = c.is_left.ensures.left wanted in (ap (λ (z : ManyView g.row.C.Denot). z.refused) (sym c.self.view_is) ∙ h.0, h.1)

pub returns-clause-over : goal.returns-clause-over
returns-clause-over g c = λ over fresh. c.is_left.ensures.over over (ap (λ (z : ManyView g.row.C.Denot). z.refused) c.self.view_is ∙ fresh)
