use Rattle.std.proofs.Common.{◌≡◌, ◌∙◌, [], subst, sym}
use Rattle.gcx_model.specs.Demand.{text_of_lines, trace_lines}
use Rattle.gcx_model.specs.PlanView.{plan_tree}
use Rattle.gcx_model.specs.Tree.{opening}
use Rattle.gcx_model.specs.declared.plan.Plan.{Plan}
use Rattle.run_part.specs.Actors.{all_of, bytes_at}
use Rattle.engine.specs.View.{seen_part}
use Rattle.engine.proofs.Making.{starts}
use Rattle.engine.proofs.engine.Engine.new.Goals as goal

pub returns-clause-starts : goal.returns-clause-starts
returns-clause-starts g c =
    let p = seen_part c.in_ok-part.part in
    let o = c.in_ok-part.ensures in
    let plan = sym o.plan.0 in
    starts g.C.Conds.stands c.args.limits p c.new-reader.result c.args.ahead (record { depth = c.requires.depth; bytes = c.requires.bytes }) o.stands
    (subst (λ (z : Plan). p.out ≡ bytes_at (plan_tree z) opening (all_of (plan_tree z) opening)) plan o.written)
    (λ wanted. subst (λ (z : Plan). p.trace ≡ text_of_lines (trace_lines (plan_tree z) [])) plan (o.traced (sym o.plan.1 ∙ wanted))) c.new-reader.ensures.stands c.new-reader.ensures.nothing

pub returns-clause-silent : goal.returns-clause-silent
returns-clause-silent g c = λ h. record { untold = c.in_ok-part.ensures.plan.1 ∙ h; empty = c.in_ok-part.ensures.silent h }

pub returns-clause-plan : goal.returns-clause-plan
returns-clause-plan g c = c.in_ok-part.ensures.plan.0

pub returns-clause-ahead : goal.returns-clause-ahead
returns-clause-ahead g c = c.in_ok-part.ensures.stands.0

pub returns-clause-tracing : goal.returns-clause-tracing
returns-clause-tracing g c = c.in_ok-part.ensures.plan.1

pub returns-clause-most : goal.returns-clause-most
returns-clause-most g c = c.in_ok-part.ensures.most

pub returns-clause-loans : goal.returns-clause-loans
returns-clause-loans g c = c.in_ok-part.ensures.loans
