use Rattle.std.proofs.Common.{◌∙◌, List, sym, subst}
use Rattle.gcx_model.specs.declared.plan.Plan.{Plan}
use Rattle.many_run.specs.Many.{ManyStart}
use Rattle.many_run.specs.Runs.{RanMany}
use Rattle.many_run.proofs.RunOn.{ran_none}
use Rattle.many_run.proofs.Turns.{counted_plans}
use Rattle.many_run.proofs.running.run_many.Goals as goal

pub returns-in_default-clause-ran : goal.returns-in_default-clause-ran
returns-in_default-clause-ran g c = ran_none c.args.plans.now c.args.limits c.args.doc c.args.outs.now (g.F.Shelf.seen c.args.files.now) c.requires.apart

pub run-ended-requires-clause-may : goal.run-ended-requires-clause-may
run-ended-requires-clause-may g c = record { count = c.requires.counts.2 ∙ counted_plans c.in-Ok.many c.args.plans.now c.in-Ok.ensures.plans_are; apart = c.requires.apart }

pub run-ended-requires-clause-starts : goal.run-ended-requires-clause-starts
run-ended-requires-clause-starts g c =
    (c.args.limits, subst (λ (z : List Plan). ManyStart g.C.Conds.stands z c.args.limits c.in-Ok.many) (sym c.in-Ok.ensures.plans_are) c.in-Ok.ensures)

pub returns-clause-ran : goal.returns-clause-ran
returns-clause-ran g c =
    let start = subst (λ (z : List Plan). ManyStart g.C.Conds.stands z c.args.limits c.in-Ok.many) (sym c.in-Ok.ensures.plans_are) c.in-Ok.ensures in
    subst (λ (n : _). RanMany c.args.plans.now c.args.limits c.run-ended.result n c.args.doc c.args.outs.now (g.F.Shelf.seen c.args.files.now) (g.F.Shelf.seen c.run-ended.new.files)) (sym c.bytes.ensures)
    (subst (λ (z : List Plan). RanMany z c.args.limits c.run-ended.result c.run-ended.new.many.bytes c.args.doc c.args.outs.now (g.F.Shelf.seen c.args.files.now) (g.F.Shelf.seen c.run-ended.new.files)) c.in-Ok.ensures.plans_are
    (c.run-ended.ensures.ran c.args.limits start))
