use Rattle.std.proofs.Common.{refl, subst}
use Rattle.gcx_base.specs.Limits.{full_limits}
use Rattle.gcx_base.specs.declared.limits.Limits.{Limits}
use Rattle.engine.specs.declared.report.Ended.TheVariants as end
use Rattle.many_run.proofs.RunOn.{ran_none}
use Rattle.many_run.specs.Runs.{RanMany}
use Rattle.gcx_cmd.proofs.ManyEnding.{lasts_by}
use Rattle.gcx_cmd.proofs.many.run_plans.Goals as goal

pub returns-in_default-clause-runs : goal.returns-in_default-clause-runs
returns-in_default-clause-runs g c = (end.Memory, refl, (ran_none c.args.plans.now full_limits c.args.doc c.args.outs.now (g.F.Shelf.seen c.args.files.now) c.requires.apart).run)

pub returns-in_default-conditions-clause-runs : goal.returns-in_default-conditions-clause-runs
returns-in_default-conditions-clause-runs g c = (end.Memory, refl, (ran_none c.args.plans.now full_limits c.args.doc c.args.outs.now (g.F.Shelf.seen c.args.files.now) c.requires.apart).run)

pub run_many-report-requires-clause-counts : goal.run_many-report-requires-clause-counts
run_many-report-requires-clause-counts g c = (c.in-Ok.ensures.count, c.in-Ok-conditions.ensures.count, c.requires.count)

pub run_many-report-requires-clause-empty : goal.run_many-report-requires-clause-empty
run_many-report-requires-clause-empty g c = c.in-Ok.ensures.empty

pub run_many-report-requires-clause-conds : goal.run_many-report-requires-clause-conds
run_many-report-requires-clause-conds g c = c.in-Ok-conditions.ensures.stand

pub returns-clause-runs : goal.returns-clause-runs
returns-clause-runs g c =
    let a = g.F.Shelf.seen c.args.files.now in
    let b = g.F.Shelf.seen c.run_many-report.new.files in
    let r = c.run_many-report.result in
    let ran : RanMany c.args.plans.now full_limits r.ended r.taken_bytes c.args.doc c.args.outs.now a b = subst (λ (l : Limits). RanMany c.args.plans.now l r.ended r.taken_bytes c.args.doc c.args.outs.now a b) c.full-limits.ensures c.run_many-report.ensures.ran in
    (c.run_many-report.result.ended, c.status_of.ensures, ran.run)

pub returns-clause-memory : goal.returns-clause-memory
returns-clause-memory g c = lasts_by c.run_many-report.result.ended c.status_of.result c.status_of.ensures c.run_many-report.ensures.memory
