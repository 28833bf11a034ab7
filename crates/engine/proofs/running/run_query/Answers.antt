use Rattle.engine.specs.Runs.{Reports}
use Rattle.engine.specs.declared.report.Report.{Report}
use Rattle.engine.proofs.Reporting.{few_in_tree, numbers_of}
use Rattle.std.proofs.Common.{◌<◌, ◌^◌, length, ap, subst}
use Rattle.gcx_model.specs.declared.plan.Plan.{Plan}
use Rattle.run_part.specs.declared.actors.Tallied.{Tallied}
use Rattle.engine.proofs.running.run_query.Goals as goal

pub returns-clause-numbers : goal.returns-clause-numbers
returns-clause-numbers g c = λ lim b ended h.
    let e = c.run-ended.new.engine in
    let n = c.counts-counts.result in
    let t : Report = record { ended = c.run-ended.result; taken_bytes = n.bytes; nodes = c.nodes.result; peak = n.tallied.peak; given = n.tallied.given; taken = n.taken; held = c.held.result } in
    let reports : Reports t e = record {
      bytes = c.counts-counts.ensures.bytes;
      nodes = c.nodes.ensures;
      peak = ap (λ (z : Tallied). z.peak) c.counts-counts.ensures.tallied;
      given = ap (λ (z : Tallied). z.given) c.counts-counts.ensures.tallied;
      taken = c.counts-counts.ensures.taken;
      held_is = c.held.ensures;
    } in
    let few : length e.plan.roles < 2 ^ 64 = subst (λ (z : Plan). length z.roles < 2 ^ 64) c.plan.ensures c.few_roles.ensures in
    numbers_of g.C.Conds.stands lim e b ended t (few_in_tree e.plan few) reports h
