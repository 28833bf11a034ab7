use Rattle.std.proofs.Common.{◌∙◌, List, length, ap, map, sym, subst}
use Rattle.std.specs.declared.result.Result.TheVariants.{Err}
use Rattle.gcx_model.specs.declared.plan.Plan.{Plan}
use Rattle.many_run.specs.Each.{OfEach}
use Rattle.run_part.specs.Part.{IsOfCore}
use Rattle.gcx_cmd.proofs.ManyDone.{done_refused, done_run}
use Rattle.gcx_cmd.specs.ManyDoes.{AcceptsPlans}
use Rattle.gcx_cmd.proofs.many.write_many.Goals as goal

pub returns-in-Err : goal.returns-in-Err
returns-in-Err g c = record {
  does = λ out err store. done_refused c.args.document.now c.args.pairs.now c.in-Err.refused (g.F.Shelf.seen c.args.files.now) (g.F.Shelf.seen c.read_plans.new.files) out err store
      c.in-Err.ensures.stops (λ is. c.in-Err.ensures.cause (ap Err is)) c.in-Err.ensures.memory (c.read_plans.ensures.keeps (map (λ p. p.out) c.args.pairs.now));
}

pub run_into-requires-clause-placed : goal.run_into-requires-clause-placed
run_into-requires-clause-placed g c = subst (λ (z : List Plan). OfEach IsOfCore z) (sym c.deref.ensures.value) c.in-Ok.ensures.placed

pub run_into-requires-clause-count : goal.run_into-requires-clause-count
run_into-requires-clause-count g c = ap length c.deref.ensures.value ∙ c.in-Ok.ensures.count

pub returns : goal.returns
returns g c =
    let a = g.F.Shelf.seen c.args.files.now in
    let m = g.F.Shelf.seen c.read_plans.new.files in
    let accepted = subst (λ (z : List Plan). AcceptsPlans c.args.pairs.now a m z) (sym c.deref.ensures.value) c.in-Ok.ensures.accepted in
    record {
      does = λ out err store. done_run c.args.document.now c.args.pairs.now c.run_into.result a m (g.F.Shelf.seen c.run_into.new.files) out err store
          c.deref.result.now accepted (c.run_into.ensures.ends a accepted) c.run_into.ensures.cause c.run_into.ensures.write_cause c.run_into.ensures.memory
          (c.read_plans.ensures.keeps (map (λ p. p.out) c.args.pairs.now)) c.run_into.ensures.keeps;
    }
