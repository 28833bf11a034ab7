use Rattle.std.proofs.Common.{rules, ◌≡◌, ◌≤◌, ℕ, ◌∙◌, sym, ap, subst, arith}
use Rattle.std.specs.FinMap as map
use Rattle.gcx_base.specs.Limits.{full_limits}
use Rattle.gcx_base.specs.declared.limits.Limits.{Limits}
use Rattle.gcx_io.specs.Causes.{Rose}
use Rattle.gcx_io.specs.Views.{SinkView, SourceView}
use Rattle.gcx_model.specs.PlanView.{plan_tree}
use Rattle.gcx_model.specs.Tree.{opening}
use Rattle.join_index.specs.Index.{IsIndex}
use Rattle.engine.specs.Engine.{MostIs, Starts}
use Rattle.engine.specs.Runs.{TellsBy}
use Rattle.gcx_cmd.specs.Running.{IsPlanOf, IsPlaced}
use Rattle.gcx_cmd.proofs.Runs.{emptied_by, no_memory_by, rose_by, runs_nothing, same_name, source_runs}
use Rattle.gcx_cmd.proofs.Tells.{telling, tells_by}
use Rattle.gcx_cmd.proofs.running.run_plan.Goals as goal

pub new-requires-2-clause-conds : goal.new-requires-2-clause-conds
new-requires-2-clause-conds g c = c.in-Ok.ensures.fresh opening

pub returns-in_default-clause-runs : goal.returns-in_default-clause-runs
returns-in_default-clause-runs g c = λ q is. runs_nothing c.args.tracing c.args.ahead q c.nothing_run.result _ _ _ _ _ c.nothing_run.ensures

pub returns-in_default-new-clause-runs : goal.returns-in_default-new-clause-runs
returns-in_default-new-clause-runs g c = λ q is. runs_nothing c.args.tracing c.args.ahead q c.nothing_run-in_default-new.result _ _ _ _ _ c.nothing_run-in_default-new.ensures

pub returns-clause-runs : goal.returns-clause-runs
returns-clause-runs g c = λ q is.
    let e = c.run_query-report.new.engine in
    let same = c.run_query-report.ensures.same.plan ∙ c.in-Ok-new.ensures.plan in
    let starts : Starts IsIndex full_limits c.in-Ok-new.engine = subst (λ (l : Limits). Starts IsIndex l c.in-Ok-new.engine) c.full-limits.ensures c.in-Ok-new.ensures.starts in
    let tells : TellsBy (telling c.args.tracing) c.in-Ok-new.engine = tells_by c.args.tracing c.in-Ok-new.engine c.in-Ok-new.ensures.tracing c.in-Ok-new.ensures.silent in
    let ran = c.run_query-report.ensures.ran full_limits (telling c.args.tracing) starts tells in
    let fresh : MostIs 0 c.in-Ok-new.engine = subst (λ (n : ℕ). MostIs n c.in-Ok-new.engine) c.requires.new.1 c.in-Ok-new.ensures.most in
    let of_plan : IsPlanOf q (plan_tree e.plan) = subst (λ p. IsPlanOf q (plan_tree p)) (sym same) is in
    let all = source_runs IsIndex c.args.tracing e c.run_query-report.result _ _ _ _ _ _ ran q c.args.ahead (g.N.NodeStore.rows c.finish_nodes.result.now) (g.N.NodeStore.most_held c.finish_nodes.result.now)
    of_plan (c.run_query-report.ensures.same.ahead ∙ c.in-Ok-new.ensures.ahead) (c.finish_nodes.ensures.shape, c.finish_nodes.ensures.alike) c.finish_nodes.ensures.most (c.run_query-report.ensures.most 0 fresh)
    (c.run_query-report.ensures.numbers full_limits) in
    let name = same_name (c.finish_nodes.ensures.loans ∙ (c.run_query-report.ensures.same.loans ∙ c.in-Ok-new.ensures.loans)) in
    let back : c.nodes-2-1.given.0 ≡ c.finish_nodes.result.now = search (rules, name) in
    rw back all

pub returns-clause-emptied : goal.returns-clause-emptied
returns-clause-emptied g c = λ ok.
    let e = c.run_query-report.new.engine in
    let same = c.run_query-report.ensures.same.plan ∙ c.in-Ok-new.ensures.plan in
    let starts : Starts IsIndex full_limits c.in-Ok-new.engine = subst (λ (l : Limits). Starts IsIndex l c.in-Ok-new.engine) c.full-limits.ensures c.in-Ok-new.ensures.starts in
    let tells : TellsBy (telling c.args.tracing) c.in-Ok-new.engine = tells_by c.args.tracing c.in-Ok-new.engine c.in-Ok-new.ensures.tracing c.in-Ok-new.ensures.silent in
    let ran = c.run_query-report.ensures.ran full_limits (telling c.args.tracing) starts tells in
    let placed : IsPlaced (plan_tree e.plan) = subst (λ p. IsPlaced (plan_tree p)) (sym same) c.requires.placed in
    let none : g.N.NodeStore.rows c.finish_nodes.result.now ≡ map.empty =
    emptied_by IsIndex c.args.tracing e c.run_query-report.result _ _ _ _ _ _ ran (g.N.NodeStore.rows c.finish_nodes.result.now) placed (c.finish_nodes.ensures.shape, c.finish_nodes.ensures.alike) ok in
    let name = same_name (c.finish_nodes.ensures.loans ∙ (c.run_query-report.ensures.same.loans ∙ c.in-Ok-new.ensures.loans)) in
    search (rules, name, none)

pub returns-clause-memory : goal.returns-clause-memory
returns-clause-memory g c =
    let e = c.run_query-report.new.engine in
    let starts : Starts IsIndex full_limits c.in-Ok-new.engine = subst (λ (l : Limits). Starts IsIndex l c.in-Ok-new.engine) c.full-limits.ensures c.in-Ok-new.ensures.starts in
    let tells : TellsBy (telling c.args.tracing) c.in-Ok-new.engine = tells_by c.args.tracing c.in-Ok-new.engine c.in-Ok-new.ensures.tracing c.in-Ok-new.ensures.silent in
    no_memory_by IsIndex c.args.tracing e c.run_query-report.result _ _ _ _ _ _ (c.run_query-report.ensures.ran full_limits (telling c.args.tracing) starts tells)

pub returns-clause-cause : goal.returns-clause-cause
returns-clause-cause g c = λ is.
    let e = c.run_query-report.new.engine in
    let starts : Starts IsIndex full_limits c.in-Ok-new.engine = subst (λ (l : Limits). Starts IsIndex l c.in-Ok-new.engine) c.full-limits.ensures c.in-Ok-new.ensures.starts in
    let tells : TellsBy (telling c.args.tracing) c.in-Ok-new.engine = tells_by c.args.tracing c.in-Ok-new.engine c.in-Ok-new.ensures.tracing c.in-Ok-new.ensures.silent in
    let rose = rose_by IsIndex c.args.tracing e c.run_query-report.result _ _ _ _ _ _ (c.run_query-report.ensures.ran full_limits (telling c.args.tracing) starts tells) is in
    let before = ap (λ (v : SourceView). v.faults) (g.met.S.Source.sees c.args.source.now) in
    let after = ap (λ (v : SourceView). v.faults) (g.met.S.Source.sees c.run_query-report.new.doc) in
    let goes : Rose (g.S.Source.faults c.args.source.now) (g.S.Source.faults c.run_query-report.new.doc) = omega (arith, rose, before, after) in
    goes

pub returns-clause-counts : goal.returns-clause-counts
returns-clause-counts g c =
    let o = ap (λ (v : SinkView). v.faults) (g.met.O.Sink.sees c.args.out.now) in
    let p = ap (λ (v : SinkView). v.faults) (g.met.O.Sink.sees c.run_query-report.new.out) in
    let d = ap (λ (v : SinkView). v.faults) (g.met.E.Sink.sees c.args.err.now) in
    let f = ap (λ (v : SinkView). v.faults) (g.met.E.Sink.sees c.run_query-report.new.err) in
    let out : (g.O.Sink.seen c.args.out.now).faults ≤ (g.O.Sink.seen c.run_query-report.new.out).faults = omega (arith, o, p, c.run_query-report.ensures.ports.write_count) in
    let err : (g.E.Sink.seen c.args.err.now).faults ≤ (g.E.Sink.seen c.run_query-report.new.err).faults = omega (arith, d, f, c.run_query-report.ensures.ports.trace_count) in
    (c.run_query-report.ensures.ports.read_count, out, err)

pub returns-clause-kept : goal.returns-clause-kept
returns-clause-kept g c = c.run_query-report.ensures.ports.kept
