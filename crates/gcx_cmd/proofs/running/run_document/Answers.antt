use Rattle.std.proofs.Common.{rules, ◌≡◌, ◌≤◌, inl, refl, ap, arith}
use Rattle.engine.specs.declared.report.Ended.TheVariants as end
use Rattle.gcx_io.specs.Causes.{Rose}
use Rattle.gcx_io.specs.Views.{ShelfView}
use Rattle.gcx_cmd.proofs.Attached.{unattached, unattached_cause, unattached_keeps, unattached_memory}
use Rattle.gcx_cmd.proofs.DocRuns.{document_runs, ended_fault}
use Rattle.gcx_cmd.proofs.FileRead.{faults_seen, file_read}
use Rattle.gcx_cmd.specs.World.{world}
use Rattle.gcx_cmd.specs.ReadEnd.{attach_status}
use Rattle.gcx_cmd.specs.Reads.{KeepsShelf}
use Rattle.gcx_cmd.specs.Runs.{DocumentRuns}
use Rattle.gcx_cmd.specs.Status.{ended_status}
use Rattle.gcx_cmd.proofs.running.run_document.Goals as goal

pub returns-in-Err-clause-runs : goal.returns-in-Err-clause-runs
returns-in-Err-clause-runs g c = λ q is.
    let runs : DocumentRuns c.args.tracing c.args.ahead q c.args.name.now (attach_status c.in-Err.fault)
    (world (g.F.Shelf.seen c.args.files.now) (g.O.Sink.seen c.args.out.now) (g.E.Sink.seen c.args.err.now) (g.N.NodeStore.rows c.args.nodes.now) (g.N.NodeStore.most_held c.args.nodes.now)) (world (g.F.Shelf.seen c.attach.new.self) (g.O.Sink.seen c.args.out.now) (g.E.Sink.seen c.args.err.now) (g.N.NodeStore.rows c.args.nodes.now) (g.N.NodeStore.most_held c.args.nodes.now)) =
    unattached _ _ _ (λ s. DocumentRuns c.args.tracing c.args.ahead q c.args.name.now s
    (world (g.F.Shelf.seen c.args.files.now) (g.O.Sink.seen c.args.out.now) (g.E.Sink.seen c.args.err.now) (g.N.NodeStore.rows c.args.nodes.now) (g.N.NodeStore.most_held c.args.nodes.now)) (world (g.F.Shelf.seen c.attach.new.self) (g.O.Sink.seen c.args.out.now) (g.E.Sink.seen c.args.err.now) (g.N.NodeStore.rows c.args.nodes.now) (g.N.NodeStore.most_held c.args.nodes.now))) c.in-Err.fault c.in-Err.ensures.attaches
    (λ gone. inl (record { out = refl; err = refl; store = refl }, gone)) (λ none. inl (record { out = refl; err = refl; store = refl }, none)) in
    rw c.from.ensures runs

pub returns-in-Err-clause-keeps : goal.returns-in-Err-clause-keeps
returns-in-Err-clause-keeps g c =
    let before = ap (λ (v : ShelfView). v.faults) (g.met.F.Shelf.sees c.args.files.now) in
    let after = ap (λ (v : ShelfView). v.faults) (g.met.F.Shelf.sees c.attach.new.self) in
    let later : (g.F.Shelf.seen c.args.files.now).faults ≤ (g.F.Shelf.seen c.attach.new.self).faults = omega (arith, c.attach.ensures.later, before, after) in
    unattached_keeps _ _ _ c.in-Err.fault c.in-Err.ensures.attaches later

pub returns-in-Err-clause-cause : goal.returns-in-Err-clause-cause
returns-in-Err-clause-cause g c = λ is. unattached_cause _ _ _ c.in-Err.fault c.in-Err.ensures.attaches (search (rules, is))

pub returns-in-Err-clause-memory : goal.returns-in-Err-clause-memory
returns-in-Err-clause-memory g c = rw c.from.ensures (unattached_memory c.in-Err.fault)

pub returns-clause-runs : goal.returns-clause-runs
returns-clause-runs g c = λ q is.
    let a = g.F.Shelf.seen c.args.files.now in
    let n = c.run_plan-report.new.source.files.now in
    let f = file_read g.F.Shelf.names g.F.Shelf.given g.F.Shelf.refused g.F.Shelf.faults g.F.Shelf.write_faults g.F.Shelf.seen g.F.Shelf.handles g.F.Shelf.left g.F.Shelf.named
    g.met.F.Shelf.sees g.met.F.Shelf.counts g.met.F.Shelf.lefts c.args.name.now a c.attach.new.self c.new-source.result.files.now n _ _ _
    c.in-Ok.ensures.attaches.0 c.in-Ok.ensures.attaches.1 c.new-source.ensures.same (search rules) c.run_plan-report.ensures.kept.1 c.run_plan-report.ensures.kept.2 in
    let runs : DocumentRuns c.args.tracing c.args.ahead q c.args.name.now (ended_status c.run_plan-report.result.ended)
    (world a (g.O.Sink.seen c.args.out.now) (g.E.Sink.seen c.args.err.now) (g.N.NodeStore.rows c.args.nodes.now) (g.N.NodeStore.most_held c.args.nodes.now))
    (world (g.F.Shelf.seen n) (g.O.Sink.seen c.run_plan-report.new.out) (g.E.Sink.seen c.run_plan-report.new.err) (g.N.NodeStore.rows c.run_plan-report.new.nodes)
    (g.N.NodeStore.most_held c.run_plan-report.new.nodes)) =
    document_runs c.args.tracing c.args.ahead q c.args.name.now _ _ _ _ f c.run_plan-report.result (c.run_plan-report.ensures.runs q is) in
    let back : c.files-1.given.0 ≡ n = search rules in
    search (rules, back, runs)

pub returns-clause-keeps : goal.returns-clause-keeps
returns-clause-keeps g c =
    let a = g.F.Shelf.seen c.args.files.now in
    let n = c.run_plan-report.new.source.files.now in
    let f = file_read g.F.Shelf.names g.F.Shelf.given g.F.Shelf.refused g.F.Shelf.faults g.F.Shelf.write_faults g.F.Shelf.seen g.F.Shelf.handles g.F.Shelf.left g.F.Shelf.named
    g.met.F.Shelf.sees g.met.F.Shelf.counts g.met.F.Shelf.lefts c.args.name.now a c.attach.new.self c.new-source.result.files.now n _ _ _
    c.in-Ok.ensures.attaches.0 c.in-Ok.ensures.attaches.1 c.new-source.ensures.same (search rules) c.run_plan-report.ensures.kept.1 c.run_plan-report.ensures.kept.2 in
    let first = c.attach.ensures.later in
    let next = c.run_plan-report.ensures.counts.0 in
    let up : g.F.Shelf.faults c.args.files.now ≤ g.F.Shelf.faults n = omega (arith, first, next, ap g.F.Shelf.faults c.new-source.ensures.same) in
    let keeps : KeepsShelf a (g.F.Shelf.seen n) = f.keeps (faults_seen g.F.Shelf.names g.F.Shelf.given g.F.Shelf.refused g.F.Shelf.faults g.F.Shelf.write_faults g.F.Shelf.seen g.F.Shelf.handles g.F.Shelf.left g.F.Shelf.named
    g.met.F.Shelf.sees g.met.F.Shelf.counts g.met.F.Shelf.lefts c.args.files.now n up) in
    let back : c.files-1.given.0 ≡ n = search rules in
    rw back keeps

pub returns-clause-cause : goal.returns-clause-cause
returns-clause-cause g c = λ is.
    let n = c.run_plan-report.new.source.files.now in
    let before = ap (λ (v : ShelfView). v.faults) (g.met.F.Shelf.sees c.args.files.now) in
    let after = ap (λ (v : ShelfView). v.faults) (g.met.F.Shelf.sees n) in
    let same = ap g.F.Shelf.faults c.new-source.ensures.same in
    let failed : c.run_plan-report.result.ended ≡ end.ReadFault = ended_fault c.run_plan-report.result.ended (search (rules, is)) in
    let rose : Rose (g.F.Shelf.faults c.new-source.result.files.now) (g.F.Shelf.faults n) = c.run_plan-report.ensures.cause failed in
    let since : Rose (g.F.Shelf.seen c.args.files.now).faults (g.F.Shelf.seen n).faults = omega (arith, rose, before, after, same, c.attach.ensures.later) in
    let back : c.files-1.given.0 ≡ n = search rules in
    rw back (inl since)
