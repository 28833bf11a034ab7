use Rattle.std.proofs.Common.{rules, ◌≡◌, inl, ◌≤◌, refl, ap, arith}
use Rattle.std.proofs.lemmas.Result.{err_from_is_err_and}
use Rattle.std.specs.declared.result.Result.TheVariants.{Ok, Err}
use Rattle.engine.specs.declared.report.Ended.TheVariants as end
use Rattle.gcx_io.specs.Causes.{Rose}
use Rattle.gcx_io.specs.Views.{ShelfView}
use Rattle.gcx_cmd.specs.ReadEnd.{attach_status}
use Rattle.gcx_cmd.proofs.Attached.{unattached, unattached_cause, unattached_keeps, unattached_memory}
use Rattle.gcx_cmd.proofs.DocRuns.{ended_fault}
use Rattle.gcx_cmd.proofs.FileRead.{faults_seen, file_read}
use Rattle.gcx_cmd.proofs.Measures.{measures_ok, measures_stop, ended_ok}
use Rattle.gcx_cmd.specs.World.{StoreView}
use Rattle.gcx_cmd.specs.Reads.{KeepsShelf}
use Rattle.gcx_cmd.specs.Runs.{DocumentMeasures, stored}
use Rattle.gcx_cmd.specs.Status.{ended_status}
use Rattle.gcx_cmd.proofs.peak.measure_document.Goals as goal

pub returns-in_err-handle-clause-measures : goal.returns-in_err-handle-clause-measures
returns-in_err-handle-clause-measures g c = λ q is.
    let p = err_from_is_err_and c.from_residual.result c.from_residual.ensures.1 in
    let does : DocumentMeasures q c.args.name.now (Err (attach_status c.in_err-handle.field-0.0)) (g.F.Shelf.seen c.args.files.now) (g.F.Shelf.seen c.attach.new.self) (stored (g.N.NodeStore.rows c.args.nodes.now) (g.N.NodeStore.most_held c.args.nodes.now)) (stored (g.N.NodeStore.rows c.args.nodes.now) (g.N.NodeStore.most_held c.args.nodes.now)) = unattached _ _ _ (λ s. DocumentMeasures q c.args.name.now (Err s) (g.F.Shelf.seen c.args.files.now) (g.F.Shelf.seen c.attach.new.self) (stored (g.N.NodeStore.rows c.args.nodes.now) (g.N.NodeStore.most_held c.args.nodes.now)) (stored (g.N.NodeStore.rows c.args.nodes.now) (g.N.NodeStore.most_held c.args.nodes.now))) c.in_err-handle.field-0.0 c.in_err-handle.ensures.attaches (λ gone. inl (refl, gone)) (λ none. inl (refl, none)) in
    rw (p.1, p.2) does

pub returns-in_err-handle-clause-keeps : goal.returns-in_err-handle-clause-keeps
returns-in_err-handle-clause-keeps g c =
    let before = ap (λ (v : ShelfView). v.faults) (g.met.F.Shelf.sees c.args.files.now) in
    let after = ap (λ (v : ShelfView). v.faults) (g.met.F.Shelf.sees c.attach.new.self) in
    let later : (g.F.Shelf.seen c.args.files.now).faults ≤ (g.F.Shelf.seen c.attach.new.self).faults = omega (arith, c.attach.ensures.later, before, after) in
    unattached_keeps _ _ _ c.in_err-handle.field-0.0 c.in_err-handle.ensures.attaches later

pub returns-in_err-handle-clause-cause : goal.returns-in_err-handle-clause-cause
returns-in_err-handle-clause-cause g c = λ is.
    let p = err_from_is_err_and c.from_residual.result c.from_residual.ensures.1 in
    unattached_cause _ _ _ c.in_err-handle.field-0.0 c.in_err-handle.ensures.attaches (search (rules, is, p.1, p.2))

pub returns-in_err-handle-clause-memory : goal.returns-in_err-handle-clause-memory
returns-in_err-handle-clause-memory g c =
    let p = err_from_is_err_and c.from_residual.result c.from_residual.ensures.1 in
    rw (p.1, p.2) (unattached_memory c.in_err-handle.field-0.0)

pub returns-in-Ok-clause-measures : goal.returns-in-Ok-clause-measures
returns-in-Ok-clause-measures g c = λ q is.
    let a = g.F.Shelf.seen c.args.files.now in
    let n = c.run_plan-report.new.source.files.now in
    let f = file_read g.F.Shelf.names g.F.Shelf.given g.F.Shelf.refused g.F.Shelf.faults g.F.Shelf.write_faults g.F.Shelf.seen g.F.Shelf.handles g.F.Shelf.left g.F.Shelf.named
    g.met.F.Shelf.sees g.met.F.Shelf.counts g.met.F.Shelf.lefts c.args.name.now a c.attach.new.self c.new-source.result.files.now n _ _ _
    c.in_ok-handle.ensures.attaches.0 c.in_ok-handle.ensures.attaches.1 c.new-source.ensures.same (search rules) c.run_plan-report.ensures.kept.1 c.run_plan-report.ensures.kept.2 in
    let before : StoreView = stored (g.N.NodeStore.rows c.args.nodes.now) (g.N.NodeStore.most_held c.args.nodes.now) in
    let after : StoreView = stored (g.N.NodeStore.rows c.run_plan-report.new.nodes) (g.N.NodeStore.most_held c.run_plan-report.new.nodes) in
    let m : DocumentMeasures q c.args.name.now (Ok c.run_plan-report.result) a (g.F.Shelf.seen n) before after =
    measures_ok q c.args.name.now a (g.F.Shelf.seen n) _ _ f _ _ _ _ before after c.run_plan-report.result (c.run_plan-report.ensures.runs q is) refl c.in-Ok.is in
    let back : c.files-1.given.0 ≡ n = search rules in
    rw back m

pub returns-in-Ok-clause-keeps : goal.returns-in-Ok-clause-keeps
returns-in-Ok-clause-keeps g c =
    let a = g.F.Shelf.seen c.args.files.now in
    let n = c.run_plan-report.new.source.files.now in
    let f = file_read g.F.Shelf.names g.F.Shelf.given g.F.Shelf.refused g.F.Shelf.faults g.F.Shelf.write_faults g.F.Shelf.seen g.F.Shelf.handles g.F.Shelf.left g.F.Shelf.named
    g.met.F.Shelf.sees g.met.F.Shelf.counts g.met.F.Shelf.lefts c.args.name.now a c.attach.new.self c.new-source.result.files.now n _ _ _
    c.in_ok-handle.ensures.attaches.0 c.in_ok-handle.ensures.attaches.1 c.new-source.ensures.same (search rules) c.run_plan-report.ensures.kept.1 c.run_plan-report.ensures.kept.2 in
    let first = c.attach.ensures.later in
    let next = c.run_plan-report.ensures.counts.0 in
    let up : g.F.Shelf.faults c.args.files.now ≤ g.F.Shelf.faults n = omega (arith, first, next, ap g.F.Shelf.faults c.new-source.ensures.same) in
    let keeps : KeepsShelf a (g.F.Shelf.seen n) = f.keeps (faults_seen g.F.Shelf.names g.F.Shelf.given g.F.Shelf.refused g.F.Shelf.faults g.F.Shelf.write_faults g.F.Shelf.seen g.F.Shelf.handles g.F.Shelf.left g.F.Shelf.named
    g.met.F.Shelf.sees g.met.F.Shelf.counts g.met.F.Shelf.lefts c.args.files.now n up) in
    let back : c.files-1.given.0 ≡ n = search rules in
    rw back keeps

pub returns-in_default-clause-measures : goal.returns-in_default-clause-measures
returns-in_default-clause-measures g c = λ q is.
    let a = g.F.Shelf.seen c.args.files.now in
    let n = c.run_plan-report.new.source.files.now in
    let f = file_read g.F.Shelf.names g.F.Shelf.given g.F.Shelf.refused g.F.Shelf.faults g.F.Shelf.write_faults g.F.Shelf.seen g.F.Shelf.handles g.F.Shelf.left g.F.Shelf.named
    g.met.F.Shelf.sees g.met.F.Shelf.counts g.met.F.Shelf.lefts c.args.name.now a c.attach.new.self c.new-source.result.files.now n _ _ _
    c.in_ok-handle.ensures.attaches.0 c.in_ok-handle.ensures.attaches.1 c.new-source.ensures.same (search rules) c.run_plan-report.ensures.kept.1 c.run_plan-report.ensures.kept.2 in
    let before : StoreView = stored (g.N.NodeStore.rows c.args.nodes.now) (g.N.NodeStore.most_held c.args.nodes.now) in
    let after : StoreView = stored (g.N.NodeStore.rows c.run_plan-report.new.nodes) (g.N.NodeStore.most_held c.run_plan-report.new.nodes) in
    let m : DocumentMeasures q c.args.name.now (Err (ended_status c.run_plan-report.result.ended)) a (g.F.Shelf.seen n) before after =
    measures_stop q c.args.name.now a (g.F.Shelf.seen n) _ _ f _ _ _ _ before after c.run_plan-report.result (c.run_plan-report.ensures.runs q is) refl c.run_plan-report.result.ended refl c.in_default.not-Ok in
    let back : c.files-1.given.0 ≡ n = search rules in
    search (rules, back, m)

pub returns-in_default-clause-keeps : goal.returns-in_default-clause-keeps
returns-in_default-clause-keeps g c =
    let a = g.F.Shelf.seen c.args.files.now in
    let n = c.run_plan-report.new.source.files.now in
    let f = file_read g.F.Shelf.names g.F.Shelf.given g.F.Shelf.refused g.F.Shelf.faults g.F.Shelf.write_faults g.F.Shelf.seen g.F.Shelf.handles g.F.Shelf.left g.F.Shelf.named
    g.met.F.Shelf.sees g.met.F.Shelf.counts g.met.F.Shelf.lefts c.args.name.now a c.attach.new.self c.new-source.result.files.now n _ _ _
    c.in_ok-handle.ensures.attaches.0 c.in_ok-handle.ensures.attaches.1 c.new-source.ensures.same (search rules) c.run_plan-report.ensures.kept.1 c.run_plan-report.ensures.kept.2 in
    let first = c.attach.ensures.later in
    let next = c.run_plan-report.ensures.counts.0 in
    let up : g.F.Shelf.faults c.args.files.now ≤ g.F.Shelf.faults n = omega (arith, first, next, ap g.F.Shelf.faults c.new-source.ensures.same) in
    let keeps : KeepsShelf a (g.F.Shelf.seen n) = f.keeps (faults_seen g.F.Shelf.names g.F.Shelf.given g.F.Shelf.refused g.F.Shelf.faults g.F.Shelf.write_faults g.F.Shelf.seen g.F.Shelf.handles g.F.Shelf.left g.F.Shelf.named
    g.met.F.Shelf.sees g.met.F.Shelf.counts g.met.F.Shelf.lefts c.args.files.now n up) in
    let back : c.files-1.given.0 ≡ n = search rules in
    rw back keeps

pub returns-in_default-clause-emptied : goal.returns-in_default-clause-emptied
returns-in_default-clause-emptied g c = λ ok. c.run_plan-report.ensures.emptied (ended_ok c.run_plan-report.result.ended (search (rules, ok)))

pub returns-in_default-clause-cause : goal.returns-in_default-clause-cause
returns-in_default-clause-cause g c = λ is.
    let n = c.run_plan-report.new.source.files.now in
    let before = ap (λ (v : ShelfView). v.faults) (g.met.F.Shelf.sees c.args.files.now) in
    let after = ap (λ (v : ShelfView). v.faults) (g.met.F.Shelf.sees n) in
    let same = ap g.F.Shelf.faults c.new-source.ensures.same in
    let failed : c.run_plan-report.result.ended ≡ end.ReadFault = ended_fault c.run_plan-report.result.ended (search (rules, is)) in
    let rose : Rose (g.F.Shelf.faults c.new-source.result.files.now) (g.F.Shelf.faults n) = c.run_plan-report.ensures.cause failed in
    let since : Rose (g.F.Shelf.seen c.args.files.now).faults (g.F.Shelf.seen n).faults = omega (arith, rose, before, after, same, c.attach.ensures.later) in
    let back : c.files-1.given.0 ≡ n = search rules in
    rw back (inl since)
