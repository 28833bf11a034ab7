use Rattle.std.proofs.Common.{rules, ◌≡◌, ◌≤◌, ℕ, Result, Err, inl, map, ◌∙◌, sym, ap, subst, arith}
use Rattle.std.proofs.lemmas.Result.{err_from_is_err_and}
use Rattle.std.specs.Prelude.{IfErr}
use Rattle.gcx_io.specs.Causes.{Rose}
use Rattle.gcx_io.specs.Views.{ShelfView}
use Rattle.gcx_model.specs.PlanView.{plan_tree}
use Rattle.doc_reader.specs.Standing.{said_of}
use Rattle.trace_check.specs.Judging.{trace_of}
use Rattle.gcx_cmd.proofs.Attached.{unattached, unattached_cause, unattached_keeps, unattached_memory}
use Rattle.gcx_cmd.proofs.FileRead.{faults_seen, file_read}
use Rattle.gcx_cmd.proofs.Judged.{judged_does, judged_fault, judged_memory}
use Rattle.gcx_cmd.specs.CheckDoes.{TraceDoes}
use Rattle.gcx_cmd.specs.Main.{HasNoMemory}
use Rattle.gcx_cmd.specs.ReadEnd.{attach_status, verdict}
use Rattle.gcx_cmd.specs.Reads.{KeepsShelf}
use Rattle.gcx_cmd.specs.declared.status.Status.{Status}
use Rattle.gcx_cmd.proofs.checking.judge.Goals as goal

pub returns-in_err-handle-clause-judges : goal.returns-in_err-handle-clause-judges
returns-in_err-handle-clause-judges g c =
    let p = err_from_is_err_and c.from_residual.result c.from_residual.ensures.1 in
    let does : TraceDoes c.args.name.now (trace_of (plan_tree c.args.plan.now) (map said_of c.args.tokens.items)) (Err (attach_status c.in_err-handle.field-0.0)) (g.F.Shelf.seen c.args.files.now) (g.F.Shelf.seen c.attach.new.self) = unattached _ _ _ (λ s. TraceDoes c.args.name.now (trace_of (plan_tree c.args.plan.now) (map said_of c.args.tokens.items)) (Err s) (g.F.Shelf.seen c.args.files.now) (g.F.Shelf.seen c.attach.new.self)) c.in_err-handle.field-0.0 c.in_err-handle.ensures.attaches (λ gone. inl gone) (λ none. inl none) in
    rw (p.1, p.2) does

pub returns-in_err-handle-clause-keeps : goal.returns-in_err-handle-clause-keeps
returns-in_err-handle-clause-keeps g c =
    let before = ap (λ (v : ShelfView). v.faults) (g.met.F.Shelf.sees c.args.files.now) in
    let after = ap (λ (v : ShelfView). v.faults) (g.met.F.Shelf.sees c.attach.new.self) in
    let later : (g.F.Shelf.seen c.args.files.now).faults ≤ (g.F.Shelf.seen c.attach.new.self).faults = omega (arith, c.attach.ensures.later, before, after) in
    unattached_keeps _ _ _ c.in_err-handle.field-0.0 c.in_err-handle.ensures.attaches later

pub returns-in_err-handle-clause-cause : goal.returns-in_err-handle-clause-cause
returns-in_err-handle-clause-cause g c = λ is.
    let p = err_from_is_err_and c.from_residual.result c.from_residual.ensures.1 in
    unattached_cause _ _ _ c.in_err-handle.field-0.0 c.in_err-handle.ensures.attaches (search (rules, is, p.1, p.2))

pub returns-in_err-handle-clause-memory : goal.returns-in_err-handle-clause-memory
returns-in_err-handle-clause-memory g c =
    let p = err_from_is_err_and c.from_residual.result c.from_residual.ensures.1 in
    rw (p.1, p.2) (unattached_memory c.in_err-handle.field-0.0)

pub returns-clause-judges : goal.returns-clause-judges
returns-clause-judges g c =
    let a = g.F.Shelf.seen c.args.files.now in
    let n = c.check_run.new.trace.files.now in
    let text = trace_of (plan_tree c.args.plan.now) (map said_of c.args.tokens.items) in
    let f = file_read g.F.Shelf.names g.F.Shelf.given g.F.Shelf.refused g.F.Shelf.faults g.F.Shelf.write_faults g.F.Shelf.seen g.F.Shelf.handles g.F.Shelf.left g.F.Shelf.named
    g.met.F.Shelf.sees g.met.F.Shelf.counts g.met.F.Shelf.lefts c.args.name.now a c.attach.new.self c.new-source.result.files.now n _ _ _
    c.in_ok-handle.ensures.attaches.0 c.in_ok-handle.ensures.attaches.1 c.new-source.ensures.same (search rules) c.check_run.ensures.kept.1 c.check_run.ensures.kept.2 in
    let found : TraceDoes c.args.name.now text (verdict c.check_run.result) a (g.F.Shelf.seen n) = judged_does _ _ _ _ _ _ f c.check_run.result c.check_run.ensures.judged in
    let does : TraceDoes c.args.name.now text c.judged.result a (g.F.Shelf.seen n) =
    subst (λ (r : Result ℕ Status). TraceDoes c.args.name.now text r a (g.F.Shelf.seen n)) (sym c.judged.ensures) found in
    let back : c.files-1.given.0 ≡ n = search rules in
    rw back does

pub returns-clause-keeps : goal.returns-clause-keeps
returns-clause-keeps g c =
    let a = g.F.Shelf.seen c.args.files.now in
    let n = c.check_run.new.trace.files.now in
    let f = file_read g.F.Shelf.names g.F.Shelf.given g.F.Shelf.refused g.F.Shelf.faults g.F.Shelf.write_faults g.F.Shelf.seen g.F.Shelf.handles g.F.Shelf.left g.F.Shelf.named
    g.met.F.Shelf.sees g.met.F.Shelf.counts g.met.F.Shelf.lefts c.args.name.now a c.attach.new.self c.new-source.result.files.now n _ _ _
    c.in_ok-handle.ensures.attaches.0 c.in_ok-handle.ensures.attaches.1 c.new-source.ensures.same (search rules) c.check_run.ensures.kept.1 c.check_run.ensures.kept.2 in
    let up : g.F.Shelf.faults c.args.files.now ≤ g.F.Shelf.faults n = omega (arith, c.attach.ensures.later, c.check_run.ensures.later, ap g.F.Shelf.faults c.new-source.ensures.same) in
    let keeps : KeepsShelf a (g.F.Shelf.seen n) = f.keeps (faults_seen g.F.Shelf.names g.F.Shelf.given g.F.Shelf.refused g.F.Shelf.faults g.F.Shelf.write_faults g.F.Shelf.seen g.F.Shelf.handles g.F.Shelf.left g.F.Shelf.named
    g.met.F.Shelf.sees g.met.F.Shelf.counts g.met.F.Shelf.lefts c.args.files.now n up) in
    let back : c.files-1.given.0 ≡ n = search rules in
    rw back keeps

pub returns-clause-cause : goal.returns-clause-cause
returns-clause-cause g c = λ is.
    let n = c.check_run.new.trace.files.now in
    let before = ap (λ (v : ShelfView). v.faults) (g.met.F.Shelf.sees c.args.files.now) in
    let after = ap (λ (v : ShelfView). v.faults) (g.met.F.Shelf.sees n) in
    let same = ap g.F.Shelf.faults c.new-source.ensures.same in
    let rose : Rose (g.F.Shelf.faults c.new-source.result.files.now) (g.F.Shelf.faults n) =
    judged_fault c.args.name.now _ _ _ c.check_run.result c.check_run.ensures.judged (sym c.judged.ensures ∙ is) in
    let since : Rose (g.F.Shelf.seen c.args.files.now).faults (g.F.Shelf.seen n).faults = omega (arith, rose, before, after, same, c.attach.ensures.later) in
    let back : c.files-1.given.0 ≡ n = search rules in
    rw back (inl since)

pub returns-clause-memory : goal.returns-clause-memory
returns-clause-memory g c = subst (λ (r : Result ℕ Status). IfErr r HasNoMemory) (sym c.judged.ensures) (judged_memory c.check_run.result)
