use Rattle.std.proofs.Common.{rules, inl, ◌≡◌, ◌≤◌, ap, arith}
use Rattle.std.proofs.lemmas.Result.{err_from_is_err_and}
use Rattle.std.specs.declared.result.Result.TheVariants.{Ok, Err}
use Rattle.gcx_io.specs.Views.{ShelfView}
use Rattle.gcx_cmd.proofs.Attached.{unattached, unattached_cause, unattached_keeps, unattached_memory}
use Rattle.gcx_cmd.proofs.FileRead.{faults_seen, file_read}
use Rattle.gcx_cmd.proofs.Trees.{tokens_does, tokens_stop}
use Rattle.gcx_cmd.specs.DocumentDoes.{TokensDoes}
use Rattle.gcx_cmd.specs.Reads.{KeepsShelf}
use Rattle.gcx_cmd.specs.ReadEnd.{attach_status, document_status}
use Rattle.gcx_cmd.proofs.document.read_document_tokens.Goals as goal

pub returns-in_err-handle-clause-reads : goal.returns-in_err-handle-clause-reads
returns-in_err-handle-clause-reads g c =
    let p = err_from_is_err_and c.from_residual.result c.from_residual.ensures.1 in
    let does : TokensDoes c.args.name.now (Err (attach_status c.in_err-handle.field-0.0)) (g.F.Shelf.seen c.args.files.now) (g.F.Shelf.seen c.attach.new.self) = unattached _ _ _ (λ s. TokensDoes c.args.name.now (Err s) (g.F.Shelf.seen c.args.files.now) (g.F.Shelf.seen c.attach.new.self)) c.in_err-handle.field-0.0 c.in_err-handle.ensures.attaches (λ gone. inl gone) (λ none. inl none) in
    rw (p.1, p.2) does

pub returns-in_err-handle-clause-keeps : goal.returns-in_err-handle-clause-keeps
returns-in_err-handle-clause-keeps g c =
    let before = ap (λ (v : ShelfView). v.faults) (g.met.F.Shelf.sees c.args.files.now) in
    let after = ap (λ (v : ShelfView). v.faults) (g.met.F.Shelf.sees c.attach.new.self) in
    let later : (g.F.Shelf.seen c.args.files.now).faults ≤ (g.F.Shelf.seen c.attach.new.self).faults = omega (arith, c.attach.ensures.later, before, after) in
    unattached_keeps _ _ _ c.in_err-handle.field-0.0 c.in_err-handle.ensures.attaches later

pub returns-in_err-handle-clause-cause : goal.returns-in_err-handle-clause-cause
returns-in_err-handle-clause-cause g c = λ is.
    let p = err_from_is_err_and c.from_residual.result c.from_residual.ensures.1 in
    unattached_cause _ _ _ c.in_err-handle.field-0.0 c.in_err-handle.ensures.attaches (search (rules, is, p.1, p.2))

pub returns-in_err-handle-clause-memory : goal.returns-in_err-handle-clause-memory
returns-in_err-handle-clause-memory g c =
    let p = err_from_is_err_and c.from_residual.result c.from_residual.ensures.1 in
    rw (p.1, p.2) (unattached_memory c.in_err-handle.field-0.0)

pub returns-in-Ok-clause-reads : goal.returns-in-Ok-clause-reads
returns-in-Ok-clause-reads g c =
    let a = g.F.Shelf.seen c.args.files.now in
    let n = c.read_tokens.new.source.files.now in
    let f = file_read g.F.Shelf.names g.F.Shelf.given g.F.Shelf.refused g.F.Shelf.faults g.F.Shelf.write_faults g.F.Shelf.seen g.F.Shelf.handles g.F.Shelf.left g.F.Shelf.named
    g.met.F.Shelf.sees g.met.F.Shelf.counts g.met.F.Shelf.lefts c.args.name.now a c.attach.new.self c.new-source.result.files.now n _ _ _
    c.in_ok-handle.ensures.attaches.0 c.in_ok-handle.ensures.attaches.1 c.new-source.ensures.same (search rules) c.read_tokens.ensures.kept.1 c.read_tokens.ensures.kept.2 in
    let does : TokensDoes c.args.name.now (Ok c.in-Ok.tokens) a (g.F.Shelf.seen n) = tokens_does _ _ _ _ _ f c.in-Ok.tokens c.in-Ok.ensures.reads in
    let back : c.files-1.given.0 ≡ n = search rules in
    rw back does

pub returns-in-Err-clause-reads : goal.returns-in-Err-clause-reads
returns-in-Err-clause-reads g c =
    let a = g.F.Shelf.seen c.args.files.now in
    let n = c.read_tokens.new.source.files.now in
    let f = file_read g.F.Shelf.names g.F.Shelf.given g.F.Shelf.refused g.F.Shelf.faults g.F.Shelf.write_faults g.F.Shelf.seen g.F.Shelf.handles g.F.Shelf.left g.F.Shelf.named
    g.met.F.Shelf.sees g.met.F.Shelf.counts g.met.F.Shelf.lefts c.args.name.now a c.attach.new.self c.new-source.result.files.now n _ _ _
    c.in_ok-handle.ensures.attaches.0 c.in_ok-handle.ensures.attaches.1 c.new-source.ensures.same (search rules) c.read_tokens.ensures.kept.1 c.read_tokens.ensures.kept.2 in
    let does : TokensDoes c.args.name.now (Err (document_status c.in-Err.end)) a (g.F.Shelf.seen n) = tokens_stop _ _ _ _ _ f c.in-Err.end c.in-Err.ensures.reads in
    let back : c.files-1.given.0 ≡ n = search rules in
    search (rules, back, does)

pub returns-in-Ok-clause-keeps : goal.returns-in-Ok-clause-keeps
returns-in-Ok-clause-keeps g c =
    let a = g.F.Shelf.seen c.args.files.now in
    let n = c.read_tokens.new.source.files.now in
    let f = file_read g.F.Shelf.names g.F.Shelf.given g.F.Shelf.refused g.F.Shelf.faults g.F.Shelf.write_faults g.F.Shelf.seen g.F.Shelf.handles g.F.Shelf.left g.F.Shelf.named
    g.met.F.Shelf.sees g.met.F.Shelf.counts g.met.F.Shelf.lefts c.args.name.now a c.attach.new.self c.new-source.result.files.now n _ _ _
    c.in_ok-handle.ensures.attaches.0 c.in_ok-handle.ensures.attaches.1 c.new-source.ensures.same (search rules) c.read_tokens.ensures.kept.1 c.read_tokens.ensures.kept.2 in
    let first = c.attach.ensures.later in
    let next = c.read_tokens.ensures.later in
    let up : g.F.Shelf.faults c.args.files.now ≤ g.F.Shelf.faults n = omega (arith, first, next, ap g.F.Shelf.faults c.new-source.ensures.same) in
    let keeps : KeepsShelf a (g.F.Shelf.seen n) = f.keeps (faults_seen g.F.Shelf.names g.F.Shelf.given g.F.Shelf.refused g.F.Shelf.faults g.F.Shelf.write_faults g.F.Shelf.seen g.F.Shelf.handles g.F.Shelf.left g.F.Shelf.named
    g.met.F.Shelf.sees g.met.F.Shelf.counts g.met.F.Shelf.lefts c.args.files.now n up) in
    let back : c.files-1.given.0 ≡ n = search rules in
    rw back keeps

pub returns-in-Err-clause-keeps : goal.returns-in-Err-clause-keeps
returns-in-Err-clause-keeps g c =
    let a = g.F.Shelf.seen c.args.files.now in
    let n = c.read_tokens.new.source.files.now in
    let f = file_read g.F.Shelf.names g.F.Shelf.given g.F.Shelf.refused g.F.Shelf.faults g.F.Shelf.write_faults g.F.Shelf.seen g.F.Shelf.handles g.F.Shelf.left g.F.Shelf.named
    g.met.F.Shelf.sees g.met.F.Shelf.counts g.met.F.Shelf.lefts c.args.name.now a c.attach.new.self c.new-source.result.files.now n _ _ _
    c.in_ok-handle.ensures.attaches.0 c.in_ok-handle.ensures.attaches.1 c.new-source.ensures.same (search rules) c.read_tokens.ensures.kept.1 c.read_tokens.ensures.kept.2 in
    let first = c.attach.ensures.later in
    let next = c.read_tokens.ensures.later in
    let up : g.F.Shelf.faults c.args.files.now ≤ g.F.Shelf.faults n = omega (arith, first, next, ap g.F.Shelf.faults c.new-source.ensures.same) in
    let keeps : KeepsShelf a (g.F.Shelf.seen n) = f.keeps (faults_seen g.F.Shelf.names g.F.Shelf.given g.F.Shelf.refused g.F.Shelf.faults g.F.Shelf.write_faults g.F.Shelf.seen g.F.Shelf.handles g.F.Shelf.left g.F.Shelf.named
    g.met.F.Shelf.sees g.met.F.Shelf.counts g.met.F.Shelf.lefts c.args.files.now n up) in
    let back : c.files-1.given.0 ≡ n = search rules in
    rw back keeps
