use Rattle.std.proofs.Common.{◌≡◌, ◌≤◌, ◌++◌, inl, take, length, arith, rules, refl, sym, ap}
use Rattle.std.proofs.lemmas.Result.{err_from_is_err_and}
use Rattle.std.proofs.lemmas.Grind.{common_steps}
use Rattle.gcx_io.specs.Views.{ShelfView}
use Rattle.gcx_cmd.specs.QueryDoes.{StopsInQuery}
use Rattle.gcx_cmd.specs.ReadEnd.{attach_status}
use Rattle.gcx_cmd.proofs.Attached.{unattached, unattached_cause, unattached_keeps, unattached_memory}
use Rattle.gcx_cmd.proofs.Along.{rose_since}
use Rattle.gcx_cmd.proofs.QueryRead.{begun, goes_on, ends, fails, refuses, runs_out, stays, texts}
use Rattle.gcx_cmd.proofs.text.read_text.Goals as goal

pub returns-in_err-handle-clause-stops : goal.returns-in_err-handle-clause-stops
returns-in_err-handle-clause-stops g c =
    let p = err_from_is_err_and c.from_residual.result c.from_residual.ensures.1 in
    let does : StopsInQuery c.args.name.now (attach_status c.in_err-handle.field-0.0) (g.F.Shelf.seen c.args.files.now) (g.F.Shelf.seen c.attach.new.self) = unattached _ _ _ (λ s. StopsInQuery c.args.name.now s (g.F.Shelf.seen c.args.files.now) (g.F.Shelf.seen c.attach.new.self)) c.in_err-handle.field-0.0 c.in_err-handle.ensures.attaches (λ gone. inl gone) (λ none. inl none) in
    rw (p.1, p.2) does

pub returns-in_err-handle-clause-keeps : goal.returns-in_err-handle-clause-keeps
returns-in_err-handle-clause-keeps g c =
    let before = ap (λ (v : ShelfView). v.faults) (g.met.F.Shelf.sees c.args.files.now) in
    let after = ap (λ (v : ShelfView). v.faults) (g.met.F.Shelf.sees c.attach.new.self) in
    let later : (g.F.Shelf.seen c.args.files.now).faults ≤ (g.F.Shelf.seen c.attach.new.self).faults = omega (arith, c.attach.ensures.later, before, after) in
    unattached_keeps _ _ _ c.in_err-handle.field-0.0 c.in_err-handle.ensures.attaches later

pub returns-in_err-handle-clause-cause : goal.returns-in_err-handle-clause-cause
returns-in_err-handle-clause-cause g c = λ is.
    let p = err_from_is_err_and c.from_residual.result c.from_residual.ensures.1 in
    unattached_cause _ _ _ c.in_err-handle.field-0.0 c.in_err-handle.ensures.attaches (search (rules, is, p.1, p.2))

pub returns-in_err-handle-clause-memory : goal.returns-in_err-handle-clause-memory
returns-in_err-handle-clause-memory g c =
    let p = err_from_is_err_and c.from_residual.result c.from_residual.ensures.1 in
    rw (p.1, p.2) (unattached_memory c.in_err-handle.field-0.0)

pub reading-init : goal.reading-init
reading-init g c = record {
  room = refl;
  given = omega (arith, c.in_ok-handle.ensures.given.number, c.in_ok-handle.ensures.given.count);
  read = texts _ _ _ _ _ _ (sym c.new-text.ensures.items) (begun _ _ _ _ c.in_ok-handle.ensures.attaches.0 c.in_ok-handle.ensures.attaches.1);
}

pub returns-in_default-clause-stops : goal.returns-in_default-clause-stops
returns-in_default-clause-stops g c = fails _ _ _ _ _ _ _ _ c.reading.invariant.read c.in_default.ensures.reads (omega arith)

pub returns-then-count-eq0-clause-whole : goal.returns-then-count-eq0-clause-whole
returns-then-count-eq0-clause-whole g c =
    ends _ _ _ _ _ _ _ _ c.reading.invariant.read c.in-Ok.ensures.reads c.if-count-eq0.true (omega arith) (omega arith)

pub returns-then-is_err-clause-stops : goal.returns-then-is_err-clause-stops
returns-then-is_err-clause-stops g c =
    let some : 1 ≤ c.in-Ok.count = omega arith in
    let fits : c.in-Ok.count ≤ length c.read.new.buf = c.in-Ok.ensures.bound.0 in
    let size : length c.read.new.buf ≡ 4096 = omega arith in
    runs_out _ _ _ _ _ (goes_on _ _ _ _ _ _ _ _ c.reading.invariant.read c.in-Ok.ensures.reads (omega arith) some fits size)

pub returns-clause-stops : goal.returns-clause-stops
returns-clause-stops g c = refuses _ _ _ _ _ c.reading.invariant.read (omega arith)

pub returns-in_default-clause-keeps : goal.returns-in_default-clause-keeps
returns-in_default-clause-keeps g c = stays _ _ _ _ _ _ _ _ c.reading.invariant.read c.in_default.ensures.reads

pub returns-in_default-clause-cause : goal.returns-in_default-clause-cause
returns-in_default-clause-cause g c = λ is. inl (rose_since _ _ _ c.reading.invariant.read.keeps.faults c.in_default.ensures.reads.faults.failed)

pub returns-then-count-eq0-clause-keeps : goal.returns-then-count-eq0-clause-keeps
returns-then-count-eq0-clause-keeps g c = stays _ _ _ _ _ _ _ _ c.reading.invariant.read c.in-Ok.ensures.reads

pub returns-then-is_err-clause-keeps : goal.returns-then-is_err-clause-keeps
returns-then-is_err-clause-keeps g c = stays _ _ _ _ _ _ _ _ c.reading.invariant.read c.in-Ok.ensures.reads

pub returns-clause-keeps : goal.returns-clause-keeps
returns-clause-keeps g c = c.reading.invariant.read.keeps

pub reading-preserved : goal.reading-preserved
reading-preserved g c =
    let some : 1 ≤ c.in-Ok.count = omega arith in
    let fits : c.in-Ok.count ≤ length c.read.new.buf = c.in-Ok.ensures.bound.0 in
    let size : length c.read.new.buf ≡ 4096 = omega arith in
    let grown : c.reading.text.items ++ take c.in-Ok.count c.read.new.buf ≡ c.extend_from_slice.new.self.items = grind (arith, common_steps) in
    record {
      room = omega arith;
      given = omega (arith, c.reading.invariant.given, c.read.ensures.handles);
      read = texts _ _ _ _ _ _ grown (goes_on _ _ _ _ _ _ _ _ c.reading.invariant.read c.in-Ok.ensures.reads (omega arith) some fits size);
    }
