use Rattle.std.proofs.Common.{◌≡◌, rules, ◌≤◌, false, [], length, sym, ap, subst, arith}
use Rattle.std.proofs.lemmas.Result.{err_from_is_err_and}
use Rattle.std.specs.declared.result.Result.TheVariants.{Err}
use Rattle.gcx_base.specs.declared.limits.Limits.{Limits}
use Rattle.gcx_base.specs.Limits.{full_limits}
use Rattle.gcx_model.specs.Tree.{Tree}
use Rattle.doc_reader.specs.Standing.{Stands}
use Rattle.tree_read.specs.declared.reading.DocumentEnd.TheVariants as end
use Rattle.tree_read.specs.Document.{IsWhole, HasGrown, ReadsDocument}
use Rattle.tree_read.proofs.Documents.{grown_none}
use Rattle.tree_read.proofs.Stopping.{read_none, read_on, stops_at_once, stops_at_fault, stops_in_end, stops_in_piece, ends_whole}
use Rattle.tree_read.proofs.reading.read_tree.Goals as goal

pub reading-init : goal.reading-init
reading-init g c =
    let stands : Stands c.new-reader.result full_limits [] false [] = subst (λ (l : Limits). Stands c.new-reader.result l [] false []) c.full-limits.ensures c.new-reader.ensures.stands in
    let grown : HasGrown c.new-reader.result c.in_ok-tree.tree [] = subst (λ (t : Tree). HasGrown c.new-reader.result t []) (sym c.in_ok-tree.ensures) (grown_none c.new-reader.result stands c.new-reader.ensures.nothing) in
    record {
      so_far = read_none (HasGrown c.new-reader.result c.in_ok-tree.tree) (g.S.Source.seen c.args.source.now) grown;
      is_open = c.new-reader.ensures.open;
      kept = g.met.S.Source.keeps_same c.args.source.now;
      later = omega arith;
    }

pub returns-in_err-tree-clause-reads : goal.returns-in_err-tree-clause-reads
returns-in_err-tree-clause-reads g c =
    let seen = g.S.Source.seen c.args.source.now in
    let reads : ReadsDocument seen seen (Err end.Memory) = stops_at_once IsWhole seen in
    let p = err_from_is_err_and c.from_residual.result c.from_residual.ensures.1 in
    rw (p.1, p.2) reads

pub returns-in_err-n-clause-reads : goal.returns-in_err-n-clause-reads
returns-in_err-n-clause-reads g c =
    let stops : ReadsDocument (g.S.Source.seen c.args.source.now) (g.S.Source.seen c.read_piece.new.source) (Err end.Fault) =
    stops_at_fault _ _ _ _ _ _ _ _ c.reading.invariant.so_far c.in_err-n.ensures.reads in
    let reads : ReadsDocument (g.S.Source.seen c.args.source.now) (g.S.Source.seen c.read_piece.new.source) (Err c.in_err-n.field-0.0) = rw c.in_err-n.ensures.fault stops in
    let p = err_from_is_err_and c.from_residual-in_err-n.result c.from_residual-in_err-n.ensures.1 in
    rw (p.1, p.2) reads

pub returns-in_err-take_end-clause-reads : goal.returns-in_err-take_end-clause-reads
returns-in_err-take_end-clause-reads g c =
    let h = c.reading.invariant.so_far in
    let e = c.in_err-take_end.field-0.0 in
    let size : length c.read_piece.new.buf ≡ 65536 = search rules in
    let reads : ReadsDocument (g.S.Source.seen c.args.source.now) (g.S.Source.seen c.read_piece.new.source) (Err e) =
    stops_in_end (Unit {0}) _ _ _ _ _ _ _ _ _ e h c.in_ok-n.ensures.reads c.if-n-eq0.true size (c.in_err-take_end.ensures.whole _ h.holds)
    (λ is. c.in_err-take_end.ensures.read (ap Err is)) in
    let p = err_from_is_err_and c.from_residual-in_err-take_end.result c.from_residual-in_err-take_end.ensures.1 in
    rw (p.1, p.2) reads

pub returns-then-n-eq0-clause-reads : goal.returns-then-n-eq0-clause-reads
returns-then-n-eq0-clause-reads g c =
    let h = c.reading.invariant.so_far in
    let size : length c.read_piece.new.buf ≡ 65536 = search rules in
    ends_whole _ _ _ _ _ _ _ _ _ h c.in_ok-n.ensures.reads c.if-n-eq0.true size (c.in_ok-take_end.ensures.whole _ h.holds)

pub returns-in_err-take_piece-clause-reads : goal.returns-in_err-take_piece-clause-reads
returns-in_err-take_piece-clause-reads g c =
    let h = c.reading.invariant.so_far in
    let e = c.in_err-take_piece.field-0.0 in
    let some : 1 ≤ c.in_ok-n.n = omega arith in
    let fits : c.in_ok-n.n ≤ length c.read_piece.new.buf = search rules in
    let size : length c.read_piece.new.buf ≡ 65536 = search rules in
    let reads : ReadsDocument (g.S.Source.seen c.args.source.now) (g.S.Source.seen c.read_piece.new.source) (Err e) =
    stops_in_piece (Unit {0}) _ _ _ _ _ _ _ _ _ e h c.in_ok-n.ensures.reads some fits size (c.in_err-take_piece.ensures.grown _ h.holds)
    (λ is. c.in_err-take_piece.ensures.read (ap Err is)) in
    let p = err_from_is_err_and c.from_residual-in_err-take_piece.result c.from_residual-in_err-take_piece.ensures.1 in
    rw (p.1, p.2) reads

pub reading-preserved : goal.reading-preserved
reading-preserved g c =
    let h = c.reading.invariant.so_far in
    let some : 1 ≤ c.in_ok-n.n = omega arith in
    let fits : c.in_ok-n.n ≤ length c.read_piece.new.buf = search rules in
    let size : length c.read_piece.new.buf ≡ 65536 = search rules in
    record {
      so_far = read_on _ _ _ _ _ _ _ _ (λ bytes k. k.no_fault) h c.in_ok-n.ensures.reads some fits size (c.in_ok-take_piece.ensures.grown _ h.holds);
      is_open = c.in_ok-take_piece.ensures.open;
      kept = g.met.S.Source.keeps_on _ _ _ c.reading.invariant.kept c.in_ok-n.ensures.kept;
      later = omega (arith, c.reading.invariant.later, c.in_ok-n.ensures.later);
    }

pub returns-in_err-n-clause-kept : goal.returns-in_err-n-clause-kept
returns-in_err-n-clause-kept g c = g.met.S.Source.keeps_on _ _ _ c.reading.invariant.kept c.in_err-n.ensures.kept

pub returns-in_err-take_end-clause-kept : goal.returns-in_err-take_end-clause-kept
returns-in_err-take_end-clause-kept g c = g.met.S.Source.keeps_on _ _ _ c.reading.invariant.kept c.in_ok-n.ensures.kept

pub returns-then-n-eq0-clause-kept : goal.returns-then-n-eq0-clause-kept
returns-then-n-eq0-clause-kept g c = g.met.S.Source.keeps_on _ _ _ c.reading.invariant.kept c.in_ok-n.ensures.kept

pub returns-in_err-take_piece-clause-kept : goal.returns-in_err-take_piece-clause-kept
returns-in_err-take_piece-clause-kept g c = g.met.S.Source.keeps_on _ _ _ c.reading.invariant.kept c.in_ok-n.ensures.kept
