use Rattle.std.proofs.lemmas.Result.{err_from_is_err_and}
use Rattle.std.specs.declared.result.Result.TheVariants.{Err}
use Rattle.gcx_io.specs.Calls.{ReadsSource}
use Rattle.tree_read.specs.declared.reading.DocumentEnd.{DocumentEnd}
use Rattle.tree_read.specs.declared.reading.DocumentEnd.TheVariants as end
use Rattle.tree_read.proofs.Stopping.{failed_as, got_as}
use Rattle.tree_read.proofs.reading.read_piece.Goals as goal

pub returns-in_err-n-clause-reads : goal.returns-in_err-n-clause-reads
returns-in_err-n-clause-reads g c =
    let reads : ReadsSource {E = DocumentEnd} (g.S.Source.seen c.args.source.now) (g.S.Source.seen c.read.new.self) (Err end.Fault) c.read.new.buf =
    failed_as _ _ _ _ _ c.in_err-n.ensures.reads in
    let p = err_from_is_err_and c.from_residual.result c.from_residual.ensures.1 in
    rw (p.1, p.2) reads

pub returns-clause-reads : goal.returns-clause-reads
returns-clause-reads g c = got_as _ _ _ _ c.in_ok-n.ensures.reads
