use Rattle.gcx_io.proofs.Opens.{source_reads_as}
use Rattle.gcx_io.proofs.opened.OpenedSource.read.Goals as goal

pub returns-clause-reads : goal.returns-clause-reads
returns-clause-reads g c =
    source_reads_as c.args.self.now.handle.0 _ _ _ _ c.read.result c.read.new.buf _ _ (g.met.F.Shelf.sees c.args.self.now.files.now) (g.met.F.Shelf.sees c.read.new.self) c.read.ensures.reads
    (λ v there. g.met.F.Shelf.lefts c.args.self.now.files.now c.args.self.now.handle.0 v there) (λ v there. g.met.F.Shelf.lefts c.read.new.self c.args.self.now.handle.0 v there)
