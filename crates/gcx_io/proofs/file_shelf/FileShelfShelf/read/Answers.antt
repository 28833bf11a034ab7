use Rattle.std.proofs.Common.{refl, rules}
use Rattle.gcx_io.proofs.RealFiles.{files_read}
use Rattle.gcx_io.proofs.file_shelf.FileShelfShelf.read.Goals as goal

pub returns-in-Ok-clause-reads : goal.returns-in-Ok-clause-reads
returns-in-Ok-clause-reads g c = rw (← c.self.view_is) (files_read _ _ _ _ _ _ c.args.handle.0 c.index_mut.result.now c.read.new.self _ _ (rw (← c.self.view_is) at c.requires.given) c.index_mut.ensures.value
    refl c.in-Ok.ensures.notes (search rules) refl)

pub returns-in-Err-clause-reads : goal.returns-in-Err-clause-reads
returns-in-Err-clause-reads g c = rw (← c.self.view_is) (files_read _ _ _ _ _ _ c.args.handle.0 c.index_mut.result.now c.read.new.self _ _ (rw (← c.self.view_is) at c.requires.given) c.index_mut.ensures.value
    refl c.in-Err.ensures.notes (search rules) tt)
