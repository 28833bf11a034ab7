use Rattle.std.proofs.Common.{refl, rules}
use Rattle.gcx_io.proofs.RealFiles.{files_write}
use Rattle.gcx_io.proofs.file_shelf.FileShelfShelf.write.Goals as goal

pub returns-in-Ok-clause-takes : goal.returns-in-Ok-clause-takes
returns-in-Ok-clause-takes g c = rw (← c.self.view_is) (files_write _ _ _ _ _ _ c.args.handle.0 c.index_mut.result.now c.write.new.self _ _ (rw (← c.self.view_is) at c.requires.given) c.index_mut.ensures.value
    refl c.in-Ok.ensures.notes (search rules) refl)

pub returns-in-Err-clause-takes : goal.returns-in-Err-clause-takes
returns-in-Err-clause-takes g c = rw (← c.self.view_is) (files_write _ _ _ _ _ _ c.args.handle.0 c.index_mut.result.now c.write.new.self _ _ (rw (← c.self.view_is) at c.requires.given) c.index_mut.ensures.value
    refl c.in-Err.ensures.notes (search rules) tt)
