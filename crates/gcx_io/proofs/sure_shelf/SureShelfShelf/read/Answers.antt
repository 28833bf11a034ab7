use Rattle.std.proofs.Common.{arith, refl, ap}
use Rattle.gcx_io.specs.Files.{OpenFiles, all_names}
use Rattle.gcx_io.proofs.Seen.{shelf_reads}
use Rattle.gcx_io.proofs.Shelves.{read_others, read_names, read_count}
use Rattle.gcx_io.proofs.sure_shelf.SureShelfShelf.read.Goals as goal

pub returns-clause-others : goal.returns-clause-others
returns-clause-others c = rw (← c.self.view_is) (read_others c.self.inside.files c.read.new.self c.args.handle.0 _ _ c.read.ensures.rest)

pub returns-clause-named : goal.returns-clause-named
returns-clause-named c = rw (← c.self.view_is) (read_names c.self.inside.files c.read.new.self c.args.handle.0 _ _ c.read.ensures.rest)

pub returns-clause-handles : goal.returns-clause-handles
returns-clause-handles c = rw (← c.self.view_is) (read_count c.self.inside.files c.read.new.self c.args.handle.0 _ _ c.read.ensures.rest)

pub returns-clause-reads : goal.returns-clause-reads
returns-clause-reads c = rw (← c.self.view_is) (shelf_reads _ _ _ _ _ _ c.self.inside.files c.read.new.self c.args.handle.0 _ 18446744073709551615 c.args.buf.now _
    (ap (λ (s : OpenFiles). all_names s) c.read.ensures.rest) refl refl
    c.read.ensures.rest (rw (← c.self.view_is) at c.requires.given) (omega arith) c.requires.room c.read.ensures.count c.read.ensures.moved)
