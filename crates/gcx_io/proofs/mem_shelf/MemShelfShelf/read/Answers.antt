use Rattle.std.proofs.Common.{refl, ap}
use Rattle.gcx_io.specs.Files.{OpenFiles, held_names}
use Rattle.gcx_io.specs.Tallies.{Tally}
use Rattle.gcx_io.specs.Views.{Failed}
use Rattle.gcx_io.proofs.Caused.{failed_cause}
use Rattle.gcx_io.proofs.Seen.{shelf_reads, shelf_fails, noted_others, noted_names, noted_count}
use Rattle.gcx_io.proofs.Shelves.{read_others, read_names, read_count}
use Rattle.gcx_io.proofs.mem_shelf.MemShelfShelf.read.Goals as goal

pub returns-clause-others : goal.returns-clause-others
returns-clause-others c = rw (← c.self.view_is) (read_others c.self.inside.files c.read.new.self c.args.handle.0 _ _ c.read.ensures.rest)

pub returns-clause-named : goal.returns-clause-named
returns-clause-named c = rw (← c.self.view_is) (read_names c.self.inside.files c.read.new.self c.args.handle.0 _ _ c.read.ensures.rest)

pub returns-clause-handles : goal.returns-clause-handles
returns-clause-handles c = rw (← c.self.view_is) (read_count c.self.inside.files c.read.new.self c.args.handle.0 _ _ c.read.ensures.rest)

pub returns-clause-reads : goal.returns-clause-reads
returns-clause-reads c = rw (← c.self.view_is) (shelf_reads _ _ _ _ _ _ c.self.inside.files c.read.new.self c.args.handle.0 _ c.self.inside.most c.args.buf.now _
    (ap (λ (s : OpenFiles). held_names s) c.read.ensures.rest) (ap (λ (t : Tally). t.faults) c.if-is_failing.ensures.calls) refl
    c.read.ensures.rest (rw (← c.self.view_is) at c.requires.given) c.self.invariant c.requires.room c.read.ensures.count c.read.ensures.moved)

pub returns-then-is_failing-clause-reads : goal.returns-then-is_failing-clause-reads
returns-then-is_failing-clause-reads c = rw (← c.self.view_is) (shelf_fails _ _ _ _ _ _ _ c.self.inside.files c.fail.new.self c.args.handle.0 _
    (ap (λ (s : OpenFiles). held_names s) c.fail.ensures) (failed_cause _ _ _ c.if-is_failing.ensures.calls c.is_failing.ensures.later) refl
    c.fail.ensures (rw (← c.self.view_is) at c.requires.given))

pub returns-then-is_failing-clause-others : goal.returns-then-is_failing-clause-others
returns-then-is_failing-clause-others c = rw (← c.self.view_is) (noted_others c.self.inside.files c.fail.new.self c.args.handle.0 Failed c.fail.ensures)

pub returns-then-is_failing-clause-named : goal.returns-then-is_failing-clause-named
returns-then-is_failing-clause-named c = rw (← c.self.view_is) (noted_names c.self.inside.files c.fail.new.self c.args.handle.0 Failed (ap (λ (s : OpenFiles). s.openings) c.fail.ensures))

pub returns-then-is_failing-clause-handles : goal.returns-then-is_failing-clause-handles
returns-then-is_failing-clause-handles c = rw (← c.self.view_is) (noted_count c.self.inside.files c.fail.new.self c.args.handle.0 Failed (ap (λ (s : OpenFiles). s.openings) c.fail.ensures))
