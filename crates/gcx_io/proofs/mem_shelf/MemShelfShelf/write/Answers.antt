use Rattle.std.proofs.Common.{◌≡◌, ◌<◌, false, take, Ok, Err, sym, ◌∙◌, ap, subst, rules, arith}
use Rattle.gcx_io.specs.Views.{Took, Denied}
use Rattle.gcx_io.specs.Calls.{WritesHandle}
use Rattle.gcx_io.specs.Files.{OpenFiles, held_names, handle_count, owners, rests, files_seen}
use Rattle.gcx_io.specs.MemShelf.{ShelfState}
use Rattle.gcx_io.specs.Shelf.{Appends, OthersStay}
use Rattle.gcx_io.proofs.Seen.{shelf_writes, write_others, noted_left, noted_names, noted_count}
use Rattle.gcx_io.proofs.Shelves.{write_appends}
use Rattle.gcx_io.proofs.mem_shelf.MemShelfShelf.write.Goals as goal

pub returns-clause-bytes : goal.returns-clause-bytes
returns-clause-bytes c =
    let same : c.self.inside.files ≡ c.args.self.now.kept = ap (λ (s : ShelfState). s.kept) (c.self.view_is ∙ c.is_failing_write.ensures.calls) in
    let given : c.args.handle.0 < handle_count c.self.inside.files = subst (λ (f : OpenFiles). c.args.handle.0 < handle_count f) (sym same) c.requires.given in
    subst (λ (f : OpenFiles). Appends (held_names f) (held_names c.write.new.self) (owners f c.args.handle.0) (take c.min-count.result c.args.piece.now)) same
    (write_appends false c.self.inside.files c.write.new.self _ c.args.handle.0 (take c.min-count.result c.args.piece.now) given c.write.ensures.keeps c.write.ensures.lost)

pub returns-clause-others : goal.returns-clause-others
returns-clause-others c =
    let same : c.self.inside.files ≡ c.args.self.now.kept = ap (λ (s : ShelfState). s.kept) (c.self.view_is ∙ c.is_failing_write.ensures.calls) in
    subst (λ (f : OpenFiles). OthersStay (owners f) (rests f) (rests c.write.new.self) (handle_count f) c.args.handle.0) same
    (write_others c.self.inside.files c.write.new.self c.args.handle.0 (Took (take c.min-count.result c.args.piece.now)) _ _
    (λ e. ap (λ (s : OpenFiles). s.whole) (c.write.ensures.lost e) ∙ e) c.write.ensures.openings)

pub returns-clause-handles : goal.returns-clause-handles
returns-clause-handles c =
    let same : c.self.inside.files ≡ c.args.self.now.kept = ap (λ (s : ShelfState). s.kept) (c.self.view_is ∙ c.is_failing_write.ensures.calls) in
    noted_count c.self.inside.files c.write.new.self c.args.handle.0 (Took (take c.min-count.result c.args.piece.now)) c.write.ensures.openings ∙ ap (λ (f : OpenFiles). handle_count f) same

pub returns-clause-named : goal.returns-clause-named
returns-clause-named c =
    let same : c.self.inside.files ≡ c.args.self.now.kept = ap (λ (s : ShelfState). s.kept) (c.self.view_is ∙ c.is_failing_write.ensures.calls) in
    noted_names c.self.inside.files c.write.new.self c.args.handle.0 (Took (take c.min-count.result c.args.piece.now)) c.write.ensures.openings ∙ ap (λ (f : OpenFiles). owners f) same

pub returns-clause-takes : goal.returns-clause-takes
returns-clause-takes c =
    let same : c.self.inside.files ≡ c.args.self.now.kept = ap (λ (s : ShelfState). s.kept) (c.self.view_is ∙ c.is_failing_write.ensures.calls) in
    let faults : c.self.inside.calls.faults ≡ c.args.self.now.calls.faults = ap (λ (s : ShelfState). s.calls.faults) (c.self.view_is ∙ c.is_failing_write.ensures.calls) in
    let write_faults : c.self.inside.write_faults ≡ c.args.self.now.write_faults = ap (λ (s : ShelfState). s.write_faults) c.self.view_is ∙ c.if-is_failing_write.ensures.faults in
    subst (λ (f : OpenFiles). WritesHandle c.args.handle.0 (files_seen (held_names f) c.args.self.now.calls.faults c.args.self.now.write_faults f)
    (files_seen (held_names c.write.new.self) c.self.inside.calls.faults c.self.inside.write_faults c.write.new.self) (Ok c.min-count.result) c.args.piece.now) same
    (shelf_writes _ _ _ _ _ _ c.self.inside.files c.write.new.self c.args.handle.0 (Ok c.min-count.result) c.args.piece.now faults
    (record { later = omega (arith, write_faults); failed = tt }) write_faults c.write.ensures.openings c.write.ensures.refused
    (subst (λ (f : OpenFiles). c.args.handle.0 < handle_count f) (sym same) c.requires.given))

pub returns-then-is_failing_write-clause-unmoved : goal.returns-then-is_failing_write-clause-unmoved
returns-then-is_failing_write-clause-unmoved c =
    let same : c.self.inside.files ≡ c.args.self.now.kept = ap (λ (s : ShelfState). s.kept) (c.self.view_is ∙ c.is_failing_write.ensures.calls) in
    noted_left c.self.inside.files c.deny.new.self c.args.handle.0 (Denied c.args.piece.now) c.deny.ensures ∙ ap (λ (f : OpenFiles). rests f) same

pub returns-then-is_failing_write-clause-others : goal.returns-then-is_failing_write-clause-others
returns-then-is_failing_write-clause-others c =
    let same : c.self.inside.files ≡ c.args.self.now.kept = ap (λ (s : ShelfState). s.kept) (c.self.view_is ∙ c.is_failing_write.ensures.calls) in
    subst (λ (f : OpenFiles). OthersStay (owners f) (rests f) (rests c.deny.new.self) (handle_count f) c.args.handle.0) same
    (write_others c.self.inside.files c.deny.new.self c.args.handle.0 (Denied c.args.piece.now) _ _ (λ e. ap (λ (s : OpenFiles). s.whole) c.deny.ensures ∙ e) (ap (λ (s : OpenFiles). s.openings) c.deny.ensures))

pub returns-then-is_failing_write-clause-handles : goal.returns-then-is_failing_write-clause-handles
returns-then-is_failing_write-clause-handles c =
    let same : c.self.inside.files ≡ c.args.self.now.kept = ap (λ (s : ShelfState). s.kept) (c.self.view_is ∙ c.is_failing_write.ensures.calls) in
    noted_count c.self.inside.files c.deny.new.self c.args.handle.0 (Denied c.args.piece.now) (ap (λ (s : OpenFiles). s.openings) c.deny.ensures) ∙ ap (λ (f : OpenFiles). handle_count f) same

pub returns-then-is_failing_write-clause-named : goal.returns-then-is_failing_write-clause-named
returns-then-is_failing_write-clause-named c =
    let same : c.self.inside.files ≡ c.args.self.now.kept = ap (λ (s : ShelfState). s.kept) (c.self.view_is ∙ c.is_failing_write.ensures.calls) in
    noted_names c.self.inside.files c.deny.new.self c.args.handle.0 (Denied c.args.piece.now) (ap (λ (s : OpenFiles). s.openings) c.deny.ensures) ∙ ap (λ (f : OpenFiles). owners f) same

pub returns-then-is_failing_write-clause-takes : goal.returns-then-is_failing_write-clause-takes
returns-then-is_failing_write-clause-takes c =
    let same : c.self.inside.files ≡ c.args.self.now.kept = ap (λ (s : ShelfState). s.kept) (c.self.view_is ∙ c.is_failing_write.ensures.calls) in
    let faults : c.self.inside.calls.faults ≡ c.args.self.now.calls.faults = ap (λ (s : ShelfState). s.calls.faults) (c.self.view_is ∙ c.is_failing_write.ensures.calls) in
    subst (λ (f : OpenFiles). WritesHandle c.args.handle.0 (files_seen (held_names f) c.args.self.now.calls.faults c.args.self.now.write_faults f)
    (files_seen (held_names c.deny.new.self) c.self.inside.calls.faults c.self.inside.write_faults c.deny.new.self) (Err _) c.args.piece.now) same
    (shelf_writes _ _ _ _ _ _ c.self.inside.files c.deny.new.self c.args.handle.0 (Err _) c.args.piece.now faults
    (search rules) tt (ap (λ (s : OpenFiles). s.openings) c.deny.ensures) (ap (λ (s : OpenFiles). s.refused) c.deny.ensures)
    (subst (λ (f : OpenFiles). c.args.handle.0 < handle_count f) (sym same) c.requires.given))
