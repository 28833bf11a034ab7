use Rattle.std.proofs.Common.{◌≡◌, false, [], ◌∙◌, ap, subst}
use Rattle.gcx_io.specs.Files.{OpenFiles, held_names, handle_count, owners}
use Rattle.gcx_io.specs.MemShelf.{ShelfState}
use Rattle.gcx_io.specs.Shelf.{content_of, Adds, AddsName, Maps}
use Rattle.gcx_io.specs.Files.{files_seen}
use Rattle.gcx_io.specs.Calls.{GivesHandle}
use Rattle.gcx_io.proofs.Seen.{shelf_gives}
use Rattle.gcx_io.proofs.Shelves.{opens_adds, create_names, create_maps, set_content}
use Rattle.gcx_io.proofs.mem_shelf.MemShelfShelf.create.Goals as goal

pub returns-clause-given : goal.returns-clause-given
returns-clause-given c =
    let same : c.self.inside.files ≡ c.args.self.now.kept = ap (λ (s : ShelfState). s.kept) (c.self.view_is ∙ c.is_failing_write.ensures.calls) in
    subst (λ (f : OpenFiles). Adds (handle_count f) (handle_count c.create.new.self) c.in_ok-create.field-0.0) same
    (opens_adds c.self.inside.files c.create.new.self c.args.name.now [] c.in_ok-create.field-0.0 c.in_ok-create.ensures.openings c.in_ok-create.ensures.number)

pub returns-clause-named : goal.returns-clause-named
returns-clause-named c =
    let same : c.self.inside.files ≡ c.args.self.now.kept = ap (λ (s : ShelfState). s.kept) (c.self.view_is ∙ c.is_failing_write.ensures.calls) in
    subst (λ (f : OpenFiles). AddsName (held_names f) (owners f) (owners c.create.new.self) c.args.name.now c.in_ok-create.field-0.0) same
    (create_names (held_names c.self.inside.files) c.self.inside.files c.create.new.self c.args.name.now c.in_ok-create.field-0.0 c.in_ok-create.ensures.openings c.in_ok-create.ensures.number)

pub returns-clause-maps : goal.returns-clause-maps
returns-clause-maps c =
    let same : c.self.inside.files ≡ c.args.self.now.kept = ap (λ (s : ShelfState). s.kept) (c.self.view_is ∙ c.is_failing_write.ensures.calls) in
    subst (λ (f : OpenFiles). Maps (held_names f) (held_names c.create.new.self) c.args.name.now []) same
    (create_maps false c.self.inside.files c.create.new.self c.args.name.now c.self.inside.room c.in_ok-create.ensures.files c.create.ensures.whole)

pub returns-clause-creates : goal.returns-clause-creates
returns-clause-creates c =
    let same : c.self.inside.files ≡ c.args.self.now.kept = ap (λ (s : ShelfState). s.kept) (c.self.view_is ∙ c.is_failing_write.ensures.calls) in
    let faults : c.self.inside.calls.faults ≡ c.args.self.now.calls.faults = ap (λ (s : ShelfState). s.calls.faults) (c.self.view_is ∙ c.is_failing_write.ensures.calls) in
    let write_faults : c.self.inside.write_faults ≡ c.args.self.now.write_faults = ap (λ (s : ShelfState). s.write_faults) c.self.view_is ∙ c.if-is_failing_write.ensures.faults in
    subst (λ (f : OpenFiles). GivesHandle c.args.name.now (content_of (held_names c.create.new.self) c.args.name.now)
    (files_seen (held_names f) c.args.self.now.calls.faults c.args.self.now.write_faults f)
    (files_seen (held_names c.create.new.self) c.self.inside.calls.faults c.self.inside.write_faults c.create.new.self) c.in_ok-create.field-0.0) same
    (shelf_gives _ _ _ _ _ _ c.self.inside.files c.create.new.self c.args.name.now [] _ _ faults write_faults
    c.in_ok-create.ensures.openings c.create.ensures.whole c.create.ensures.refused c.in_ok-create.ensures.number
    (set_content false c.self.inside.files c.create.new.self c.args.name.now c.self.inside.room c.in_ok-create.ensures.files c.create.ensures.whole))
