use Rattle.std.proofs.Common.{true, [], refl}
use Rattle.gcx_io.specs.Files.{all_names}
use Rattle.gcx_io.proofs.Seen.{shelf_gives}
use Rattle.gcx_io.proofs.Shelves.{opens_adds, create_names, create_maps, set_content}
use Rattle.gcx_io.proofs.sure_shelf.SureShelfShelf.create.Goals as goal

pub returns-clause-given : goal.returns-clause-given
returns-clause-given c = rw (← c.self.view_is) (opens_adds c.self.inside.files c.create.new.self c.args.name.now [] _ c.in_ok-create.ensures.openings c.in_ok-create.ensures.number)

pub returns-clause-named : goal.returns-clause-named
returns-clause-named c = rw (← c.self.view_is) (create_names (all_names c.self.inside.files) c.self.inside.files c.create.new.self c.args.name.now _ c.in_ok-create.ensures.openings c.in_ok-create.ensures.number)

pub returns-clause-maps : goal.returns-clause-maps
returns-clause-maps c = rw (← c.self.view_is) (create_maps true c.self.inside.files c.create.new.self c.args.name.now c.self.inside.room c.in_ok-create.ensures.files c.create.ensures.whole)

pub returns-clause-creates : goal.returns-clause-creates
returns-clause-creates c = rw (← c.self.view_is) (shelf_gives _ _ _ _ _ _ c.self.inside.files c.create.new.self c.args.name.now _ _ _ refl refl
    c.in_ok-create.ensures.openings c.create.ensures.whole c.create.ensures.refused c.in_ok-create.ensures.number
    (set_content true c.self.inside.files c.create.new.self c.args.name.now c.self.inside.room c.in_ok-create.ensures.files c.create.ensures.whole))
