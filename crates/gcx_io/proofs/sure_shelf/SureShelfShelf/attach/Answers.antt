use Rattle.std.proofs.Common.{ap, refl}
use Rattle.gcx_io.specs.Held.{held_or_none}
use Rattle.gcx_io.specs.Files.{OpenFiles, all_names}
use Rattle.gcx_io.proofs.Seen.{shelf_gives, sure_content}
use Rattle.gcx_io.proofs.Shelves.{opens_adds, attach_names}
use Rattle.gcx_io.proofs.sure_shelf.SureShelfShelf.attach.Goals as goal

pub returns-clause-named : goal.returns-clause-named
returns-clause-named c = rw (← c.self.view_is) (attach_names (all_names c.self.inside.files) c.self.inside.files c.attach.new.self c.args.name.now (held_or_none c.self.inside.files.files c.args.name.now) _ c.in_ok-attach.ensures.ok c.in_ok-attach.ensures.number)

pub returns-clause-attaches : goal.returns-clause-attaches
returns-clause-attaches c = rw (← c.self.view_is) (
  shelf_gives _ _ _ _ _ _ c.self.inside.files c.attach.new.self c.args.name.now (held_or_none c.self.inside.files.files c.args.name.now) _ _ refl refl
      (ap (λ (s : OpenFiles). s.openings) c.in_ok-attach.ensures.ok) (ap (λ (s : OpenFiles). s.whole) c.in_ok-attach.ensures.ok) (ap (λ (s : OpenFiles). s.refused) c.in_ok-attach.ensures.ok)
      c.in_ok-attach.ensures.number (sure_content c.self.inside.files c.args.name.now),
  ap (λ (s : OpenFiles). all_names s) c.in_ok-attach.ensures.ok,
)

pub returns-clause-given : goal.returns-clause-given
returns-clause-given c = rw (← c.self.view_is) (opens_adds c.self.inside.files c.attach.new.self c.args.name.now (held_or_none c.self.inside.files.files c.args.name.now) _ (ap (λ (s : OpenFiles). s.openings) c.in_ok-attach.ensures.ok)
    c.in_ok-attach.ensures.number)
