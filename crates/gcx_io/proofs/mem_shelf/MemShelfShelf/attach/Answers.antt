use Rattle.std.proofs.Common.{◌≡◌, rules, None, refl, ap}
use Rattle.gcx_io.specs.Held.{held, held_or_none}
use Rattle.gcx_io.specs.Files.{OpenFiles, held_names}
use Rattle.gcx_io.specs.Tallies.{Tally}
use Rattle.gcx_io.proofs.Seen.{shelf_gives}
use Rattle.gcx_io.proofs.Shelves.{opens_adds, attach_names, held_content}
use Rattle.gcx_io.proofs.mem_shelf.MemShelfShelf.attach.Goals as goal

pub returns-clause-given : goal.returns-clause-given
returns-clause-given c =
    rw (← c.self.view_is) (opens_adds c.self.inside.files c.attach.new.self c.args.name.now (held_or_none c.self.inside.files.files c.args.name.now) _ (ap (λ (s : OpenFiles). s.openings) c.in_ok-attach.ensures.ok)
    c.in_ok-attach.ensures.number)

pub returns-clause-named : goal.returns-clause-named
returns-clause-named c = rw (← c.self.view_is) (attach_names (held_names c.self.inside.files) c.self.inside.files c.attach.new.self c.args.name.now (held_or_none c.self.inside.files.files c.args.name.now) _ c.in_ok-attach.ensures.ok c.in_ok-attach.ensures.number)

pub returns-clause-attaches : goal.returns-clause-attaches
returns-clause-attaches c =
    let there : held c.self.inside.files.files c.args.name.now ≡ None → ⊥ = search rules in
    rw (← c.self.view_is) (
      shelf_gives _ _ _ _ _ _ c.self.inside.files c.attach.new.self c.args.name.now (held_or_none c.self.inside.files.files c.args.name.now) _ _
          (ap (λ (t : Tally). t.faults) c.if-is_failing.ensures.calls) refl
          (ap (λ (s : OpenFiles). s.openings) c.in_ok-attach.ensures.ok) (ap (λ (s : OpenFiles). s.whole) c.in_ok-attach.ensures.ok) (ap (λ (s : OpenFiles). s.refused) c.in_ok-attach.ensures.ok)
          c.in_ok-attach.ensures.number (held_content c.self.inside.files.whole c.self.inside.files c.args.name.now there),
      ap (λ (s : OpenFiles). held_names s) c.in_ok-attach.ensures.ok,
    )
