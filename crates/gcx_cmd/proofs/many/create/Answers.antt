use Rattle.std.proofs.Common.{◌≤◌, sym, ap, arith}
use Rattle.gcx_io.specs.Views.{ShelfView}
use Rattle.gcx_cmd.proofs.ManyKept.{kept_created, kept_uncreated, maps_seen}
use Rattle.gcx_cmd.specs.ManyDoes.{create_status}
use Rattle.gcx_cmd.proofs.many.create.Goals as goal

pub returns-in-Ok-clause-made : goal.returns-in-Ok-clause-made
returns-in-Ok-clause-made g c =
    let before = ap (λ (v : ShelfView). v.names) (g.met.F.Shelf.sees c.args.files.now) in
    let after = ap (λ (v : ShelfView). v.names) (g.met.F.Shelf.sees c.create.new.self) in (
      c.in-Ok.ensures.creates,
      maps_seen c.args.name.now (g.F.Shelf.seen c.args.files.now) (g.F.Shelf.seen c.create.new.self) (g.F.Shelf.names c.args.files.now) (g.F.Shelf.names c.create.new.self) before after c.in-Ok.ensures.maps,
    )

pub returns-in-Ok-clause-keeps : goal.returns-in-Ok-clause-keeps
returns-in-Ok-clause-keeps g c = λ outs among.
    let before = ap (λ (v : ShelfView). v.names) (g.met.F.Shelf.sees c.args.files.now) in
    let after = ap (λ (v : ShelfView). v.names) (g.met.F.Shelf.sees c.create.new.self) in
    kept_created outs c.args.name.now (g.F.Shelf.seen c.args.files.now) (g.F.Shelf.seen c.create.new.self) c.in-Ok.handle among c.in-Ok.ensures.creates
    (maps_seen c.args.name.now (g.F.Shelf.seen c.args.files.now) (g.F.Shelf.seen c.create.new.self) (g.F.Shelf.names c.args.files.now) (g.F.Shelf.names c.create.new.self) before after c.in-Ok.ensures.maps)

pub returns-in-Err-Failed-clause-fails : goal.returns-in-Err-Failed-clause-fails
returns-in-Err-Failed-clause-fails g c = (c.in-Err-Failed.field-0, sym (ap create_status c.in-Err-Failed.field-0-is), c.in-Err-Failed.ensures.creates)

pub returns-in-Err-Failed-clause-keeps : goal.returns-in-Err-Failed-clause-keeps
returns-in-Err-Failed-clause-keeps g c = λ outs among.
    let before = ap (λ (v : ShelfView). v.write_faults) (g.met.F.Shelf.sees c.args.files.now) in
    let after = ap (λ (v : ShelfView). v.write_faults) (g.met.F.Shelf.sees c.create.new.self) in
    let later : (g.F.Shelf.seen c.args.files.now).write_faults ≤ (g.F.Shelf.seen c.create.new.self).write_faults = omega (arith, c.create.ensures.later, before, after) in
    kept_uncreated outs c.args.name.now (g.F.Shelf.seen c.args.files.now) (g.F.Shelf.seen c.create.new.self) c.in-Err-Failed.field-0 c.in-Err-Failed.ensures.creates later

pub returns-in-Err-Memory-clause-fails : goal.returns-in-Err-Memory-clause-fails
returns-in-Err-Memory-clause-fails g c = (c.in-Err-Memory.field-0, sym (ap create_status c.in-Err-Memory.field-0-is), c.in-Err-Memory.ensures.creates)

pub returns-in-Err-Memory-clause-keeps : goal.returns-in-Err-Memory-clause-keeps
returns-in-Err-Memory-clause-keeps g c = λ outs among.
    let before = ap (λ (v : ShelfView). v.write_faults) (g.met.F.Shelf.sees c.args.files.now) in
    let after = ap (λ (v : ShelfView). v.write_faults) (g.met.F.Shelf.sees c.create.new.self) in
    let later : (g.F.Shelf.seen c.args.files.now).write_faults ≤ (g.F.Shelf.seen c.create.new.self).write_faults = omega (arith, c.create.ensures.later, before, after) in
    kept_uncreated outs c.args.name.now (g.F.Shelf.seen c.args.files.now) (g.F.Shelf.seen c.create.new.self) c.in-Err-Memory.field-0 c.in-Err-Memory.ensures.creates later
