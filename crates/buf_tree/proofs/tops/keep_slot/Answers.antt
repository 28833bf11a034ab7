use Rattle.std.proofs.Common.{◌∙◌, ap, sym, Option}
use Rattle.gcx_model.specs.declared.item.Off.{Off}
use Rattle.buf_tree.specs.Tops.{kept_by}
use Rattle.buf_tree.proofs.tops.keep_slot.Goals as goal

pub keep_top-requires-clause-room : goal.keep_top-requires-clause-room
keep_top-requires-clause-room g c = c.requires.room c.in-Some.top c.in-Some.is

pub returns-in-Some-clause-held : goal.returns-in-Some-clause-held
returns-in-Some-clause-held g c p k u l stays is = c.keep_top.ensures.held p k u l (stays c.in-Some.top.role.0) (is c.in-Some.top c.in-Some.is) ∙ ap (λ (o : Option Off). kept_by o stays c.args.roles.now.held) (sym c.in-Some.is)
