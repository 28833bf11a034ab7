use Rattle.std.proofs.Common.{◌≡◌, ◌∙◌, ap}
use Rattle.run_part.specs.Late.{noted}
use Rattle.run_part.specs.View.{ActorsView}
use Rattle.run_part.specs.Actors.{counted, is_quiet}
use Rattle.run_part.proofs.actors.Actors.note.Goals as goal

pub returns-clause-noted : goal.returns-clause-noted
returns-clause-noted g c =
    let old : ActorsView g.row.C.Denot = record { projector = c.self.inside.projector; buffer = c.self.inside.buffer; machine = c.self.inside.machine; counts = c.self.inside.counts } in
    let counts = c.count-self-inside.ensures ∙ ap (counted old.counts c.args.tally) c.held.ensures in
    let form : record old { buffer = c.clear_gone.new.self; counts = c.count-self-inside.result } ≡ noted old c.args.tally = (λ i. record old { buffer = c.clear_gone.ensures i; counts = counts i }) in
    form ∙ ap (λ (z : ActorsView g.row.C.Denot). noted z c.args.tally) c.self.view_is

pub returns-clause-quiet : goal.returns-clause-quiet
returns-clause-quiet g c = c.is_quiet-quiet.ensures ∙ ap (λ (z : ActorsView g.row.C.Denot). is_quiet c.args.tally z.buffer) c.self.view_is
