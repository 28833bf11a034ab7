use Rattle.std.proofs.Common.{ap, refl}
use Rattle.run_part.specs.declared.actors.Tallied.{Tallied}
use Rattle.engine.specs.declared.turns.Reached.{Reached}
use Rattle.engine.proofs.TurnsTaken.{tells}
use Rattle.engine.proofs.turns.Course.reached.Goals as goal

pub returns : goal.returns
returns g c = λ plan ts s roles h.
    let a = c.args.self.now in
    let r : Reached = record { fed = a.fed; acted = a.acted; held = c.held.result; nodes = c.nodes.result; given = c.counts.result.given; taken = c.taken.result } in
    tells g.C.Conds.stands plan ts s a h roles r refl refl c.held.ensures c.nodes.ensures (ap (λ (z : Tallied). z.given) c.counts.ensures) c.taken.ensures
