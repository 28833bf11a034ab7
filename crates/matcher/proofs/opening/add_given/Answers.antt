use Rattle.std.proofs.Common.{List, sym, subst}
use Rattle.path_states.specs.Lists.{Climbs}
use Rattle.matcher.specs.Entering.{FindsHere}
use Rattle.matcher.specs.declared.frames.Found.{Found}
use Rattle.matcher.proofs.Calling.{adds_given}
use Rattle.matcher.proofs.opening.add_given.Goals as goal

pub returns-clause-added : goal.returns-clause-added
returns-clause-added c =
    let x = c.here-state.result.now in
    let made = c.here-state.ensures.made in
    let finds = subst (λ (z : List Found). FindsHere c.args.states.now c.args.frames.now z) (sym c.as_slice-firsts.ensures) c.in_ok-found.ensures in
    adds_given c.args.states.now c.args.frames.now c.put_frame.new.frames x c.as_slice-firsts.result.now c.in_ok-given.given c.given.result.now c.here-state.ensures.is made (c.in_ok-put_frame.ensures.added finds) c.given.ensures
    (c.in_ok-given.ensures (subst Climbs (sym c.given.ensures) made.rising))
