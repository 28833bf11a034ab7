use Rattle.std.proofs.Common.{List, sym, subst}
use Rattle.matcher.specs.Entering.{FindsHere}
use Rattle.matcher.specs.declared.frames.Found.{Found}
use Rattle.matcher.proofs.opening.add_found.Goals as goal

pub returns-clause-added : goal.returns-clause-added
returns-clause-added c = (c.as_slice-firsts.result.now, c.in_ok-put_frame.ensures.added (subst (λ (z : List Found). FindsHere c.args.states.now c.args.frames.now z) (sym c.as_slice-firsts.ensures) c.in_ok-found.ensures))
