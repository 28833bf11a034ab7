use Rattle.pull_eval.proofs.MovesOn.{takes_last}
use Rattle.pull_eval.proofs.machine.Runner.act.Goals as goal

pub returns-in-Some-clause-acts : goal.returns-in-Some-clause-acts
returns-in-Some-clause-acts g c past k b s =
    let i = c.moves.invariant in
    let still = i.stays past k b s in
    let m = c.in_ok-acted.ensures.moves past k still.0 still.1 in (
      takes_last past k c.moves.self.position c.advance.new.self.position c.moves.buffer c.args.buffer.now c.advance.new.buffer c.moves.out.items c.args.out.now.items c.advance.new.out.items c.in_ok-acted.field-0 c.in-Some.acted c.in-Some.is i.buffer i.out m.0,
      m.1,
    )
