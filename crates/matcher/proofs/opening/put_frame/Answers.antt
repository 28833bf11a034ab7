use Rattle.matcher.proofs.Calling.{adds_frame}
use Rattle.matcher.proofs.opening.put_frame.Goals as goal

pub returns-clause-added : goal.returns-clause-added
returns-clause-added c = λ finds.
    adds_frame c.args.states.now c.args.frames.now c.add.new.self c.note_found.new.self c.here.result.now c.args.firsts.now c.contexts.result.now c.here.ensures.is finds c.contexts.ensures c.in_ok-add.ensures.added c.note_found.ensures
