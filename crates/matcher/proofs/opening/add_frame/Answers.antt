use Rattle.std.proofs.Common.{[], refl, sym, ◌∙◌}
use Rattle.std.proofs.lemmas.Result.{on_ok_weaker}
use Rattle.matcher.proofs.Calling.{no_firsts_here}
use Rattle.matcher.proofs.opening.add_frame.Goals as goal

pub returns-then-not-has_firsts-clause-added : goal.returns-then-not-has_firsts-clause-added
returns-then-not-has_firsts-clause-added c =
    on_ok_weaker c.put_frame.result (λ f. ([], f (no_firsts_here c.args.states.now c.args.frames.now c.here-state.result.now c.here-state.ensures.is c.here-state.ensures.made (sym c.has_firsts.ensures ∙ c.if-not-has_firsts.true) [] refl))) c.put_frame.ensures.added
