use Rattle.std.proofs.Common.{sym, ◌∙◌}
use Rattle.std.proofs.lemmas.Result.{IfOk-weaker}
use Rattle.matcher.proofs.Calling.{finds_here, no_firsts_here}
use Rattle.matcher.proofs.opening.first_matches.Goals as goal

pub returns-then-not-has_firsts : goal.returns-then-not-has_firsts
returns-then-not-has_firsts c =
    no_firsts_here c.args.states.now c.args.frames.now c.here-state.result.now c.here-state.ensures.is c.here-state.ensures.made (sym c.has_firsts.ensures ∙ c.if-not-has_firsts.true) c.new.result.items c.new.ensures.items

pub returns : goal.returns
returns c = IfOk-weaker c.found_of.result _ _
    (λ found h. finds_here c.args.states.now c.args.frames.now c.here-state.result.now c.here-state.ensures.is c.active.result.now c.len.result found.items c.active.ensures c.len.ensures h) c.found_of.ensures
