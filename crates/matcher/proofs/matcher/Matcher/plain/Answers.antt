use Rattle.std.proofs.Common.{sym, ◌∙◌, ap}
use Rattle.matcher.specs.View.{MatcherView}
use Rattle.path_states.proofs.Looking.{none_of}
use Rattle.matcher.proofs.matcher.Matcher.plain.Goals as goal

pub returns : goal.returns
returns c =
    c.count_here.ensures
    (sym (ap (λ (m : MatcherView). m.signs) c.self.view_is) ∙ (sym c.as_slice.ensures.value ∙ none_of c.as_slice.result.now (sym c.is_empty.ensures ∙ c.if-not-is_empty.false)))
