use Rattle.std.proofs.Common.{false, sym, subst}
use Rattle.matcher.specs.Matcher.{MatcherAt}
use Rattle.projector.specs.View.{ProjectorView}
use Rattle.projector.specs.Projector.{heard}
use Rattle.projector.proofs.projector.Projector.document.Goals as goal

pub returns : goal.returns
returns c = λ past p. c.in_ok-given.ensures (heard past) false (subst (λ (q : ProjectorView). MatcherAt q.matcher (heard past) false) (sym c.self.view_is) p.matcher)
