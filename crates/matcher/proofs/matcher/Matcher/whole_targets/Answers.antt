use Rattle.std.proofs.Common.{List, ap, subst}
use Rattle.std.proofs.lemmas.Result.{IfOk-weaker}
use Rattle.path_states.specs.Lists.{Holds}
use Rattle.matcher.specs.Ahead.{WholeTarget}
use Rattle.matcher.specs.Frames.{Hit}
use Rattle.matcher.specs.View.{FrameView, MatcherView}
use Rattle.path_states.proofs.Gaining.{holds_as}
use Rattle.matcher.proofs.matcher.Matcher.whole_targets.Goals as goal

pub returns : goal.returns
returns c = IfOk-weaker c.levels_hit.result _ _
    (λ levels h. holds_as levels.items (Hit c.args.self.now.frames c.args.end) (WholeTarget c.args.self.now c.args.role c.args.end) (λ l k. (c.has_whole.ensures.yes c.if-not-has_whole.false, k)) (λ l k. k.1)
    (subst (λ (z : List FrameView). Holds levels.items (Hit z c.args.end)) (ap (λ (m : MatcherView). m.frames) c.self.view_is) h))
    c.levels_hit.ensures
