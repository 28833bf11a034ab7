use Rattle.std.proofs.Common.{arith}
use Rattle.std.proofs.lemmas.Option.{slice_get_within}
use Rattle.path_states.proofs.Gaining.{holds_as}
use Rattle.matcher.specs.Frames.{Hit, HitOver}
use Rattle.matcher.specs.View.{frames_of}
use Rattle.matcher.proofs.Framing.{frames_few}
use Rattle.matcher.proofs.found.levels_hit.Goals as goal

pub returns : goal.returns
returns c =
    let frames = frames_of c.args.states.now c.args.frames.now in
    holds_as c.in_ok-levels.levels.items (HitOver frames c.args.state c.len.result) (Hit frames c.args.state)
    (λ l q. q.1)
    (λ l h. (let b = slice_get_within frames l h.frame h.at in let k = frames_few c.args.states.now.states c.args.frames.now in let e = c.len.ensures in omega arith, h))
    c.in_ok-levels.ensures
