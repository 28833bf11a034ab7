use Rattle.std.proofs.Common.{refl}
use Rattle.path_states.proofs.Gaining.{gains_push}
use Rattle.matcher.specs.Frames.{HitAt}
use Rattle.matcher.specs.View.{frames_of}
use Rattle.matcher.proofs.upward.put_level.Goals as goal

pub returns-in_ok-push : goal.returns-in_ok-push
returns-in_ok-push c =
    gains_push c.args.found.now.items c.push.new.self.items c.args.level (HitAt (frames_of c.args.states.now c.args.frames.now) c.args.state c.args.level) c.in_ok-push.ensures.ok (refl, c.is_hit.ensures.yes c.if-is_hit.true) (λ y q. q.0)
