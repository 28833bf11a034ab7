use Rattle.std.proofs.Common.{refl}
use Rattle.matcher.specs.Frames.{IsLevelOf}
use Rattle.path_states.proofs.Gaining.{gains_push, gains_none}
use Rattle.matcher.proofs.found.put_context.Goals as goal

pub returns-in_ok-push : goal.returns-in_ok-push
returns-in_ok-push c = gains_push c.args.levels.now.items c.push.new.self.items c.args.found.level (IsLevelOf c.args.role c.args.found) c.in_ok-push.ensures.ok (c.if-found-role.true, refl) (λ y q. q.1)

pub returns-else-found-role : goal.returns-else-found-role
returns-else-found-role c = gains_none c.args.levels.now.items (IsLevelOf c.args.role c.args.found) (λ y q. c.if-found-role.false q.0)
