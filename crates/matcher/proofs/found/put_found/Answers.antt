use Rattle.matcher.specs.Frames.{FoundAt}
use Rattle.path_states.proofs.Gaining.{gains_start, gains_next, gains_all}
use Rattle.matcher.proofs.found.put_found.Goals as goal

pub loop-level-init : goal.loop-level-init
loop-level-init c = gains_start c.args.found.now.items (FoundAt c.args.frames.now c.args.role)

pub loop-level-preserved : goal.loop-level-preserved
loop-level-preserved c = gains_next c.args.found.now.items c.loop-level.found.items c.put_one.new.found.items c.args.levels.now (FoundAt c.args.frames.now c.args.role) c.loop-level.level-index c.loop-level-test.true c.loop-level.invariant c.in_ok-put_one.ensures

pub returns : goal.returns
returns c = gains_all c.args.found.now.items c.loop-level.found.items c.args.levels.now (FoundAt c.args.frames.now c.args.role) c.loop-level.level-index c.loop-level-test.false c.loop-level.invariant
