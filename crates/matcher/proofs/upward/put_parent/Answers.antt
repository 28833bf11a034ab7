use Rattle.std.proofs.Common.{◌-◌, arith}
use Rattle.path_states.proofs.Gaining.{gains_as, gains_none}
use Rattle.matcher.specs.Frames.{HitAbove, HitAt}
use Rattle.matcher.specs.View.{frames_of}
use Rattle.matcher.proofs.upward.put_parent.Goals as goal

pub returns-then-level-eq0 : goal.returns-then-level-eq0
returns-then-level-eq0 c = gains_none c.args.found.now.items (HitAbove (frames_of c.args.states.now c.args.frames.now) c.args.state c.args.level) (λ y q. let e = q.0 in let z = c.if-level-eq0.true in omega arith)

pub returns : goal.returns
returns c = gains_as c.args.found.now.items c.put_level.new.found.items (HitAt (frames_of c.args.states.now c.args.frames.now) c.args.state (c.args.level - 1)) (HitAbove (frames_of c.args.states.now c.args.frames.now) c.args.state c.args.level)
    (λ y q. (let e = q.0 in let z = c.if-level-eq0.false in omega arith, q.1))
    (λ y q. (let e = q.0 in omega arith, q.1))
    c.in_ok-put_level.ensures
