use Rattle.std.proofs.Common.{◌<◌, length, refl, arith}
use Rattle.matcher.proofs.Calling.{entered_halts, entered_left}
use Rattle.matcher.proofs.opening.step.Goals as goal

pub returns-then-is_vain-clause-done : goal.returns-then-is_vain-clause-done
returns-then-is_vain-clause-done c = λ go.
    let v = c.args.states.now in
    let l : 0 < length v.states = (let a = go.0 in let b = go.1 in omega arith) in (
      (entered_left v c.enter.new.self c.leave.new.self c.args.number c.in_ok-enter.ensures.entered c.leave.ensures l, refl),
      entered_halts v c.enter.new.self c.args.number c.args.text c.here.result.now c.in_ok-enter.ensures.entered c.here.ensures.is (c.is_vain.ensures c.if-is_vain.true),
    )

pub returns-in-Err-clause-err : goal.returns-in-Err-clause-err
returns-in-Err-clause-err c = λ go.
    let v = c.args.states.now in
    let l : 0 < length v.states = (let a = go.0 in let b = go.1 in omega arith) in
    (entered_left v c.enter.new.self c.leave-in-Err.new.self c.args.number c.in_ok-enter.ensures.entered c.leave-in-Err.ensures l, c.in-Err.ensures.err)
