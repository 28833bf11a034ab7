use Rattle.std.proofs.Common.{◌<◌, arith}
use Rattle.pull_eval.proofs.Guarding.{closed_there, row_there}
use Rattle.pull_eval.proofs.guard.is_closed.Goals as goal

pub is_closed-requires : goal.is_closed-requires
is_closed-requires g c =
    let f = c.if-from-var.false in
    let low : c.args.from.0 < c.args.var.0 = omega (arith, f) in
    row_there c.args.buffer.now.rows c.args.env.now c.args.var.0 c.args.from.0 c.in-Some.place.0 c.in-Some.field-0-1.0 c.in-Some.ensures low c.requires

pub returns-in-Some : goal.returns-in-Some
returns-in-Some g c = λ e.
    closed_there c.args.buffer.now.rows c.args.env.now c.args.var.0 c.args.from.0 c.in-Some.place.0 c.in-Some.field-0-1.0 c.is_closed.result c.in-Some.ensures (λ d i at. c.is_closed.ensures d i at) e
