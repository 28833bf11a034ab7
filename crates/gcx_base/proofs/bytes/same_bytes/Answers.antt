use Rattle.std.proofs.Common.{arith}
use Rattle.gcx_base.proofs.Same.{same_behind}
use Rattle.gcx_base.proofs.bytes.same_bytes.Goals as goal

pub returns-in-Some-clause-test : goal.returns-in-Some-clause-test
returns-in-Some-clause-test c = same_behind c.args.one.now c.args.other.now c.in-Some.last c.same_from.result (omega (arith, c.if-one-other.false)) c.in-Some.ensures.same c.same_from.ensures
