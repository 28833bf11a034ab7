use Rattle.std.proofs.Common.{arith}
use Rattle.trace_check.proofs.Bound.{bound_there}
use Rattle.trace_check.proofs.conditions.atom.Goals as goal

pub exists-requires-clause-there : goal.exists-requires-clause-there
exists-requires-clause-there c =
    let there = bound_there c.args.timed.now.tree c.args.scope.now c.requires.bound c.in-Exists.var.0 in
    let same = c.node_of-node.ensures in
    omega (arith, there, same)
