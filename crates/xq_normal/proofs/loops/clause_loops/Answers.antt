use Rattle.std.proofs.Common.{ap, arith, drop}
use Rattle.std.proofs.lemmas.List.{drop_all}
use Rattle.gcx_model.specs.Normal.{clause_loops}
use Rattle.xq_normal.proofs.Counts.{counted}
use Rattle.xq_normal.proofs.loops.clause_loops.Goals as goal

pub returns : goal.returns
returns c =
    counted c.loop-clause.count (clause_loops (drop c.loop-clause.clause-index c.args.clauses.now)) (clause_loops c.args.clauses.now) c.loop-clause.invariant.fits
    (ap clause_loops (drop_all c.loop-clause.clause-index c.args.clauses.now (omega arith))) c.loop-clause.invariant.adds
