use Rattle.std.proofs.Common.{◌≡◌, ◌+◌, ◌<◌, ◌^◌, drop}
use Rattle.gcx_model.specs.Normal.{clause_loops}
use Rattle.xq_normal.specs.Shapes.{capped}
use Rattle.xq_normal.proofs.loops.clause_loops.Given as goal

abbrev pub invariant-loop-clause : goal.invariant-loop-clause
invariant-loop-clause l = record {
  adds : capped (l.count + clause_loops (drop l.clause-index l.clauses)) ≡ capped (clause_loops l.clauses);
  fits : l.count < 2 ^ 64;
}
