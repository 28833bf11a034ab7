use Rattle.std.proofs.Common.{true, refl}
use Rattle.run_part.proofs.InOrder.{few_none}
use Rattle.run_part.proofs.lines.NoLinesLines.spill.Goals as goal

pub returns-clause-spilled : goal.returns-clause-spilled
returns-clause-spilled g c = record { flows = refl; others = λ k off. refl }

pub returns-clause-few : goal.returns-clause-few
returns-clause-few g c = few_none (g.O.Outside.most c.args.to.now true)

pub returns-clause-writes : goal.returns-clause-writes
returns-clause-writes g c = g.met.O.Outside.writes_same c.args.to.now
