use Rattle.std.proofs.Common.{false}
use Rattle.run_part.proofs.InOrder.{few_none}
use Rattle.run_part.proofs.lines.NoLinesLines.may_wait.Goals as goal

pub returns : goal.returns
returns g c = λ yes. few_none (g.O.Outside.most c.args.to.now false)
