use Rattle.pull_eval.specs.Guards.{IsBoundBelow, IsClosedBelow}
use Rattle.pull_eval.proofs.Guarding.{path_asked, path_told}
use Rattle.pull_eval.proofs.guard.is_operand_settled.Goals as goal

pub is_closed-requires : goal.is_closed-requires
is_closed-requires g c = path_asked (IsBoundBelow c.args.buffer.now.rows c.args.env.now c.args.var.0) c.args.operand.now c.in-Path.from c.in-Path.steps c.in-Path.is c.requires

pub returns-in-Path : goal.returns-in-Path
returns-in-Path g c = λ e. path_told (IsClosedBelow c.args.buffer.now.rows c.args.env.now c.args.var.0) c.args.operand.now c.in-Path.from c.in-Path.steps c.in-Path.is (c.is_closed.ensures e)
