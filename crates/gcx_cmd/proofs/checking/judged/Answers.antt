use Rattle.std.proofs.Common.{sym, ap}
use Rattle.gcx_cmd.specs.ReadEnd.{verdict}
use Rattle.gcx_cmd.proofs.checking.judged.Goals as goal

pub returns-in-Yes : goal.returns-in-Yes
returns-in-Yes c = ap verdict (sym c.in-Yes.is)

pub returns-in-No : goal.returns-in-No
returns-in-No c = ap verdict (sym c.in-No.is)

pub returns-in-ReadFault : goal.returns-in-ReadFault
returns-in-ReadFault c = ap verdict (sym c.in-ReadFault.is)

pub returns-in-Memory : goal.returns-in-Memory
returns-in-Memory c = ap verdict (sym c.in-Memory.is)
