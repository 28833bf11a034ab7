use Rattle.std.proofs.Common.{arith}
use Rattle.cond_memo.proofs.PathRows.{itself_first, itself_taken}
use Rattle.cond_memo.proofs.taken.Taken.itself.Goals as goal

pub returns-then-self-serial : goal.returns-then-self-serial
returns-then-self-serial g c = itself_first c.args.buffer.now c.args.node c.args.self.now.steps c.args.self.now.below c.serial.result.0 c.requires.steps (omega (arith, c.if-self-serial.true)) c.serial.ensures.row

pub returns-else-self-serial : goal.returns-else-self-serial
returns-else-self-serial g c = itself_taken c.args.buffer.now c.args.node.0 c.args.self.now.steps c.args.self.now.below c.serial.result.0 c.requires.steps (omega (arith, c.if-self-serial.false)) c.serial.ensures.row
