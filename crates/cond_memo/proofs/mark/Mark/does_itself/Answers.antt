use Rattle.cond_memo.proofs.MarkTold.{itself_waits, itself_ok}
use Rattle.cond_memo.proofs.mark.Mark.does_itself.Goals as goal

pub returns-then-not-is_settled : goal.returns-then-not-is_settled
returns-then-not-is_settled g c P keep n a =
    itself_waits c.args.buffer.now.rows c.args.buffer.now.nodes c.args.self.now.ask c.args.node.0 P keep n a c.is_settled.result (c.is_settled.ensures P keep n a.at) c.if-not-is_settled.true

pub returns : goal.returns
returns g c =
    itself_ok c.args.buffer.now.rows c.args.buffer.now.nodes c.args.self.now.ask c.args.node.0 c.is_settled.result c.if-not-is_settled.false c.is_settled.ensures c.does.result c.does.ensures
