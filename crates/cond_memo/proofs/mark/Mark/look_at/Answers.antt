use Rattle.std.proofs.Common.{sym, ◌∙◌}
use Rattle.cond_memo.proofs.MarkLooks.{looked_other, looked_waits, looked_ok}
use Rattle.cond_memo.proofs.mark.Mark.look_at.Goals as goal

pub returns-then-not-branch-clause-looked : goal.returns-then-not-branch-clause-looked
returns-then-not-branch-clause-looked g c P keep n m a o r kept =
    looked_other P c.args.self.now.steps c.args.self.now.ask n m c.args.self.now.waiting c.in_ok-is_match.field-0 c.if-not-branch.true (c.in_ok-is_match.ensures P keep n m a o r)

pub returns-then-not-is_settled-clause-looked : goal.returns-then-not-is_settled-clause-looked
returns-then-not-is_settled-clause-looked g c P keep n m a o r kept =
    looked_waits P c.args.self.now.steps c.args.self.now.ask n m c.args.self.now.waiting c.serial.result (sym o.number ∙ c.serial.ensures.row o.cell o.cell_among o.at)
    c.in_ok-is_match.field-0 c.if-not-branch.false (c.in_ok-is_match.ensures P keep n m a o r) c.is_settled.result c.if-not-is_settled.true (c.is_settled.ensures P keep m o)

pub returns-clause-looked : goal.returns-clause-looked
returns-clause-looked g c =
    looked_ok c.args.buffer.now.rows c.args.node.0 c.args.place.0 c.args.self.now c.in_ok-is_match.field-0 c.if-not-branch.false c.in_ok-is_match.ensures c.is_settled.result c.if-not-is_settled.false c.is_settled.ensures c.does.result c.does.ensures
