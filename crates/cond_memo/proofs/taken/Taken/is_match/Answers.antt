use Rattle.cond_memo.proofs.MarkRows.{leads_told}
use Rattle.cond_memo.proofs.taken.Taken.is_match.Goals as goal

pub returns : goal.returns
returns g c = leads_told c.args.buffer.now.rows c.args.node.0 c.args.place.0 c.items-steps.result.now c.args.self.now.steps c.args.self.now.last c.leads.result c.items-steps.ensures c.leads.ensures
