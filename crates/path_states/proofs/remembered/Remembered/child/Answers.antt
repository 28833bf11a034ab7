use Rattle.path_states.proofs.Remembering.{leads_known}
use Rattle.path_states.proofs.remembered.Remembered.child.Goals as goal

pub returns-in-Some-clause-ok : goal.returns-in-Some-clause-ok
returns-in-Some-clause-ok c = λ a. leads_known c.args.self.now c.args.from c.args.number c.in-Some.to c.in-Some.ensures c.args.tree.now c.args.steps.now a
