use Rattle.pull_eval.proofs.MovesOn.{chosen_on}
use Rattle.pull_eval.proofs.machine.Runner.run_on.Goals as goal

pub returns-in-If-clause-moves : goal.returns-in-If-clause-moves
returns-in-If-clause-moves g c =
    chosen_on (g.C.Conds.stands c.args.self.now.conds) (g.C.Conds.stands c.choose.new.self.conds) c.args.self.now.position c.choose.new.self.position c.args.buffer.now c.args.out.now.items c.choose.result c.choose.ensures.moved
