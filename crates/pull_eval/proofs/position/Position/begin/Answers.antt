use Rattle.pull_eval.proofs.Beginning.{root_there, beside_begun}
use Rattle.pull_eval.proofs.position.Position.begin.Goals as goal

pub unreachable-requires : goal.unreachable-requires
unreachable-requires g c = let r = c.requires in root_there c.args.self.now c.args.buffer.now r.0 r.1 r.2 c.if-self.false c.in_default.ensures

pub returns-clause-stays : goal.returns-clause-stays
returns-clause-stays g c past k b = beside_begun c.args.self.now c.args.buffer.now past k b c.if-self.false c.in-Some.root.0 c.bind.new.self c.in-Some.ensures c.in_ok-bind.ensures.ok
