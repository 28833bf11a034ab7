use Rattle.cond_memo.proofs.PairSides.{other_node, same_node, turn_new, turn_stays}
use Rattle.cond_memo.proofs.pair.turn.Goals as goal

pub returns-then-is_of-clause-frame : goal.returns-then-is_of-clause-frame
returns-then-is_of-clause-frame c = same_node c.args.side.now c.args.of (c.is_of.ensures.0 c.if-is_of.true)

pub returns-then-is_of-clause-turned : goal.returns-then-is_of-clause-turned
returns-then-is_of-clause-turned c = turn_stays c.args.hand c.args.side.now c.args.compared.now c.args.of (c.is_of.ensures.0 c.if-is_of.true)

pub returns-clause-frame : goal.returns-clause-frame
returns-clause-frame c = other_node c.args.side.now c.turn_to.new.self c.args.of c.turn_to.ensures

pub returns-clause-turned : goal.returns-clause-turned
returns-clause-turned c = turn_new c.args.hand c.args.side.now c.args.compared.now c.args.of c.turn_to.new.self c.clear.new.self c.turn_to.ensures c.clear.ensures
