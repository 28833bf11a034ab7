use Rattle.cond_memo.proofs.PairAsks.{both_closed, left_used, right_used}
use Rattle.cond_memo.proofs.PairTruths.{may_look, same_paths, truth_told}
use Rattle.cond_memo.proofs.pair.Pair.ask.Goals as goal

pub look-requires : goal.look-requires
look-requires g c =
    may_look c.args.buffer.now c.args.self.now c.args.one.0.0 c.args.two.0.0 c.args.one.1 c.args.two.1 c.turn.new.side c.turn-2.new.side c.turn.new.compared c.turn-2.new.compared
    c.turn.ensures.frame c.turn-2.ensures.frame c.turn.ensures.turned c.turn-2.ensures.turned c.requires

pub is_closed-first-requires : goal.is_closed-first-requires
is_closed-first-requires g c = left_used c.args.buffer.now c.args.self.now c.args.one.0.0 c.args.one.1.0 c.args.two.0.0 c.args.two.1.0 c.requires

pub is_closed-second-requires : goal.is_closed-second-requires
is_closed-second-requires g c = right_used c.args.buffer.now c.args.self.now c.args.one.0.0 c.args.one.1.0 c.args.two.0.0 c.args.two.1.0 c.requires

pub returns-clause-paths : goal.returns-clause-paths
returns-clause-paths g c =
    same_paths c.args.buffer.now c.args.self.now c.args.one.0.0 c.args.two.0.0 c.args.one.1 c.args.two.1 c.turn.new.side c.turn-2.new.side c.turn.new.compared c.turn-2.new.compared
    c.turn.ensures.frame c.turn-2.ensures.frame c.turn.ensures.turned c.turn-2.ensures.turned c.look.new.self c.in_ok-found.ensures.frame

pub returns-clause-told : goal.returns-clause-told
returns-clause-told g c =
    truth_told c.args.buffer.now c.args.self.now c.args.one.0.0 c.args.two.0.0 c.args.one.1 c.args.two.1 c.turn.new.side c.turn-2.new.side c.turn.new.compared c.turn-2.new.compared
    c.turn.ensures.frame c.turn-2.ensures.frame c.turn.ensures.turned c.turn-2.ensures.turned c.look.new.self c.in_ok-found.ensures.frame
    c.in_ok-found.found c.in_ok-found.ensures.found _
    (both_closed c.args.buffer.now c.args.one.0.0 c.args.two.0.0 c.args.self.now.left.steps c.args.self.now.right.steps c.is_closed-first.result c.is_closed-second.result c.is_closed-first.ensures c.is_closed-second.ensures)
    c.settled.result c.settled.ensures
