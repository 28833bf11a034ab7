use Rattle.engine.proofs.TurnsFed.{feed_turns}
use Rattle.engine.proofs.turns.Course.turn.Goals as goal

pub returns-in-Feed-clause-turns : goal.returns-in-Feed-clause-turns
returns-in-Feed-clause-turns g c = feed_turns g.C.Conds.stands c.args.self.now c.feed.new.self c.args.out.now.items c.args.turn c.feed.result c.in-Feed.is c.feed.ensures.fed
