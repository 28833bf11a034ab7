use Rattle.std.proofs.Common.{sym}
use Rattle.engine_tests.proofs.Demand.{fed_depth, fed_may, fed_nodes, fed_on, none_left}
use Rattle.engine_tests.proofs.engines.demand.Pair.feed.Goals as goal

pub feed_token-requires-clause-place : goal.feed_token-requires-clause-place
feed_token-requires-clause-place c = c.requires.stand.keeps

pub feed_token-requires-clause-may : goal.feed_token-requires-clause-may
feed_token-requires-clause-may c = fed_may _ _ _ _ c.requires c.in-Some.token c.pop_front.new.self.items c.in-Some.ensures.items

pub feed_token-requires-clause-nodes : goal.feed_token-requires-clause-nodes
feed_token-requires-clause-nodes c = fed_nodes _ _ _ _ c.requires c.in-Some.token c.pop_front.new.self.items c.in-Some.ensures.items

pub feed_token-requires-clause-depth : goal.feed_token-requires-clause-depth
feed_token-requires-clause-depth c = fed_depth _ _ _ _ c.requires c.in-Some.token c.pop_front.new.self.items c.in-Some.ensures.items

pub returns-in_default : goal.returns-in_default
returns-in_default c = none_left _ _ _ _ c.requires c.pop_front.new.self.items (sym c.in_default.ensures.items)

pub returns : goal.returns
returns c = fed_on _ _ _ _ c.requires c.in-Some.token c.pop_front.new.self.items c.in-Some.ensures.items _ _ _ c.in_ok-feed_token.ensures.feeds c.note_gone.new.buffer c.in_ok-note_gone.ensures
