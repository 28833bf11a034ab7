use Rattle.std.proofs.Common.{false}
use Rattle.many_run.proofs.Turns.{may_go}
use Rattle.engine_tests.proofs.Manies.{count_ok, fresh_ok, stand_ok}
use Rattle.engine_tests.proofs.engines.manies.fed.Goals as goal

pub feed-requires : goal.feed-requires
feed-requires c = let s = c.requires.stands in may_go (λ k P. Unit {0}) s.limits c.args.many.now s.read false s.of c.requires.fresh

pub returns-clause-fresh : goal.returns-clause-fresh
returns-clause-fresh c = fresh_ok c.feed.result c.feed.new.self.refused c.feed.ensures.answer

pub returns-clause-stands : goal.returns-clause-stands
returns-clause-stands c = stand_ok (λ k P. Unit {0}) c.args.many.now c.feed.new.self c.requires.fresh c.requires.stands c.feed.result c.args.piece.now c.feed.ensures.fed

pub returns-clause-count : goal.returns-clause-count
returns-clause-count c = count_ok (λ k P. Unit {0}) c.args.many.now c.feed.new.self c.requires.fresh c.requires.stands c.feed.result c.args.piece.now c.feed.ensures.fed
