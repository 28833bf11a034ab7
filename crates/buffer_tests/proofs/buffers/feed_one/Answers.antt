use Rattle.std.proofs.lemmas.Result.{on_ok_weaker}
use Rattle.doc_reader.specs.Standing.{waiting}
use Rattle.buffer_tests.proofs.Feeds.{may_feed, depth_low, fed}
use Rattle.buffer_tests.proofs.buffers.feed_one.Goals as goal

pub feed_token-requires-clause-may : goal.feed_token-requires-clause-may
feed_token-requires-clause-may g c = may_feed _ _ _ _ c.requires.1 c.in-Some.token (waiting c.next.new.self) c.in-Some.ensures.takes

pub feed_token-requires-clause-depth : goal.feed_token-requires-clause-depth
feed_token-requires-clause-depth g c = depth_low _ _ _ _ c.requires.1

pub returns : goal.returns
returns g c =
    on_ok_weaker c.put_changes.result
    (λ same plan f. fed plan _ _ _ f c.in-Some.token (waiting c.next.new.self) c.in-Some.ensures.takes _ _ _ _ c.in-Some.ensures.stands c.in_ok-fed.ensures.feeds.stands c.in_ok-fed.ensures.feeds.place same)
    c.put_changes.ensures
