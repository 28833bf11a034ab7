use Rattle.buffer_tests.proofs.Feeds.{plain}
use Rattle.buffer_tests.proofs.buffers.followed_from.Goals as goal

pub returns : goal.returns
returns g c = plain _ _ _ _ c.in_ok-follow_all.ensures
