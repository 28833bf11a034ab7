use Rattle.past_laws.proofs.PastForms as from
use Rattle.past_laws.proofs.pasts.past_feeds.Goals as goal

pub returns : goal.returns
returns c = from.past_feeds
