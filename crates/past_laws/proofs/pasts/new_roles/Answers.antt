use Rattle.past_laws.proofs.RowFacts as from
use Rattle.past_laws.proofs.pasts.new_roles.Goals as goal

pub returns : goal.returns
returns c = from.new_roles
