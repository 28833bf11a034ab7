use Rattle.pass_laws.proofs.Stay as from
use Rattle.pass_laws.proofs.value_lists.lists_tell.Goals as goal

pub returns : goal.returns
returns c = from.lists_tell
