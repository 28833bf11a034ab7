use Rattle.past_laws.proofs.Ahead as from
use Rattle.past_laws.proofs.pasts.new_node.Goals as goal

pub returns : goal.returns
returns c = from.new_node
