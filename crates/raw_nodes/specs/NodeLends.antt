-- What a node ends as, once a `&mut` to its payload has ended. This follows the code: only private functions speak of it.
use Rattle.std.specs.Borrow.{Fml, RattleType, MutBor, Lends}
use Rattle.raw_nodes.specs.Nodes.{paid_node}
use Rattle.raw_nodes.specs.declared.node.Node.{Node}
use Rattle.raw_nodes.specs.contracts.node.Node.{the_row}

abbrev pub lends_payload : (R : RattleType) → MutBor (Node R.Denot) → MutBor R.Denot → Fml
lends_payload R n r = Lends (the_row R) R n r (paid_node n.now)
