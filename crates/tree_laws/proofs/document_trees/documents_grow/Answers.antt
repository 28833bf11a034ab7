use Rattle.tree_laws.proofs.Documents as from
use Rattle.tree_laws.proofs.document_trees.documents_grow.Goals as goal

pub returns : goal.returns
returns c = from.documents_grow
