-- The tree of a whole document.
use Rattle.std.specs.Prelude.{◌≡◌}
use Rattle.std.specs.Prelude.{true}
use Rattle.gcx_model.specs.Document.{Nodes}
use Rattle.gcx_model.specs.Document.{IsDocument}
use Rattle.gcx_model.specs.Document.{tree_of}
use Rattle.gcx_model.specs.Tree.{Node}
use Rattle.gcx_model.specs.Tree.{opening}
use Rattle.gcx_model.specs.Tree.{is_closed}
use Rattle.gcx_model.specs.Members.{In}
use Rattle.gcx_model.specs.Growth.{Leads}

-- The tree of a whole document comes from the opening one by tokens each of which may come, and all its nodes are closed.
abbrev pub DocumentsGrow : Type 0
DocumentsGrow = (d : Nodes) → IsDocument d → Leads opening (tree_of d) × ((m : Node) → In m (tree_of d).nodes → is_closed (tree_of d) m ≡ true)
