-- Open trees that grow by tokens.
use Rattle.std.specs.Prelude.{◌≡◌}
use Rattle.std.specs.Prelude.{true}
use Rattle.std.specs.Prelude.{List}
use Rattle.std.specs.Prelude.{◌↔◌}
use Rattle.gcx_model.specs.Tree.{Node}
use Rattle.gcx_model.specs.Tree.{Tree}
use Rattle.gcx_model.specs.Tree.{TreeToken}
use Rattle.gcx_model.specs.Tree.{opening}
use Rattle.gcx_model.specs.Tree.{grow}
use Rattle.gcx_model.specs.Tree.{grow_all}
use Rattle.gcx_model.specs.Tree.{is_closed}
use Rattle.gcx_model.specs.Members.{In}
use Rattle.gcx_model.specs.Nodes.{Grown}
use Rattle.gcx_model.specs.Nodes.{Ordered}
use Rattle.gcx_model.specs.Growth.{Grow}
use Rattle.gcx_model.specs.Growth.{Leads}
use Rattle.gcx_model.specs.Growth.{may_come}
use Rattle.gcx_model.specs.Growth.{may_all}
use Rattle.gcx_model.specs.Growth.{tokens_of}

-- Grow is one token that may come, and P <= Q are some tokens each of which may come.
abbrev pub GrowIsFeeding : Type 0
GrowIsFeeding = (P Q : Tree) → Grow P Q ↔ ((t : TreeToken) × (may_come t P ≡ true) × (Q ≡ grow t P))

abbrev pub LeadsIsFeeding : Type 0
LeadsIsFeeding = (P Q : Tree) → Leads P Q ↔ ((ts : List TreeToken) × (may_all ts P ≡ true) × (Q ≡ grow_all ts P))

-- An open tree determines its tokens and their order.
abbrev pub TokensAreFound : Type 0
TokensAreFound = (ts : List TreeToken) → may_all ts opening ≡ true → tokens_of (grow_all ts opening) ≡ ts

-- The nodes are numbered from 0 in document order, each behind its parent.
abbrev pub NodesAreNumbered : Type 0
NodesAreNumbered = (P : Tree) → Leads opening P → Grown P × Ordered P

abbrev pub AllClosed : Tree → Type 0
AllClosed P = (m : Node) → In m P.nodes → is_closed P m ≡ true
