-- What limits say of the tree of what is seen.
use Rattle.std.specs.Prelude.{◌≡◌, ℕ, ◌+◌, ◌≤◌, Bool, List, ◌++◌, length, Some}
use Rattle.gcx_base.specs.declared.kind.Kind.TheVariants.{Element}
use Rattle.gcx_base.specs.declared.limits.Limits.{Limits}
use Rattle.gcx_model.specs.Tree.{Node, kind_of, Tree, TreeToken}
use Rattle.gcx_model.specs.Members.{In}
use Rattle.gcx_model.specs.Growth.{level}
use Rattle.gcx_model.specs.Seen.{SeenIs, seen_tree}

-- an open tree of tokens that are seen in the bytes b, within limits
pub record IsTreeWithin (lim : Limits) (b : List ℕ) (P : Tree) : Type 0 where
  -- no element lies too deep, and attributes are elements
  pub elements : (n : Node) (name : List ℕ) → In n P.nodes → kind_of n ≡ Element name → level n ≤ lim.depth
  -- so no more elements are open at once
  pub open_elements : (p : Node) → P.at ≡ Some p → level p ≤ lim.depth
  -- beside the document node there are no more nodes than bytes, as each node takes a byte of its own
  pub nodes : length P.nodes ≤ 1 + length b
  -- nor than bytes may be
  pub at_most : length P.nodes ≤ 1 + lim.bytes

-- Behind each front of the tokens that are seen the tree is within limits.
abbrev pub SeenWithin : Type 0
SeenWithin = (lim : Limits) (b : List ℕ) (ended : Bool) (ts before after : List TreeToken) → SeenIs lim b ended ts → ts ≡ before ++ after → IsTreeWithin lim b (seen_tree before)
