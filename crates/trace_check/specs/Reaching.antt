-- What roles reach on a whole tree, as ranges of nodes' numbers (this project's).
use Rattle.std.specs.Prelude.{◌≡◌, ℕ, Bool, ◌&&◌, List, [], ◌∷◌, map, filter, nat_le, ◌==◌}
use Rattle.gcx_base.specs.declared.steps.Step.{Step}
use Rattle.gcx_model.specs.Core.{RoleTarget, Own, First, Whole}
use Rattle.gcx_model.specs.Held.{is_node}
use Rattle.gcx_model.specs.Members.{In}
use Rattle.gcx_model.specs.Paths.{any, first}
use Rattle.gcx_model.specs.Tree.{Node, serial_of, above, within, Tree}
use Rattle.doc_tree.specs.Rows.{node_at}
use Rattle.doc_tree.specs.Sets.{stepped}
use Rattle.trace_check.specs.declared.reach.Range.{Range}

abbrev pub in_range : ℕ → Range → Bool
in_range k r = nat_le r.first k && nat_le k r.last

-- some range has the number
abbrev pub covers : List Range → ℕ → Bool
covers ranges k = any (in_range k) ranges

-- the numbers of the set's nodes, in document order
abbrev pub numbers_of : Tree → (Node → Bool) → List ℕ
numbers_of C f = map serial_of (filter f C.nodes)

-- of the tree's nodes the ranges have the numbers of these
abbrev pub Covers : Tree → List Range → (Node → Bool) → Type 0
Covers C ranges p = (n : Node) → In n C.nodes → covers ranges (serial_of n) ≡ p n

abbrev pub is_among : List ℕ → ℕ → Bool
is_among ns k = any (λ n. n == k) ns

-- the node is the first match of the tail at one of these nodes
abbrev pub is_first_of : Tree → List ℕ → List Step → Node → Bool
is_first_of C ns tail n =
    any (λ i. is_node (serial_of n) (first C (serial_of (node_at C.nodes i)) tail)) ns

-- the node is in the subtree of one of these nodes
abbrev pub is_within_some : List ℕ → Node → Bool
is_within_some ns n = any (λ i. within i n) ns

-- what the steps reach from the set
abbrev pub stepped_on : List Step → (Node → Bool) → Node → Bool
stepped_on [] f = f
stepped_on (s ∷ rest) f = stepped_on rest (stepped s f)

-- what a role of this tail and this kind reaches from the set
abbrev pub role_reaches : Tree → (Node → Bool) → (tail : List Step) → RoleTarget → Node → Bool
role_reaches C f tail Own n = f n
role_reaches C f tail First n = any (λ j. is_node (serial_of n) (first C (serial_of j) tail)) (filter f C.nodes)
role_reaches C f tail Whole n = any (stepped_on tail f) (above n)
