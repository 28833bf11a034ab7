-- Open trees: documents in which some nodes are open, with their nodes numbered in document order.
-- (XQuery 1.0, section 2.4.1 for document order; open trees are this project's.)
use Rattle.std.specs.Prelude.{ℕ, Bool, false, not, ◌||◌, List, [], ◌∷◌, ◌++◌, length, ◌==◌, Option, Some, None}
use Rattle.gcx_base.specs.declared.kind.Kind.{Kind}
use Rattle.gcx_base.specs.declared.kind.Kind.TheVariants.{Document, Element, Text}

-- the document node, or a node below its parent
pub data Node : Type 0 where
  Root : Node
  Under : (parent : Node) (serial : ℕ) (kind : Kind) → Node

abbrev pub serial_of : Node → ℕ
serial_of Root = 0
serial_of (Under p s k) = s

abbrev pub kind_of : Node → Kind
kind_of Root = Document
kind_of (Under p s k) = k

-- the node and its ancestors, nearest first
abbrev pub above : Node → List Node
above Root = Root ∷ []
above (Under p s k) = Under p s k ∷ above p

-- the node is in the subtree of the node with serial n, itself included
abbrev pub within : ℕ → Node → Bool
within n Root = 0 == n
within n (Under p s k) = (s == n) || within n p

-- the nodes in document order, and the innermost open one, if any is open
pub record Tree : Type 0 where
  pub nodes : List Node
  pub at : Option Node

-- what is read: the start of an element, a text, or the end of the innermost open node
pub data TreeToken : Type 0 where
  Start : (name : List ℕ) → TreeToken
  Chars : (bytes : List ℕ) → TreeToken
  End : TreeToken

-- P0: the open document node alone
abbrev pub opening : Tree
opening = record { nodes = Root ∷ []; at = Some Root }

abbrev pub with_new : Tree → Node → Option Node → Tree
with_new P n at = record { nodes = P.nodes ++ n ∷ []; at = at }

abbrev pub grow_at : Option Node → TreeToken → Tree → Tree
grow_at None t P = P
grow_at (Some p) (Start name) P = with_new P (Under p (length P.nodes) (Element name)) (Some (Under p (length P.nodes) (Element name)))
grow_at (Some p) (Chars bytes) P = with_new P (Under p (length P.nodes) (Text bytes)) (Some p)
grow_at (Some Root) End P = record { nodes = P.nodes; at = None }
grow_at (Some (Under p s k)) End P = record { nodes = P.nodes; at = Some p }

-- the tree with one token more: a new last child of the innermost open node, or that node closed
abbrev pub grow : TreeToken → Tree → Tree
grow t P = grow_at P.at t P

abbrev pub grow_all : List TreeToken → Tree → Tree
grow_all [] P = P
grow_all (t ∷ ts) P = grow_all ts (grow t P)

abbrev pub is_open_at : Option Node → ℕ → Bool
is_open_at None n = false
is_open_at (Some p) n = within n p

-- a node is open where it is the innermost open one or above it
abbrev pub is_closed : Tree → Node → Bool
is_closed P n = not (is_open_at P.at (serial_of n))
