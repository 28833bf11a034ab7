-- Steps and paths (XQuery 1.0, section 3.2.1: the axes child and descendant, name tests and kind tests).
use Rattle.std.specs.Prelude.{ℕ, Bool, true, false, cond, ◌&&◌, ◌||◌, List, [], ◌∷◌, ◌==◌, filter, flat_map, Option, Some, None}
use Rattle.gcx_base.specs.declared.kind.Kind.{Kind}
use Rattle.gcx_base.specs.declared.kind.Kind.TheVariants.{Document, Element, Text}
use Rattle.gcx_base.specs.declared.steps.Axis.{Axis}
use Rattle.gcx_base.specs.declared.steps.Axis.TheVariants.{Child, Descendant}
use Rattle.gcx_base.specs.declared.steps.Step.{Step}
use Rattle.gcx_base.specs.Tests.{passes}
use Rattle.gcx_model.specs.Tree.{Node, Root, Under, serial_of, kind_of, above, within, Tree}

abbrev pub any : {X : Type 0} → (X → Bool) → List X → Bool
any p [] = false
any p (x ∷ xs) = p x || any p xs

abbrev pub all : {X : Type 0} → (X → Bool) → List X → Bool
all p [] = true
all p (x ∷ xs) = p x && all p xs

-- the node is a child, or a proper descendant, of the node with serial n
abbrev pub lies : Axis → ℕ → Node → Bool
lies a n Root = false
lies Child n (Under p s k) = serial_of p == n
lies Descendant n (Under p s k) = within n p

-- the step reaches j from the node with serial n
abbrev pub reach : ℕ → Step → Node → Bool
reach n s j = passes s.test (kind_of j) && lies s.axis n j

-- Hits: some chain of the steps leads from the node with serial n to m. Each node on the way is m or above it.
abbrev pub hits : ℕ → List Step → Node → Bool
hits n [] m = serial_of m == n
hits n (s ∷ rest) m = any (λ j. reach n s j && hits (serial_of j) rest m) (above m)

-- Matches: the nodes that the path hits from n, each once, in document order
abbrev pub matches : Tree → ℕ → List Step → List Node
matches P n path = filter (hits n path) P.nodes

abbrev pub head : {X : Type 0} → List X → Option X
head [] = None
head (x ∷ xs) = Some x

-- First: the first of the matches
abbrev pub first : Tree → ℕ → List Step → Option Node
first P n path = head (matches P n path)

abbrev pub text_of : Kind → List ℕ
text_of Document = []
text_of (Element name) = []
text_of (Text b) = b

-- the string value: the texts of the subtree, in document order (XQuery 1.0 and XPath 2.0 Data Model, section 6.2.2)
abbrev pub value : Tree → Node → List ℕ
value P n = flat_map (λ m. cond (within (serial_of n) m) (text_of (kind_of m)) []) P.nodes
