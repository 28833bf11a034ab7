-- How open trees are told apart: a node by the numbers and kinds on the way to it.
use Rattle.std.specs.Prelude.{◌≡◌, ℕ, zero, suc, List, [], ◌∷◌, Option, refl}
use Rattle.std.specs.Coded.{Coded, code_by, coded_ℕ, coded_list, coded_option, coded×}
use Rattle.std.proofs.Common.{ap}
use Rattle.gcx_base.specs.declared.kind.Kind.{Kind}
use Rattle.gcx_base.specs.declared.kind.Kind.TheVariants.{Document, Element, Text}
use Rattle.gcx_model.specs.Tree.{Node, Root, Under, Tree}

abbrev number_of : Kind → ℕ
number_of Document = 0
number_of (Element name) = 1
number_of (Text bytes) = 2

abbrev bytes_of : Kind → List ℕ
bytes_of Document = []
bytes_of (Element name) = name
bytes_of (Text bytes) = bytes

abbrev kind_from : ℕ → List ℕ → Kind
kind_from zero bytes = Document
kind_from (suc zero) bytes = Element bytes
kind_from (suc (suc n)) bytes = Text bytes

pub kind_back : (k : Kind) → kind_from (number_of k) (bytes_of k) ≡ k
kind_back Document = refl
kind_back (Element name) = refl
kind_back (Text bytes) = refl

abbrev kind_code : Coded Kind
kind_code = code_by (ℕ × List ℕ) (coded× coded_ℕ (coded_list coded_ℕ)) (λ k. (number_of k, bytes_of k)) (λ p. kind_from p.0 p.1) kind_back

abbrev way_to : Node → List (ℕ × Kind)
way_to Root = []
way_to (Under p s k) = (s, k) ∷ way_to p

abbrev node_by : List (ℕ × Kind) → Node
node_by [] = Root
node_by (x ∷ xs) = Under (node_by xs) x.0 x.1

pub node_back : (n : Node) → node_by (way_to n) ≡ n
node_back Root = refl
node_back (Under p s k) = ap (λ q. Under q s k) (node_back p)

abbrev node_code : Coded Node
node_code = code_by (List (ℕ × Kind)) (coded_list (coded× coded_ℕ kind_code)) way_to node_by node_back

abbrev pub tree_code : Coded Tree
tree_code = code_by (List Node × Option Node) (coded× (coded_list node_code) (coded_option node_code)) (λ t. (t.nodes, t.at)) (λ p. record { nodes = p.0; at = p.1 }) (λ _. refl)
