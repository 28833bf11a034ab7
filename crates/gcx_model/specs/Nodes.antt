-- What holds of the nodes of each open tree (this project's form; XQuery 1.0, section 2.4.1 for document order).
use Rattle.std.specs.Prelude.{◌≡◌, ℕ, suc, ◌<◌, List, [], ◌∷◌, flat_map, Some}
use Rattle.gcx_base.specs.declared.kind.Kind.{Kind}
use Rattle.gcx_base.specs.declared.steps.Step.{Step}
use Rattle.gcx_model.specs.Tree.{Node, Under, serial_of, above, Tree}
use Rattle.gcx_model.specs.Paths.{matches}
use Rattle.gcx_model.specs.Members.{In}

-- the nodes have the numbers from k on
abbrev pub Numbered : ℕ → List Node → Type 0
Numbered k [] = Unit {0}
Numbered k (x ∷ xs) = (serial_of x ≡ k) × Numbered (suc k) xs

-- each number is below the later ones
abbrev pub Rising : List Node → Type 0
Rising [] = Unit {0}
Rising (x ∷ xs) = ((y : Node) → In y xs → serial_of x < serial_of y) × Rising xs

pub record Grown (P : Tree) : Type 0 where
  pub numbered : Numbered 0 P.nodes
  -- the parent of a node is a node
  pub upward : (p : Node) (s : ℕ) (k : Kind) → In (Under p s k) P.nodes → In p P.nodes
  -- so is the innermost open node
  pub at_in : (p : Node) → P.at ≡ Some p → In p P.nodes
  -- a parent's number is the smaller
  pub below : (p : Node) (s : ℕ) (k : Kind) → In (Under p s k) P.nodes → serial_of p < s

-- document order
pub record Ordered (P : Tree) : Type 0 where
  -- behind an open node all is in it
  pub behind : (p a b : Node) → P.at ≡ Some p → In a (above p) → In b P.nodes → serial_of a < serial_of b → In a (above b)
  -- a subtree stands before what comes behind it
  pub split : (a b m : Node) → In a P.nodes → In b P.nodes → In m P.nodes → serial_of a < serial_of b → (In a (above b) → ⊥) → In a (above m) → serial_of m < serial_of b

-- what nested loops over the steps bind innermost, in their order
abbrev pub chain : Tree → ℕ → List Step → List Node → List Node
chain P n [] here = here
chain P n (s ∷ rest) here = flat_map (λ j. chain P (serial_of j) rest (j ∷ [])) (matches P n (s ∷ []))

abbrev pub chain_at : Tree → Node → List Step → List Node
chain_at P n path = chain P (serial_of n) path (n ∷ [])
