-- That what paths hit is what the words say: matches, first matches, nested loops, and the kinds of roles.
use Rattle.std.specs.Prelude.{◌≡◌}
use Rattle.std.specs.Prelude.{ℕ}
use Rattle.std.specs.Prelude.{◌≤◌}
use Rattle.std.specs.Prelude.{true}
use Rattle.std.specs.Prelude.{List}
use Rattle.std.specs.Prelude.{◌∷◌}
use Rattle.std.specs.Prelude.{◌++◌}
use Rattle.std.specs.Prelude.{◌↔◌}
use Rattle.std.specs.Prelude.{Some}
use Rattle.std.specs.Prelude.{None}
use Rattle.gcx_base.specs.declared.steps.Step.{Step}
use Rattle.gcx_model.specs.Tree.{Node}
use Rattle.gcx_model.specs.Tree.{serial_of}
use Rattle.gcx_model.specs.Tree.{above}
use Rattle.gcx_model.specs.Tree.{Tree}
use Rattle.gcx_model.specs.Paths.{reach}
use Rattle.gcx_model.specs.Paths.{hits}
use Rattle.gcx_model.specs.Paths.{matches}
use Rattle.gcx_model.specs.Paths.{first}
use Rattle.gcx_model.specs.Members.{In}
use Rattle.gcx_model.specs.Members.{Once}
use Rattle.gcx_model.specs.Nodes.{Rising}
use Rattle.gcx_model.specs.Nodes.{Grown}
use Rattle.gcx_model.specs.Nodes.{Ordered}
use Rattle.gcx_model.specs.Nodes.{chain_at}
use Rattle.gcx_model.specs.Core.{Own}
use Rattle.gcx_model.specs.Core.{First}
use Rattle.gcx_model.specs.Core.{Whole}
use Rattle.gcx_model.specs.Variables.{one_desc}
use Rattle.gcx_model.specs.Held.{gives}
use Rattle.gcx_model.specs.Sound.{only_last}

-- A path hits m where its first step reaches some node from which the rest hits m.
abbrev pub HitsBySteps : Type 0
HitsBySteps = (P : Tree) → Grown P → (n : ℕ) (s : Step) (rest : List Step) (m : Node) → In m P.nodes
    → (hits n (s ∷ rest) m ≡ true) ↔ ((j : Node) × In j P.nodes × (reach n s j ≡ true) × (hits (serial_of j) rest m ≡ true))

-- Matches are the nodes hit, each once, by rising serial.
abbrev pub MatchesAreHits : Type 0
MatchesAreHits = (P : Tree) → Grown P → (n : ℕ) (path : List Step)
    → ((m : Node) → In m (matches P n path) ↔ (In m P.nodes × (hits n path m ≡ true))) × Rising (matches P n path)

-- First is the one match than which no match has a smaller serial, and there is none exactly where there is no match.
abbrev pub FirstIsLeast : Type 0
FirstIsLeast = (P : Tree) → Grown P → (n : ℕ) (path : List Step)
    → ((m : Node) → (first P n path ≡ Some m) ↔ (In m (matches P n path) × ((j : Node) → In j (matches P n path) → serial_of m ≤ serial_of j)))
    × ((first P n path ≡ None) ↔ ((m : Node) → In m (matches P n path) → ⊥))

-- Nested loops over the steps of a path bind innermost the nodes that it hits.
abbrev pub LoopsBindHits : Type 0
LoopsBindHits = (P : Tree) → Grown P → (n : Node) (path : List Step) (m : Node) → In n P.nodes → In m (chain_at P n path) ↔ In m (matches P (serial_of n) path)

-- With at most one descendant step there is at most one chain of the steps to each node: nested loops bind each node once.
abbrev pub OneChain : Type 0
OneChain = (P : Tree) → Grown P → (n : Node) (path : List Step) → In n P.nodes → one_desc path ≡ true → Once (chain_at P n path)

-- With a descendant step only as the last one, nested loops bind the matches, each once and in document order.
abbrev pub LoopsInOrder : Type 0
LoopsInOrder = (P : Tree) → Grown P → Ordered P → (n : Node) (path : List Step) → In n P.nodes → only_last path ≡ true → chain_at P n path ≡ matches P (serial_of n) path

-- A role reaches n from m by the words: where n is a match of the steps; the first match of the tail at one of their matches; or in the subtree of a match of steps and tail.
abbrev pub GivesByKind : Type 0
GivesByKind = (P : Tree) → Grown P → (m : ℕ) (rel tail : List Step) (n : Node) → In n P.nodes
    → ((gives P m rel tail Own n ≡ true) ↔ In n (matches P m rel))
    × ((gives P m rel tail First n ≡ true) ↔ ((j : Node) × In j (matches P m rel) × (first P (serial_of j) tail ≡ Some n)))
    × ((gives P m rel tail Whole n ≡ true) ↔ ((a : Node) × In a (above n) × In a (matches P m (rel ++ tail))))
