-- What kept lists tell of an open tree.
use Rattle.std.specs.Prelude.{◌≡◌, ℕ, ◌↔◌, Bool, true, false, List}
use Rattle.gcx_base.specs.declared.steps.Step.{Step}
use Rattle.gcx_base.specs.declared.rel.Rel.TheVariants.{Eq}
use Rattle.gcx_model.specs.Tree.{Node, serial_of, Tree, opening, is_closed}
use Rattle.gcx_model.specs.Paths.{matches, value}
use Rattle.gcx_model.specs.Members.{In}
use Rattle.gcx_model.specs.Growth.{Leads}
use Rattle.gcx_model.specs.Core.{Path, Compare}
use Rattle.gcx_model.specs.Truth.{Env, truth, settle}

-- v is the value of a match of the steps from the node
abbrev pub IsValueAt : Tree → Node → List Step → List ℕ → Type 0
IsValueAt P n steps v = (m : Node) × In m (matches P (serial_of n) steps) × (value P m ≡ v)

-- the values are those of the matches of the steps from the node of this serial, which is closed
pub record IsListOf (P : Tree) (steps : List Step) (of : ℕ) (vs : List (List ℕ)) : Type 0 where
  pub node : Node
  pub among : In node P.nodes
  pub serial : serial_of node ≡ of
  pub closed : is_closed P node ≡ true
  pub values : (v : List ℕ) → In v vs ↔ IsValueAt P node steps v

-- A list stays one while tokens come.
abbrev pub ListsStay : Type 0
ListsStay = (P Q : Tree) → Leads opening P → Leads P Q → (steps : List Step) (of : ℕ) (vs : List (List ℕ))
    → IsListOf P steps of vs → IsListOf Q steps of vs

-- some closed match of the steps from the node has a value of the list
abbrev pub IsFoundIn : Tree → Node → List Step → List (List ℕ) → Type 0
IsFoundIn P n steps vs =
    (m : Node) × In m (matches P (serial_of n) steps) × (is_closed P m ≡ true) × In (value P m) vs

-- the two comparisons by `=` of these two paths come to this, as long as more nodes may come for the inner one
abbrev pub BothCome : Tree → Env → (x y : ℕ) → (outer inner : List Step) → Bool → Type 0
BothCome P env x y outer inner found =
    (truth (Compare (Path x outer) Eq (Path y inner)) env P ≡ settle found (is_closed P (env y)))
    × (truth (Compare (Path y inner) Eq (Path x outer)) env P ≡ settle found (is_closed P (env y)))

-- Where the list is that of the outer node, a look-up of each inner value tells the truth of the comparison, whichever
-- of its sides is the outer one.
abbrev pub ListsTell : Type 0
ListsTell = (P : Tree) → Leads opening P → (env : Env) (x y : ℕ) (outer inner : List Step) (vs : List (List ℕ))
    → In (env x) P.nodes → In (env y) P.nodes → IsListOf P outer (serial_of (env x)) vs
    → (IsFoundIn P (env y) inner vs → BothCome P env x y outer inner true)
    × ((IsFoundIn P (env y) inner vs → ⊥) → BothCome P env x y outer inner false)
