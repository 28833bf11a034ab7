-- The core of a query, and what is settled of its answer.
use Rattle.std.specs.Prelude.{◌≡◌}
use Rattle.std.specs.Prelude.{ℕ}
use Rattle.std.specs.Prelude.{true}
use Rattle.std.specs.Prelude.{List}
use Rattle.std.specs.Prelude.{◌++◌}
use Rattle.gcx_model.specs.Document.{Nodes}
use Rattle.gcx_model.specs.Document.{tree_of}
use Rattle.gcx_model.specs.Tree.{Tree}
use Rattle.gcx_model.specs.Tree.{opening}
use Rattle.gcx_model.specs.Query.{ExprTree}
use Rattle.gcx_model.specs.Answer.{answer}
use Rattle.gcx_model.specs.Cores.{Good}
use Rattle.gcx_model.specs.Growth.{Leads}
use Rattle.gcx_model.specs.Sound.{is_sound}
use Rattle.gcx_model.specs.Normal.{normal}
use Rattle.gcx_model.specs.Normal.{known}

-- Normal(q) is a core for which the laws below hold.
abbrev pub NormalIsGood : Type 0
NormalIsGood = (q : List ExprTree) → Good (normal q)

-- Normal law
abbrev pub NormalLaw : Type 0
NormalLaw = (q : List ExprTree) → is_sound q ≡ true → (d : Nodes) → known q (tree_of d) ≡ answer q d

-- which is a front of the answer over each document that the open tree becomes.
abbrev pub KnownIsFront : Type 0
KnownIsFront = (q : List ExprTree) → is_sound q ≡ true → (P : Tree) → Leads opening P → (d : Nodes) → Leads P (tree_of d) → (rest : List ℕ) × (answer q d ≡ known q P ++ rest)
