-- What an `exists` or a comparison reads of the rows, and what it tells (this project's).
use Rattle.std.specs.Prelude.{◌≡◌, ◌↔◌, ◌&&◌, ℕ, Bool, true, List, [], ◌∷◌, filter, map, Some}
use Rattle.gcx_base.specs.declared.rel.Rel.{Rel}
use Rattle.gcx_base.specs.declared.steps.Step.{Step}
use Rattle.gcx_model.specs.Tree.{Node, serial_of, Tree, is_closed}
use Rattle.gcx_model.specs.Paths.{matches, first, value}
use Rattle.gcx_model.specs.Members.{In}
use Rattle.gcx_model.specs.Core.{CondTree, Compare}
use Rattle.gcx_model.specs.CondView.{operand_tree}
use Rattle.gcx_model.specs.Values.{ComparedValue, compare}
use Rattle.gcx_model.specs.Answer.{is_any, some_pair}
use Rattle.gcx_model.specs.Truth.{Env, node_value, settle, truth}
use Rattle.gcx_model.specs.declared.cond.Operand.{Operand}
use Rattle.move_laws.specs.Kept.{only}
use Rattle.value_pairs.specs.Taken.{TookBy}
use Rattle.value_pairs.specs.declared.hand.Hand.{Hand}
use Rattle.value_pairs.specs.declared.compared.Compared.{Compared}
use Rattle.buf_tree.specs.Shape.{Cell}
use Rattle.buf_tree.specs.View.{InUse}
use Rattle.cond_eval.specs.Bindings.{Bindings}
use Rattle.cond_eval.specs.Asking.{RowsOf, Asked}
use Rattle.cond_eval.specs.Reads.{NodeAt, IsWhole, AreNodes}
use Rattle.gcx_model.specs.declared.truth.Truth.{Truth}
use Rattle.cond_eval.specs.declared.sets.Member.{Member}

-- the comparison of two operands
abbrev pub comparison : Operand → Rel → Operand → CondTree
comparison o rel u = Compare (operand_tree o) rel (operand_tree u)

-- over some tree and environment the condition is asked
pub record IsAsked (rows : List Cell) (bound : Bindings) (c : CondTree) : Type 0 where
  pub tree : Tree
  pub env : Env
  pub asked : Asked rows bound c tree env

-- its truth over each of them is told
abbrev pub Tells : List Cell → Bindings → CondTree → Truth → Type 0
Tells rows bound c t = (P : Tree) (env : Env) → Asked rows bound c P env → t ≡ truth c env P

-- the row at the place is a node's
pub record IsNodeRow (rows : List Cell) (p : ℕ) : Type 0 where
  pub tree : Tree
  pub keep : Node → Bool
  pub node : Node
  pub at : NodeAt rows tree keep p node

-- the rows of the members are there
abbrev pub AreInUse : List Cell → List Member → Type 0
AreInUse rows ms = (m : Member) → In m ms → InUse rows m.place

-- the members are the closed ones of what the steps reach from the row at the place among the kept nodes
abbrev pub AreClosed : List Cell → ℕ → List Step → List Member → Type 0
AreClosed rows p steps ms = (P : Tree) (keep : Node → Bool) (n : Node) → NodeAt rows P keep p n → AreNodes rows ms (filter (is_closed P) (matches (only keep P) (serial_of n) steps))

-- the first match of the steps is kept
abbrev pub KeepsFirst : Tree → (Node → Bool) → Node → List Step → Type 0
KeepsFirst P keep n steps = (m : Node) → first P (serial_of n) steps ≡ Some m → keep m ≡ true

-- all matches are, with their subtrees
abbrev pub KeepsMatches : Tree → (Node → Bool) → Node → List Step → Type 0
KeepsMatches P keep n steps = (j : Node) → In j (matches P (serial_of n) steps) → IsWhole P keep j

-- the values of the closed ones of them
abbrev pub closed_values : Tree → Node → List Step → List ComparedValue
closed_values P n steps = map (node_value P) (filter (is_closed P) (matches P (serial_of n) steps))

-- the members are nodes whose subtrees are kept
pub record Readable (rows : List Cell) (P : Tree) (keep : Node → Bool) (ms : List Member) (ns : List Node) : Type 0 where
  pub rows_of : RowsOf rows P keep
  pub nodes : AreNodes rows ms ns
  pub whole : (n : Node) → In n ns → In n P.nodes × IsWhole P keep n

-- ---- what is told

-- of the row of an exists' variable
abbrev pub TellsExists : List Cell → ℕ → List Step → Truth → Type 0
TellsExists rows p steps t = (P : Tree) (keep : Node → Bool) (n : Node) → NodeAt rows P keep p n → KeepsFirst P keep n steps → t ≡ settle (is_any (matches P (serial_of n) steps)) (is_closed P n)

-- of two paths
abbrev pub TellsPaths : List Cell → (p : ℕ) → List Step → Rel → (q : ℕ) → List Step → Truth → Type 0
TellsPaths rows p left rel q right t = (P : Tree) (keep : Node → Bool) (n m : Node) → NodeAt rows P keep p n → NodeAt rows P keep q m → KeepsMatches P keep n left → KeepsMatches P keep m right
    → t ≡ settle (some_pair (compare rel) (closed_values P n left) (closed_values P m right)) (is_closed P n && is_closed P m)

-- of a path and a literal
abbrev pub TellsLiteral : List Cell → (p : ℕ) → List Step → Rel → ComparedValue → Truth → Type 0
TellsLiteral rows p steps rel v t = (P : Tree) (keep : Node → Bool) (n : Node) → NodeAt rows P keep p n → KeepsMatches P keep n steps → t ≡ settle (some_pair (compare rel) (closed_values P n steps) (v ∷ [])) (is_closed P n)

-- the values of the members' nodes were taken as those of one side, which had none
abbrev pub TakesValues : List Cell → List Member → Hand → (before now : Compared) → Type 0
TakesValues rows ms hand before now = (P : Tree) (keep : Node → Bool) (ns : List Node) (rel : Rel) (others : List (List ℕ)) → Readable rows P keep ms ns → TookBy hand before rel [] others
    → (vs : List (List ℕ)) × TookBy hand now rel vs others × ((v : List ℕ) → In v vs ↔ In v (map (value P) ns))

-- whether the relation holds of some pair's values
abbrev pub TellsPair : List Cell → (lefts : List Member) → Rel → (rights : List Member) → Bool → Type 0
TellsPair rows ls rel rs b = (P : Tree) (keep : Node → Bool) (ns ms : List Node) → Readable rows P keep ls ns → Readable rows P keep rs ms
    → b ≡ some_pair (compare rel) (map (node_value P) ns) (map (node_value P) ms)

-- and of some member's value and this one
abbrev pub TellsWith : List Cell → List Member → Rel → ComparedValue → Bool → Type 0
TellsWith rows ms rel v b = (P : Tree) (keep : Node → Bool) (ns : List Node) → Readable rows P keep ms ns → b ≡ some_pair (compare rel) (map (node_value P) ns) (v ∷ [])
