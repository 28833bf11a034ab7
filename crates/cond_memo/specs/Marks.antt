-- What marks tell of an open tree (this project's).
use Rattle.std.specs.Prelude.{◌≡◌, ◌<◌, ◌≤◌, ◌+◌, ◌⊎◌, ℕ, Bool, true, false, List, [], length, map, Option, Some, None}
use Rattle.gcx_base.specs.declared.ids.Serial.{Serial}
use Rattle.gcx_base.specs.declared.ids.VarId.{VarId}
use Rattle.gcx_base.specs.declared.rel.Rel.{Rel}
use Rattle.gcx_base.specs.declared.steps.Step.{Step}
use Rattle.gcx_model.specs.Tree.{Node, serial_of, Tree, is_closed}
use Rattle.gcx_model.specs.Paths.{head, hits, matches, value}
use Rattle.gcx_model.specs.Members.{In, Once}
use Rattle.gcx_model.specs.Core.{CondTree, Exists, Compare, Path}
use Rattle.gcx_model.specs.CondView.{operand_tree}
use Rattle.gcx_model.specs.Values.{Bytes, compare}
use Rattle.gcx_model.specs.declared.truth.Truth.{Truth}
use Rattle.gcx_model.specs.declared.truth.Truth.TheVariants.{True, False, Unknown}
use Rattle.gcx_model.specs.Truth.{truth}
use Rattle.gcx_model.specs.declared.cond.Operand.{Operand}
use Rattle.buf_tree.specs.Shape.{Cell}
use Rattle.cond_eval.specs.Literals.{literal_value, IsLiteral}
use Rattle.cond_eval.specs.Bindings.{Bindings}
use Rattle.cond_eval.specs.Asking.{IsBound}
use Rattle.cond_eval.specs.Reads.{NodeAt, IsWhole}
pub use Rattle.cond_memo.specs.Waiting.{WasOpen, IsOpenNow, EndsAs, Fits, NextAbove, IsShut, StillOpen, HasNoParent, IsParentAt, AreApart}
use Rattle.cond_memo.specs.Pairs.{ArePairs}
use Rattle.cond_memo.specs.declared.mark.Ask.{Ask}
use Rattle.cond_memo.specs.declared.mark.Mark.{Mark}
use Rattle.cond_memo.specs.declared.marked.Marked.{Marked}

-- ---- the question

-- what is asked of a match
abbrev pub ask_of : Rel → Operand → Ask
ask_of rel literal = record { rel = rel; literal = literal }

-- the condition of which a mark keeps the truth, for one node of its variable
abbrev pub question : List Step → Option Ask → CondTree
question steps None = Exists 0 steps
question steps (Some a) = Compare (Path 0 steps) a.rel (operand_tree a.literal)

abbrev pub answer : Tree → List Step → Option Ask → Node → Truth
answer P steps ask n = truth (question steps ask) (λ x. n) P

-- a truth that is known, or else none
abbrev pub known : Option Bool → Truth
known None = Unknown
known (Some true) = True
known (Some false) = False

-- what is kept of it: true once a match does, false once none does and no more come
abbrev pub settled : (found over : Bool) → Option Bool
settled true over = Some true
settled false true = Some false
settled false false = None

abbrev pub AsksLiteral : Option Ask → Type 0
AsksLiteral None = Unit {0}
AsksLiteral (Some a) = IsLiteral a.literal

-- a match does where there is no literal, or where the relation holds of its value and the literal
abbrev pub does : Tree → Option Ask → Node → Bool
does P None m = true
does P (Some a) m = compare a.rel (Bytes (value P m)) (literal_value a.literal)

abbrev pub is_settled : Tree → Option Ask → Node → Bool
is_settled P None m = true
is_settled P (Some a) m = is_closed P m

-- some match does, by now
pub record IsFound (P : Tree) (ask : Option Ask) (ms : List Node) : Type 0 where
  pub match_at : Node
  pub among : In match_at ms
  pub settled : is_settled P ask match_at ≡ true
  pub does_so : does P ask match_at ≡ true

abbrev pub NotFound : Tree → Option Ask → List Node → Type 0
NotFound P ask ms = (j : Node) → In j ms → is_settled P ask j ≡ true → does P ask j ≡ true → ⊥

-- ---- what is kept of it

-- Of the matches up to this serial none does, but for those that were open when they were looked at. Of these the innermost is kept.
pub record Tried (P : Tree) (ask : Option Ask) (ms : List Node) (waiting : Option Serial) (upto : ℕ) : Type 0 where
  pub each : (j : Node) → In j ms → serial_of j ≤ upto → ((is_settled P ask j ≡ true) × (does P ask j ≡ false)) ⊎ WasOpen P waiting j
  pub open_in : (s : Serial) → waiting ≡ Some s → (o : Node) × In o ms × (serial_of o ≡ s.0) × (s.0 ≤ upto)
  pub no_ask : ask ≡ None → waiting ≡ None

-- What the mark tells of the node n: the truth of its question, or else what was tried.
pub record Knows (m : Mark) (P : Tree) (n : Node) : Type 0 where
  pub least : serial_of n ≤ m.upto.0
  pub most : m.upto.0 < length P.nodes
  pub truth : (v : Bool) → m.value ≡ Some v → answer P m.steps m.ask n ≡ known (Some v)
  pub tried : m.value ≡ None → (m.steps ≡ [] → ⊥) → Tried P m.ask (matches P (serial_of n) m.steps) m.waiting m.upto.0

pub record IsMark (m : Mark) (P : Tree) : Type 0 where
  pub fits : Fits m.steps m.last
  pub literal : AsksLiteral m.ask
  pub told : (s : Serial) → m.of ≡ Some s → (n : Node) × In n P.nodes × (serial_of n ≡ s.0) × Knows m P n

-- what a mark is about: the variable, the steps from it, and what is asked of their matches
abbrev pub subject : VarId → List Step → Option Ask → VarId × List Step × Option Ask
subject x path ask = (x, path, ask)

abbrev pub subject_of : Mark → VarId × List Step × Option Ask
subject_of m = subject m.var m.steps m.ask

-- each of the marks tells what is so of the tree, and no two are about the same
pub record StandFor (ms : List Mark) (P : Tree) : Type 0 where
  pub each : (m : Mark) → In m ms → IsMark m P
  pub once : Once (map subject_of ms)

-- the marks do, and so do the pairs of paths that are compared
abbrev pub AreMarks : Marked → Tree → Type 0
AreMarks k P = StandFor k.marks.items P × ArePairs k.pairs.items P

-- ---- what is asked. Private functions alone speak of it.

-- of the matches that is kept which the question needs
abbrev pub KeepsAll : Tree → (keep : Node → Bool) → Option Ask → List Node → Type 0
KeepsAll P keep None ms = (m : Node) → head ms ≡ Some m → keep m ≡ true
KeepsAll P keep (Some a) ms = (j : Node) → In j ms → IsWhole P keep j

-- the question is asked of the node n at the place
pub record Asks (rows : List Cell) (nodes : ℕ) (steps : List Step) (ask : Option Ask) (p : ℕ) (P : Tree) (keep : Node → Bool) (n : Node) : Type 0 where
  pub at : NodeAt rows P keep p n
  pub count : length P.nodes ≡ nodes
  pub kept : KeepsAll P keep ask (matches P (serial_of n) steps)

-- and of the node of a variable
pub record AsksOf (rows : List Cell) (nodes : ℕ) (bound : Bindings) (x : ℕ) (steps : List Step) (ask : Option Ask) (P : Tree) (keep : Node → Bool) (n : Node) : Type 0 where
  pub bound_to : IsBound rows bound x n
  pub asks : Asks rows nodes steps ask bound_to.place P keep n

-- the subtree of a match is kept, where its value is asked for
abbrev pub KeepsValue : Tree → (keep : Node → Bool) → Option Ask → Node → Type 0
KeepsValue P keep None m = Unit {0}
KeepsValue P keep (Some a) m = IsWhole P keep m

-- What a look at the row of m tells, to which the last step leads from n. Of a match that is open `waiting` becomes the serial.
abbrev pub Looked : Tree → List Step → Option Ask → (n m : Node) → (before after : Option Serial) → Bool → Type 0
Looked P steps ask n m before after true = (hits (serial_of n) steps m ≡ true) × (is_settled P ask m ≡ true) × (does P ask m ≡ true)
Looked P steps ask n m before after false =
    ((s : Serial) × (after ≡ Some s) × (serial_of m ≡ s.0) × (hits (serial_of n) steps m ≡ true) × (is_settled P ask m ≡ false))
    ⊎ ((after ≡ before) × ((hits (serial_of n) steps m ≡ false) ⊎ ((is_settled P ask m ≡ true) × (does P ask m ≡ false))))

-- how far the nodes were looked at: where no match was found that does, all were
abbrev pub LooksUpto : (nodes before after : ℕ) → Bool → Type 0
LooksUpto nodes before after true = after ≡ before
LooksUpto nodes before after false = after + 1 ≡ nodes

-- a match was found, or what was tried is told anew
abbrev pub Searched : Tree → Option Ask → List Node → (waiting : Option Serial) → (upto : ℕ) → Bool → Type 0
Searched P ask ms waiting upto true = IsFound P ask ms
Searched P ask ms waiting upto false = Tried P ask ms waiting upto × IsOpenNow P waiting

-- whether a match does is settled for now
abbrev pub Settles : Tree → Option Ask → List Node → Bool → Type 0
Settles P ask ms true = IsFound P ask ms
Settles P ask ms false = NotFound P ask ms

-- and what was tried is told anew
abbrev pub Found : Tree → List Step → Option Ask → List Node → (waiting : Option Serial) → (upto : ℕ) → Bool → Type 0
Found P steps ask ms waiting upto b = Settles P ask ms b × (b ≡ false → (steps ≡ [] → ⊥) → Tried P ask ms waiting upto)

-- the mark may be asked of the node at the place, which has this serial
pub record MayTell (m : Mark) (rows : List Cell) (nodes p of : ℕ) : Type 0 where
  pub tree : Tree
  pub keep : Node → Bool
  pub node : Node
  pub asks : Asks rows nodes m.steps m.ask p tree keep node
  pub serial : serial_of node ≡ of
  pub mark : IsMark m tree

-- the mark is about this question
pub record IsAbout (m : Mark) (x : VarId) (path : List Step) (a : Option Ask) : Type 0 where
  pub var : m.var ≡ x
  pub steps : m.steps ≡ path
  pub ask : m.ask ≡ a

-- the question may be asked of the variable's node
pub record MayFind (k : Marked) (rows : List Cell) (nodes : ℕ) (bound : Bindings) (x : ℕ) (steps : List Step) (ask : Option Ask) : Type 0 where
  pub tree : Tree
  pub keep : Node → Bool
  pub node : Node
  pub marks : AreMarks k tree
  pub asks : AsksOf rows nodes bound x steps ask tree keep node
  pub literal : AsksLiteral ask
