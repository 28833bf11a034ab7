-- What the rows tell of paths: of which node a row is, and whether steps lead from one node to another. Public clauses speak of `NodeOf`, `LeadsBy` and `is_waiting`; the rest follows the code.
use Rattle.std.specs.Prelude.{◌≡◌, ◌↔◌, ◌⊎◌, ◌<◌, ◌≤◌, ◌+◌, ◌==◌, ◌&&◌, ◌||◌, not, ℕ, Bool, true, false, List, [], length, drop, get_or}
use Rattle.std.specs.FinSet as set
use Rattle.gcx_base.specs.declared.kind.Kind.TheVariants.{Document}
use Rattle.gcx_base.specs.declared.kind.Kind.{Kind}
use Rattle.gcx_base.specs.declared.steps.Axis.{Axis}
use Rattle.gcx_base.specs.declared.steps.Axis.TheVariants.{Child, Descendant}
use Rattle.gcx_base.specs.declared.steps.Step.{Step}
use Rattle.gcx_model.specs.declared.item.Off.{Off}
use Rattle.gcx_model.specs.Core.{RoleTarget, Own, First, Whole}
use Rattle.gcx_model.specs.Held.{is_node, reaches}
use Rattle.gcx_model.specs.ItemView.{off_tree}
use Rattle.gcx_model.specs.Nodes.{Rising}
use Rattle.gcx_model.specs.Placed.{is_own}
use Rattle.gcx_model.specs.Members.{In}
use Rattle.gcx_base.specs.Tests.{passes}
use Rattle.gcx_model.specs.Paths.{any, hits, first}
use Rattle.gcx_model.specs.Tree.{Tree, Node, Root, Under, serial_of, above}
use Rattle.buf_tree.specs.Row.{Row}
use Rattle.buf_tree.specs.Shape.{Cell, num, AtPlace}
use Rattle.buf_tree.specs.Walk.{Inside}
use Rattle.buf_tree.specs.Match.{IsChild}

-- n is the node of the row c: it has the row's serial and kind, and its parent is the node of the row's parent
abbrev pub Tells : List Cell → Cell → Node → Type 0
Tells xs c Root = (num c ≡ 0) × (c.row.kind ≡ Document)
Tells xs c (Under p s k) = (num c ≡ s) × (c.row.kind ≡ k) × ((e : Cell) × In e xs × IsChild e c × Tells xs e p)

-- the row at the place is that of the node n
pub record NodeOf (xs : List Cell) (p : ℕ) (n : Node) : Type 0 where
  pub cell : Cell
  pub among : In cell xs
  pub place : cell.place ≡ p
  pub tells : Tells xs cell n

-- each node above n has a smaller number than its child there
abbrev pub Descends : Node → Type 0
Descends Root = Unit {0}
Descends (Under p s k) = (serial_of p < s) × Descends p

abbrev pub is_same : Node → Node → Bool
is_same n j = serial_of j == serial_of n

-- the steps lead from the node with serial a to a node at which `ends` holds and that is n or above it
abbrev pub leads : (Node → Bool) → ℕ → List Step → Node → Bool
leads ends a steps n = any (λ j. ends j && hits a steps j) (above n)

-- a flag for each number of steps that are left out: whether those from there on do
pub record Flags (ends : Node → Bool) (a : ℕ) (steps : List Step) (n : Node) (flags : List Bool) : Type 0 where
  pub count : length flags ≡ length steps + 1
  pub each : (i : ℕ) → i ≤ length steps → get_or flags i false ≡ leads ends a (drop i steps) n

-- a step may also lead on from a node that it could lead to
abbrev pub goes_on : Axis → Bool
goes_on Child = false
goes_on Descendant = true

-- the flag of a step at the parent of a node of this kind, from its flag at the node and the next step's there
abbrev pub flag_up : Step → Kind → (here next : Bool) → Bool
flag_up s kind here next = (next && passes s.test kind) || (here && goes_on s.axis)

-- the flags of a node of this kind become those of its parent, where the last one is to be this
abbrev pub GoesUp : List Step → Kind → (end : Bool) → (before now : List Bool) → Type 0
GoesUp steps kind end before now = (ends : Node → Bool) (n p : Node) (s : ℕ) → Descends n → In (Under p s kind) (above n) → end ≡ ends p → Flags ends s steps n before → Flags ends (serial_of p) steps n now

-- the steps lead from a to no row before that of n
abbrev pub NoneBefore : List Cell → (a n : Node) → List Step → Type 0
NoneBefore xs a n steps = (p : ℕ) (j : Node) → NodeOf xs p j → In a (above j) → serial_of j < serial_of n → hits (serial_of a) steps j ≡ false

-- the same but for the last flag
pub record FlagsBut (ends : Node → Bool) (a : ℕ) (steps : List Step) (n : Node) (flags : List Bool) : Type 0 where
  pub count : length flags ≡ length steps + 1
  pub each : (i : ℕ) → i < length steps → get_or flags i false ≡ leads ends a (drop i steps) n

-- the flags but the last become those of the parent, whatever the last one is
abbrev pub GoesUpBut : List Step → Kind → (before now : List Bool) → Type 0
GoesUpBut steps kind before now = (ends : Node → Bool) (n p : Node) (s : ℕ) → Descends n → In (Under p s kind) (above n) → Flags ends s steps n before → FlagsBut ends (serial_of p) steps n now

-- whether the steps lead from the row at p to that at q
abbrev pub LeadsBy : List Cell → (p : ℕ) → List Step → (q : ℕ) → Bool → Type 0
LeadsBy xs p steps q b = (a n : Node) → NodeOf xs p a → NodeOf xs q n → b ≡ hits (serial_of a) steps n

-- whether they lead to no row before that at q, which is that at p or below it
abbrev pub FirstBy : List Cell → (p : ℕ) → List Step → (q : ℕ) → Bool → Type 0
FirstBy xs p steps q b = (a n : Node) → NodeOf xs p a → NodeOf xs q n → In a (above n) → (b ≡ true) ↔ NoneBefore xs a n steps

-- T has the nodes of the rows, in order
pub record TreeOf (xs : List Cell) (T : Tree) : Type 0 where
  pub told : (p : ℕ) (n : Node) → NodeOf xs p n → In n T.nodes
  pub row : (n : Node) → In n T.nodes → (p : ℕ) × NodeOf xs p n
  pub rising : Rising T.nodes

-- a base's row at which the statement isn't signed
abbrev pub is_waiting : Row → Off → Bool
is_waiting r o = (set.contains r.roles o.own.0 || set.contains r.signed o.own.0) && not (set.contains r.signed o.role.0)

-- the steps of a tail; where the kind is `Own` they don't count
abbrev pub tail_steps : RoleTarget → List Step → List Step
tail_steps Own tail = []
tail_steps First tail = tail
tail_steps Whole tail = tail

-- the end of the tail's steps: the node, or for the kind `Whole` one above it too
abbrev pub tail_ends : RoleTarget → (n : Node) → Node → Bool
tail_ends Own n j = is_same n j
tail_ends First n j = is_same n j
tail_ends Whole n j = true

abbrev pub is_whole : RoleTarget → Bool
is_whole Own = false
is_whole First = false
is_whole Whole = true

-- the tail leads by its kind from j to n
abbrev pub ends_at : Tree → RoleTarget → List Step → (n j : Node) → Bool
ends_at T Own tail n j = is_same n j
ends_at T First tail n j = is_node (serial_of n) (first T (serial_of j) tail)
ends_at T Whole tail n j = any (hits (serial_of j) tail) (above n)

-- whether the tail leads by its kind from the row at p to that at q, of which the flags say whether its steps do
abbrev pub EndsHere : List Cell → Off → (p q : ℕ) → List Bool → Bool → Type 0
EndsHere xs off p q flags b =
    (T : Tree) (a n : Node) → TreeOf xs T → NodeOf xs p a → NodeOf xs q n → In a (above n) → Flags (tail_ends (off_tree off).kind n) (serial_of a) (tail_steps (off_tree off).kind off.tail) n flags → b ≡ ends_at T (off_tree off).kind off.tail n a

-- the statement reaches n from a row of a base at which it isn't signed
pub record IsKept (xs : List Cell) (T : Tree) (off : Off) (n : Node) : Type 0 where
  pub place : ℕ
  pub base : Node
  pub at : NodeOf xs place base
  pub waits : is_waiting at.cell.row off ≡ true
  pub reached : reaches T (off_tree off) base n ≡ true

-- whether it does so at the row at the place
abbrev pub KeptBy : List Cell → Off → ℕ → Bool → Type 0
KeptBy xs off p b = (T : Tree) (n : Node) → TreeOf xs T → NodeOf xs p n → (b ≡ true) ↔ IsKept xs T off n

-- a row above that of c, or below it, of a base at which the statement isn't signed
abbrev pub BaseAbove : List Cell → Off → Cell → Type 0
BaseAbove xs off c = (b : Cell) × In b xs × Inside xs b c × (is_waiting b.row off ≡ true)

abbrev pub BaseBelow : List Cell → Off → Cell → Type 0
BaseBelow xs off c = (b : Cell) × In b xs × Inside xs c b × (is_waiting b.row off ≡ true)

-- whether R holds of the row at the place
abbrev pub TellsOf : List Cell → ℕ → (Cell → Type 0) → Bool → Type 0
TellsOf xs p R b = AtPlace xs p (λ c. (b ≡ true) ↔ R c)

-- whether another base than the row at the place may keep the statement's role
abbrev pub TellsOthers : List Cell → ℕ → Off → Bool → Type 0
TellsOthers xs p off others = TellsOf xs p (λ c. (is_own (off_tree off) ≡ false) × (BaseAbove xs off c ⊎ BaseBelow xs off c)) others

-- the statement reaches n from a row of such a base other than that with the serial k
pub record IsKeptBut (xs : List Cell) (T : Tree) (off : Off) (n : Node) (k : ℕ) : Type 0 where
  pub place : ℕ
  pub base : Node
  pub at : NodeOf xs place base
  pub other : serial_of base ≡ k → ⊥
  pub waits : is_waiting at.cell.row off ≡ true
  pub reached : reaches T (off_tree off) base n ≡ true
