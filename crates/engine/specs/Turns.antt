-- What turns of the two actors reach, as an answer tells it (this project's).
use Rattle.std.specs.Prelude.{◌≡◌, ◌≤◌, ◌<◌, ◌^◌, Bool, true, false, ℕ, List, length, map, drop}
use Rattle.gcx_model.specs.Tree.{Tree, TreeToken as Said, opening}
use Rattle.gcx_model.specs.Core.{PlanTree}
use Rattle.gcx_model.specs.Held.{held, sum_given, sum_taken}
use Rattle.gcx_model.specs.Growth.{may_all}
use Rattle.gcx_model.specs.Points.{so_far}
use Rattle.gcx_model.specs.Turning.{Turn, Turned, Feed, turn, turned, tree_fed}
use Rattle.gcx_model.specs.Turning as model
use Rattle.doc_reader.specs.Standing.{said_of}
use Rattle.buf_tree.specs.View.{capped}
use Rattle.run_part.specs.Actors.{Goes, StandAt, bytes_at}
use Rattle.engine.specs.declared.turns.Turn.{Turn as CodeTurn}
use Rattle.engine.specs.declared.turns.Turn.TheVariants as code
use Rattle.engine.specs.declared.turns.Course.{Course}
use Rattle.engine.specs.declared.turns.Reached.{Reached}
use Rattle.gcx_model.specs.Seen.{AreWithin}

abbrev pub turn_of : CodeTurn → Turn
turn_of code.Feed = model.Feed
turn_of code.Act = model.Act

abbrev pub turns_of : List CodeTurn → List Turn
turns_of ts = map turn_of ts

-- The answer's numbers are those of a state over these tokens.
pub record Tells (plan : PlanTree) (ts : List Said) (s : Turned) (r : Reached) : Type 0 where
  pub fed_is : r.fed ≡ s.fed
  pub acted_is : r.acted ≡ s.acted
  pub held_is : r.held ≡ length (held plan (tree_fed ts s) (so_far plan (tree_fed ts s) s.acted))
  pub nodes_is : r.nodes ≡ length (tree_fed ts s).nodes
  pub given_is : r.given ≡ sum_given plan (tree_fed ts s)
  pub taken_is : r.taken ≡ sum_taken plan (tree_fed ts s) (so_far plan (tree_fed ts s) s.acted)

-- They are those of the state that the turns reach.
abbrev pub TellsTurned : PlanTree → List Said → List CodeTurn → Reached → Type 0
TellsTurned plan ts turns r = Tells plan ts (turned plan ts (turns_of turns)) r

-- what the actions write that the turns take
abbrev pub written : PlanTree → List Said → List CodeTurn → List ℕ
written plan ts turns = bytes_at plan (tree_fed ts (turned plan ts (turns_of turns))) (turned plan ts (turns_of turns)).acted

-- The rest is said of private functions.

abbrev pub from_start : Turned
from_start = record { fed = 0; acted = 0 }

-- how many actions an answer tells
abbrev pub actions_in : (more : Bool) → ℕ
actions_in true = 1
actions_in false = 0

-- The actors stand for a state over these tokens, of which the others are left.
pub record Reaches {N C : Type 0} (stands : C → Tree → Type 0) (plan : PlanTree) (ts : List Said) (s : Turned) (a : Course N C) : Type 0 where
  pub may : may_all ts opening ≡ true
  pub within : AreWithin ts
  pub actors : StandAt stands plan a.actors (tree_fed ts s) s.acted
  pub there : s.fed ≤ length ts
  pub left : map said_of a.tokens.items ≡ drop s.fed ts
  pub fed_is : a.fed ≡ s.fed
  pub acted_is : a.acted ≡ s.acted
  pub given_is : a.actors.counts.given ≡ capped (sum_given plan (tree_fed ts s))

pub record SomeTurns {N C : Type 0} (stands : C → Tree → Type 0) (a : Course N C) : Type 0 where
  pub plan : PlanTree
  pub tokens : List Said
  pub state : Turned
  pub of : Reaches stands plan tokens state a

-- a turn goes on from there
pub record TurnsOn {N C : Type 0} (stands : C → Tree → Type 0) (plan : PlanTree) (ts : List Said) (s : Turned) (t : Turn) (a : Course N C) (before after : List ℕ) : Type 0 where
  pub reaches : Reaches stands plan ts (turn plan ts t s) a
  pub goes : Goes plan (tree_fed ts s) s.acted (tree_fed ts (turn plan ts t s)) (turn plan ts t s).acted before after

-- ---- from each state that was reached

-- a turn of either actor
abbrev pub TakesTurn : {N C : Type 0} → (C → Tree → Type 0) → (old : Course N C) (t : Turn) (new : Course N C) → (before after : List ℕ) → Type 0
TakesTurn stands old t new before after = (plan : PlanTree) (ts : List Said) (s : Turned) → Reaches stands plan ts s old → TurnsOn stands plan ts s t new before after

-- a turn that feeds, which writes nothing
abbrev pub FeedsTurn : {N C : Type 0} → (C → Tree → Type 0) → (old new : Course N C) → Type 0
FeedsTurn stands old new = (plan : PlanTree) (ts : List Said) (s : Turned) → Reaches stands plan ts s old → Reaches stands plan ts (turn plan ts Feed s) new

-- the numbers of the state
abbrev pub TellsState : {N C : Type 0} → (C → Tree → Type 0) → Course N C → Reached → Type 0
TellsState stands now r = (plan : PlanTree) (ts : List Said) (s : Turned) → length plan.roles < 2 ^ 64 → Reaches stands plan ts s now → Tells plan ts s r
