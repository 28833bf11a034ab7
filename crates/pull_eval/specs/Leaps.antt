-- With which match a loop begins and goes on, where its body does nothing at some. Private functions alone speak of it.
use Rattle.std.specs.Prelude.{◌≡◌, ◌<◌, ◌⊎◌, ℕ, Bool, true, false, List, [], ◌∷◌, ◌++◌, map, slice_get, Option, Some, None}
use Rattle.gcx_base.specs.declared.ids.Serial.{Serial}
use Rattle.gcx_base.specs.declared.ids.VarId.{VarId}
use Rattle.gcx_base.specs.declared.steps.Step.{Step}
use Rattle.gcx_model.specs.Tree.{Node, serial_of, Tree, is_closed}
use Rattle.gcx_model.specs.Paths.{matches}
use Rattle.gcx_model.specs.Members.{In}
use Rattle.gcx_model.specs.Core.{For, BodyTree, Then}
use Rattle.gcx_model.specs.Truth.{Env, bind_var}
use Rattle.gcx_model.specs.Points.{Frame, Rest, LoopRound, later}
use Rattle.gcx_model.specs.Past.{Past}
use Rattle.gcx_model.specs.Held.{is_held}
use Rattle.pass_laws.specs.Idle.{IsQuiet}
use Rattle.pass_laws.specs.Scopes.{IsOfLoop}
use Rattle.node_store.specs.declared.store.Place.{Place}
use Rattle.buf_tree.specs.Shape.{Cell}
use Rattle.buf_tree.specs.View.{View}
use Rattle.cond_eval.specs.Asking.{PlacedAt}
use Rattle.pull_eval.specs.Position.{items}
use Rattle.cond_eval.specs.Comparing.{KeepsMatches}
use Rattle.cond_eval.specs.Kept.{AddsOnce}
use Rattle.cond_eval.specs.Reads.{NodeAt}
use Rattle.pull_eval.specs.Turns.{Leaps, IsTurns, TurnsStand, KeepsTurns, Meets, turns_at, loop_var}
use Rattle.pull_eval.specs.Acting.{Beside, Moves}
use Rattle.pull_eval.specs.Weight.{rows_behind, rounds_left}
use Rattle.pull_eval.specs.declared.block.Round.{Round as CodeRound}
use Rattle.pull_eval.specs.declared.guard.Guard.{Guard}
use Rattle.pull_eval.specs.declared.turns.Turns.{Turns}
use Rattle.pull_eval.specs.declared.turns.Leap.{Leap}
use Rattle.pull_eval.specs.declared.turns.Leap.TheVariants.{Stay}
use Rattle.pull_eval.specs.declared.machine.Acted.{Acted}
use Rattle.pull_eval.specs.declared.position.Position.{Position}

-- A loop of these frames, at a round or coming next. The node from which it takes its step is held, and its row stands at the place.
pub record LoopAt (past : Past) (fs : List Frame) (rows : List Cell) (x : ℕ) (s : Step) (e : BodyTree) (context : ℕ) : Type 0 where
  pub from : ℕ
  pub env : Env
  pub top : List Frame
  pub frame : Frame
  pub below : List Frame
  pub is_loop : IsOfLoop x from s e env frame
  pub fs_are : fs ≡ top ++ frame ∷ below
  pub among : In (env from) past.tree.nodes
  pub held : is_held past.plan past.tree past.acts (env from) ≡ true
  pub context_at : PlacedAt rows (serial_of (env from)) context

-- the row at the place is that of a closed node
abbrev pub IsClosedAt : List Cell → ℕ → Type 0
IsClosedAt rows p = (c : Cell) → In c rows → c.place ≡ p → c.row.is_open ≡ false

-- the loop is there, beside some past
abbrev pub HasLoop : Position → View → (x : ℕ) → Step → BodyTree → (context : ℕ) → Type 0
HasLoop w v x s e p = (past : Past) × (k : ℕ) × (b : Beside w v past k) × LoopAt past b.position.fs v.rows x s e p

-- the serial of the match from which on it goes; without one the loop begins
abbrev pub serial_from : Option Serial → ℕ
serial_from None = 0
serial_from (Some s) = s.0

-- what holds of a match that is passed: the body does nothing there, and none is passed before the first one
abbrev pub PassedFrom : Option Serial → (quiet : Node → Type 0) → Node → Type 0
PassedFrom None quiet j = ⊥
PassedFrom (Some s) quiet j = quiet j

-- Beside each past beside which m stood n does, and the loop may go on there. It leaps where no more matches come.
abbrev pub LeapsTo : (m n : Position) → View → (x : ℕ) → Step → BodyTree → (context : ℕ) → (from : Option Serial) → Leap → Type 0
LeapsTo m n v x s e p from l = (past : Past) (k : ℕ) (b : Beside m v past k) (a : LoopAt past b.position.fs v.rows x s e p)
    → (c : Beside n v past k) × (c.position.fs ≡ b.position.fs)
    × Leaps v.rows (matches past.tree (serial_of (a.env a.from)) (s ∷ [])) (PassedFrom from (λ j. IsQuiet e (bind_var a.env x j) past.tree)) (serial_from from) l
    × ((l ≡ Stay) ⊎ (is_closed past.tree (a.env a.from) ≡ true))

-- the first of these matches stands at the place, or there is none
abbrev pub IsFirstAt : List Cell → List Node → Option Place → Type 0
IsFirstAt rows ms None = ms ≡ []
IsFirstAt rows ms (Some p) = (m : Node) × (rest : List Node) × (ms ≡ m ∷ rest) × PlacedAt rows (serial_of m) p.0

-- so is that of the loop that comes next at these frames
abbrev pub FirstIn : Tree → List Cell → List Frame → (x y : ℕ) → Step → (body rest : BodyTree) → Option Place → Type 0
FirstIn P rows fs x y s e d found = (env : Env) (below : List Frame) → fs ≡ Rest (Then (For x y s e) d) env ∷ below
    → IsFirstAt rows (matches P (serial_of (env y)) (s ∷ [])) found

-- beside each past beside which m stood n does, and this is its first match,
abbrev pub FindsFirst : (m n : Position) → View → (x y : ℕ) → Step → (body rest : BodyTree) → Option Place → Type 0
FindsFirst m n v x y s e d found = (past : Past) (k : ℕ) → Beside m v past k → (b : Beside n v past k) × FirstIn past.tree v.rows b.position.fs x y s e d found

-- beside some past,
abbrev pub MayBegin : Position → View → (x y : ℕ) → Step → (body rest : BodyTree) → Option Place → Type 0
MayBegin w v x y s e d found = (past : Past) × (k : ℕ) × (b : Beside w v past k) × FirstIn past.tree v.rows b.position.fs x y s e d found

-- and a move from m to n is one beside each past beside which it is.
abbrev pub EntersAt : (m n : Position) → View → (x y : ℕ) → Step → (body rest : BodyTree) → Option Place → Option Acted → Type 0
EntersAt m n v x y s e d found a = (past : Past) (k : ℕ) (out : List ℕ) (b : Beside m v past k) → FirstIn past.tree v.rows b.position.fs x y s e d found → Moves past k m n v v out out a

-- the match at this place is one of these, and at those before it the body does nothing; or there is none, or it does nothing at any and no more come
abbrev pub TurnsAt : List Cell → List Node → (quiet : Node → Type 0) → (closed : Type 0) → (left : ℕ) → Option Place → Type 0
TurnsAt rows ms quiet closed left None = (ms ≡ []) ⊎ (((j : Node) → In j ms → quiet j) × closed)
TurnsAt rows ms quiet closed left (Some p) = (pre : List Node) × (m : Node) × (post : List Node) × (ms ≡ pre ++ m ∷ post) × ((j : Node) → In j pre → quiet j) × PlacedAt rows (serial_of m) p.0 × (rows_behind (serial_of m) rows < left)

-- so is that with which the loop of the round at the top of the frames goes on
abbrev pub TurnIn : Tree → List Cell → List Frame → CodeRound → Option Place → Type 0
TurnIn P rows fs r found = (y : ℕ) (env : Env) (n : Node) (top : Frame) (below : List Frame) → fs ≡ top ∷ LoopRound r.var.0 y r.step.now (items r.body.now) env n ∷ below
    → TurnsAt rows (later n (matches P (serial_of (env y)) (r.step.now ∷ []))) (λ j. IsQuiet (items r.body.now) (bind_var env r.var.0 j) P)
    (is_closed P (env y) ≡ true) (rounds_left rows r.present r.next) found

-- beside each past beside which m stood n does, and this is that match,
abbrev pub FindsTurn : (m n : Position) → View → CodeRound → Option Place → Type 0
FindsTurn m n v r found = (past : Past) (k : ℕ) → Beside m v past k → (b : Beside n v past k) × TurnIn past.tree v.rows b.position.fs r found

-- beside some past,
abbrev pub MayTurn : Position → View → CodeRound → Option Place → Type 0
MayTurn w v r found = (past : Past) × (k : ℕ) × (b : Beside w v past k) × TurnIn past.tree v.rows b.position.fs r found

-- and a move from m to n is one beside each past beside which it is.
abbrev pub GoesOnAt : (m n : Position) → View → CodeRound → Option Place → Option Acted → Type 0
GoesOnAt m n v r found a = (past : Past) (k : ℕ) (out : List ℕ) (b : Beside m v past k) → TurnIn past.tree v.rows b.position.fs r found → Moves past k m n v v out out a

-- ---- what is looked at

-- by these steps and paths the loop goes
pub record GoesWith (t : Turns) (s : Step) (g : Guard) : Type 0 where
  pub step : t.step.now ≡ s
  pub own : t.own.now ≡ g.own.now
  pub other : t.other.now ≡ g.other.now

-- this one of them is of the variable
abbrev pub IsTurnsOf : List Turns → VarId → (index : ℕ) → Type 0
IsTurnsOf ts x i = (t : Turns) × (slice_get ts i ≡ Some t) × (t.var ≡ x)

-- none of them is
abbrev pub HasNoTurns : List Turns → VarId → Type 0
HasNoTurns ts x = In x (map loop_var ts) → ⊥

-- where what stands at this number goes by these steps and paths nothing changes
abbrev pub KeepsTheirs : (before after : List Turns) → (index : ℕ) → Step → Guard → Type 0
KeepsTheirs before after i s g = (t : Turns) → slice_get before i ≡ Some t → GoesWith t s g → after ≡ before

-- one is of this variable: one that was there, else one that comes last; no other comes
abbrev pub AddsTurns : (before after : List Turns) → VarId → Type 0
AddsTurns before after x = AddsOnce x (map loop_var before) (map loop_var after)

-- the same was looked at of each, but for one of which nothing was
abbrev pub StayTurns : (before after : List Turns) → Type 0
StayTurns before after = (rows : List Cell) (P : Tree) → TurnsStand rows P before → TurnsStand rows P after

-- from the nodes of the rows at the places p and q, with what is needed kept: the loop goes on at a match with a value of both operands
abbrev pub Looks : List Cell → (before after : Turns) → (p q outer : ℕ) → (from : Option Serial) → Leap → Type 0
Looks rows t u p q o from l = (P : Tree) (keep : Node → Bool) (a b : Node) → NodeAt rows P keep p a → is_closed P a ≡ true → KeepsTurns P keep t a
    → NodeAt rows P keep q b → is_closed P b ≡ true → serial_of b ≡ o → KeepsMatches P keep b t.other.now → IsTurns rows P t
    → IsTurns rows P u × Leaps rows (turns_at P t a) (PassedFrom from (λ j. Meets P t b j → ⊥)) (serial_from from) l
