-- What a machine does beside a buffer (this project's).
use Rattle.std.specs.Prelude.{◌≡◌, ◌<◌, ℕ, suc, true, false, List, [], ◌∷◌, ◌++◌, length, Option, Some, None, ◌⊎◌}
use Rattle.gcx_model.specs.Tree.{Tree, Node, serial_of, is_closed}
use Rattle.gcx_model.specs.Paths.{matches}
use Rattle.gcx_model.specs.declared.truth.Truth.TheVariants.{True, False}
use Rattle.gcx_model.specs.Truth.{truth, bind_var}
use Rattle.gcx_model.specs.Members.{In}
use Rattle.gcx_model.specs.Core.{OffTree, CondTree, ItemTree, BodyTree, Then}
use Rattle.gcx_model.specs.Run.{Action, Offed}
use Rattle.gcx_model.specs.Run as run
use Rattle.gcx_model.specs.Held.{held, departed, sum_taken}
use Rattle.gcx_model.specs.Points.{so_far, CoreState, Frame, Rest, LoopRound, CopyPart, later}
use Rattle.gcx_model.specs.Copying.{CopyFrame, Inside, next_children}
use Rattle.gcx_model.specs.Past.{Past, past_acted}
use Rattle.move_laws.specs.Moves.{IsNext, NoneLeft}
use Rattle.pass_laws.specs.Idle.{IsQuiet}
use Rattle.buf_tree.specs.Shape.{Cell, num}
use Rattle.buf_tree.specs.View.{View, capped}
use Rattle.buf_tree.specs.Stands.{StandsFor}
use Rattle.cond_eval.specs.Asking.{PlacedAt}
use Rattle.pull_eval.specs.Position.{StandsAt, items}
use Rattle.pull_eval.specs.Weight.{weight}
use Rattle.pull_eval.specs.declared.position.Position.{Position}
use Rattle.pull_eval.specs.declared.block.Next.TheVariants.{Unsought}
use Rattle.pull_eval.specs.declared.block.Round.{Round as CodeRound}
use Rattle.pull_eval.specs.declared.block.Block.{Block}
use Rattle.pull_eval.specs.declared.machine.Acted.{Acted}
use Rattle.pull_eval.specs.declared.machine.Acted.TheVariants as outcomes

-- Beside the buffer the machine stands for the past's tree with the first k actions taken, which are the past's.
pub record Beside (w : Position) (v : View) (past : Past) (k : ℕ) : Type 0 where
  pub state : CoreState past.plan past.tree k
  pub acts : past.acts ≡ so_far past.plan past.tree k
  pub buffer : StandsFor v past
  pub taken : v.taken ≡ capped (sum_taken past.plan past.tree past.acts)
  pub position : StandsAt past.plan w v.rows past.tree k

-- it does so for some past for whose tree the conditions stand
pub record MayAct (stands : Tree → Type 0) (w : Position) (v : View) : Type 0 where
  pub past : Past
  pub taken : ℕ
  pub beside : Beside w v past taken
  pub stand : stands past.tree

-- the serials of the nodes that leave with the action
abbrev pub leaving : Past → Action → List ℕ
leaving past a = departed (held past.plan past.tree past.acts) (held past.plan past.tree (past.acts ++ a ∷ []))

-- the rows that stay keep their places
abbrev pub SamePlaces : List Cell → List Cell → Type 0
SamePlaces before now = (c : Cell) → In c now → (d : Cell) × In d before × (d.place ≡ c.place) × (num d ≡ num c)

-- the action that was taken is the next one, or none is left
abbrev pub TakesAction : Past → (k : ℕ) → Position → (v w : View) → (before after : List ℕ) → Acted → Type 0
TakesAction past k m v w before after (outcomes.Wrote n) = (b : List ℕ) × IsNext past.plan past.tree k (run.Wrote b) × (n ≡ length b) × (after ≡ before ++ b) × (w ≡ v) × Beside m w (past_acted (run.Wrote b) past) (suc k)
TakesAction past k m v w before after (outcomes.SignedOff s r) = (o : OffTree) × IsNext past.plan past.tree k (Offed o s.0) × (o.role ≡ r.0) × (after ≡ before) × (w.gone ≡ v.gone ++ leaving past (Offed o s.0)) × SamePlaces v.rows w.rows × Beside m w (past_acted (Offed o s.0) past) (suc k)
TakesAction past k m v w before after outcomes.Blocked = NoneLeft past.plan past.tree k false × (after ≡ before) × (w ≡ v) × Beside m w past k
TakesAction past k m v w before after outcomes.Finished = NoneLeft past.plan past.tree k true × (after ≡ before) × (w ≡ v) × Beside m w past k

-- the same of a move from the position m to n, where it may take no action: then fewer moves without one are left
abbrev pub Moves : Past → (k : ℕ) → (m n : Position) → (v w : View) → (before after : List ℕ) → Option Acted → Type 0
Moves past k m n v w before after None = (after ≡ before) × (w ≡ v) × Beside n w past k × (weight v.rows n < weight v.rows m)
Moves past k m n v w before after (Some a) = TakesAction past k n v w before after a

-- for each past beside which the machine stood
abbrev pub Acts : (before after : Tree → Type 0) → (m n : Position) → (v w : View) → (old new : List ℕ) → Acted → Type 0
Acts before after m n v w old new a = (past : Past) (k : ℕ) → Beside m v past k → before past.tree → TakesAction past k n v w old new a × after past.tree

abbrev pub MovesOn : (before after : Tree → Type 0) → (m n : Position) → (v w : View) → (old new : List ℕ) → Option Acted → Type 0
MovesOn before after m n v w old new a = (past : Past) (k : ℕ) → Beside m v past k → before past.tree → Moves past k m n v w old new a × after past.tree

-- this is the next child of the node within which a copy goes on, at this place
abbrev pub NextIs : List Cell → Tree → List CopyFrame → (place : ℕ) → Type 0
NextIs rows P [] p = ⊥
NextIs rows P (Inside n present ∷ inner) p = (c : Node) × (rest : List Node) × (next_children P n present ≡ c ∷ rest) × PlacedAt rows (serial_of c) p

-- of that node no child is left, and none comes
abbrev pub NoNext : Tree → List CopyFrame → Type 0
NoNext P [] = ⊥
NoNext P (Inside n present ∷ inner) = (next_children P n present ≡ []) × (is_closed P n ≡ true)

-- this item comes next, and this body behind it
pub record IsNextItem (w : Position) (i : ItemTree) (d : BodyTree) : Type 0 where
  pub next : items w.top.rest.now ≡ Then i d
  pub no_copy : w.copying ≡ None

-- of the condition that comes next at these frames this branch is taken
abbrev pub ChosenBranch : Tree → List Frame → CondTree → (this other branch : BodyTree) → Type 0
ChosenBranch P [] c this other branch = ⊥
ChosenBranch P (Rest d env ∷ fs) c this other branch = ((truth c env P ≡ True) × (branch ≡ this)) ⊎ ((truth c env P ≡ False) × (branch ≡ other))
ChosenBranch P (LoopRound x y s e env n ∷ fs) c this other branch = ⊥
ChosenBranch P (CopyPart x env made ∷ fs) c this other branch = ⊥

-- of the round at the top of the frames no match comes, and at those that are left its body does nothing
abbrev pub IsLast : Tree → List Frame → Type 0
IsLast P [] = Unit {0}
IsLast P (Rest d env ∷ fs) = Unit {0}
IsLast P (LoopRound x y s e env n ∷ fs) = ((j : Node) → In j (later n (matches P (serial_of (env y)) (s ∷ []))) → IsQuiet e (bind_var env x j) P) × (is_closed P (env y) ≡ true)
IsLast P (CopyPart x env made ∷ fs) = Unit {0}

-- The body at the top of the frames is over, and if it is that of a round, so is the loop.
abbrev pub IsOver : Tree → List Frame → Type 0
IsOver P [] = ⊥
IsOver P (f ∷ fs) = IsLast P fs

abbrev pub SoughtRound : Option CodeRound → Type 0
SoughtRound None = Unit {0}
SoughtRound (Some r) = r.next ≡ Unsought → ⊥

-- the loop of the body has looked for its next match
abbrev pub IsSought : Block → Type 0
IsSought b = SoughtRound b.round
