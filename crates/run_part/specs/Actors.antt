-- What the two actors stand for, and what tokens and actions make of them (this project's).
use Rattle.std.specs.Prelude.{◌≡◌, ◌≤◌, ◌<◌, ◌+◌, ℕ, suc, nat_eq, Bool, true, false, not, List, [], ◌++◌, length, max, flat_map}
use Rattle.gcx_model.specs.Tree.{Tree, TreeToken as Said, grow, opening}
use Rattle.gcx_model.specs.Core.{PlanTree}
use Rattle.gcx_model.specs.Run.{bytes_of}
use Rattle.gcx_model.specs.Held.{held, sum_given}
use Rattle.gcx_model.specs.Points.{actions, so_far}
use Rattle.gcx_model.specs.Past.{Past}
pub use Rattle.outside.specs.Tokens.{ComesWithin}
use Rattle.buf_tree.specs.View.{View, capped}
use Rattle.projector.specs.Projector.{Projects, Places}
use Rattle.projector.specs.View.{ProjectorView}
use Rattle.projector.specs.declared.projector.Tally.{Tally}
use Rattle.projector.specs.declared.projector.Tally.TheVariants as tallies
use Rattle.pull_eval.specs.Acting.{Beside}
use Rattle.pull_eval.specs.declared.position.Position.{Position}
use Rattle.run_part.specs.View.{ActorsView}
use Rattle.run_part.specs.declared.actors.Tallied.{Tallied}

-- ---- what they stand for

-- the plan over the tree P with the first k actions of its run, of which so many were taken before the last token
abbrev pub past_at : PlanTree → Tree → (k fed : ℕ) → Past
past_at plan P k fed = record { plan = plan; tree = P; acts = so_far plan P k; fed = fed }

-- The two actors stand for the tree P with the first k actions of the plan's run taken. No departure is kept.
pub record ActorsStand (plan : PlanTree) (stands : Tree → Type 0) (p : ProjectorView) (w : Position) (v : View) (P : Tree) (k : ℕ) : Type 0 where
  pub fed : ℕ
  pub projects : Projects p (past_at plan P k fed)
  pub keeps : Places p v
  pub gone : v.gone ≡ []
  pub beside : Beside w v (past_at plan P k fed) k
  pub stand : stands P

-- the same of their view
abbrev pub StandAt : {C : Type 0} → (C → Tree → Type 0) → PlanTree → ActorsView C → Tree → ℕ → Type 0
StandAt stands plan a P k = ActorsStand plan (stands a.machine.conds) a.projector a.machine.position a.buffer P k

-- They stand for some state.
pub record SomeActors {C : Type 0} (stands : C → Tree → Type 0) (a : ActorsView C) : Type 0 where
  pub plan : PlanTree
  pub tree : Tree
  pub taken : ℕ
  pub of : StandAt stands plan a tree taken

-- No more roles are taken back than were given.
abbrev pub IsBalanced : {C : Type 0} → ActorsView C → Type 0
IsBalanced a = a.buffer.taken ≤ a.counts.given

-- `new`: for a placed plan they stand before any token and any action, and the document node alone is counted.
pub record ActorsBegin {C : Type 0} (stands : C → Tree → Type 0) (plan : PlanTree) (a : ActorsView C) : Type 0 where
  pub at : StandAt stands plan a opening 0
  pub peak : a.counts.peak ≡ 1
  pub given : a.counts.given ≡ capped (sum_given plan opening)

-- ---- a token

-- the token may come behind some state for which the actors stand
pub record MayFeed {C : Type 0} (stands : C → Tree → Type 0) (a : ActorsView C) (t : Said) : Type 0 where
  pub plan : PlanTree
  pub tree : Tree
  pub taken : ℕ
  pub of : StandAt stands plan a tree taken
  pub comes : ComesWithin t tree

-- how many roles a token gave
abbrev pub roles_in : Tally → ℕ
roles_in (tallies.Opened n) = n
roles_in tallies.Closed = 0

-- the counts with what it did, behind which so many rows are held
abbrev pub counted : Tallied → Tally → (held : ℕ) → Tallied
counted n tally rows = record n { peak = max n.peak rows; given = capped (n.given + roles_in tally) }

-- it gave no role, or closed a node that left at once
abbrev pub is_quiet : Tally → View → Bool
is_quiet (tallies.Opened n) v = nat_eq n 0
is_quiet tallies.Closed v = not (nat_eq (length v.gone) 0)

-- what a token makes of the counts, behind k actions over P
pub record Counted (plan : PlanTree) (t : Said) (P : Tree) (k : ℕ) (v w : View) (n m : Tallied) : Type 0 where
  pub given : n.given ≡ capped (sum_given plan P) → m.given ≡ capped (sum_given plan (grow t P))
  pub peak : m.peak ≡ max n.peak (length (held plan (grow t P) (so_far plan P k)))
  pub most : length v.rows ≤ v.most → w.most ≡ max v.most (length (held plan (grow t P) (so_far plan P k)))
  pub rows : length w.rows ≡ length (held plan (grow t P) (so_far plan P k))

-- a token was fed
pub record FeedsOne {C : Type 0} (stands : C → Tree → Type 0) (plan : PlanTree) (old new : ActorsView C) (t : Said) (P : Tree) (k : ℕ) : Type 0 where
  pub actors : StandAt stands plan new (grow t P) k
  pub counted : Counted plan t P k old.buffer new.buffer old.counts new.counts

-- so it was from each state for which they stood
abbrev pub FeedsEach : {C : Type 0} → (C → Tree → Type 0) → (old new : ActorsView C) → Said → Type 0
FeedsEach stands old new t = (plan : PlanTree) (P : Tree) (k : ℕ) → StandAt stands plan old P k → ComesWithin t P → FeedsOne stands plan old new t P k

-- no action is possible behind it that wasn't, where all were taken
abbrev pub IsQuietFor : {C : Type 0} → (C → Tree → Type 0) → ActorsView C → Said → Type 0
IsQuietFor stands old t = (plan : PlanTree) (P : Tree) → StandAt stands plan old P (length (actions plan P)) → ComesWithin t P → actions plan (grow t P) ≡ actions plan P

-- no more was taken back than given
abbrev pub BalancesEach : {C : Type 0} → (C → Tree → Type 0) → (old new : ActorsView C) → Said → Type 0
BalancesEach stands old new t = (plan : PlanTree) (P : Tree) (k : ℕ) → StandAt stands plan old P k → ComesWithin t P → old.counts.given ≡ capped (sum_given plan P) → IsBalanced new

-- ---- actions

-- what the first k actions of the plan's run over P write
abbrev pub bytes_at : PlanTree → Tree → ℕ → List ℕ
bytes_at plan P k = flat_map bytes_of (so_far plan P k)

-- From the state (P, k) to (Q, j) the output grew by what the actions between write.
pub record Goes (plan : PlanTree) (P : Tree) (k : ℕ) (Q : Tree) (j : ℕ) (before after : List ℕ) : Type 0 where
  pub more : List ℕ
  pub written : bytes_at plan Q j ≡ bytes_at plan P k ++ more
  pub grew : after ≡ before ++ more

-- the state in which every action over P is taken
abbrev pub all_of : PlanTree → Tree → ℕ
all_of plan P = length (actions plan P)

-- one action was taken where one was left; otherwise the state is the same
abbrev pub ActsOne : {C : Type 0} → (C → Tree → Type 0) → PlanTree → ActorsView C → (P : Tree) (k : ℕ) (more : Bool) → (before after : List ℕ) → Type 0
ActsOne stands plan new P k true before after = (k < all_of plan P) × StandAt stands plan new P (suc k) × Goes plan P k P (suc k) before after
ActsOne stands plan new P k false before after = (k ≡ all_of plan P) × StandAt stands plan new P k × (after ≡ before)

-- every action left was taken
pub record ActsOn {C : Type 0} (stands : C → Tree → Type 0) (plan : PlanTree) (new : ActorsView C) (P : Tree) (k : ℕ) (before after : List ℕ) : Type 0 where
  pub actors : StandAt stands plan new P (all_of plan P)
  pub goes : Goes plan P k P (all_of plan P) before after

-- or some of them, before memory ran out
pub record ActsSome {C : Type 0} (plan : PlanTree) (new : ActorsView C) (P : Tree) (k : ℕ) (before after : List ℕ) : Type 0 where
  pub taken : ℕ
  pub there : taken ≤ all_of plan P
  pub goes : Goes plan P k P taken before after
  pub balance : new.buffer.taken ≤ capped (sum_given plan P)

-- from each state for which they stood
abbrev pub ActsOneFrom : {C : Type 0} → (C → Tree → Type 0) → (old new : ActorsView C) → (before after : List ℕ) → (more : Bool) → Type 0
ActsOneFrom stands old new before after more = (plan : PlanTree) (P : Tree) (k : ℕ) → StandAt stands plan old P k → ActsOne stands plan new P k more before after

abbrev pub ActsOnFrom : {C : Type 0} → (C → Tree → Type 0) → (old new : ActorsView C) → (before after : List ℕ) → Type 0
ActsOnFrom stands old new before after = (plan : PlanTree) (P : Tree) (k : ℕ) → StandAt stands plan old P k → ActsOn stands plan new P k before after

abbrev pub ActsSomeFrom : {C : Type 0} → (C → Tree → Type 0) → (old new : ActorsView C) → (before after : List ℕ) → Type 0
ActsSomeFrom stands old new before after = (plan : PlanTree) (P : Tree) (k : ℕ) → StandAt stands plan old P k → ActsSome plan new P k before after
