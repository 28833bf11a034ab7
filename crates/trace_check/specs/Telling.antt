-- A run of a plan over a document's tokens, as it is known by its times, and its lines (this project's).
use Rattle.std.specs.Prelude.{◌≡◌, ℕ, suc, ◌≤◌, List, [], ◌∷◌, ◌++◌, length, map, take, drop, get_or, nat_le, cond, ◌==◌, ◌&&◌}
use Rattle.gcx_model.specs.Core.{PlanTree}
use Rattle.gcx_model.specs.Demand.{Line, Opened, Closed, Written, SignedOff, Left, line_kind, text_of_lines}
use Rattle.gcx_model.specs.Members.{In}
use Rattle.gcx_model.specs.Points.{actions}
use Rattle.gcx_model.specs.Run.{Action}
use Rattle.gcx_model.specs.Tree.{Tree, TreeToken, kind_of, opening}
use Rattle.tree_laws.specs.LineTexts.{IsPlain}
use Rattle.doc_tree.specs.Rows.{node_at}
use Rattle.time_laws.specs.Leaving.{acts_told, count_offs, is_freed, left_where, told_by_times, tokens_told}
use Rattle.time_laws.specs.Times.{Clock, due, timed_acts}
use Rattle.trace_check.specs.Acting.{Shown, Sized, Signed, shown, seen}
use Rattle.trace_check.specs.Timing.{clock_in, IsTimed}
use Rattle.trace_check.specs.Wanting.{IsWanted, given_all, lists_in, numbers_in}
use Rattle.trace_check.specs.declared.course.Course.{Course}
use Rattle.trace_check.specs.declared.telling.Told.{Told}
use Rattle.trace_check.specs.declared.timed.Fed.{Fed}
use Rattle.trace_check.specs.declared.timed.Fed.TheVariants as fed

-- the actions of the whole run, each with its time
abbrev pub acts_in : PlanTree → Course → List Action
acts_in plan c = actions plan c.timed.tree

-- This is known of the plan's run over these tokens.
pub record IsCourse (plan : PlanTree) (ts : List TreeToken) (c : Course) : Type 0 where
  pub timed : IsTimed ts c.timed
  pub acts : map shown c.acts.items ≡ map seen (timed_acts (clock_in c.timed) c.timed.tree plan)
  pub given : map numbers_in c.given.items ≡ given_all plan c.timed.tree
  pub wanted : IsWanted c.timed.tree (acts_in plan c) c.leaving.until.items (lists_in c.leaving.freed.items)

-- the actions that are possible at the time j
abbrev pub due_in : PlanTree → Course → ℕ → List Action
due_in plan c j = due j (timed_acts (clock_in c.timed) c.timed.tree plan)

-- the lines behind an action at the time j, behind k statements
abbrev pub shown_told : Clock → Tree → List Action → (j k : ℕ) → Shown → List Line
shown_told c C all j k (Sized n) = Written n ∷ []
shown_told c C all j k (Signed o m) = SignedOff m o.role ∷ left_where C (is_freed c C all j (suc k))

-- the line of a node that is opened
abbrev pub line_in : PlanTree → Course → ℕ → Line
line_in plan c n = Opened n (line_kind (kind_of (node_at c.timed.tree.nodes n))) (get_or (given_all plan c.timed.tree) n [])

-- So much is told up to the time j, and the actions up to that time.
pub record IsToldTo (plan : PlanTree) (c : Course) (j : ℕ) (told : Told) : Type 0 where
  pub acts : told.acts ≡ length (due_in plan c j)
  pub signed : told.signed ≡ count_offs (due_in plan c j)

-- Some of the actions that are possible at the time j are told.
pub record IsTelling (plan : PlanTree) (c : Course) (j : ℕ) (told : Told) : Type 0 where
  pub acts : told.acts ≤ length (due_in plan c j)
  pub signed : told.signed ≡ count_offs (take told.acts (due_in plan c j))

-- an action more is told
abbrev pub signed_by : Shown → ℕ → ℕ
signed_by (Sized n) k = k
signed_by (Signed o m) k = suc k

pub record IsCounted (old new : Told) (a : Shown) : Type 0 where
  pub acts : new.acts ≡ suc old.acts
  pub signed : new.signed ≡ signed_by a old.signed
  pub opened : new.opened ≡ old.opened

-- the node that a token opened or closed, where the next one has this number
abbrev pub fed_node : (next : ℕ) → Fed → ℕ
fed_node next fed.Opened = next
fed_node next (fed.Closed n) = n

-- the line of a token
abbrev pub fed_told : PlanTree → Course → (next : ℕ) → Fed → List Line
fed_told plan c next fed.Opened = line_in plan c next ∷ []
fed_told plan c next (fed.Closed n) = Closed n ∷ []

abbrev pub fed_counted : Told → Fed → Told
fed_counted told fed.Opened = record { acts = told.acts; signed = told.signed; opened = suc told.opened }
fed_counted told (fed.Closed n) = told

-- the line of a node that is closed at the time j and wanted up to one of the first k statements
abbrev pub over_line : Clock → (until : List ℕ) → (j k n : ℕ) → List Line
over_line c until j k n = cond (c.closed n == j && nat_le (get_or until n 0) k) (Left n ∷ []) []

-- in each of these lines a name is one, and the numbers are below 2^64
abbrev pub ArePlain : List Line → Type 0
ArePlain lines = (l : Line) → In l lines → IsPlain l

-- such lines behind a text
pub record Puts (old new : List ℕ) (lines : List Line) : Type 0 where
  pub text : new ≡ old ++ text_of_lines lines
  pub plain : ArePlain lines

-- ---- What each call puts at the end of the text, whatever plan and tokens the course is of. Private functions alone speak of it.

-- the lines of the nodes that the statement of this number frees, of those that are closed by the time
abbrev pub PutsFreed : Course → (now number : ℕ) → (before after : List ℕ) → Type 0
PutsFreed c now k before after = (plan : PlanTree) (ts : List TreeToken) → IsCourse plan ts c → k ≤ count_offs (acts_in plan c)
    → Puts before after (left_where c.timed.tree (is_freed (clock_in c.timed) c.timed.tree (acts_in plan c) now k))

-- the lines of an action, behind which so much is told
abbrev pub PutsAct : Course → (now : ℕ) → (old new : Told) → Shown → (before after : List ℕ) → Type 0
PutsAct c now old new a before after = (plan : PlanTree) (ts : List TreeToken) → IsCourse plan ts c → new.signed ≤ count_offs (acts_in plan c)
    → Puts before after (shown_told (clock_in c.timed) c.timed.tree (acts_in plan c) now old.signed a)

-- the lines of the actions that are possible at the time and aren't told
abbrev pub PutsActs : Course → (now : ℕ) → Told → (before after : List ℕ) → Type 0
PutsActs c now old before after = (plan : PlanTree) (ts : List TreeToken) → IsCourse plan ts c → IsTelling plan c now old
    → Puts before after (acts_told (clock_in c.timed) c.timed.tree (acts_in plan c) now old.signed (drop old.acts (due_in plan c now)))

-- the lines of the tokens that are told, each with the actions behind it
abbrev pub PutsTokens : Course → Told → (before after : List ℕ) → Type 0
PutsTokens c old before after = (plan : PlanTree) (ts : List TreeToken) → IsCourse plan ts c → IsToldTo plan c 0 old
    → Puts before after (tokens_told plan (clock_in c.timed) c.timed.tree (timed_acts (clock_in c.timed) c.timed.tree plan) (acts_in plan c) ts opening 0)

-- the text of the run's trace, told by times
abbrev pub PutsRun : Course → (before after : List ℕ) → Type 0
PutsRun c before after = (plan : PlanTree) (ts : List TreeToken) → IsCourse plan ts c
    → Puts before after (told_by_times plan (clock_in c.timed) c.timed.tree (timed_acts (clock_in c.timed) c.timed.tree plan) (acts_in plan c) ts)
