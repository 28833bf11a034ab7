-- The actions of a run as they are kept: of a write its length alone (this project's).
use Rattle.std.specs.Prelude.{◌≡◌, ℕ, List, [], ◌∷◌, ◌++◌, length, map}
use Rattle.gcx_model.specs.Tree.{Node, serial_of, Tree}
use Rattle.gcx_model.specs.Answer.{children}
use Rattle.gcx_model.specs.Core.{OffTree, BodyTree}
use Rattle.gcx_model.specs.ItemView.{off_tree}
use Rattle.gcx_model.specs.Run.{Action, Wrote, Offed}
use Rattle.gcx_model.specs.Truth.{Env, bind_var}
use Rattle.time_laws.specs.Times.{Clock, TimedCourse, TimedAction, rounds, copy_course, course}
use Rattle.trace_check.specs.declared.acts.Act.{Act}
use Rattle.trace_check.specs.declared.acts.Act.TheVariants as act
use Rattle.trace_check.specs.declared.acts.TimedAct as code

pub data Shown : Type 0 where
  Sized : (bytes : ℕ) → Shown
  Signed : (off : OffTree) (node : ℕ) → Shown

pub record ShownAct : Type 0 where
  pub at : ℕ
  pub what : Shown

abbrev pub act_shown : Act → Shown
act_shown (act.Wrote bytes) = Sized bytes
act_shown (act.SignedOff node off) = Signed (off_tree off.now) node

abbrev pub action_shown : Action → Shown
action_shown (Wrote b) = Sized (length b)
action_shown (Offed o m) = Signed o m

-- a kept action, and an action of the run, as far as both are shown
abbrev pub shown : code.TimedAct → ShownAct
shown a = record { at = a.at; what = act_shown a.act }

abbrev pub what_shown : code.TimedAct → Shown
what_shown a = act_shown a.act

abbrev pub seen : TimedAction → ShownAct
seen a = record { at = a.at; what = action_shown a.act }

-- The actions of this course come behind those that were kept, and it is done at this time.
pub record Adds (old new : List code.TimedAct) (c : TimedCourse) (till : ℕ) : Type 0 where
  pub acts : map shown new ≡ map shown old ++ map seen c.acts
  pub till_is : till ≡ c.till

-- a write of so many bytes at this time comes behind those that were kept
abbrev pub WritesAt : (old new : List code.TimedAct) → (at bytes : ℕ) → Type 0
WritesAt old new at bytes = map shown new ≡ map shown old ++ record { at = at; what = Sized bytes } ∷ []

-- the course of a node's copy
abbrev pub whole_copy : Clock → Tree → Node → ℕ → TimedCourse
whole_copy c C n t = copy_course (length C.nodes) c C n t

-- that of its children's copies
abbrev pub copies_below : Clock → Tree → Node → ℕ → TimedCourse
copies_below c C n t = rounds c (whole_copy c C) (children C n) (c.closed (serial_of n)) t

-- that of a body for each of these nodes, one after another
abbrev pub body_rounds : Clock → Tree → (var : ℕ) → BodyTree → Env → List Node → ℕ → TimedCourse
body_rounds c C x d env ns t = rounds c (λ n u. course c C d (bind_var env x n) u) ns 0 t
