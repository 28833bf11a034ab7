-- What contracts see of the two actors, and of a part (this project's).
use Rattle.std.specs.Prelude.{ℕ, Bool, List, Option}
use Rattle.gcx_model.specs.declared.plan.Plan.{Plan}
use Rattle.buf_tree.specs.View.{View}
use Rattle.projector.specs.View.{ProjectorView}
use Rattle.pull_eval.specs.declared.machine.Runner.{Runner}
use Rattle.run_part.specs.declared.actors.Tallied.{Tallied}

-- the projector, the buffer, the machine over it, and what was counted
pub record ActorsView (C : Type 0) : Type 0 where
  pub projector : ProjectorView
  pub buffer : View
  pub machine : Runner C
  pub counts : Tallied

-- The lines of a part: the text of those that wait, the place to which its output goes, and theirs, if there is one.
pub record LinesView : Type 0 where
  pub waits : List ℕ
  pub output_at : ℕ
  pub lines_at : Option ℕ

-- A part: its plan, the most tokens of a group, whether lines are wanted, its actors, the output and the text of the lines that wait, and
-- the places to which they go.
pub record PartView (C : Type 0) : Type 0 where
  pub plan : Plan
  pub ahead : ℕ
  pub tracing : Bool
  pub actors : ActorsView C
  pub out : List ℕ
  pub trace : List ℕ
  pub output_at : ℕ
  pub lines_at : Option ℕ
