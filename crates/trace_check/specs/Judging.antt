-- What is answered of a trace by the calls of its source (this project's).
use Rattle.std.specs.Prelude.{◌≡◌, ◌≤◌, ◌<◌, ◌≢◌, ℕ, List, [], ◌∷◌, ◌++◌, length, take, get_or, All}
use Rattle.gcx_io.specs.Views.{SourceView}
use Rattle.gcx_io.specs.Writing.{joined}
use Rattle.gcx_model.specs.Core.{PlanTree}
use Rattle.gcx_model.specs.Demand.{text_of_lines, trace_lines}
use Rattle.gcx_model.specs.Tree.{TreeToken}
use Rattle.run_words.specs.Reading.{IsShort, SourceGave}
use Rattle.run_words.specs.Stops.{Stop, More, EndAnswered, FaultAnswered, IsCalm, is_end}
use Rattle.time_laws.specs.Checking.{Answer, Yes, No, ReadFault, Memory, IsFront, Judges}
use Rattle.trace_check.specs.declared.checked.Checked.{Checked}
use Rattle.trace_check.specs.declared.checked.Checked.TheVariants as checked

-- the answer of a call
abbrev pub answer_in : Checked → Answer
answer_in (checked.Yes lines) = Yes lines
answer_in (checked.No line) = No line
answer_in checked.ReadFault = ReadFault
answer_in checked.Memory = Memory

-- How the reading stopped: at the end, at a byte that differs or at the end, at a read that failed; where memory is wanted
-- nothing was read.
abbrev pub StopsBy : Checked → List (List ℕ) → Stop → Type 0
StopsBy (checked.Yes lines) pieces stop = stop ≡ EndAnswered
StopsBy (checked.No line) pieces stop = IsCalm stop
StopsBy checked.ReadFault pieces stop = stop ≡ FaultAnswered
StopsBy checked.Memory pieces stop = (pieces ≡ []) × (stop ≡ More)

-- The source gave these pieces in this call, none longer than a read asks for, and the answer is right of them. No read came behind the end, behind one that
-- failed or behind the first byte that differs from the text.
pub record JudgesSource (text : List ℕ) (result : Checked) (a b : SourceView) : Type 0 where
  pub pieces : List (List ℕ)
  pub stop : Stop
  pub gave : SourceGave a b pieces stop
  pub short : All IsShort pieces
  pub earlier : (before : List (List ℕ)) (last : List ℕ) → pieces ≡ before ++ last ∷ [] → IsFront (joined before) text
  pub stops : StopsBy result pieces stop
  pub judged : Judges text (answer_in result) (joined pieces) (is_end stop)

-- the text of the trace of the plan's run over the tokens
abbrev pub trace_of : PlanTree → List TreeToken → List ℕ
trace_of plan ts = text_of_lines (trace_lines plan ts)

-- So many bytes stand at the front of both, and no more.
pub record IsInCommon (left right : List ℕ) (n : ℕ) : Type 0 where
  pub within_left : n ≤ length left
  pub within_right : n ≤ length right
  pub same : take n left ≡ take n right
  pub apart : n < length left → n < length right → get_or left n 0 ≢ get_or right n 0
