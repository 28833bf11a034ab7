-- The order of an output and of the trace that tells of it (this project's).
use Rattle.std.specs.Prelude.{◌≡◌, ◌+◌, ◌≤◌, ℕ, List, [], ◌∷◌, ◌++◌, length}
use Rattle.gcx_model.specs.Core.{PlanTree}
use Rattle.gcx_model.specs.Demand.{Closed, Left, Line, Opened, SignedOff, Written, demand, text_of_lines}
use Rattle.gcx_model.specs.Seen.{seen_tree}
use Rattle.gcx_model.specs.Tree.{Tree, TreeToken as Said}
use Rattle.outside.specs.Places.{PlaceView, took, took_at}
use Rattle.run_part.specs.Actors.{StandAt, all_of}
use Rattle.run_part.specs.Flows.{Flows, flows}
use Rattle.run_part.specs.Late.{MayFeedAll}
use Rattle.run_part.specs.Telling.{lines_to}
use Rattle.run_part.specs.View.{LinesView}
use Rattle.run_part.specs.declared.pace.Work.{Work}

-- how many bytes lines tell as written, together
abbrev pub bytes_told : List Line → ℕ
bytes_told [] = 0
bytes_told (Opened n k roles ∷ ls) = bytes_told ls
bytes_told (Closed n ∷ ls) = bytes_told ls
bytes_told (Left n ∷ ls) = bytes_told ls
bytes_told (Written n ∷ ls) = n + bytes_told ls
bytes_told (SignedOff n r ∷ ls) = bytes_told ls

-- What was taken of a trace lies within lines that tell no more bytes than were taken of the output.
pub record Covered (ls : List Line) (output trace : List ℕ) : Type 0 where
  pub front : List Line
  pub rest : List Line
  pub more : List ℕ
  pub split : ls ≡ front ++ rest
  pub cover : text_of_lines front ≡ trace ++ more
  pub told : bytes_told front ≤ length output

-- The trace is never ahead of the output: each prefix of the lines whose text was taken tells no more bytes than were taken.
abbrev pub NeverAhead : (ls : List Line) → (output trace : List ℕ) → Type 0
NeverAhead ls output trace = (front rest : List Line) (more : List ℕ) → ls ≡ front ++ rest → trace ≡ text_of_lines front ++ more → bytes_told front ≤ length output

-- so it is wherever a trace lies within such lines
abbrev pub TraceNeverAhead : Type 0
TraceNeverAhead = (ls : List Line) (output trace : List ℕ) → Covered ls output trace → NeverAhead ls output trace

-- So it is at the places, since they had taken these.
pub record OrderHolds (sinks : ℕ → PlaceView) (l : LinesView) (base0 base1 : List ℕ) (ls : List Line) : Type 0 where
  pub output : List ℕ
  pub trace : List ℕ
  pub taken : took (sinks l.output_at) ≡ base0 ++ output
  pub told : took_at sinks l.lines_at ≡ base1 ++ trace
  pub covered : Covered ls output trace

-- Since then these bytes flowed, and these lines, which tell no more.
pub record FlowedBy {C : Type 0} (z : Flows C) (base0 base1 bytes : List ℕ) (ls : List Line) : Type 0 where
  pub out : z.out ≡ base0 ++ bytes
  pub trace : z.trace ≡ base1 ++ text_of_lines ls
  pub fewer : bytes_told ls ≤ length bytes

-- a call behind which so many more lines flowed keeps the order
abbrev pub KeepsOrder : {N C S W : Type 0} → (seen : S → LinesView) → (sinks : W → ℕ → PlaceView) → (old new : Work N C × S × W) → (more : List Line) → Type 0
KeepsOrder seen sinks old new more = (base0 base1 bytes : List ℕ) (ls : List Line) → FlowedBy (flows seen sinks old) base0 base1 bytes ls
    → OrderHolds (sinks old.2) (seen old.1) base0 base1 ls → OrderHolds (sinks new.2) (seen new.1) base0 base1 (ls ++ more)

-- so do the actions that are left, from each state for which the actors stood
abbrev pub OrdersActs : {N C S W : Type 0} → (C → Tree → Type 0) → (seen : S → LinesView) → (sinks : W → ℕ → PlaceView) → (old new : Work N C × S × W) → Type 0
OrdersActs stands seen sinks old new = (plan : PlanTree) (P : Tree) (k : ℕ) → StandAt stands plan old.0.actors P k
    → KeepsOrder seen sinks old new (lines_to plan P k (all_of plan P))

-- so do lent tokens, with every action that is possible behind them
abbrev pub OrdersLent : {N C S W : Type 0} → (C → Tree → Type 0) → (seen : S → LinesView) → (sinks : W → ℕ → PlaceView) → (old new : Work N C × S × W) → (more : List Said) → Type 0
OrdersLent stands seen sinks old new more = (plan : PlanTree) (ts : List Said) → MayFeedAll stands plan old.0.ahead old.0.actors ts more
    → KeepsOrder seen sinks old new (demand plan more (seen_tree ts))
