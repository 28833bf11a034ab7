-- What a run read and wrote (this project's).
use Rattle.std.specs.Prelude.{◌≡◌, ◌≤◌, ◌⊎◌, ℕ, Bool, true, false, List, [], ◌++◌, length, Option, Some, None, Result, Ok, Err, ⊤}
use Rattle.gcx_io.specs.Views.{SourceView, SinkView}
use Rattle.gcx_io.specs.Writing.{Takes, Owes, joined}
use Rattle.gcx_base.specs.declared.limits.Limits.{Limits}
use Rattle.gcx_model.specs.declared.fault.DocFault.{DocFault}
use Rattle.gcx_model.specs.declared.fault.DocFault.TheVariants.{Memory}
use Rattle.gcx_model.specs.Core.{PlanTree}
use Rattle.gcx_model.specs.PlanView.{plan_tree}
use Rattle.gcx_model.specs.Tree.{Tree, TreeToken as Said}
use Rattle.gcx_model.specs.Demand.{peak_of}
use Rattle.gcx_model.specs.Held.{held, sum_given, sum_taken}
use Rattle.gcx_model.specs.Points.{actions}
use Rattle.gcx_model.specs.Seen.{SeenIs, seen_tree}
use Rattle.run_words.specs.Ends.{EndsRun, RunEnd, Completed, Refused, ReadFailed, WriteFailed, NoMemory, SettlesBefore}
use Rattle.run_words.specs.Reading.{SourceGave, ReadsOn, AreClean}
use Rattle.run_words.specs.Stops.{Stop, More, is_end}
use Rattle.run_words.specs.Writing.{Sinks, Traces}
use Rattle.engine.specs.Engine.{IsSilent, IsTold, IsTrace, Settles, StandsOf, Starts}
use Rattle.run_part.specs.Counts.{Peaks}
use Rattle.engine.specs.View.{EngineView}
use Rattle.engine.specs.declared.report.Report.{Report}
use Rattle.engine.specs.declared.report.Ended.{Ended}
use Rattle.engine.specs.declared.report.Ended.TheVariants as ends

-- the end of a run, in the words that are said of all runs
abbrev pub run_end : Ended → RunEnd
run_end ends.Ok = Completed
run_end (ends.Refused f) = Refused f
run_end ends.ReadFault = ReadFailed
run_end ends.WriteFault = WriteFailed
run_end ends.Memory = NoMemory

abbrev pub sinks : (out err : SinkView) → Sinks
sinks o e = record { out = o; err = e }

-- the report has the numbers of the engine's parts
pub record Reports {C : Type 0} (t : Report) (e : EngineView C) : Type 0 where
  pub bytes : t.taken_bytes ≡ e.bytes
  pub nodes : t.nodes ≡ e.actors.buffer.nodes
  pub peak : t.peak ≡ e.actors.counts.peak
  pub given : t.given ≡ e.actors.counts.given
  pub taken : t.taken ≡ e.actors.buffer.taken
  pub held_is : t.held ≡ length e.actors.buffer.rows

-- The numbers of the tags that are seen in these bytes, with every action taken that is possible: the nodes, those held at most and now, and the roles given and taken back.
pub record Numbers (plan : PlanTree) (lim : Limits) (bytes : List ℕ) (ended : Bool) (ahead : ℕ) (t : Report) : Type 0 where
  pub tokens : List Said
  pub seen : SeenIs lim bytes ended tokens
  pub taken_bytes : t.taken_bytes ≡ length bytes
  pub nodes : t.nodes ≡ length (seen_tree tokens).nodes
  pub peak : Peaks (peak_of plan tokens) ahead t.peak
  pub among : t.peak ≤ t.nodes
  pub given : t.given ≡ sum_given plan (seen_tree tokens)
  pub taken : t.taken ≡ sum_taken plan (seen_tree tokens) (actions plan (seen_tree tokens))
  pub held_is : t.held ≡ length (held plan (seen_tree tokens) (actions plan (seen_tree tokens)))

-- this holds, unless memory ran out
abbrev pub UnlessMemory : Ended → Type 0 → Type 0
UnlessMemory ends.Ok X = X
UnlessMemory (ends.Refused f) X = X
UnlessMemory ends.ReadFault X = X
UnlessMemory ends.WriteFault X = X
UnlessMemory ends.Memory X = Unit {0}

-- What is told of a trace: that nothing goes there, where none is wanted; and else its lines.
pub data Traced : Type 0 where
  Silent : Traced
  ByToken : Traced

-- the engines of which so much is told
abbrev pub TellsBy : {C : Type 0} → Traced → EngineView C → Type 0
TellsBy Silent e = IsSilent e
TellsBy ByToken e = IsTold e

-- a trace may be written
abbrev pub is_traced : Traced → Bool
is_traced Silent = false
is_traced ByToken = true

-- A run: what the source gave, what was written of it and of its trace, and what the engine stands for behind it. No read came
-- behind a fault of the bytes.
pub record Ran {C : Type 0} (stands : C → Tree → Type 0) (lim : Limits) (t : Traced) (e : EngineView C) (ended_by : Ended) (left now : SourceView) (before after : Sinks) : Type 0 where
  pub pieces : List (List ℕ)
  pub stop : Stop
  pub gave : SourceGave left now pieces stop
  pub reads_on : ReadsOn lim pieces stop
  pub bytes : e.bytes ≡ length (joined pieces)
  pub ends : EndsRun (Settles (plan_tree e.plan) lim) (IsTrace (plan_tree e.plan) lim) lim (is_traced t) (run_end ended_by) pieces stop before after
  pub stand : UnlessMemory ended_by (StandsOf stands lim e (joined pieces) (is_end stop))

-- what a run from an engine at its start makes, of each limits and of what is told of a trace
abbrev pub RanFrom : {C : Type 0} → (C → Tree → Type 0) → (old new : EngineView C) → Ended → (left now : SourceView) → (before after : Sinks) → Type 0
RanFrom stands old new end left now before after = (lim : Limits) (t : Traced) → Starts stands lim old → TellsBy t old
    → Ran stands lim t new end left now before after

-- It is an engine of the same plan, of groups as long, over the same loans.
pub record SamePlan {C : Type 0} (old new : EngineView C) : Type 0 where
  pub plan : new.plan ≡ old.plan
  pub ahead : new.ahead ≡ old.ahead
  pub loans : new.actors.buffer.loans ≡ old.actors.buffer.loans

-- What a run leaves of its three ports: what else the source keeps, and that faults were counted on, of the source, the sink
-- and the trace's sink.
pub record KeepsPorts (keeps : Type 0) (read read_now write write_now trace trace_now : ℕ) : Type 0 where
  pub kept : keeps
  pub read_count : read ≤ read_now
  pub write_count : write ≤ write_now
  pub trace_count : trace ≤ trace_now

-- The rest is said of private functions.

-- What waited was written, the output and then the trace.
pub record WroteWaiting (out trace : List ℕ) (a b : Sinks) : Type 0 where
  pub took : Takes a.out b.out out
  pub told : Takes a.err b.err trace

-- A write failed on the way.
abbrev pub StopsInWaiting : (out trace : List ℕ) → (a b : Sinks) → Type 0
StopsInWaiting out trace a b = (Owes a.out b.out [] out × (b.err ≡ a.err)) ⊎ (Takes a.out b.out out × Owes a.err b.err [] trace)

-- how an answer of the engine ends a run
abbrev pub ended_by : Result ⊤ DocFault → Ended
ended_by (Ok u) = ends.Ok
ended_by (Err Memory) = ends.Memory
ended_by (Err f) = ends.Refused f

-- An end behind an answer: where memory ran out nothing is written; else what waits, or less of it.
abbrev pub EndsWaiting : Result ⊤ DocFault → Ended → (out trace : List ℕ) → (a b : Sinks) → Type 0
EndsWaiting r end out trace a b = ((ended_by r ≡ ends.Memory) × (end ≡ ends.Memory) × (b ≡ a))
    ⊎ (((ended_by r ≡ ends.Memory → ⊥) × (end ≡ ended_by r) × WroteWaiting out trace a b)
    ⊎ ((ended_by r ≡ ends.Memory → ⊥) × (end ≡ ends.WriteFault) × StopsInWaiting out trace a b))

-- Between two reads an engine stands for some bytes, and nothing is refused.
pub record GoesOnFrom {C : Type 0} (stands : C → Tree → Type 0) (lim : Limits) (e : EngineView C) : Type 0 where
  pub read : List ℕ
  pub of : StandsOf stands lim e read false
  pub fresh : e.refused ≡ None

-- What is told of the trace between two reads, and what it has beyond. Where no trace is wanted nothing is told.
pub record TraceBetween (plan : PlanTree) (lim : Limits) (t : Traced) (pieces : List (List ℕ)) (waits : List ℕ) (a b : SinkView) : Type 0 where
  pub told : List ℕ
  pub rest : List ℕ
  pub took : Traces (is_traced t) a b told
  pub traced : IsTrace plan lim (joined pieces) false (told ++ rest)
  pub before : SettlesBefore (IsTrace plan lim) pieces More told
  pub waits_is : is_traced t ≡ true → rest ≡ waits

-- Between two reads: what is settled by the bytes read is written or waits, and what those before the last read settle is written.
pub record Between {C : Type 0} (stands : C → Tree → Type 0) (lim : Limits) (t : Traced) (e : EngineView C) (left now : SourceView) (a b : Sinks) : Type 0 where
  pub pieces : List (List ℕ)
  pub of : StandsOf stands lim e (joined pieces) false
  pub fresh : e.refused ≡ None
  pub tells : TellsBy t e
  pub gave : SourceGave left now pieces More
  pub clean : AreClean lim pieces
  pub written : List ℕ
  pub took : Takes a.out b.out written
  pub settled : Settles (plan_tree e.plan) lim (joined pieces) false (written ++ e.out)
  pub before : SettlesBefore (Settles (plan_tree e.plan) lim) pieces More written
  pub trace : TraceBetween (plan_tree e.plan) lim t pieces e.trace a.err b.err

-- but for want of memory, which ends a run
abbrev pub UnlessLost : Option Ended → Type 0 → Type 0
UnlessLost None X = X
UnlessLost (Some ended_by) X = UnlessMemory ended_by X

-- what a turn makes: it ends the run, or goes on
abbrev pub TurnsTo : {C : Type 0} → (C → Tree → Type 0) → Limits → Traced → EngineView C → Option Ended → (left now : SourceView) → (a b : Sinks) → Type 0
TurnsTo stands lim t e None left now a b = Between stands lim t e left now a b
TurnsTo stands lim t e (Some ended_by) left now a b = Ran stands lim t e ended_by left now a b

-- what a turn makes of each engine between two reads
abbrev pub TurnsFrom : {C : Type 0} → (C → Tree → Type 0) → (old new : EngineView C) → Option Ended → (read now : SourceView) → (a b : Sinks) → Type 0
TurnsFrom stands old new r read now a b = (lim : Limits) (t : Traced) (left : SourceView) (before : Sinks)
    → Between stands lim t old left read before a → TurnsTo stands lim t new r left now before b
