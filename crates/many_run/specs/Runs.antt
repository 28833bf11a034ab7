-- What a run of several plans reads and writes (this project's).
use Rattle.std.specs.Prelude.{◌≡◌, ◌≢◌, ◌⊎◌, ◌<◌, ◌≤◌, ℕ, Bool, false, true, List, [], ◌++◌, length, slice_get, Option, Some, None, Result, ⊤}
use Rattle.gcx_base.specs.declared.limits.Limits.{Limits}
use Rattle.gcx_io.specs.Causes.{Rose}
use Rattle.gcx_io.specs.Shelf.{IsTelling}
use Rattle.gcx_io.specs.Views.{HandleView, ShelfView, SinkView, calls_at}
use Rattle.gcx_io.specs.Writing.{Owes, Takes, joined}
use Rattle.gcx_io.specs.declared.shelf.Handle.{Handle}
use Rattle.gcx_model.specs.Faults.{FaultIs}
use Rattle.gcx_model.specs.Tree.{Tree}
use Rattle.gcx_model.specs.PlanView.{plan_tree}
use Rattle.gcx_model.specs.declared.fault.DocFault.{DocFault}
use Rattle.gcx_model.specs.declared.plan.Plan.{Plan}
use Rattle.run_words.specs.Ends.{EndsRun, NoMemory, ReadFailed, Refused, RunEnd, SettlesBefore, Completed, WriteFailed}
use Rattle.run_words.specs.Reading.{AreClean, ReadsOn}
use Rattle.run_words.specs.Stops.{Stop, EndAnswered, FaultAnswered, More, IsCalm, is_end}
use Rattle.run_words.specs.Writing.{Sinks}
use Rattle.engine.specs.Engine.{IsTrace, Settles}
use Rattle.engine.specs.Runs.{UnlessMemory, ended_by, run_end}
use Rattle.engine.specs.declared.report.Ended.{Ended}
use Rattle.engine.specs.declared.report.Ended.TheVariants as ends
use Rattle.many_run.specs.Each.{AtEach}
use Rattle.many_run.specs.Files.{HandlesApart, HandleGave, LeavesTheRest, NamesStay, name_of_handle, sink_at}
use Rattle.many_run.specs.Many.{ManyStand, plans_of}
use Rattle.many_run.specs.View.{ManyView}
use Rattle.run_part.specs.View.{PartView}

-- an output beside a trace to which nothing goes
abbrev pub alone : SinkView → Sinks
alone out = record { out = out; err = record { calls = []; taken = None; faults = 0 } }

-- A write of the output of number `at` failed. Those before it took all that was settled, it owes some of it, and those behind it
-- took what was settled by all that was read but the last thing.
pub record StopsInOrder (W : List ℕ → Bool → List ℕ → Type 0) (pieces : List (List ℕ)) (stop : Stop) (at i : ℕ) (a b : SinkView) : Type 0 where
  pub wrote : List ℕ
  pub w : List ℕ
  pub calm : IsCalm stop
  pub settled : W (joined pieces) (is_end stop) w
  pub before : SettlesBefore W pieces stop wrote
  pub earlier : i < at → Takes a b w
  pub here : i ≡ at → Owes a b wrote w
  pub later : at < i → Takes a b wrote

-- What the end of a run says of the output of number i: as of a run of its plan by itself. `W`, `T` as in `EndsRun`.
abbrev pub EndsOne : (W T : List ℕ → Bool → List ℕ → Type 0) → Limits → RunEnd → List (List ℕ) → Stop → (at i : ℕ) → (a b : SinkView) → Type 0
EndsOne W T lim Completed pieces stop at i a b = EndsRun W T lim false Completed pieces stop (alone a) (alone b)
EndsOne W T lim (Refused f) pieces stop at i a b = EndsRun W T lim false (Refused f) pieces stop (alone a) (alone b)
EndsOne W T lim ReadFailed pieces stop at i a b = EndsRun W T lim false ReadFailed pieces stop (alone a) (alone b)
EndsOne W T lim WriteFailed pieces stop at i a b = StopsInOrder W pieces stop at i a b
EndsOne W T lim NoMemory pieces stop at i a b = EndsRun W T lim false NoMemory pieces stop (alone a) (alone b)

-- a write failed, of the output of this number, or none did
abbrev pub CountsWriteFault : RunEnd → (at outs before after : ℕ) → Type 0
CountsWriteFault Completed at outs before after = after ≡ before
CountsWriteFault (Refused f) at outs before after = after ≡ before
CountsWriteFault ReadFailed at outs before after = after ≡ before
CountsWriteFault WriteFailed at outs before after = (at < outs) × Rose before after
CountsWriteFault NoMemory at outs before after = after ≡ before

-- what the end of a run says of the bytes, and of how the reading stopped
abbrev pub EndsReading : Limits → RunEnd → List (List ℕ) → Stop → Type 0
EndsReading lim Completed pieces stop = (stop ≡ EndAnswered) × FaultIs lim (joined pieces) true None
EndsReading lim (Refused f) pieces stop = IsCalm stop × FaultIs lim (joined pieces) (is_end stop) (Some f)
EndsReading lim ReadFailed pieces stop = (stop ≡ FaultAnswered) × FaultIs lim (joined pieces) false None
EndsReading lim WriteFailed pieces stop = IsCalm stop
EndsReading lim NoMemory pieces stop = IsCalm stop

-- A run from one file into others: what was read of it, and what each of the others took. `Ends` says that of the one of number i.
-- No read came behind a fault of the bytes.
pub record RunsInto (Ends : List (List ℕ) → Stop → (at i : ℕ) → (a b : SinkView) → Type 0) (lim : Limits) (end : RunEnd) (doc : Handle) (outs : List Handle) (a b : ShelfView) : Type 0 where
  pub pieces : List (List ℕ)
  pub stop : Stop
  pub at : ℕ
  pub gave : HandleGave doc.0 a b pieces stop
  pub reads_on : ReadsOn lim pieces stop
  pub stops : EndsReading lim end pieces stop
  pub each : (i : ℕ) (o : Handle) → slice_get outs i ≡ Some o → Ends pieces stop at i (sink_at o.0 a) (sink_at o.0 b)
  pub write_faults : CountsWriteFault end at (length outs) a.write_faults b.write_faults
  pub others : LeavesTheRest (λ k. k ≡ doc.0) outs a b

-- what the end of a run says of the output of each plan
abbrev pub EachPlanEnds : List Plan → Limits → RunEnd → List (List ℕ) → Stop → (at i : ℕ) → (a b : SinkView) → Type 0
EachPlanEnds plans lim end pieces stop at i a b = (plan : Plan) → slice_get plans i ≡ Some plan
    → EndsOne (Settles (plan_tree plan) lim) (IsTrace (plan_tree plan) lim) lim end pieces stop at i a b

-- A run of several plans, each into its file.
pub record RanMany (plans : List Plan) (lim : Limits) (by : Ended) (taken : ℕ) (doc : Handle) (outs : List Handle) (a b : ShelfView) : Type 0 where
  pub run : RunsInto (EachPlanEnds plans lim (run_end by)) lim (run_end by) doc outs a b
  pub bytes : UnlessMemory by (taken ≡ length (joined run.pieces))

-- The rest is said of private functions.

-- Only this handle was written to.
pub record WritesOnly (h : ℕ) (a b : ShelfView) : Type 0 where
  pub count : length b.given ≡ length a.given
  pub refused : b.refused ≡ a.refused
  pub faults : b.faults ≡ a.faults
  pub names : NamesStay (λ name. name_of_handle a.given h ≢ Some name) a.names b.names
  pub names_of : (k : ℕ) → name_of_handle b.given k ≡ name_of_handle a.given k
  pub calls : (k : ℕ) → k ≢ h → calls_at b.given k ≡ calls_at a.given k
  pub left : IsTelling b.names → (k : ℕ) (v w : HandleView) → slice_get a.given k ≡ Some v → slice_get b.given k ≡ Some w
      → name_of_handle a.given h ≢ Some v.name → w.left ≡ v.left
  pub write_faults : a.write_faults ≤ b.write_faults

-- Of the parts only what waits to be written changed.
pub record OnlyWritten {C : Type 0} (old new : ManyView C) : Type 0 where
  pub rest : new ≡ record old { parts = new.parts }
  pub each : AtEach {X = PartView C} {Y = PartView C} (λ p q. q ≡ record p { out = q.out }) old.parts new.parts

-- what is said of the output of each part and of its file
abbrev pub OfOutputs : {C : Type 0} → ManyView C → List Handle → (a b : ShelfView) → (ℕ → List ℕ → (a b : SinkView) → Type 0) → Type 0
OfOutputs {C} m outs a b holds = (i : ℕ) (p : PartView C) (o : Handle) → slice_get m.parts i ≡ Some p → slice_get outs i ≡ Some o
    → holds i p.out (sink_at o.0 a) (sink_at o.0 b)

-- What waited was written, each output to its file.
pub record WroteEach {C : Type 0} (m : ManyView C) (outs : List Handle) (a b : ShelfView) : Type 0 where
  pub each : OfOutputs m outs a b (λ i out x y. Takes x y out)
  pub write_faults : b.write_faults ≡ a.write_faults

-- a write of one failed: those before it were written, and nothing went to those behind it
abbrev pub WroteBy : (at i : ℕ) → (out : List ℕ) → (a b : SinkView) → Type 0
WroteBy at i out a b = (i < at → Takes a b out) × (i ≡ at → Owes a b [] out) × (at < i → Takes a b [])

pub record StopsInEach {C : Type 0} (m : ManyView C) (outs : List Handle) (a b : ShelfView) : Type 0 where
  pub at : ℕ
  pub there : at < length outs
  pub each : OfOutputs m outs a b (WroteBy at)
  pub write_faults : Rose a.write_faults b.write_faults

-- An end behind an answer: where memory ran out nothing is written; else what waits, or less of it.
abbrev pub EndsEach : {C : Type 0} → Result ⊤ DocFault → Ended → ManyView C → List Handle → (a b : ShelfView) → Type 0
EndsEach r end m outs a b = ((ended_by r ≡ ends.Memory) × (end ≡ ends.Memory) × (b ≡ a))
    ⊎ (((ended_by r ≡ ends.Memory → ⊥) × (end ≡ ended_by r) × WroteEach m outs a b)
    ⊎ ((ended_by r ≡ ends.Memory → ⊥) × (end ≡ ends.WriteFault) × StopsInEach m outs a b))

-- what is settled for one plan by the bytes read is written or waits, and what those before the last read settle is written
pub record OneBetween {C : Type 0} (lim : Limits) (pieces : List (List ℕ)) (p : PartView C) (a b : SinkView) : Type 0 where
  pub written : List ℕ
  pub took : Takes a b written
  pub settled : Settles (plan_tree p.plan) lim (joined pieces) false (written ++ p.out)
  pub before : SettlesBefore (Settles (plan_tree p.plan) lim) pieces More written

-- Between two reads.
pub record ManyBetween {C : Type 0} (stands : C → Tree → Type 0) (lim : Limits) (m : ManyView C) (doc : Handle) (outs : List Handle) (a b : ShelfView) : Type 0 where
  pub pieces : List (List ℕ)
  pub of : ManyStand stands lim m (joined pieces) false
  pub fresh : m.refused ≡ None
  pub gave : HandleGave doc.0 a b pieces More
  pub clean : AreClean lim pieces
  pub each : (i : ℕ) (p : PartView C) (o : Handle) → slice_get m.parts i ≡ Some p → slice_get outs i ≡ Some o
      → OneBetween lim pieces p (sink_at o.0 a) (sink_at o.0 b)
  pub write_faults : b.write_faults ≡ a.write_faults
  pub others : LeavesTheRest (λ k. k ≡ doc.0) outs a b

-- There are as many files as plans, and they are apart.
pub record MayWrite {C : Type 0} (m : ManyView C) (s : ShelfView) (doc : Handle) (outs : List Handle) : Type 0 where
  pub count : length outs ≡ length m.parts
  pub apart : HandlesApart s doc outs

-- between two reads the plans stand for some bytes, and nothing is refused
pub record ManyGoOnFrom {C : Type 0} (stands : C → Tree → Type 0) (lim : Limits) (m : ManyView C) : Type 0 where
  pub read : List ℕ
  pub of : ManyStand stands lim m read false
  pub fresh : m.refused ≡ None

-- what a turn makes: it ends the run, or goes on
abbrev pub ManyTurnTo : {C : Type 0} → (C → Tree → Type 0) → Limits → ManyView C → Option Ended → Handle → List Handle → (a b : ShelfView) → Type 0
ManyTurnTo stands lim m None doc outs a b = ManyBetween stands lim m doc outs a b
ManyTurnTo stands lim m (Some by) doc outs a b = RanMany (plans_of m) lim by m.bytes doc outs a b

-- what a turn makes of the plans between two reads
abbrev pub ManyTurnsFrom : {C : Type 0} → (C → Tree → Type 0) → (old new : ManyView C) → Option Ended → Handle → List Handle → (a b : ShelfView) → Type 0
ManyTurnsFrom stands old new r doc outs a b = (lim : Limits) (begun : ShelfView)
    → ManyTurnTo stands lim old None doc outs begun a → ManyTurnTo stands lim new r doc outs begun b
