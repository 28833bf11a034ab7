-- How a run ends, and what it wrote by then. `W` says what the bytes that were read settle, with the end where it was answered,
-- and `T` what their trace is (this project's).
use Rattle.std.specs.Prelude.{◌≡◌, ℕ, Bool, true, false, List, [], ◌∷◌, ◌++◌, Some, None}
use Rattle.gcx_base.specs.declared.limits.Limits.{Limits}
use Rattle.gcx_io.specs.Writing.{Takes, joined}
use Rattle.gcx_model.specs.Faults.{FaultIs}
use Rattle.gcx_model.specs.declared.fault.DocFault.{DocFault}
use Rattle.run_words.specs.Stops.{Stop, More, EndAnswered, FaultAnswered, IsCalm, is_end}
use Rattle.run_words.specs.Writing.{Sinks, TakesFront, Traces, TracesFront, StopsAtWrite}

pub data RunEnd : Type 0 where
  Completed : RunEnd
  Refused : DocFault → RunEnd
  ReadFailed : RunEnd
  WriteFailed : RunEnd
  NoMemory : RunEnd

-- What is settled by all that was read but the last thing, which is the end where it was answered, and else the last piece.
-- Where nothing was read it is nothing.
pub data SettlesBefore (S : List ℕ → Bool → List ℕ → Type 0) (pieces : List (List ℕ)) (stop : Stop) (text : List ℕ) : Type 0 where
  Unread : pieces ≡ [] → stop ≡ More → text ≡ [] → SettlesBefore S pieces stop text
  LastPiece : (before : List (List ℕ)) (last : List ℕ) → pieces ≡ before ++ last ∷ [] → stop ≡ More → S (joined before) false text
      → SettlesBefore S pieces stop text
  AtEnd : stop ≡ EndAnswered → S (joined pieces) false text → SettlesBefore S pieces stop text

-- Exactly what the bytes settle was written, and then exactly their trace, where one is asked for.
pub record WritesAll (W T : List ℕ → Bool → List ℕ → Type 0) (tracing : Bool) (bytes : List ℕ) (ended : Bool) (a b : Sinks) : Type 0 where
  pub settled : List ℕ
  pub is : W bytes ended settled
  pub wrote : Takes a.out b.out settled
  pub trace : List ℕ
  pub traced : T bytes ended trace
  pub told : Traces tracing a.err b.err trace

-- What all that was read settles, and what all but the last thing does; the same of the trace.
pub record ReachedStop (W T : List ℕ → Bool → List ℕ → Type 0) (pieces : List (List ℕ)) (stop : Stop) (wrote w told t : List ℕ) : Type 0 where
  pub settled : W (joined pieces) (is_end stop) w
  pub before : SettlesBefore W pieces stop wrote
  pub traced : T (joined pieces) (is_end stop) t
  pub traced_before : SettlesBefore T pieces stop told

-- A write failed. The output, and the trace behind it, lag by one read at most.
pub record StopsWriting (W T : List ℕ → Bool → List ℕ → Type 0) (tracing : Bool) (pieces : List (List ℕ)) (stop : Stop) (a b : Sinks) : Type 0 where
  pub wrote : List ℕ
  pub w : List ℕ
  pub told : List ℕ
  pub t : List ℕ
  pub reached : ReachedStop W T pieces stop wrote w told t
  pub stops : StopsAtWrite tracing wrote w told t a b

-- No call failed. The output and the trace lag by one read at most.
pub record Lags (W T : List ℕ → Bool → List ℕ → Type 0) (tracing : Bool) (pieces : List (List ℕ)) (stop : Stop) (a b : Sinks) : Type 0 where
  pub wrote : List ℕ
  pub w : List ℕ
  pub told : List ℕ
  pub t : List ℕ
  pub reached : ReachedStop W T pieces stop wrote w told t
  pub front : TakesFront a.out b.out wrote w
  pub trace_front : TracesFront tracing a.err b.err told t

-- What each end of a run says of the pieces that were read, of how the reading stopped, and of what was written.
abbrev pub EndsRun : (W T : List ℕ → Bool → List ℕ → Type 0) → Limits → Bool → RunEnd → List (List ℕ) → Stop → (a b : Sinks) → Type 0
EndsRun W T lim tracing Completed pieces stop a b = (stop ≡ EndAnswered) × FaultIs lim (joined pieces) true None × WritesAll W T tracing (joined pieces) true a b
EndsRun W T lim tracing (Refused f) pieces stop a b =
    IsCalm stop × FaultIs lim (joined pieces) (is_end stop) (Some f) × WritesAll W T tracing (joined pieces) (is_end stop) a b
EndsRun W T lim tracing ReadFailed pieces stop a b =
    (stop ≡ FaultAnswered) × FaultIs lim (joined pieces) false None × WritesAll W T tracing (joined pieces) false a b
EndsRun W T lim tracing WriteFailed pieces stop a b = IsCalm stop × StopsWriting W T tracing pieces stop a b
EndsRun W T lim tracing NoMemory pieces stop a b = IsCalm stop × Lags W T tracing pieces stop a b
