-- The end of a run in other words for the same texts.
use Rattle.std.proofs.Common.{ℕ, Bool, List, Some, None}
use Rattle.gcx_base.specs.declared.limits.Limits.{Limits}
use Rattle.run_words.specs.Ends.{RunEnd, Completed, Refused, ReadFailed, WriteFailed, NoMemory, SettlesBefore, Unread, LastPiece, AtEnd, WritesAll, ReachedStop, StopsWriting, Lags, EndsRun}
use Rattle.run_words.specs.Stops.{Stop}
use Rattle.run_words.specs.Writing.{Sinks}

before_map : (S R : List ℕ → Bool → List ℕ → Type 0) → ((b : List ℕ) (ended : Bool) (x : List ℕ) → S b ended x → R b ended x)
    → (ps : List (List ℕ)) (stop : Stop) (x : List ℕ) → SettlesBefore S ps stop x → SettlesBefore R ps stop x
before_map S R on ps stop x (Unread none more empty) = Unread none more empty
before_map S R on ps stop x (LastPiece before last split more is) = LastPiece before last split more (on _ _ x is)
before_map S R on ps stop x (AtEnd over is) = AtEnd over (on _ _ x is)

module _ (W T V U : List ℕ → Bool → List ℕ → Type 0) (output : (b : List ℕ) (ended : Bool) (x : List ℕ) → W b ended x → V b ended x)
    (traced : (b : List ℕ) (ended : Bool) (x : List ℕ) → T b ended x → U b ended x) where
  writes_map : (tracing : Bool) (bytes : List ℕ) (ended : Bool) (a b : Sinks) → WritesAll W T tracing bytes ended a b → WritesAll V U tracing bytes ended a b
  writes_map tracing bytes ended a b w = record {
    settled = w.settled;
    is = output bytes ended w.settled w.is;
    wrote = w.wrote;
    trace = w.trace;
    traced = traced bytes ended w.trace w.traced;
    told = w.told;
  }

  reached_map : (ps : List (List ℕ)) (stop : Stop) (wrote w told t : List ℕ) → ReachedStop W T ps stop wrote w told t → ReachedStop V U ps stop wrote w told t
  reached_map ps stop wrote w told t r = record {
    settled = output _ _ w r.settled;
    before = before_map W V output ps stop wrote r.before;
    traced = traced _ _ t r.traced;
    traced_before = before_map T U traced ps stop told r.traced_before;
  }

  stops_map : (tracing : Bool) (ps : List (List ℕ)) (stop : Stop) (a b : Sinks) → StopsWriting W T tracing ps stop a b → StopsWriting V U tracing ps stop a b
  stops_map tracing ps stop a b s = record {
    wrote = s.wrote;
    w = s.w;
    told = s.told;
    t = s.t;
    reached = reached_map ps stop s.wrote s.w s.told s.t s.reached;
    stops = s.stops;
  }

  lags_map : (tracing : Bool) (ps : List (List ℕ)) (stop : Stop) (a b : Sinks) → Lags W T tracing ps stop a b → Lags V U tracing ps stop a b
  lags_map tracing ps stop a b l = record {
    wrote = l.wrote;
    w = l.w;
    told = l.told;
    t = l.t;
    reached = reached_map ps stop l.wrote l.w l.told l.t l.reached;
    front = l.front;
    trace_front = l.trace_front;
  }

  pub ends_map : (lim : Limits) (tracing : Bool) (end : RunEnd) (ps : List (List ℕ)) (stop : Stop) (a b : Sinks) → EndsRun W T lim tracing end ps stop a b
      → EndsRun V U lim tracing end ps stop a b
  ends_map lim tracing Completed ps stop a b (at_end, clean, w) = (at_end, clean, writes_map tracing _ _ a b w)
  ends_map lim tracing (Refused f) ps stop a b (calm, fault, w) = (calm, fault, writes_map tracing _ _ a b w)
  ends_map lim tracing ReadFailed ps stop a b (cut, clean, w) = (cut, clean, writes_map tracing _ _ a b w)
  ends_map lim tracing WriteFailed ps stop a b (calm, s) = (calm, stops_map tracing ps stop a b s)
  ends_map lim tracing NoMemory ps stop a b (calm, l) = (calm, lags_map tracing ps stop a b l)
