-- What is at a place to which outputs go, and what calls that write do there (this project's).
use Rattle.std.specs.Prelude.{◌≡◌, ◌≢◌, ◌≤◌, ℕ, List, [], ◌∷◌, ◌++◌, map, All, Option, Some, None}
use Rattle.gcx_model.specs.Tree.{TreeToken as Said}
use Rattle.gcx_io.specs.Bytes.{Grows}
use Rattle.gcx_io.specs.Causes.{Rose}
use Rattle.gcx_io.specs.Views.{Call, Gave, Took, Denied, Failed, SinkView, SourceView}
use Rattle.gcx_io.specs.Writing.{IsSomeBytes, Takes, joined}
use Rattle.outside.specs.Outputs.{OutputText, TakesAll, TakesSome}

-- ---- a place

-- the sink there, and what was dropped since a write failed
pub record PlaceView : Type 0 where
  pub sink : SinkView
  pub dropped : List ℕ

-- the bytes that calls took
abbrev pub bytes_taken : List Call → List ℕ
bytes_taken [] = []
bytes_taken (Gave asked bytes ∷ calls) = bytes_taken calls
bytes_taken (Took bytes ∷ calls) = bytes ++ bytes_taken calls
bytes_taken (Denied bytes ∷ calls) = bytes_taken calls
bytes_taken (Failed ∷ calls) = bytes_taken calls

-- what was taken at a place
abbrev pub took : PlaceView → List ℕ
took v = bytes_taken v.sink.calls

-- what went to a place: what was taken there, and then what was dropped
abbrev pub went_to : PlaceView → List ℕ
went_to v = took v ++ v.dropped

-- the same where there is a place
abbrev pub took_at : (ℕ → PlaceView) → Option ℕ → List ℕ
took_at sinks None = []
took_at sinks (Some p) = took (sinks p)

abbrev pub went_at : (ℕ → PlaceView) → Option ℕ → List ℕ
went_at sinks None = []
went_at sinks (Some p) = went_to (sinks p)

-- ---- calls that write

-- All of the text was taken, in pieces of which none is empty, and the last call failed. It was offered the next bytes.
pub record StopsBefore (a b : SinkView) (text next : List ℕ) : Type 0 where
  pub pieces : List (List ℕ)
  pub some : All IsSomeBytes pieces
  pub calls : b.calls ≡ a.calls ++ map Took pieces ++ Denied next ∷ []
  pub whole : joined pieces ≡ text
  pub offered : IsSomeBytes next
  pub told : Grows a.taken b.taken text
  pub faults : Rose a.faults b.faults
  pub later : a.faults ≤ b.faults

-- the second is the first with more at its end
pub record Longer (old new : List ℕ) : Type 0 where
  pub more : List ℕ
  pub is : new ≡ old ++ more

-- At this place no write failed: more was taken. Where one had failed elsewhere, more may have been dropped.
pub record TookMore (a b : PlaceView) : Type 0 where
  pub text : List ℕ
  pub takes : Takes a.sink b.sink text
  pub dropped : Longer a.dropped b.dropped

-- At this place a write failed: more was taken before it, and what comes next was dropped.
pub record FailedAt (a b : PlaceView) : Type 0 where
  pub text : List ℕ
  pub next : List ℕ
  pub rest : List ℕ
  pub stops : StopsBefore a.sink b.sink text next
  pub dropped : b.dropped ≡ a.dropped ++ (next ++ rest)

-- Behind a failed write nothing is written at this place.
pub record OnlyDrops (a b : PlaceView) : Type 0 where
  pub sink : b.sink ≡ a.sink
  pub dropped : Longer a.dropped b.dropped

-- A write had failed at p. It stays so, and nothing is written anywhere.
pub record StaysBroken (p : ℕ) (now : Option ℕ) (a b : ℕ → PlaceView) : Type 0 where
  pub is : now ≡ Some p
  pub each : (i : ℕ) → OnlyDrops (a i) (b i)

-- a write fails at p
pub record BreaksAt (p : ℕ) (a b : ℕ → PlaceView) : Type 0 where
  pub here : FailedAt (a p) (b p)
  pub others : (i : ℕ) → i ≢ p → TookMore (a i) (b i)

-- What calls that write do to all places; `was` and `now` are the place at which a write failed. Nothing is written behind that.
abbrev pub WroteOn : (was now : Option ℕ) → (a b : ℕ → PlaceView) → Type 0
WroteOn (Some p) now a b = StaysBroken p now a b
WroteOn None None a b = (i : ℕ) → TookMore (a i) (b i)
WroteOn None (Some p) a b = BreaksAt p a b

-- One call that was handed what waits for a place, and left less of it: nothing is lost, and the other places are as they were.
pub record Spilled (place : ℕ) (a b : ℕ → PlaceView) (old new : List ℕ) : Type 0 where
  pub flows : went_to (b place) ++ new ≡ went_to (a place) ++ old
  pub others : (k : ℕ) → k ≢ place → b k ≡ a k

-- only these places were written to
abbrev pub Elsewhere : (places : ℕ → Option ℕ) → (a b : ℕ → PlaceView) → Type 0
Elsewhere places a b = (k : ℕ) → ((i : ℕ) → places i ≡ Some k → ⊥) → b k ≡ a k

-- ---- how much waits

-- so many bytes may wait: no more than that, or any number
abbrev pub Few : (most : Option ℕ) → ℕ → Type 0
Few None n = Unit {0}
Few (Some m) n = n ≤ m

-- ---- the source

-- Calls that write leave the source as it was. What it has left is known while it tells.
pub record SourceStays (tells : Type 0) (a b : SourceView) : Type 0 where
  pub calls : b.calls ≡ a.calls
  pub left : tells → b.left ≡ a.left
  pub faults : b.faults ≡ a.faults

-- ---- a taker of tokens, with what is outside

-- the flow of an output: what went to its place, and then what waits
abbrev pub flow : {A W : Type 0} → (places : A → ℕ → Option ℕ) → (outs : A → ℕ → List ℕ) → (sinks : W → ℕ → PlaceView) → A × W → ℕ → List ℕ
flow places outs sinks p i = went_at (sinks p.1) (places p.0 i) ++ outs p.0 i

-- what is said of the taker, said of both
abbrev pub of_stands : {A W : Type 0} → (A → List Said → Type 0) → A × W → List Said → Type 0
of_stands stands p = stands p.0

abbrev pub of_texts : {A W : Type 0} → (A → ℕ → OutputText) → A × W → ℕ → OutputText
of_texts texts p = texts p.0

abbrev pub of_peak : {A W : Type 0} → (A → A → Type 0) → A × W → A × W → Type 0
of_peak keeps_peak p q = keeps_peak p.0 q.0

-- all of these tokens were taken: the flow of each output grew by what they settle
abbrev pub TakesTo : {A W : Type 0} → (stands : A → List Said → Type 0) → (texts : A → ℕ → OutputText) → (places : A → ℕ → Option ℕ) → (outs : A → ℕ → List ℕ)
    → (keeps_peak : A → A → Type 0) → (sinks : W → ℕ → PlaceView) → (old new : A × W) → (more : List Said) → Type 0
TakesTo stands texts places outs keeps_peak sinks = TakesAll (of_stands stands) (of_texts texts) (flow places outs sinks) (of_peak keeps_peak)

-- or some of them: it grew by a front of that
abbrev pub TakesSomeTo : {A W : Type 0} → (stands : A → List Said → Type 0) → (texts : A → ℕ → OutputText) → (places : A → ℕ → Option ℕ) → (outs : A → ℕ → List ℕ)
    → (sinks : W → ℕ → PlaceView) → (old new : A × W) → (more : List Said) → Type 0
TakesSomeTo stands texts places outs sinks = TakesSome (of_stands stands) (of_texts texts) (flow places outs sinks)

-- each output that has a place may be written there
abbrev pub MayWriteTo : {A W : Type 0} → (places : A → ℕ → Option ℕ) → (may : W → ℕ → Type 0) → A → W → Type 0
MayWriteTo places may s w = (i p : ℕ) → places s i ≡ Some p → may w p

-- the flow of each output is as it was
abbrev pub SameFlows : {A W : Type 0} → (places : A → ℕ → Option ℕ) → (outs : A → ℕ → List ℕ) → (sinks : W → ℕ → PlaceView) → (old new : A × W) → Type 0
SameFlows places outs sinks old new = (i : ℕ) → flow places outs sinks new i ≡ flow places outs sinks old i

-- What a call leaves as it was of a taker and of what is outside.
pub record LeavesBoth {A W : Type 0} (keeps : A → A → Type 0) (writes : W → W → Type 0) (old new : A × W) : Type 0 where
  pub kept : keeps old.0 new.0
  pub wrote : writes old.1 new.1

-- Of a taker only what waits changed.
pub record OnlyWaitingChanged {A : Type 0} (stands : A → List Said → Type 0) (keeps keeps_peak : A → A → Type 0) (old new : A) : Type 0 where
  pub stand : (given : List Said) → stands old given → stands new given
  pub kept : keeps old new
  pub peak : keeps_peak old new
