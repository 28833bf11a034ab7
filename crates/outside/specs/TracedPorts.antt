-- A source, and two sinks (this project's).
use Rattle.std.proofs.Common.{ℕ, zero, suc, true, false, List, Option, Some, None, refl}
use Rattle.gcx_io.specs.Views.{SinkView, SourceView}
use Rattle.outside.specs.Places.{PlaceView}
use Rattle.outside.specs.Follows.{NoneDropped}
use Rattle.outside.specs.Ports.{PortsWrote, nothing_there, seen_by}
use Rattle.outside.specs.declared.traced_ports.TracedPorts.{TracedPorts}

-- behind a failed write, wherever it was, something may be dropped
abbrev pub seen_behind : (broken : Option ℕ) → SinkView → (dropped : List ℕ) → PlaceView
seen_behind (Some p) sink bytes = seen_by true sink bytes
seen_behind None sink bytes = seen_by false sink bytes

-- there are two places: an output is at place 0, its trace at place 1
abbrev pub at_two : (output trace : PlaceView) → ℕ → PlaceView
at_two output trace zero = output
at_two output trace (suc zero) = trace
at_two output trace (suc (suc i)) = nothing_there

-- each has its sink, and what was dropped there
abbrev pub two_places : (broken : Option ℕ) → (output : SinkView) → (drops : List ℕ) → (trace : SinkView) → (trace_drops : List ℕ) → ℕ → PlaceView
two_places broken output drops trace trace_drops = at_two (seen_behind broken output drops) (seen_behind broken trace trace_drops)

-- so both are seen
abbrev pub both_places : {D O E : Type 0} → (output : O → SinkView) → (trace : E → SinkView) → TracedPorts D O E → ℕ → PlaceView
both_places output trace p = two_places p.broken (output p.out.sink) p.out.dropped.bytes (trace p.err.sink) p.err.dropped.bytes

-- What calls that write leave: the source, how many bytes may wait, and what is at both places.
abbrev pub TracedWrote : {D O E : Type 0} → (keeps : D → D → Type 0) → (source : D → SourceView) → (output : O → SinkView) → (trace : E → SinkView)
    → (old new : TracedPorts D O E) → Type 0
TracedWrote keeps source output trace old new = PortsWrote (keeps old.doc new.doc) (source old.doc) (source new.doc) old.most new.most old.broken new.broken
    (both_places output trace old) (both_places output trace new)

-- ---- the laws

pub none_dropped_there : (broken : Option ℕ) (s : SinkView) (drops : List ℕ) (t : SinkView) (trace_drops : List ℕ)
    → NoneDropped broken (two_places broken s drops t trace_drops)
none_dropped_there (Some p) s drops t trace_drops i e = let z : ⊥ = cc in absurd z
none_dropped_there None s drops t trace_drops zero e = refl
none_dropped_there None s drops t trace_drops (suc zero) e = refl
none_dropped_there None s drops t trace_drops (suc (suc i)) e = refl
