-- A source and one sink (this project's).
use Rattle.std.proofs.Common.{◌≡◌, ◌∙◌, ◌≤◌, ℕ, zero, suc, Bool, true, false, List, [], length, take, drop, Option, Some, None, refl, ap, arith}
use Rattle.gcx_io.specs.Views.{SinkView, SourceView}
use Rattle.gcx_io.specs.Writing.{Takes}
use Rattle.outside.specs.Places.{Few, PlaceView, SourceStays, StopsBefore, WroteOn}
use Rattle.outside.specs.Follows.{NoneDropped, wrote_none, wrote_on}

-- So many bytes were taken: all, or a write failed that was offered the rest.
pub record WroteSome (a b : SinkView) (bytes : List ℕ) (n : ℕ) : Type 0 where
  pub bound : n ≤ length bytes
  pub whole : n ≡ length bytes → Takes a b bytes
  pub stops : (n ≡ length bytes → ⊥) → StopsBefore a b (take n bytes) (drop n bytes)

-- A write failed, and the rest was dropped.
pub record PutFront (a b : SinkView) (dropped bytes : List ℕ) : Type 0 where
  pub n : ℕ
  pub stops : StopsBefore a b (take n bytes) (drop n bytes)
  pub rest : dropped ≡ drop n bytes

-- all was taken, or a write failed
abbrev pub PutsBy : (failed : Bool) → (a b : SinkView) → (dropped bytes : List ℕ) → Type 0
PutsBy true a b dropped bytes = PutFront a b dropped bytes
PutsBy false a b dropped bytes = Takes a b bytes

-- nothing is at this place
abbrev pub nothing_there : PlaceView
nothing_there = record { sink = record { calls = []; taken = None; faults = 0 }; dropped = [] }

-- behind a failed write something may be dropped
abbrev pub seen_by : (failed : Bool) → SinkView → (dropped : List ℕ) → PlaceView
seen_by true sink bytes = record { sink = sink; dropped = bytes }
seen_by false sink bytes = record { sink = sink; dropped = [] }

-- there is one place, of number 0
abbrev pub at_zero : PlaceView → ℕ → PlaceView
at_zero v zero = v
at_zero v (suc i) = nothing_there

abbrev pub one_place : (failed : Bool) → SinkView → (dropped : List ℕ) → ℕ → PlaceView
one_place failed sink bytes = at_zero (seen_by failed sink bytes)

abbrev pub broken_by : Bool → Option ℕ
broken_by true = Some 0
broken_by false = None

-- so many bytes may wait, or none behind a call that is to write all
abbrev pub most_by : ℕ → (all : Bool) → Option ℕ
most_by most true = Some 0
most_by most false = Some most

-- What calls that write leave: the source, how many bytes may wait, and what is at the place.
pub record PortsWrote (keeps : Type 0) (s t : SourceView) (most now_most : ℕ) (was now : Option ℕ) (a b : ℕ → PlaceView) : Type 0 where
  pub kept : keeps
  pub source : t ≡ s
  pub most_is : now_most ≡ most
  pub wrote : WroteOn was now a b

-- ---- the laws

pub fewer_wait : (most n : ℕ) → Few (most_by most true) n → Few (most_by most false) n
fewer_wait most n few = omega (arith, few)

pub none_dropped : (failed : Bool) (s : SinkView) (bytes : List ℕ) → NoneDropped (broken_by failed) (one_place failed s bytes)
none_dropped true s bytes i e = let z : ⊥ = cc in absurd z
none_dropped false s bytes zero e = refl
none_dropped false s bytes (suc i) e = refl

pub source_same : (s t : SourceView) → t ≡ s → SourceStays (Unit {0}) s t
source_same s t e = record { calls = ap (λ (v : SourceView). v.calls) e; left = λ told. ap (λ (v : SourceView). v.left) e; faults = ap (λ (v : SourceView). v.faults) e }

pub ports_same : (keeps : Type 0) → keeps → (s : SourceView) (most : ℕ) (o : Option ℕ) (a : ℕ → PlaceView) → PortsWrote keeps s s most most o o a a
ports_same keeps kept s most o a = record { kept = kept; source = refl; most_is = refl; wrote = wrote_none o a }

pub ports_on : (k l m : Type 0) → (k → l → m) → (s t u : SourceView) (i j n : ℕ) (o p q : Option ℕ) (a b c : ℕ → PlaceView) → NoneDropped o a → NoneDropped p b
    → PortsWrote k s t i j o p a b → PortsWrote l t u j n p q b c → PortsWrote m s u i n o q a c
ports_on k l m on s t u i j n o p q a b c before between x y = record {
  kept = on x.kept y.kept;
  source = y.source ∙ x.source;
  most_is = y.most_is ∙ x.most_is;
  wrote = wrote_on o p q a b c before between x.wrote y.wrote;
}
