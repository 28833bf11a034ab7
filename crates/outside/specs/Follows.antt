-- How calls that write follow each other (this project's).
use Rattle.std.proofs.Common.{◌≡◌, ◌≤◌, ◌∙◌, ℕ, List, [], ◌∷◌, ◌++◌, map, Option, None, Some, refl, sym, ap, subst, append_assoc, append-nil}
use Rattle.std.proofs.lemmas.List.{map-append}
use Rattle.std.proofs.lemmas.List.Elements.{All-append}
use Rattle.gcx_io.specs.Causes.{Rose}
use Rattle.gcx_io.specs.Views.{Call, Denied, SinkView, Took}
use Rattle.gcx_io.specs.Writing.{IsSomeBytes, Takes, joined}
use Rattle.gcx_io.proofs.Grown.{grows_on}
use Rattle.gcx_io.proofs.Written.{takes_none}
use Rattle.run_words.proofs.Joining.{joined_both, takes_then}
use Rattle.outside.specs.Places.{FailedAt, Longer, OnlyDrops, PlaceView, StopsBefore, TookMore, WroteOn}

pub longer_none : (a : List ℕ) → Longer a a
longer_none a = record { more = []; is = sym (append-nil a) }

longer_on : (a b c : List ℕ) → Longer a b → Longer b c → Longer a c
longer_on a b c x y = record { more = x.more ++ y.more; is = y.is ∙ ap (λ (l : List ℕ). l ++ y.more) x.is ∙ append_assoc a x.more y.more }

-- one text was taken, and of the next one a front
pub stops_then : (a b c : SinkView) (t u next : List ℕ) → Takes a b t → StopsBefore b c u next → StopsBefore a c (t ++ u) next
stops_then a b c t u next x y = record {
  pieces = x.pieces ++ y.pieces;
  some = All-append IsSomeBytes x.pieces y.pieces x.some y.some;
  calls = y.calls ∙ ap (λ (l : List Call). l ++ map Took y.pieces ++ Denied next ∷ []) x.calls
      ∙ ap (λ (l : List Call). l ++ Denied next ∷ []) (append_assoc a.calls (map Took x.pieces) (map Took y.pieces)
      ∙ ap (λ (l : List Call). a.calls ++ l) (sym (map-append Took x.pieces y.pieces)));
  whole = joined_both x.pieces y.pieces ∙ ap (λ (l : List ℕ). l ++ joined y.pieces) x.whole ∙ ap (λ (l : List ℕ). t ++ l) y.whole;
  offered = y.offered;
  told = grows_on a.taken b.taken c.taken t u x.told y.told;
  faults = subst (λ (k : ℕ). Rose k c.faults) x.faults y.faults;
  later = subst (λ (k : ℕ). k ≤ c.faults) x.faults y.later;
}

-- ---- one place

pub more_none : (a : PlaceView) → TookMore a a
more_none a = record { text = []; takes = takes_none a.sink; dropped = longer_none a.dropped }

more_on : (a b c : PlaceView) → TookMore a b → TookMore b c → TookMore a c
more_on a b c x y = record {
  text = x.text ++ y.text;
  takes = takes_then a.sink b.sink c.sink x.text y.text x.takes y.takes;
  dropped = longer_on a.dropped b.dropped c.dropped x.dropped y.dropped;
}

more_drops : (a b c : PlaceView) → TookMore a b → OnlyDrops b c → TookMore a c
more_drops a b c x y = record {
  text = x.text;
  takes = subst (λ (s : SinkView). Takes a.sink s x.text) (sym y.sink) x.takes;
  dropped = longer_on a.dropped b.dropped c.dropped x.dropped y.dropped;
}

more_fails : (a b c : PlaceView) → b.dropped ≡ a.dropped → TookMore a b → FailedAt b c → FailedAt a c
more_fails a b c none x y = record {
  text = x.text ++ y.text;
  next = y.next;
  rest = y.rest;
  stops = stops_then a.sink b.sink c.sink x.text y.text y.next x.takes y.stops;
  dropped = y.dropped ∙ ap (λ (l : List ℕ). l ++ (y.next ++ y.rest)) none;
}

fails_drops : (a b c : PlaceView) → FailedAt a b → OnlyDrops b c → FailedAt a c
fails_drops a b c x y = record {
  text = x.text;
  next = x.next;
  rest = x.rest ++ y.dropped.more;
  stops = subst (λ (s : SinkView). StopsBefore a.sink s x.text x.next) (sym y.sink) x.stops;
  dropped = y.dropped.is ∙ ap (λ (l : List ℕ). l ++ y.dropped.more) x.dropped ∙ append_assoc a.dropped (x.next ++ x.rest) y.dropped.more
      ∙ ap (λ (l : List ℕ). a.dropped ++ l) (append_assoc x.next x.rest y.dropped.more);
}

drops_none : (a : PlaceView) → OnlyDrops a a
drops_none a = record { sink = refl; dropped = longer_none a.dropped }

drops_on : (a b c : PlaceView) → OnlyDrops a b → OnlyDrops b c → OnlyDrops a c
drops_on a b c x y = record { sink = y.sink ∙ x.sink; dropped = longer_on a.dropped b.dropped c.dropped x.dropped y.dropped }

-- ---- all places

-- where no write failed nothing was dropped
abbrev pub NoneDropped : Option ℕ → (ℕ → PlaceView) → Type 0
NoneDropped broken a = (i : ℕ) → broken ≡ None → (a i).dropped ≡ []

pub wrote_none : (o : Option ℕ) (a : ℕ → PlaceView) → WroteOn o o a a
wrote_none None a = λ i. more_none (a i)
wrote_none (Some p) a = record { is = refl; each = λ i. drops_none (a i) }

pub wrote_on : (o p q : Option ℕ) (a b c : ℕ → PlaceView) → NoneDropped o a → NoneDropped p b → WroteOn o p a b → WroteOn p q b c → WroteOn o q a c
wrote_on None None None a b c m n x y = λ i. more_on (a i) (b i) (c i) (x i) (y i)
wrote_on None None (Some r) a b c m n x y = record {
  here = more_fails (a r) (b r) (c r) (n r refl ∙ sym (m r refl)) (x r) y.here;
  others = λ i off. more_on (a i) (b i) (c i) (x i) (y.others i off);
}
wrote_on None (Some p) q a b c m n x y = subst (λ (o : Option ℕ). WroteOn None o a c) (sym y.is) (record {
  here = fails_drops (a p) (b p) (c p) x.here (y.each p);
  others = λ i off. more_drops (a i) (b i) (c i) (x.others i off) (y.each i);
})
wrote_on (Some p) q r a b c m n x y = on q r x.is y
  where
    on : (q r : Option ℕ) → q ≡ Some p → WroteOn q r b c → WroteOn (Some p) r a c
    on None r e y = let z : ⊥ = cc in absurd z
    on (Some k) r e y = record { is = y.is ∙ e; each = λ i. drops_on (a i) (b i) (c i) (x.each i) (y.each i) }
