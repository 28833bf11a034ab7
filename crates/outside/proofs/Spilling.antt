-- What calls make that write what waits.
use Rattle.std.proofs.Common.{◌≡◌, ◌≢◌, ◌≤◌, ◌<◌, ◌+◌, ◌∙◌, ℕ, zero, suc, Bool, true, false, List, [], ◌∷◌, ◌++◌, length, take, drop, Option, Ok, Err, refl, sym, ap, subst, arith, append_assoc, append-nil, length-drop, take-append-drop}
use Rattle.std.proofs.lemmas.List.{take_all}
use Rattle.std.proofs.Math.Seq.{take-add}
use Rattle.gcx_io.specs.Bytes.{Grows}
use Rattle.gcx_io.specs.Calls.{WritesOnce}
use Rattle.gcx_io.specs.Views.{Call, Denied, SinkView, SourceView}
use Rattle.gcx_io.specs.Writing.{Takes}
use Rattle.gcx_io.proofs.Written.{is_some, takes_more, takes_none}
use Rattle.outside.specs.Follows.{longer_none, more_none, stops_then}
use Rattle.outside.specs.Places.{FailedAt, OnlyDrops, PlaceView, Spilled, StopsBefore, TookMore, bytes_taken, took, went_to}
use Rattle.outside.specs.Ports.{PortsWrote, PutsBy, WroteSome, at_zero, broken_by, nothing_there, one_place, seen_by}
use Rattle.outside.proofs.Owing.{stops_bytes, takes_bytes}

-- ---- writes to a sink

-- the next n bytes of a text of which the first i were taken
pub takes_on : {E : Type 0} (a b c : SinkView) (text piece : List ℕ) (i n : ℕ) → piece ≡ drop i text → Takes a b (take i text) → WritesOnce {E = E} b c (Ok n) piece → 1 ≤ n → n ≤ length piece
    → Takes a c (take (i + n) text)
takes_on {E = E} a b c text piece i n is t once some within =
    let next : take n piece ≡ take n (drop i text) = ap (λ (l : List ℕ). take n l) is in
    subst (λ (l : List ℕ). Takes a c l) (ap (λ (l : List ℕ). take i text ++ l) next ∙ sym (take-add i n text)) (takes_more {E = E} a b c (take i text) piece n t once some within)

-- the rest of it was denied
denied_at : {E : Type 0} (e : E) (b c : SinkView) (rest : List ℕ) → 1 ≤ length rest → WritesOnce {E = E} b c (Err e) rest → StopsBefore b c [] rest
denied_at e b c rest some once = record {
  pieces = [];
  some = λ k d within. absurd (omega (arith, within));
  calls = once.calls ∙ ap (λ (l : List Call). l ++ Denied rest ∷ []) (sym (append-nil b.calls));
  whole = refl;
  offered = is_some rest some;
  told = subst (λ (o : Option (List ℕ)). Grows b.taken o []) (sym once.taken) (takes_none b).told;
  faults = once.faults.failed;
  later = once.faults.later;
}

pub stops_on : {E : Type 0} (e : E) (a b c : SinkView) (text piece : List ℕ) (i : ℕ) → i < length text → piece ≡ drop i text → Takes a b (take i text) → WritesOnce {E = E} b c (Err e) piece
    → StopsBefore a c (take i text) (drop i text)
stops_on {E = E} e a b c text piece i before is t once =
    let again : WritesOnce {E = E} b c (Err e) (drop i text) = subst (λ (l : List ℕ). WritesOnce {E = E} b c (Err e) l) is once in
    subst (λ (l : List ℕ). StopsBefore a c l (drop i text)) (append-nil (take i text)) (stops_then a b c (take i text) [] (drop i text) t
    (denied_at e b c (drop i text) (omega (arith, length-drop i text, before)) again))

pub wrote_whole : (a b : SinkView) (text : List ℕ) (i : ℕ) → i ≤ length text → length text ≤ i → Takes a b (take i text) → WroteSome a b text i
wrote_whole a b text i l m t = record {
  bound = l;
  whole = λ e. subst (λ (z : List ℕ). Takes a b z) (take_all _ _ m) t;
  stops = λ off. absurd (off (omega (arith, l, m)));
}

pub wrote_front : (a b : SinkView) (text : List ℕ) (i : ℕ) → i < length text → StopsBefore a b (take i text) (drop i text) → WroteSome a b text i
wrote_front a b text i l s = record { bound = omega (arith, l); whole = λ e. absurd (omega (arith, e, l)); stops = λ off. s }

-- ---- at a place

pub flows_all : (a b : PlaceView) (old new : List ℕ) → Takes a.sink b.sink old → a.dropped ≡ [] → b.dropped ≡ [] → new ≡ [] → went_to b ++ new ≡ went_to a ++ old
flows_all a b old new t x y none =
    ap (λ (l : List ℕ). went_to b ++ l) none ∙ append-nil (went_to b) ∙ ap (λ (l : List ℕ). took b ++ l) y ∙ append-nil (took b) ∙ takes_bytes a.sink b.sink old t
    ∙ ap (λ (l : List ℕ). l ++ old) (sym (ap (λ (l : List ℕ). took a ++ l) x ∙ append-nil (took a)))

pub flows_front : (a b : PlaceView) (old new : List ℕ) (n : ℕ) → StopsBefore a.sink b.sink (take n old) (drop n old) → a.dropped ≡ [] → b.dropped ≡ drop n old → new ≡ [] → went_to b ++ new ≡ went_to a ++ old
flows_front a b old new n s x y none =
    ap (λ (l : List ℕ). went_to b ++ l) none ∙ append-nil (went_to b) ∙ ap (λ (l : List ℕ). took b ++ l) y ∙ ap (λ (l : List ℕ). l ++ drop n old) (stops_bytes a.sink b.sink (take n old) (drop n old) s)
    ∙ append_assoc (took a) (take n old) (drop n old) ∙ ap (λ (l : List ℕ). took a ++ l) (take-append-drop n old) ∙ ap (λ (l : List ℕ). l ++ old) (sym (ap (λ (l : List ℕ). took a ++ l) x ∙ append-nil (took a)))

pub flows_drop : (a b : PlaceView) (old new : List ℕ) → b.sink ≡ a.sink → b.dropped ≡ a.dropped ++ old → new ≡ [] → went_to b ++ new ≡ went_to a ++ old
flows_drop a b old new s d none =
    ap (λ (l : List ℕ). went_to b ++ l) none ∙ append-nil (went_to b) ∙ ap (λ (v : SinkView). bytes_taken v.calls ++ b.dropped) s
    ∙ ap (λ (l : List ℕ). took a ++ l) d ∙ sym (append_assoc (took a) a.dropped old)

-- ---- where there is one place

others_zero : (a b : PlaceView) (k : ℕ) → k ≢ 0 → at_zero b k ≡ at_zero a k
others_zero a b zero off = absurd (off refl)
others_zero a b (suc k) off = refl

at_first : (place : ℕ) (a b : PlaceView) (old new : List ℕ) → place ≡ 0 → went_to b ++ new ≡ went_to a ++ old → Spilled place (at_zero a) (at_zero b) old new
at_first place a b old new e f = subst (λ (n : ℕ). Spilled n (at_zero a) (at_zero b) old new) (sym e) (record { flows = f; others = others_zero a b })

-- what waited was written, or a write failed
pub put_spills : (place : ℕ) (was now : Bool) (a b : SinkView) (x y old new : List ℕ) → place ≡ 0 → was ≡ false → PutsBy now a b y old → new ≡ [] → Spilled place (one_place was a x) (one_place now b y) old new
put_spills place true now a b x y old new p e k none = let z : ⊥ = cc in absurd z
put_spills place false true a b x y old new p e k none = at_first place (seen_by false a x) (seen_by true b y) old new p (flows_front (seen_by false a x) (seen_by true b y) old new k.n k.stops refl k.rest none)
put_spills place false false a b x y old new p e k none = at_first place (seen_by false a x) (seen_by false b y) old new p (flows_all (seen_by false a x) (seen_by false b y) old new k refl refl none)

pub put_writes : (keeps : Type 0) → keeps → (s : SourceView) (most : ℕ) (was now : Bool) (a b : SinkView) (x y old : List ℕ) → was ≡ false → PutsBy now a b y old
    → PortsWrote keeps s s most most (broken_by was) (broken_by now) (one_place was a x) (one_place now b y)
put_writes keeps kept s most true now a b x y old e k = let z : ⊥ = cc in absurd z
put_writes keeps kept s most false true a b x y old e k = record { kept = kept; source = refl; most_is = refl; wrote = record { here = here; others = others } }
  where
    here : FailedAt (seen_by false a x) (seen_by true b y)
    here = record { text = take k.n old; next = drop k.n old; rest = []; stops = k.stops; dropped = k.rest ∙ sym (append-nil (drop k.n old)) }

    others : (i : ℕ) → i ≢ 0 → TookMore (one_place false a x i) (one_place true b y i)
    others zero off = absurd (off refl)
    others (suc i) off = more_none nothing_there
put_writes keeps kept s most false false a b x y old e k = record { kept = kept; source = refl; most_is = refl; wrote = each }
  where
    each : (i : ℕ) → TookMore (one_place false a x i) (one_place false b y i)
    each zero = record { text = old; takes = k; dropped = longer_none [] }
    each (suc i) = more_none nothing_there

-- behind a failed write what waited was dropped
pub drop_spills : (place : ℕ) (was : Bool) (a b : SinkView) (x y old new : List ℕ) → place ≡ 0 → was ≡ true → b ≡ a → y ≡ x ++ old → new ≡ [] → Spilled place (one_place was a x) (one_place was b y) old new
drop_spills place false a b x y old new p e s d none = let z : ⊥ = cc in absurd z
drop_spills place true a b x y old new p e s d none = at_first place (seen_by true a x) (seen_by true b y) old new p (flows_drop (seen_by true a x) (seen_by true b y) old new s d none)

pub drop_writes : (keeps : Type 0) → keeps → (s : SourceView) (most : ℕ) (was : Bool) (a b : SinkView) (x y old : List ℕ) → was ≡ true → b ≡ a → y ≡ x ++ old
    → PortsWrote keeps s s most most (broken_by was) (broken_by was) (one_place was a x) (one_place was b y)
drop_writes keeps kept s most false a b x y old e is d = let z : ⊥ = cc in absurd z
drop_writes keeps kept s most true a b x y old e is d = record { kept = kept; source = refl; most_is = refl; wrote = record { is = refl; each = each } }
  where
    each : (i : ℕ) → OnlyDrops (one_place true a x i) (one_place true b y i)
    each zero = record { sink = is; dropped = record { more = old; is = d } }
    each (suc i) = record { sink = refl; dropped = longer_none [] }
