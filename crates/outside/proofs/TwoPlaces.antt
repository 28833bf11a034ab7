-- What a call makes that writes or drops at one of two places.
use Rattle.std.proofs.Common.{◌≡◌, ◌≢◌, ◌∙◌, ℕ, zero, suc, true, false, List, [], ◌++◌, take, drop, Option, Some, None, refl, sym, ap, subst, append-nil}
use Rattle.std.specs.Option.{is_some}
use Rattle.std.proofs.lemmas.Bool.{false≢true}
use Rattle.gcx_io.specs.Views.{SinkView, SourceView}
use Rattle.gcx_io.specs.Writing.{Takes}
use Rattle.outside.specs.Follows.{longer_none, more_none}
use Rattle.outside.specs.Places.{FailedAt, OnlyDrops, PlaceView, Spilled, TookMore, went_to}
use Rattle.outside.specs.Ports.{PortsWrote, PutFront, nothing_there, seen_by}
use Rattle.outside.specs.TracedPorts.{at_two, two_places}
use Rattle.outside.proofs.Spilling.{flows_all, flows_drop, flows_front}

-- ---- the other place

other_zero : (u v w x : PlaceView) → x ≡ w → (k : ℕ) → k ≢ 0 → at_two v x k ≡ at_two u w k
other_zero u v w x e zero off = absurd (off refl)
other_zero u v w x e (suc zero) off = e
other_zero u v w x e (suc (suc k)) off = refl

other_one : (u v w x : PlaceView) → x ≡ w → (k : ℕ) → k ≢ 1 → at_two x v k ≡ at_two w u k
other_one u v w x e zero off = e
other_one u v w x e (suc zero) off = absurd (off refl)
other_one u v w x e (suc (suc k)) off = refl

at_output : (u v w x : PlaceView) (old new : List ℕ) → went_to v ++ new ≡ went_to u ++ old → x ≡ w → Spilled 0 (at_two u w) (at_two v x) old new
at_output u v w x old new f e = record { flows = f; others = other_zero u v w x e }

at_trace : (u v w x : PlaceView) (old new : List ℕ) → went_to v ++ new ≡ went_to u ++ old → x ≡ w → Spilled 1 (at_two w u) (at_two x v) old new
at_trace u v w x old new f e = record { flows = f; others = other_one u v w x e }

-- where a write failed at the one place, nothing was dropped at the other yet
none_yet : (s t : SinkView) (drops now_drops : List ℕ) → t ≡ s → now_drops ≡ [] → seen_by true t now_drops ≡ seen_by false s drops
none_yet s t drops now_drops same none = ap (λ (v : SinkView). seen_by true v now_drops) same ∙ ap (λ (l : List ℕ). seen_by true s l) none

more_yet : (s t : SinkView) (drops now_drops : List ℕ) → t ≡ s → now_drops ≡ [] → TookMore (seen_by false s drops) (seen_by true t now_drops)
more_yet s t drops now_drops same none =
    subst (λ (v : PlaceView). TookMore (seen_by false s drops) v) (sym (none_yet s t drops now_drops same none)) (more_none (seen_by false s drops))

-- ---- the place itself

took_all : (a b : SinkView) (x y old : List ℕ) → Takes a b old → TookMore (seen_by false a x) (seen_by false b y)
took_all a b x y old t = record { text = old; takes = t; dropped = longer_none [] }

failed_here : (a b : SinkView) (x y old : List ℕ) → PutFront a b y old → FailedAt (seen_by false a x) (seen_by true b y)
failed_here a b x y old k = record { text = take k.n old; next = drop k.n old; rest = []; stops = k.stops; dropped = k.rest ∙ sym (append-nil (drop k.n old)) }

dropped_here : (a b : SinkView) (x y old : List ℕ) → b ≡ a → y ≡ x ++ old → OnlyDrops (seen_by true a x) (seen_by true b y)
dropped_here a b x y old same d = record { sink = same; dropped = record { more = old; is = d } }

none_here : (v : PlaceView) → OnlyDrops v v
none_here v = record { sink = refl; dropped = longer_none v.dropped }

-- ---- the output

-- all of it was taken
pub out_taken : (o : Option ℕ) (a b s : SinkView) (x y drops old new : List ℕ) → o ≡ None → Takes a b old → new ≡ []
    → Spilled 0 (two_places o a x s drops) (two_places o b y s drops) old new
out_taken (Some p) a b s x y drops old new whole t none = let z : ⊥ = cc in absurd z
out_taken None a b s x y drops old new whole t none =
    at_output (seen_by false a x) (seen_by false b y) (seen_by false s drops) (seen_by false s drops) old new
    (flows_all (seen_by false a x) (seen_by false b y) old new t refl refl none) refl

pub out_taken_writes : (keeps : Type 0) → keeps → (from : SourceView) (most : ℕ) (o : Option ℕ) (a b s : SinkView) (x y drops old : List ℕ) → o ≡ None → Takes a b old
    → PortsWrote keeps from from most most o o (two_places o a x s drops) (two_places o b y s drops)
out_taken_writes keeps kept from most (Some p) a b s x y drops old whole t = let z : ⊥ = cc in absurd z
out_taken_writes keeps kept from most None a b s x y drops old whole t = record { kept = kept; source = refl; most_is = refl; wrote = each }
  where
    each : (i : ℕ) → TookMore (two_places None a x s drops i) (two_places None b y s drops i)
    each zero = took_all a b x y old t
    each (suc zero) = more_none (seen_by false s drops)
    each (suc (suc i)) = more_none nothing_there

-- or a write failed
pub out_failed : (o : Option ℕ) (a b s t : SinkView) (x y drops now_drops old new : List ℕ) → o ≡ None → PutFront a b y old → t ≡ s → now_drops ≡ [] → new ≡ []
    → Spilled 0 (two_places o a x s drops) (two_places (Some 0) b y t now_drops) old new
out_failed (Some p) a b s t x y drops now_drops old new whole k same nothing none = let z : ⊥ = cc in absurd z
out_failed None a b s t x y drops now_drops old new whole k same nothing none =
    at_output (seen_by false a x) (seen_by true b y) (seen_by false s drops) (seen_by true t now_drops) old new
    (flows_front (seen_by false a x) (seen_by true b y) old new k.n k.stops refl k.rest none) (none_yet s t drops now_drops same nothing)

pub out_failed_writes : (keeps : Type 0) → keeps → (from : SourceView) (most : ℕ) (o : Option ℕ) (a b s t : SinkView) (x y drops now_drops old : List ℕ) → o ≡ None → PutFront a b y old
    → t ≡ s → now_drops ≡ [] → PortsWrote keeps from from most most o (Some 0) (two_places o a x s drops) (two_places (Some 0) b y t now_drops)
out_failed_writes keeps kept from most (Some p) a b s t x y drops now_drops old whole k same nothing = let z : ⊥ = cc in absurd z
out_failed_writes keeps kept from most None a b s t x y drops now_drops old whole k same nothing =
    record { kept = kept; source = refl; most_is = refl; wrote = record { here = failed_here a b x y old k; others = others } }
  where
    others : (i : ℕ) → i ≢ 0 → TookMore (two_places None a x s drops i) (two_places (Some 0) b y t now_drops i)
    others zero off = absurd (off refl)
    others (suc zero) off = more_yet s t drops now_drops same nothing
    others (suc (suc i)) off = more_none nothing_there

-- behind a failed write it was dropped
pub out_dropped : (o : Option ℕ) (a b s : SinkView) (x y drops old new : List ℕ) → is_some o ≡ true → b ≡ a → y ≡ x ++ old → new ≡ []
    → Spilled 0 (two_places o a x s drops) (two_places o b y s drops) old new
out_dropped None a b s x y drops old new broken same d none = absurd (false≢true broken)
out_dropped (Some p) a b s x y drops old new broken same d none =
    at_output (seen_by true a x) (seen_by true b y) (seen_by true s drops) (seen_by true s drops) old new
    (flows_drop (seen_by true a x) (seen_by true b y) old new same d none) refl

pub out_dropped_writes : (keeps : Type 0) → keeps → (from : SourceView) (most : ℕ) (o : Option ℕ) (a b s : SinkView) (x y drops old : List ℕ) → is_some o ≡ true → b ≡ a → y ≡ x ++ old
    → PortsWrote keeps from from most most o o (two_places o a x s drops) (two_places o b y s drops)
out_dropped_writes keeps kept from most None a b s x y drops old broken same d = absurd (false≢true broken)
out_dropped_writes keeps kept from most (Some p) a b s x y drops old broken same d =
    record { kept = kept; source = refl; most_is = refl; wrote = record { is = refl; each = each } }
  where
    each : (i : ℕ) → OnlyDrops (two_places (Some p) a x s drops i) (two_places (Some p) b y s drops i)
    each zero = dropped_here a b x y old same d
    each (suc zero) = none_here (seen_by true s drops)
    each (suc (suc i)) = none_here nothing_there

-- ---- the trace

-- all of it was taken
pub err_taken : (o : Option ℕ) (a b s : SinkView) (x y drops old new : List ℕ) → o ≡ None → Takes a b old → new ≡ []
    → Spilled 1 (two_places o s drops a x) (two_places o s drops b y) old new
err_taken (Some p) a b s x y drops old new whole t none = let z : ⊥ = cc in absurd z
err_taken None a b s x y drops old new whole t none =
    at_trace (seen_by false a x) (seen_by false b y) (seen_by false s drops) (seen_by false s drops) old new
    (flows_all (seen_by false a x) (seen_by false b y) old new t refl refl none) refl

pub err_taken_writes : (keeps : Type 0) → keeps → (from : SourceView) (most : ℕ) (o : Option ℕ) (a b s : SinkView) (x y drops old : List ℕ) → o ≡ None → Takes a b old
    → PortsWrote keeps from from most most o o (two_places o s drops a x) (two_places o s drops b y)
err_taken_writes keeps kept from most (Some p) a b s x y drops old whole t = let z : ⊥ = cc in absurd z
err_taken_writes keeps kept from most None a b s x y drops old whole t = record { kept = kept; source = refl; most_is = refl; wrote = each }
  where
    each : (i : ℕ) → TookMore (two_places None s drops a x i) (two_places None s drops b y i)
    each zero = more_none (seen_by false s drops)
    each (suc zero) = took_all a b x y old t
    each (suc (suc i)) = more_none nothing_there

-- or a write failed
pub err_failed : (o : Option ℕ) (a b s t : SinkView) (x y drops now_drops old new : List ℕ) → o ≡ None → PutFront a b y old → t ≡ s → now_drops ≡ [] → new ≡ []
    → Spilled 1 (two_places o s drops a x) (two_places (Some 1) t now_drops b y) old new
err_failed (Some p) a b s t x y drops now_drops old new whole k same nothing none = let z : ⊥ = cc in absurd z
err_failed None a b s t x y drops now_drops old new whole k same nothing none =
    at_trace (seen_by false a x) (seen_by true b y) (seen_by false s drops) (seen_by true t now_drops) old new
    (flows_front (seen_by false a x) (seen_by true b y) old new k.n k.stops refl k.rest none) (none_yet s t drops now_drops same nothing)

pub err_failed_writes : (keeps : Type 0) → keeps → (from : SourceView) (most : ℕ) (o : Option ℕ) (a b s t : SinkView) (x y drops now_drops old : List ℕ) → o ≡ None → PutFront a b y old
    → t ≡ s → now_drops ≡ [] → PortsWrote keeps from from most most o (Some 1) (two_places o s drops a x) (two_places (Some 1) t now_drops b y)
err_failed_writes keeps kept from most (Some p) a b s t x y drops now_drops old whole k same nothing = let z : ⊥ = cc in absurd z
err_failed_writes keeps kept from most None a b s t x y drops now_drops old whole k same nothing =
    record { kept = kept; source = refl; most_is = refl; wrote = record { here = failed_here a b x y old k; others = others } }
  where
    others : (i : ℕ) → i ≢ 1 → TookMore (two_places None s drops a x i) (two_places (Some 1) t now_drops b y i)
    others zero off = more_yet s t drops now_drops same nothing
    others (suc zero) off = absurd (off refl)
    others (suc (suc i)) off = more_none nothing_there

-- behind a failed write it was dropped
pub err_dropped : (o : Option ℕ) (a b s : SinkView) (x y drops old new : List ℕ) → is_some o ≡ true → b ≡ a → y ≡ x ++ old → new ≡ []
    → Spilled 1 (two_places o s drops a x) (two_places o s drops b y) old new
err_dropped None a b s x y drops old new broken same d none = absurd (false≢true broken)
err_dropped (Some p) a b s x y drops old new broken same d none =
    at_trace (seen_by true a x) (seen_by true b y) (seen_by true s drops) (seen_by true s drops) old new
    (flows_drop (seen_by true a x) (seen_by true b y) old new same d none) refl

pub err_dropped_writes : (keeps : Type 0) → keeps → (from : SourceView) (most : ℕ) (o : Option ℕ) (a b s : SinkView) (x y drops old : List ℕ) → is_some o ≡ true → b ≡ a → y ≡ x ++ old
    → PortsWrote keeps from from most most o o (two_places o s drops a x) (two_places o s drops b y)
err_dropped_writes keeps kept from most None a b s x y drops old broken same d = absurd (false≢true broken)
err_dropped_writes keeps kept from most (Some p) a b s x y drops old broken same d =
    record { kept = kept; source = refl; most_is = refl; wrote = record { is = refl; each = each } }
  where
    each : (i : ℕ) → OnlyDrops (two_places (Some p) s drops a x i) (two_places (Some p) s drops b y i)
    each zero = none_here (seen_by true s drops)
    each (suc zero) = dropped_here a b x y old same d
    each (suc (suc i)) = none_here nothing_there
