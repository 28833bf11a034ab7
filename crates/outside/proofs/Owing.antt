-- What calls that write took, in bytes.
use Rattle.std.proofs.Common.{◌≡◌, ◌≢◌, ◌∙◌, ◌⊎◌, ◌≤◌, inl, inr, ⊎_elim, ℕ, zero, suc, List, [], ◌∷◌, ◌++◌, map, None, Some, refl, sym, ap, subst, arith, append_assoc, append-nil}
use Rattle.gcx_io.specs.Views.{Call, Denied, Failed, Gave, SinkView, Took}
use Rattle.gcx_io.specs.Writing.{Takes, joined}
use Rattle.outside.specs.Laws.{FaultsOnlyRise, NextWriteOwed, OnlyMoreTaken}
use Rattle.outside.specs.Places.{Longer, OnlyDrops, PlaceView, StopsBefore, bytes_taken, took}

pub next_write_owed : NextWriteOwed
next_write_owed a b sure more next later s = record {
  pieces = s.pieces;
  more = more;
  next = next;
  later = later;
  some = s.some;
  calls = s.calls;
  taken = s.whole;
  split = refl;
  offered = s.offered;
  told = s.told;
  faults = s.faults;
}

taken_both : (cs ds : List Call) → bytes_taken (cs ++ ds) ≡ bytes_taken cs ++ bytes_taken ds
taken_both [] ds = refl
taken_both (Gave asked b ∷ cs) ds = taken_both cs ds
taken_both (Took b ∷ cs) ds = ap (λ (l : List ℕ). b ++ l) (taken_both cs ds) ∙ sym (append_assoc b (bytes_taken cs) (bytes_taken ds))
taken_both (Denied b ∷ cs) ds = taken_both cs ds
taken_both (Failed ∷ cs) ds = taken_both cs ds

taken_pieces : (ps : List (List ℕ)) → bytes_taken (map Took ps) ≡ joined ps
taken_pieces [] = refl
taken_pieces (p ∷ ps) = ap (λ (l : List ℕ). p ++ l) (taken_pieces ps)

-- the bytes of calls that took this text
pub takes_bytes : (a b : SinkView) (text : List ℕ) → Takes a b text → bytes_taken b.calls ≡ bytes_taken a.calls ++ text
takes_bytes a b text t = ap bytes_taken t.calls ∙ taken_both a.calls (map Took t.pieces) ∙ ap (λ (l : List ℕ). bytes_taken a.calls ++ l) (taken_pieces t.pieces ∙ t.whole)

-- of which the last one failed
pub stops_bytes : (a b : SinkView) (text next : List ℕ) → StopsBefore a b text next → bytes_taken b.calls ≡ bytes_taken a.calls ++ text
stops_bytes a b text next s =
    ap bytes_taken s.calls ∙ taken_both (a.calls ++ map Took s.pieces) (Denied next ∷ []) ∙ append-nil (bytes_taken (a.calls ++ map Took s.pieces))
    ∙ taken_both a.calls (map Took s.pieces) ∙ ap (λ (l : List ℕ). bytes_taken a.calls ++ l) (taken_pieces s.pieces ∙ s.whole)

-- of which none was taken, since a write had failed
pub drops_bytes : (a b : PlaceView) → OnlyDrops a b → took b ≡ took a
drops_bytes a b d = ap (λ (s : SinkView). bytes_taken s.calls) d.sink

-- a place is that one, or another
same_or_not : (i k : ℕ) → (i ≡ k) ⊎ (i ≢ k)
same_or_not zero zero = inl refl
same_or_not zero (suc k) = inr (λ e. omega (arith, e))
same_or_not (suc i) zero = inr (λ e. omega (arith, e))
same_or_not (suc i) (suc k) = ⊎_elim (λ e. inl (ap suc e)) (λ off. inr (λ e. off (omega (arith, e)))) (same_or_not i k)

pub only_more_taken : OnlyMoreTaken
only_more_taken None None a b w i = record { more = (w i).text; is = takes_bytes (a i).sink (b i).sink (w i).text (w i).takes }
only_more_taken None (Some p) a b w i = ⊎_elim
    (λ (e : i ≡ p). subst (λ (n : ℕ). Longer (took (a n)) (took (b n))) (sym e) (record { more = w.here.text; is = stops_bytes (a p).sink (b p).sink w.here.text w.here.next w.here.stops }))
    (λ (off : i ≢ p). record { more = (w.others i off).text; is = takes_bytes (a i).sink (b i).sink (w.others i off).text (w.others i off).takes })
    (same_or_not i p)
only_more_taken (Some p) q a b w i = record { more = []; is = drops_bytes (a i) (b i) (w.each i) ∙ sym (append-nil (took (a i))) }

same_count : (m n : ℕ) → n ≡ m → m ≤ n
same_count m n e = omega (arith, e)

pub faults_only_rise : FaultsOnlyRise
faults_only_rise None None a b w i = same_count (a i).sink.faults (b i).sink.faults (w i).takes.faults
faults_only_rise None (Some p) a b w i = ⊎_elim
    (λ (e : i ≡ p). subst (λ (n : ℕ). (a n).sink.faults ≤ (b n).sink.faults) (sym e) w.here.stops.later)
    (λ (off : i ≢ p). same_count (a i).sink.faults (b i).sink.faults (w.others i off).takes.faults)
    (same_or_not i p)
faults_only_rise (Some p) q a b w i = same_count (a i).sink.faults (b i).sink.faults (ap (λ (s : SinkView). s.faults) (w.each i).sink)
