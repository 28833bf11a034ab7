-- What the source of a document gave, and where its reading stops.
use Rattle.std.proofs.Common.{◌≡◌, ℕ, ◌+◌, ◌≤◌, true, false, List, [], ◌∷◌, ◌++◌, length, take, None, Ok, Err, refl, sym, ap, subst, arith, length-append}
use Rattle.std.proofs.lemmas.List.{length-take-le}
use Rattle.gcx_base.specs.Limits.{full_limits}
use Rattle.gcx_io.proofs.Written.{joined_push}
use Rattle.gcx_io.specs.Calls.{ReadsSource}
use Rattle.gcx_io.specs.Views.{SourceView}
use Rattle.gcx_io.specs.Writing.{joined}
use Rattle.gcx_model.specs.Faults.{FaultIs}
use Rattle.run_words.proofs.Sourcing.{clean_none, clean_more, on_clean, on_piece, source_none, source_more, source_end, source_fault}
use Rattle.run_words.specs.Reading.{SourceGave, AreClean}
use Rattle.run_words.specs.Stops.{More, EndAnswered, FaultAnswered}
use Rattle.tree_read.specs.declared.reading.DocumentEnd.{DocumentEnd}
use Rattle.tree_read.specs.declared.reading.DocumentEnd.TheVariants as end
use Rattle.tree_read.specs.Document.{EndsBy, Finds, ReadsBy}
use Rattle.tree_read.proofs.Documents.{none_at_start}

-- some pieces were read, and this holds of their bytes
pub record HasRead (Holds : List ℕ → Type 0) (a b : SourceView) (count : ℕ) : Type 0 where
  pub pieces : List (List ℕ)
  pub gave : SourceGave a b pieces More
  pub clean : AreClean full_limits pieces
  pub holds : Holds (joined pieces)
  pub counted : count ≤ length (joined pieces)

pub read_none : (H : List ℕ → Type 0) (a : SourceView) → H [] → HasRead H a a 0
read_none H a h = record {
  pieces = [];
  gave = source_none a;
  clean = clean_none full_limits (none_at_start full_limits);
  holds = h;
  counted = omega arith;
}

pub read_on : {E : Type 0} (H K : List ℕ → Type 0) (a b c : SourceView) (count n : ℕ) (buf : List ℕ)
    → ((bytes : List ℕ) → K bytes → FaultIs full_limits bytes false None) → (h : HasRead H a b count)
    → ReadsSource {E = E} b c (Ok n) buf → 1 ≤ n → n ≤ length buf → length buf ≡ 65536 → K (joined h.pieces ++ take n buf) → HasRead K a c (count + n)
read_on H K a b c count n buf sound h once some within size more =
    let long : length (take n buf) ≡ n = length-take-le n buf within in
    record {
      pieces = h.pieces ++ take n buf ∷ [];
      gave = source_more a b c h.pieces n buf h.gave once some within size;
      clean = clean_more full_limits h.pieces (take n buf) h.clean (omega (arith, long, within, size)) (sound _ more);
      holds = subst (λ (l : List ℕ). K l) (sym (joined_push h.pieces (take n buf))) more;
      counted = omega (arith, h.counted, ap length (joined_push h.pieces (take n buf)), length-append (joined h.pieces) (take n buf), long);
    }

-- ---- one read, told by the end that it comes to

pub got_as : {E U : Type 0} (a b : SourceView) (n : ℕ) (buf : List ℕ) → ReadsSource {E = E} a b (Ok n) buf → ReadsSource {E = U} a b (Ok n) buf
got_as a b n buf r = record { calls = r.calls; left = r.left; faults = record { later = r.faults.later; failed = r.faults.failed }; calm = r.calm }

pub failed_as : {E U : Type 0} (e : E) (u : U) (a b : SourceView) (buf : List ℕ) → ReadsSource {E = E} a b (Err e) buf → ReadsSource {E = U} a b (Err u) buf
failed_as e u a b buf r = record { calls = r.calls; left = r.left; faults = record { later = r.faults.later; failed = r.faults.failed }; calm = r.calm }

-- ---- the ends of the reading

pub stops_at_once : {T : Type 0} (Is : List ℕ → T → Type 0) (a : SourceView) → ReadsBy Is a a (Err end.Memory)
stops_at_once Is a = record {
  pieces = [];
  stop = More;
  gave = source_none a;
  reads_on = on_clean full_limits [] More (clean_none full_limits (none_at_start full_limits));
  finds = tt;
}

pub stops_at_fault : {E T : Type 0} (Is : List ℕ → T → Type 0) (H : List ℕ → Type 0) (a b c : SourceView) (count : ℕ) (e : E) (buf : List ℕ) → HasRead H a b count
    → ReadsSource {E = E} b c (Err e) buf → ReadsBy Is a c (Err end.Fault)
stops_at_fault Is H a b c count e buf h once = record {
  pieces = h.pieces;
  stop = FaultAnswered;
  gave = source_fault a b c h.pieces e buf h.gave once;
  reads_on = on_clean full_limits h.pieces FaultAnswered h.clean;
  finds = (refl, h.clean.clean);
}

found_at_end : {U : Type 0} (Is : List ℕ → U → Type 0) (T P : Type 0) (e : DocumentEnd) (pieces : List (List ℕ)) → EndsBy {T = T} true (joined pieces) (Err e) P
    → (e ≡ end.Fault → ⊥) → Finds Is (Err e) pieces EndAnswered
found_at_end Is T P (end.Refused f) pieces h never = (tt, h)
found_at_end Is T P end.Fault pieces h never = absurd (never refl)
found_at_end Is T P end.Memory pieces h never = tt

found_in_piece : {U : Type 0} (Is : List ℕ → U → Type 0) (T P : Type 0) (e : DocumentEnd) (pieces : List (List ℕ)) → EndsBy {T = T} false (joined pieces) (Err e) P
    → (e ≡ end.Fault → ⊥) → Finds Is (Err e) pieces More
found_in_piece Is T P (end.Refused f) pieces h never = (tt, h)
found_in_piece Is T P end.Fault pieces h never = absurd (never refl)
found_in_piece Is T P end.Memory pieces h never = tt

pub stops_in_end : {E U : Type 0} (T P : Type 0) (Is : List ℕ → U → Type 0) (H : List ℕ → Type 0) (a b c : SourceView) (count n : ℕ) (buf : List ℕ) (e : DocumentEnd)
    → (h : HasRead H a b count) → ReadsSource {E = E} b c (Ok n) buf → n ≡ 0 → length buf ≡ 65536
    → EndsBy {T = T} true (joined h.pieces) (Err e) P → (e ≡ end.Fault → ⊥) → ReadsBy Is a c (Err e)
stops_in_end T P Is H a b c count n buf e h once none size ends never = record {
  pieces = h.pieces;
  stop = EndAnswered;
  gave = source_end a b c h.pieces n buf h.gave once none size;
  reads_on = on_clean full_limits h.pieces EndAnswered h.clean;
  finds = found_at_end Is T P e h.pieces ends never;
}

pub ends_whole : {E U : Type 0} (Is : List ℕ → U → Type 0) (H : List ℕ → Type 0) (u : U) (a b c : SourceView) (count n : ℕ) (buf : List ℕ) → (h : HasRead H a b count)
    → ReadsSource {E = E} b c (Ok n) buf → n ≡ 0 → length buf ≡ 65536 → Is (joined h.pieces) u → ReadsBy Is a c (Ok u)
ends_whole Is H u a b c count n buf h once none size whole = record {
  pieces = h.pieces;
  stop = EndAnswered;
  gave = source_end a b c h.pieces n buf h.gave once none size;
  reads_on = on_clean full_limits h.pieces EndAnswered h.clean;
  finds = (refl, whole);
}

pub stops_in_piece : {E U : Type 0} (T P : Type 0) (Is : List ℕ → U → Type 0) (H : List ℕ → Type 0) (a b c : SourceView) (count n : ℕ) (buf : List ℕ) (e : DocumentEnd)
    → (h : HasRead H a b count) → ReadsSource {E = E} b c (Ok n) buf → 1 ≤ n → n ≤ length buf → length buf ≡ 65536
    → EndsBy {T = T} false (joined h.pieces ++ take n buf) (Err e) P → (e ≡ end.Fault → ⊥) → ReadsBy Is a c (Err e)
stops_in_piece T P Is H a b c count n buf e h once some within size ends never =
    let long : length (take n buf) ≡ n = length-take-le n buf within in
    record {
      pieces = h.pieces ++ take n buf ∷ [];
      stop = More;
      gave = source_more a b c h.pieces n buf h.gave once some within size;
      reads_on = on_piece full_limits h.pieces (take n buf) h.clean (omega (arith, long, within, size));
      finds = found_in_piece Is T P e (h.pieces ++ take n buf ∷ [])
          (subst (λ (l : List ℕ). EndsBy {T = T} false l (Err e) P) (sym (joined_push h.pieces (take n buf))) ends) never;
    }
