-- A trace beside a text, piece by piece.
use Rattle.std.proofs.Common.{◌≡◌, ℕ, suc, All, ◌+◌, ◌-◌, ◌<◌, ◌≤◌, true, false, List, [], ◌∷◌, ◌++◌, length, take, drop, get_or, Ok, Err, refl, sym, ◌∙◌, ap, subst, inl, inr, arith, length-append, append_assoc, append-nil}
use Rattle.std.specs.Prelude.{◌≢◌}
use Rattle.std.proofs.lemmas.Bool.{cases_lt}
use Rattle.std.proofs.lemmas.List.Elements.{All-push}
use Rattle.std.proofs.lemmas.List.{get_or_append_left, get_or-append-add, get_or-drop, length-take-le, length-drop, take-append-drop, take_all, same_from_push}
use Rattle.std.proofs.Math.Seq.{take-add}
use Rattle.gcx_model.specs.Demand.{Line}
use Rattle.gcx_io.proofs.Written.{joined_push}
use Rattle.gcx_io.specs.Calls.{ReadsSource}
use Rattle.gcx_io.specs.Views.{SourceView}
use Rattle.gcx_io.specs.Writing.{joined}
use Rattle.run_words.proofs.Sourcing.{source_more, source_end, source_fault}
use Rattle.run_words.specs.Reading.{IsShort, SourceGave}
use Rattle.run_words.specs.Stops.{More, EndAnswered, FaultAnswered, is_end}
use Rattle.time_laws.specs.Checking.{Yes, No, IsFront, Judges, LineEnds, fitted, line_ends}
use Rattle.trace_check.specs.Judging.{IsInCommon, JudgesSource, StopsBy, answer_in}
use Rattle.trace_check.specs.Telling.{Puts}
use Rattle.trace_check.specs.declared.checked.Checked.{Checked}
use Rattle.trace_check.specs.declared.checked.Checked.TheVariants as checked

-- ---- fronts

pub front_take : (k : ℕ) (text : List ℕ) → IsFront (take k text) text
front_take k text = (drop k text, sym (take-append-drop k text))

front_at : (c t : List ℕ) (k : ℕ) → IsFront c t → k < length c → get_or t k 0 ≡ get_or c k 0
front_at c t k f l = ap (λ (x : List ℕ). get_or x k 0) f.1 ∙ get_or_append_left c f.0 0 k l

front_long : (c t : List ℕ) → IsFront c t → length c ≤ length t
front_long c t f = let e = ap length f.1 ∙ length-append c f.0 in omega (arith, e)

-- where the two differ, or one of them ends, no longer front is common
pub no_longer : (text given : List ℕ) (k : ℕ) → (k < length text → k < length given → get_or text k 0 ≢ get_or given k 0) → (c : List ℕ) → IsFront c text → IsFront c given → length c ≤ k
no_longer text given k apart c f g = elim (cases_lt k (length c)) [
  | inl l ↦ absurd (apart (let a = front_long c text f in omega (arith, a, l)) (let b = front_long c given g in omega (arith, b, l)) (front_at c text k f l ∙ sym (front_at c given k g l)))
  | inr l ↦ l
]

same_text : (t : List ℕ) → IsFront t t
same_text t = ([], sym (append-nil t))

-- ---- behind so much of the text

pub behind : (at : ℕ) (text : List ℕ) → take (length text - at) (drop at text) ≡ drop at text
behind at text = take_all (length text - at) (drop at text) (omega (arith, length-drop at text))

-- the trace ended before the text did
pub ends_no : (text : List ℕ) (at : ℕ) → at < length text → Judges text (No (fitted (suc (line_ends (take at text))))) (take at text) true
ends_no text at l =
    let long : length (take at text) ≡ at = length-take-le at text (omega (arith, l)) in (
      inr (refl, front_take at text, λ e. let f = ap length e in omega (arith, f, long, l)),
      (
        take at text,
        record {
          of_text = front_take at text;
          of_given = same_text (take at text);
          longest = λ c f g. let n = no_longer text (take at text) at (λ a b. absurd (omega (arith, b, long))) c f g in omega (arith, n, long);
        },
        refl,
      ),
    )

-- the trace ended where the text did
pub ends_yes : (text : List ℕ) (at : ℕ) → at ≡ length text → Judges text (Yes (fitted (line_ends text))) (take at text) true
ends_yes text at e = (refl, take_all at text (omega (arith, e)), refl)

-- So far the trace is a front of the text.
pub record HasCompared (text : List ℕ) (a b : SourceView) (at : ℕ) : Type 0 where
  pub pieces : List (List ℕ)
  pub gave : SourceGave a b pieces More
  pub short : All IsShort pieces
  pub given : joined pieces ≡ take at text
  pub within : at ≤ length text
  pub earlier : (before : List (List ℕ)) (last : List ℕ) → pieces ≡ before ++ last ∷ [] → IsFront (joined before) text

-- the pieces before the last one are a front
fronts_on : (text : List ℕ) (at : ℕ) (ps : List (List ℕ)) (p : List ℕ) → joined ps ≡ take at text
    → (before : List (List ℕ)) (last : List ℕ) → ps ++ p ∷ [] ≡ before ++ last ∷ [] → IsFront (joined before) text
fronts_on text at ps p given before last e =
    subst (λ (l : List (List ℕ)). IsFront (joined l) text) (same_from_push ps before p last e).0 (subst (λ (l : List ℕ). IsFront l text) (sym given) (front_take at text))

pub compared_on : {E : Type 0} (text : List ℕ) (a b c : SourceView) (at n : ℕ) (buf : List ℕ) → (h : HasCompared text a b at) → ReadsSource {E = E} b c (Ok n) buf
    → 1 ≤ n → n ≤ length buf → length buf ≡ 65536 → (i : IsInCommon (drop at text) (take n buf) n) → HasCompared text a c (at + n)
compared_on text a b c at n buf h once some within size i =
    let long : length (take n buf) ≡ n = length-take-le n buf within in
    let rest : length (drop at text) ≡ length text - at = length-drop at text in
    record {
      pieces = h.pieces ++ take n buf ∷ [];
      gave = source_more a b c h.pieces n buf h.gave once some within size;
      short = All-push IsShort h.pieces (take n buf) h.short (omega (arith, long, within, size));
      given = joined_push h.pieces (take n buf) ∙ (ap (λ (l : List ℕ). l ++ take n buf) h.given
          ∙ (ap (λ (l : List ℕ). take at text ++ l) (sym (i.same ∙ take_all n (take n buf) (omega (arith, long)))) ∙ sym (take-add at n text)));
      within = omega (arith, i.within_left, rest, h.within);
      earlier = fronts_on text at h.pieces (take n buf) h.given;
    }

-- ---- the ends of the reading

pub differs_here : {E : Type 0} (text : List ℕ) (a b c : SourceView) (at n same : ℕ) (buf : List ℕ) → HasCompared text a b at → ReadsSource {E = E} b c (Ok n) buf → 1 ≤ n → n ≤ length buf → length buf ≡ 65536
    → IsInCommon (drop at text) (take n buf) same → same < n → JudgesSource text (checked.No (fitted (suc (line_ends (take (at + same) text))))) a c
differs_here text a b c at n same buf h once some within size i less =
    let piece : List ℕ = take n buf in
    let given : List ℕ = take at text ++ piece in
    let long : length (take at text) ≡ at = length-take-le at text h.within in
    let given_is : joined (h.pieces ++ piece ∷ []) ≡ given = joined_push h.pieces piece ∙ ap (λ (l : List ℕ). l ++ piece) h.given in
    let whole : length given ≡ at + n = omega (arith, length-append (take at text) piece, long, length-take-le n buf within) in
    let text_at : get_or text (at + same) 0 ≡ get_or (drop at text) same 0 = sym (get_or-drop at text same 0) in
    let given_at : get_or given (at + same) 0 ≡ get_or piece same 0 = ap (λ (k : ℕ). get_or given (k + same) 0) (sym long) ∙ get_or-append-add (take at text) piece same 0 in
    let apart : at + same < length text → at + same < length given → get_or text (at + same) 0 ≢ get_or given (at + same) 0
    = λ x y e. i.apart (omega (arith, x, length-drop at text, h.within)) (omega (arith, less, length-take-le n buf within)) (sym text_at ∙ (e ∙ given_at)) in
    let front : IsFront (take (at + same) text) given
    = (
      drop same piece,
      ap (λ (l : List ℕ). take at text ++ l) (sym (take-append-drop same piece) ∙ ap (λ (l : List ℕ). l ++ drop same piece) (sym i.same))
          ∙ (sym (append_assoc (take at text) (take same (drop at text)) (drop same piece)) ∙ ap (λ (l : List ℕ). l ++ drop same piece) (sym (take-add at same text))),
    ) in
    let reach : length (take (at + same) text) ≡ at + same = length-take-le (at + same) text (omega (arith, i.within_left, length-drop at text, h.within)) in
    record {
      pieces = h.pieces ++ piece ∷ [];
      stop = More;
      gave = source_more a b c h.pieces n buf h.gave once some within size;
      short = All-push IsShort h.pieces piece h.short (omega (arith, length-take-le n buf within, within, size));
      earlier = fronts_on text at h.pieces piece h.given;
      stops = tt;
      judged = subst (λ (l : List ℕ). Judges text (No (fitted (suc (line_ends (take (at + same) text))))) l false) (sym given_is) (
        inl (λ f. let k = no_longer text given (at + same) apart given f (same_text given) in omega (arith, k, whole, less)),
        (
          take (at + same) text,
          record {
            of_text = front_take (at + same) text;
            of_given = front;
            longest = λ d f g. let k = no_longer text given (at + same) apart d f g in omega (arith, k, reach);
          },
          refl,
        ),
      );
    }

no_more : EndAnswered ≡ More → ⊥
no_more e = cc

stops_so : (r : Checked) (ps : List (List ℕ)) → StopsBy r [] EndAnswered → StopsBy r ps EndAnswered
stops_so (checked.Yes lines) ps s = s
stops_so (checked.No line) ps s = s
stops_so checked.ReadFault ps s = s
stops_so checked.Memory ps s = absurd (no_more s.1)

pub ends_here : {E : Type 0} (text : List ℕ) (a b c : SourceView) (at n : ℕ) (buf : List ℕ) (r : Checked) → HasCompared text a b at → ReadsSource {E = E} b c (Ok n) buf
    → n ≡ 0 → length buf ≡ 65536 → StopsBy r [] EndAnswered → Judges text (answer_in r) (take at text) true → JudgesSource text r a c
ends_here text a b c at n buf r h once none size stops judged = record {
  pieces = h.pieces;
  stop = EndAnswered;
  gave = source_end a b c h.pieces n buf h.gave once none size;
  short = h.short;
  earlier = h.earlier;
  stops = stops_so r h.pieces stops;
  judged = subst (λ (l : List ℕ). Judges text (answer_in r) l true) (sym h.given) judged;
}

pub fails_here : {E : Type 0} (text : List ℕ) (a b c : SourceView) (at : ℕ) (e : E) (buf : List ℕ) → HasCompared text a b at → ReadsSource {E = E} b c (Err e) buf → JudgesSource text checked.ReadFault a c
fails_here text a b c at e buf h once = record {
  pieces = h.pieces;
  stop = FaultAnswered;
  gave = source_fault a b c h.pieces e buf h.gave once;
  short = h.short;
  earlier = h.earlier;
  stops = refl;
  judged = (refl, subst (λ (l : List ℕ). IsFront l text) (sym h.given) (front_take at text));
}

-- ---- a text of lines

-- yes comes with the number of the lines
pub yes_lines : LineEnds → (lines : List Line) (text : List ℕ) (r : Checked) (a b : SourceView) → Puts [] text lines → JudgesSource text r a b
    → (l : ℕ) → r ≡ checked.Yes l → l ≡ fitted (length lines)
yes_lines law lines text r a b p j l e =
    let judged : Judges text (Yes l) (joined j.pieces) (is_end j.stop) = subst (λ (x : Checked). Judges text (answer_in x) (joined j.pieces) (is_end j.stop)) e j.judged in
    judged.2 ∙ ap fitted (ap line_ends p.text ∙ law lines p.plain)
