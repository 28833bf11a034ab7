-- The tokens of a query stand in order, each at its bytes.
use Rattle.std.proofs.Common.{ℕ, ◌≡◌, ◌+◌, ◌-◌, ◌≤◌, ◌<◌, List, [], ◌∷◌, ◌++◌, length, take, drop, refl, sym, ap, ◌∙◌, subst, arith, length-append, append_assoc}
use Rattle.std.specs.Prelude.{IsUtf8, slice_range}
use Rattle.std.specs.Str.{encode_utf8_all, chars}
use Rattle.std.proofs.Math.Seq.{drop-append_seam, take-append_seam}
use Rattle.std.proofs.lemmas.Str.{encodes-append, length-le-encodes, encodes-chars}
use Rattle.gcx_model.specs.declared.fault.QueryFault.{QueryFault}
use Rattle.gcx_model.specs.declared.fault.QueryFault.TheVariants.{Utf8, Lex, Syntax, UnknownVar, TagMismatch, DescendantNotLast, IntegerWide, TooLarge, Memory}
use Rattle.xq_lex.specs.declared.token.Tok.{Tok}
use Rattle.xq_lex.specs.Form.{form_chars}
use Rattle.xq_lex.specs.Gap.{Inside, nothing, char, nested, closed_chars, Gap, empty, white, comment, gap_chars}
use Rattle.xq_lex.specs.Lex.{Reads, ReadsAll, LexesAs, Lexes, LexFault, HasOnlyTokens, HasOnlyFault, HasSpan, AreInOrder}
use Rattle.gcx_model.specs.Refusals.{UnlessMemory}
use Rattle.xq_lex.proofs.LexemeLaws.{form_front, form_some}
use Rattle.xq_lex.specs.Steps.{IsStopped}
use Rattle.xq_lex.proofs.LexLaws.{fault_of}
use Rattle.xq_lex.proofs.OneReading.{tokens_once, tokens_or_fault, fault_once}

closed_front : (inner : Inside) (x rest : List ℕ) → closed_chars inner (x ++ rest) ≡ closed_chars inner x ++ rest
closed_front nothing x rest = refl
closed_front (char c more) x rest = ap (λ (y : List ℕ). c ∷ y) (closed_front more x rest)
closed_front (nested inner more) x rest =
    ap (λ (y : List ℕ). 40 ∷ 58 ∷ closed_chars inner y) (closed_front more x rest) ∙ ap (λ (y : List ℕ). 40 ∷ 58 ∷ y) (closed_front inner (closed_chars more x) rest)

gap_front : (g : Gap) (rest : List ℕ) → gap_chars g rest ≡ gap_chars g [] ++ rest
gap_front empty rest = refl
gap_front (white c more) rest = ap (λ (y : List ℕ). c ∷ y) (gap_front more rest)
gap_front (comment inner more) rest =
    ap (λ (y : List ℕ). 40 ∷ 58 ∷ closed_chars inner y) (gap_front more rest) ∙ ap (λ (y : List ℕ). 40 ∷ 58 ∷ y) (closed_front inner (gap_chars more []) rest)

abbrev size : List ℕ → ℕ
size cs = length (encode_utf8_all cs)

size-append : (a b : List ℕ) → size (a ++ b) ≡ size a + size b
size-append a b = ap length (encodes-append a b) ∙ length-append (encode_utf8_all a) (encode_utf8_all b)

-- the bytes of a part of the text
part_bytes : (a f r : List ℕ) (from to : ℕ) → from ≡ size a → to ≡ size a + size f → slice_range (encode_utf8_all (a ++ (f ++ r))) from to ≡ encode_utf8_all f
part_bytes a f r from to e h =
    let all : encode_utf8_all (a ++ (f ++ r)) ≡ encode_utf8_all a ++ (encode_utf8_all f ++ encode_utf8_all r) =
    encodes-append a (f ++ r) ∙ ap (λ (x : List ℕ). encode_utf8_all a ++ x) (encodes-append f r) in
    let count : to - from ≡ size f = omega arith in
    (λ i. take (count i) (drop (e i) (all i)))
    ∙ (ap (λ (x : List ℕ). take (size f) x) (drop-append_seam (encode_utf8_all a) (encode_utf8_all f ++ encode_utf8_all r))
    ∙ take-append_seam (encode_utf8_all f) (encode_utf8_all r))

-- what is known of one token behind these characters
record Stands (whole before text rest : List ℕ) (t : Tok) : Type 0 where
  here : size before ≤ t.from
  some : t.from < t.to
  span : HasSpan (encode_utf8_all whole) t
  after : List ℕ
  parts : whole ≡ after ++ rest
  ends : size after ≡ t.to

stands : (whole before text rest : List ℕ) (t : Tok) → whole ≡ before ++ text → Reads (size whole) text t rest → Stands whole before text rest t
stands whole before text rest t e r = record {
  here = omega (arith, from, size-append before gap);
  some = omega (arith, from, to, form_some r.form rest r.begins.good, length-le-encodes form);
  span = record {
    form = r.form;
    kind = r.kind;
    span = subst (λ (x : List ℕ). slice_range (encode_utf8_all x) t.from t.to ≡ encode_utf8_all form) (sym parts) (part_bytes (before ++ gap) form rest t.from t.to from to);
  };
  after = (before ++ gap) ++ form;
  parts = parts ∙ sym (append_assoc (before ++ gap) form rest);
  ends = size-append (before ++ gap) form ∙ sym to;
}
  where
    gap : List ℕ
    gap = gap_chars r.gap.gap []

    form : List ℕ
    form = form_chars r.form []

    behind : r.behind_gap ≡ form ++ rest
    behind = r.begins.chars ∙ form_front r.form rest

    parts : whole ≡ (before ++ gap) ++ (form ++ rest)
    parts = e ∙ (ap (λ (x : List ℕ). before ++ x) (r.gap.chars ∙ (gap_front r.gap.gap r.behind_gap ∙ ap (λ (x : List ℕ). gap ++ x) behind)) ∙ sym (append_assoc before gap (form ++ rest)))

    total : size whole ≡ size (before ++ gap) + (size form + size rest)
    total = ap size parts ∙ (size-append (before ++ gap) (form ++ rest) ∙ ap (λ n. size (before ++ gap) + n) (size-append form rest))

    from : t.from ≡ size (before ++ gap)
    from = omega (arith, r.from, total, ap size behind, size-append form rest)

    to : t.to ≡ size (before ++ gap) + size form
    to = omega (arith, r.to, total)

in_order : (whole before text rest : List ℕ) (ts : List Tok) → whole ≡ before ++ text → ReadsAll (size whole) text ts rest → AreInOrder (encode_utf8_all whole) (size before) ts
in_order whole before text rest [] e r = omega (arith, ap size e, size-append before text)
in_order whole before text rest (t ∷ ts) e (middle, (one, more)) =
    let s : Stands whole before text middle t = stands whole before text middle t e one in
    (s.here, s.some, s.span, subst (λ (n : ℕ). AreInOrder (encode_utf8_all whole) n ts) s.ends (in_order whole s.after middle rest ts s.parts more))

pub tokens_in_order : (bytes : List ℕ) (ts : List Tok) → Lexes bytes ts → AreInOrder bytes 0 ts
tokens_in_order bytes ts l =
    subst (λ (x : List ℕ). AreInOrder x 0 ts) (encodes-chars bytes l.utf8) (in_order (chars bytes) [] (chars bytes) l.holds.rest ts refl l.holds.reads)

pub only_tokens : (bytes : List ℕ) (ts : List Tok) → Lexes bytes ts → HasOnlyTokens bytes ts
only_tokens bytes ts l = record { once = λ others o. tokens_once bytes others ts o l; no_fault = λ fault f. tokens_or_fault bytes ts fault l f }

pub only_fault : (bytes : List ℕ) (fault : QueryFault) → LexFault bytes fault → HasOnlyFault bytes fault
only_fault bytes fault f = record { once = λ other o. fault_once bytes other fault o f; no_tokens = λ ts l. tokens_or_fault bytes ts fault l f }

pub only_unless : (bytes : List ℕ) (fault : QueryFault) → UnlessMemory (LexFault bytes) fault → UnlessMemory (HasOnlyFault bytes) fault
only_unless bytes (TooLarge what limit) f = only_fault bytes (TooLarge what limit) f
only_unless bytes (Utf8 at) f = only_fault bytes (Utf8 at) f
only_unless bytes (Lex at) f = only_fault bytes (Lex at) f
only_unless bytes (IntegerWide at) f = only_fault bytes (IntegerWide at) f
only_unless bytes (Syntax at) f = absurd f
only_unless bytes (UnknownVar at) f = absurd f
only_unless bytes (TagMismatch at) f = absurd f
only_unless bytes (DescendantNotLast at) f = absurd f
only_unless bytes Memory f = tt

-- of the bytes, where these are their characters
pub lexes_bytes : (bytes cs : List ℕ) (ts : List Tok) → length bytes ≤ 1048576 → IsUtf8 bytes → cs ≡ chars bytes → LexesAs cs ts → Lexes bytes ts
lexes_bytes bytes cs ts h u e l = record { short = h; utf8 = u; holds = subst (λ (x : List ℕ). LexesAs x ts) e l }

pub only_stopped : (bytes cs : List ℕ) (fault : QueryFault) → length bytes ≤ 1048576 → IsUtf8 bytes → cs ≡ chars bytes → IsStopped cs fault → UnlessMemory (HasOnlyFault bytes) fault
only_stopped bytes cs fault h u e s = only_unless bytes fault (fault_of bytes fault h u (subst (λ (x : List ℕ). IsStopped x fault) e s))
