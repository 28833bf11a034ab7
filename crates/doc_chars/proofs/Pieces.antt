-- Carried bytes and a piece.
use Rattle.std.proofs.Common.{◌≡◌, ◌++◌, [], ◌<◌, ◌≤◌, ◌+◌, ◌-◌, ℕ, List, length, take, drop, true, refl, sym, ap, subst, ◌∙◌, append-nil, arith, length-append, append_assoc, Some, take_all, take_at, inl, inr, length-drop, length-take, take-append-drop, drop-drop}
use Rattle.std.specs.Prelude.{Option, MatchOption, slice_range, min}
use Rattle.std.specs.Char.{encode_utf8}
use Rattle.std.proofs.Math.Seq.{take-append-add}
use Rattle.std.proofs.lemmas.List.{take-append-le}
use Rattle.std.proofs.lemmas.Bool.{cases_lt}
use Rattle.std.proofs.lemmas.Slice.{take-put_mid}
use borrow.Rule.Slice.PartMut.{put_mid}
use Rattle.std.proofs.lemmas.Str.{encode_same}
use Rattle.gcx_base.specs.Characters.{is_char}
use Rattle.doc_chars.specs.declared.scan.First.{First}
use Rattle.doc_chars.specs.declared.scan.First.TheVariants.{Whole, Bad, Front}
use Rattle.doc_chars.specs.declared.scan.Cause.{Cause}
use Rattle.doc_chars.specs.declared.cut.Cut.{Cut}
use Rattle.doc_chars.specs.Stream.{IsCharFront, still_carried}
use Rattle.doc_chars.specs.Scan.{AreChars, BeginsWith, Ends, Scanned}
use Rattle.doc_chars.specs.Cut.{IsCut}
use Rattle.doc_chars.proofs.Bytes.{front_short, encode_short}
use Rattle.doc_chars.proofs.Fronts.{begins_front}

-- four bytes tell what bytes begin with
pub begins_whole : (f : First) (s : List ℕ) → BeginsWith f (take 4 s) → BeginsWith f s
begins_whole (Whole c) s (rest, is, scalar) = (rest ++ drop 4 s, begins_front s (take 4 s) 4 c rest refl is, scalar)
begins_whole Bad s w = record {
  no_char = λ c rest scalar e.
      let short = encode_short c scalar in
      let k : ℕ = 4 - length (encode_utf8 c) in
      let n : 4 ≡ length (encode_utf8 c) + k = omega arith in
      w.no_char c (take k rest) scalar (ap (take 4) e ∙ ap (λ m. take m (encode_utf8 c ++ rest)) n ∙ take-append-add (encode_utf8 c) rest k);
  no_front = λ f. let short = front_short s f in w.no_front (subst IsCharFront (sym (take_all 4 s (omega arith))) f);
}
begins_whole Front s f =
    let short = front_short (take 4 s) f in
    subst IsCharFront (take_all 4 s (omega (arith, length-take 4 s))) f

take_less : (k n : ℕ) (xs : List ℕ) → k ≡ min (length xs) n → take k xs ≡ take n xs
take_less k n xs e = elim (cases_lt n (length xs)) [
  | inl a ↦ (let is : k ≡ n = omega arith in ap (λ m. take m xs) is)
  | inr a ↦ take_all k xs (omega arith) ∙ sym (take_all n xs a)
]

front_joined : (carried piece : List ℕ) (k : ℕ) → length carried ≤ 4 → k ≡ min (length piece) (4 - length carried) → carried ++ take k piece ≡ take 4 (carried ++ piece)
front_joined carried piece k short e =
    let n : 4 ≡ length carried + (4 - length carried) = omega arith in
    ap (λ t. carried ++ t) (take_less k (4 - length carried) piece e) ∙ sym (ap (λ m. take m (carried ++ piece)) n ∙ take-append-add carried piece (4 - length carried))

-- the bytes after both were copied in
pub joined_bytes : (carried piece first second zeros : List ℕ) (k n : ℕ) → first ≡ carried → second ≡ take k piece → k ≡ min (length piece) (4 - length carried) → length carried ≤ 4
    → take (length carried + k) (put_mid (length carried) n (first ++ zeros) second) ≡ take 4 (carried ++ piece)
joined_bytes carried piece first second zeros k n one two e short =
    let size : length second ≡ k = ap length two ∙ length-take k piece ∙ omega arith in
    let whole : length carried ≤ length (first ++ zeros) = omega (arith, length-append first zeros, ap length one) in
    take-put_mid (length carried) n (first ++ zeros) second (length carried + k) (omega arith) whole
    ∙ ap (λ t. t ++ second) (take_at first zeros (length carried) (ap length one) ∙ one)
    ∙ ap (λ t. carried ++ t) two
    ∙ front_joined carried piece k short e

-- ---- the carried character

-- a character that begins with carried bytes is longer than they are
pub longer : (carried piece rest : List ℕ) (c : ℕ) → IsCharFront carried → carried ++ piece ≡ encode_utf8 c ++ rest → length carried < length (encode_utf8 c)
longer carried piece rest c f is = elim (cases_lt (length carried) (length (encode_utf8 c))) [
  | inl a ↦ a
  | inr a ↦ absurd (
      let n = length (encode_utf8 c) in
      let front : take n carried ≡ encode_utf8 c = sym (take-append-le n carried piece a) ∙ ap (take n) is ∙ take_at (encode_utf8 c) rest n refl in
      let whole : carried ≡ encode_utf8 c ++ drop n carried = sym (take-append-drop n carried) ∙ ap (λ t. t ++ drop n carried) front in
      let same : encode_utf8 f.c ++ [] ≡ encode_utf8 c ++ (drop n carried ++ f.rest) =
      append-nil (encode_utf8 f.c) ∙ f.bytes ∙ ap (λ t. t ++ f.rest) whole ∙ append_assoc (encode_utf8 c) (drop n carried) f.rest in
      let none = ap length (encode_same f.c c [] (drop n carried ++ f.rest) same).1 in
      let some = f.more in
      omega (arith, none, length-append (drop n carried) f.rest))
]

pub completed : (carried piece rest : List ℕ) (c : ℕ) → IsCharFront carried → carried ++ piece ≡ encode_utf8 c ++ rest
    → encode_utf8 c ≡ carried ++ take (length (encode_utf8 c) - length carried) piece
completed carried piece rest c f is =
    let long = longer carried piece rest c f is in
    let k = length (encode_utf8 c) - length carried in
    let n : length (encode_utf8 c) ≡ length carried + k = omega arith in
    sym (take_at (encode_utf8 c) rest (length (encode_utf8 c)) refl) ∙ ap (take (length (encode_utf8 c))) (sym is)
    ∙ ap (λ m. take m (carried ++ piece)) n ∙ take-append-add carried piece k

pub completed_within : (carried piece rest : List ℕ) (c : ℕ) → carried ++ piece ≡ encode_utf8 c ++ rest → length (encode_utf8 c) - length carried ≤ length piece
completed_within carried piece rest c is = omega (arith, ap length is, length-append carried piece, length-append (encode_utf8 c) rest)

-- ---- a cut piece

ends_at : (piece : List ℕ) (used whole : ℕ) (cause : Option Cause) → used ≤ whole → Ends cause (drop (whole - used) (drop used piece)) → Ends cause (drop whole piece)
ends_at piece used whole cause in_order e =
    let n : used + (whole - used) ≡ whole = omega arith in
    subst (Ends cause) (drop-drop (whole - used) used piece ∙ ap (λ m. drop m piece) n) e

pub cut_done : (carried piece : List ℕ) (cut : Cut) (c used : ℕ) → cut.first ≡ Some c → cut.used ≡ used → used ≤ length piece → used ≤ cut.whole → Scanned (drop used piece) (cut.whole - used) cut.cause
    → 0 < length carried → encode_utf8 c ≡ carried ++ take used piece → is_char c ≡ true → IsCut carried piece cut
cut_done carried piece cut c used one two fits in_order s some bytes char =
    let within = s.within in
    record {
      in_order = omega arith;
      within = omega (arith, length-drop used piece);
      first = subst (λ (o : Option ℕ). MatchOption o ((cut.used ≡ 0) × (0 < length carried → cut.whole ≡ 0)) (λ d. (0 < length carried) × (encode_utf8 d ≡ carried ++ take cut.used piece) × (is_char d ≡ true))) (sym one)
          (some, bytes ∙ ap (λ n. carried ++ take n piece) (sym two), char);
      chars = subst (λ n. AreChars (slice_range piece n cut.whole)) (sym two) s.chars;
      ends = subst (λ (o : Option ℕ). Ends cut.cause (still_carried o carried ++ drop cut.whole piece)) (sym one) (ends_at piece used cut.whole cut.cause in_order s.ends);
    }
