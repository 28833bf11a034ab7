-- A piece more of a stream.
use Rattle.std.proofs.Common.{◌≡◌, ◌++◌, ◌∷◌, [], ◌&&◌, ◌<◌, ◌≤◌, ◌+◌, ◌-◌, ℕ, List, length, take, drop, true, refl, sym, ap, subst, ◌∙◌, arith, length-append, length-drop, length-take, append_assoc, None, Some, take-append-drop, drop-drop}
use Rattle.std.specs.Prelude.{Option, MatchOption, slice_range, IsUtf8}
use Rattle.std.specs.List.{list_all}
use Rattle.std.specs.Char.{IsScalar, encode_utf8}
use Rattle.std.specs.Str.{encode_utf8_all, all_scalars, chars}
use Rattle.std.proofs.lemmas.List.{take_rest}
use Rattle.std.proofs.lemmas.List.Folds.{list_all-append}
use Rattle.std.proofs.lemmas.Bool.{and_parts}
use Rattle.std.proofs.lemmas.Bool.Decides.{nat_tests}
use Rattle.std.proofs.lemmas.Str.{encodes-append, chars-encodes}
use Rattle.gcx_base.specs.Characters.{is_char}
use Rattle.doc_chars.specs.declared.scan.Cause.{Cause}
use Rattle.doc_chars.specs.declared.scan.Cause.TheVariants.{NotUtf8, NotChar}
use Rattle.doc_chars.specs.declared.cut.Cut.{Cut}
use Rattle.doc_chars.specs.Stream.{IsCharFront, Carry, StandsFor, Breaks, IsFaultAt, optional, still_carried}
use Rattle.doc_chars.specs.Scan.{AreChars, Ends}
use Rattle.doc_chars.specs.Cut.{IsCut}
use Rattle.doc_chars.specs.Carried.{fault_of}

-- ---- Chars are characters

pub char_scalar : (c : ℕ) → is_char c ≡ true → IsScalar c
char_scalar c h = grind (arith, nat_tests)

pub scalars_of : (cs : List ℕ) → list_all is_char cs ≡ true → all_scalars cs ≡ true
scalars_of [] h = refl
scalars_of (c ∷ cs) h =
    let parts = and_parts (is_char c) (list_all is_char cs) h in
    (λ i. char_scalar c parts.0 i && scalars_of cs parts.1 i)

pub are_text : (bs : List ℕ) → AreChars bs → IsUtf8 bs
are_text bs h = (h.cs, (scalars_of h.cs h.chars, h.bytes))

chars_are : (bs : List ℕ) (h : AreChars bs) → h.cs ≡ chars bs
chars_are bs h = sym (chars-encodes h.cs (scalars_of h.cs h.chars)) ∙ ap chars h.bytes

pub all_append : (cs ds : List ℕ) → list_all is_char cs ≡ true → list_all is_char ds ≡ true → list_all is_char (cs ++ ds) ≡ true
all_append cs ds h k = list_all-append is_char cs ds ∙ (λ i. h i && k i)

-- ---- what a cut gives

abbrev FirstOf : List ℕ → List ℕ → Option ℕ → ℕ → ℕ → Type 0
FirstOf carried piece first used whole = MatchOption first ((used ≡ 0) × (0 < length carried → whole ≡ 0))
    (λ c. (0 < length carried) × (encode_utf8 c ≡ carried ++ take used piece) × (is_char c ≡ true))

slice_at_start : (piece : List ℕ) (used whole : ℕ) → used ≡ 0 → slice_range piece used whole ≡ take whole piece
slice_at_start piece used whole zero =
    let n : whole - 0 ≡ whole = omega arith in
    ap (λ m. take (whole - m) (drop m piece)) zero ∙ ap (λ m. take m piece) n

slice_and_rest : (piece : List ℕ) (used whole : ℕ) → used ≤ whole → drop used piece ≡ slice_range piece used whole ++ drop whole piece
slice_and_rest piece used whole h =
    let n : used + (whole - used) ≡ whole = omega arith in
    sym (take-append-drop (whole - used) (drop used piece))
    ∙ ap (λ t. slice_range piece used whole ++ t) (drop-drop (whole - used) used piece ∙ ap (λ m. drop m piece) n)

parts_of : (carried piece : List ℕ) (first : Option ℕ) (used whole : ℕ) (ds : List ℕ) → FirstOf carried piece first used whole → used ≤ whole → encode_utf8_all ds ≡ slice_range piece used whole
    → carried ++ piece ≡ encode_utf8_all (optional first ++ ds) ++ (still_carried first carried ++ drop whole piece)
parts_of [] piece None used whole ds (zero, none) in_order bytes =
    sym (take-append-drop whole piece) ∙ ap (λ t. t ++ drop whole piece) (sym (bytes ∙ slice_at_start piece used whole zero))
parts_of (x ∷ carried) piece None used whole ds (zero, none) in_order bytes =
    let nothing : whole ≡ 0 = none (omega arith) in
    let empty : encode_utf8_all ds ≡ [] = bytes ∙ slice_at_start piece used whole zero ∙ ap (λ n. take n piece) nothing in
    ap (λ n. (x ∷ carried) ++ drop n piece) (sym nothing) ∙ ap (λ t. t ++ ((x ∷ carried) ++ drop whole piece)) (sym empty)
parts_of carried piece (Some c) used whole ds (some, first, char) in_order bytes =
    ap (λ t. carried ++ t) (sym (take-append-drop used piece))
    ∙ sym (append_assoc carried (take used piece) (drop used piece))
    ∙ (λ i. sym first i ++ slice_and_rest piece used whole in_order i)
    ∙ ap (λ t. encode_utf8 c ++ (t ++ drop whole piece)) (sym bytes)
    ∙ sym (append_assoc (encode_utf8 c) (encode_utf8_all ds) (drop whole piece))

all_of : (carried piece : List ℕ) (first : Option ℕ) (used whole : ℕ) (ds : List ℕ) → FirstOf carried piece first used whole → list_all is_char ds ≡ true → list_all is_char (optional first ++ ds) ≡ true
all_of carried piece None used whole ds f h = h
all_of carried piece (Some c) used whole ds (some, first, char) h = λ i. char i && h i

-- the characters that a cut gives
abbrev pub cut_given : List ℕ → Cut → List ℕ
cut_given piece cut = optional cut.first ++ chars (slice_range piece cut.used cut.whole)

-- the bytes that it leaves
abbrev pub cut_left : List ℕ → List ℕ → Cut → List ℕ
cut_left carried piece cut = still_carried cut.first carried ++ drop cut.whole piece

pub given_bytes : (carried piece : List ℕ) (cut : Cut) → IsCut carried piece cut → carried ++ piece ≡ encode_utf8_all (cut_given piece cut) ++ cut_left carried piece cut
given_bytes carried piece cut h =
    let ds = h.chars.cs in
    parts_of carried piece cut.first cut.used cut.whole ds h.first h.in_order h.chars.bytes
    ∙ ap (λ l. encode_utf8_all (optional cut.first ++ l) ++ cut_left carried piece cut) (chars_are _ h.chars)

pub given_chars : (carried piece : List ℕ) (cut : Cut) → IsCut carried piece cut → list_all is_char (cut_given piece cut) ≡ true
given_chars carried piece cut h =
    subst (λ l. list_all is_char (optional cut.first ++ l) ≡ true) (chars_are _ h.chars) (all_of carried piece cut.first cut.used cut.whole h.chars.cs h.first h.chars.chars)

pub left_front : (carried piece : List ℕ) (cut : Cut) → IsCut carried piece cut → cut.cause ≡ None → IsCharFront (cut_left carried piece cut)
left_front carried piece cut h none = subst (λ (o : Option Cause). Ends o (cut_left carried piece cut)) none h.ends

-- ---- the stream with the piece

pub still_within : (first : Option ℕ) (bytes : List ℕ) → length (still_carried first bytes) ≤ length bytes
still_within None bytes = omega arith
still_within (Some c) bytes = omega arith

-- the bytes that are kept
pub kept_bytes : (first : Option ℕ) (kept count : ℕ) (bytes : List ℕ) → MatchOption first (kept ≡ count) (λ _. kept ≡ 0) → take kept bytes ≡ still_carried first (take count bytes)
kept_bytes None kept count bytes e = ap (λ n. take n bytes) e
kept_bytes (Some c) kept count bytes e = ap (λ n. take n bytes) e

-- the bytes that are left, as they are kept
pub left_bytes : (cut : Cut) (piece bytes kept_now : List ℕ) (kept count : ℕ) → MatchOption cut.first (kept ≡ count) (λ _. kept ≡ 0)
    → kept_now ≡ take kept bytes ++ take (length piece - cut.whole) (drop cut.whole piece) → kept_now ≡ cut_left (take count bytes) piece cut
left_bytes cut piece bytes kept_now kept count e is =
    is ∙ (λ i. kept_bytes cut.first kept count bytes e i ++ take_rest piece cut.whole i)

pub kept_count : (first : Option ℕ) (kept count : ℕ) (bytes : List ℕ) → MatchOption first (kept ≡ count) (λ _. kept ≡ 0) → count ≤ length bytes → length (still_carried first (take count bytes)) ≡ kept
kept_count None kept count bytes e fits = length-take count bytes ∙ omega arith
kept_count (Some c) kept count bytes e fits = sym e

pub kept_below : (first : Option ℕ) (kept count : ℕ) → MatchOption first (kept ≡ count) (λ _. kept ≡ 0) → kept ≤ count
kept_below None kept count e = omega arith
kept_below (Some c) kept count e = omega arith

pub stream_bytes : (b cs carried piece gs tail : List ℕ) → b ≡ encode_utf8_all cs ++ carried → carried ++ piece ≡ encode_utf8_all gs ++ tail → b ++ piece ≡ encode_utf8_all (cs ++ gs) ++ tail
stream_bytes b cs carried piece gs tail is parts =
    ap (λ l. l ++ piece) is ∙ append_assoc (encode_utf8_all cs) carried piece ∙ ap (λ l. encode_utf8_all cs ++ l) parts
    ∙ sym (append_assoc (encode_utf8_all cs) (encode_utf8_all gs) tail) ∙ ap (λ l. l ++ tail) (sym (encodes-append cs gs))

module _ (carry : Carry) (piece : List ℕ) (cut : Cut) (h : IsCut carry.bytes piece cut) (b cs : List ℕ) (s : StandsFor carry b cs) where
  whole_bytes : b ++ piece ≡ encode_utf8_all (cs ++ cut_given piece cut) ++ cut_left carry.bytes piece cut
  whole_bytes = stream_bytes b cs carry.bytes piece (cut_given piece cut) (cut_left carry.bytes piece cut) s.decodes.bytes (given_bytes carry.bytes piece cut h)

  whole_chars : list_all is_char (cs ++ cut_given piece cut) ≡ true
  whole_chars = all_append cs (cut_given piece cut) s.decodes.chars (given_chars carry.bytes piece cut h)

  pub goes_on : cut.cause ≡ None → StandsFor (record { bytes = cut_left carry.bytes piece cut; seen = carry.seen + length piece }) (b ++ piece) (cs ++ cut_given piece cut)
  goes_on none =
      let seen = s.seen in
      record {
        decodes = record { chars = whole_chars; bytes = whole_bytes; front = left_front carry.bytes piece cut h none };
        seen = omega (arith, seen, length-append b piece);
      }

  fault_is : (cause : Cause) (place at : ℕ) (rest : List ℕ) → place ≡ at → Ends (Some cause) rest → IsFaultAt (fault_of cause place) at rest
  fault_is NotUtf8 place at rest e w = (e, w)
  fault_is NotChar place at rest e w = (e, w)

  pub breaks : (cause : Cause) (place : ℕ) → cut.cause ≡ Some cause → place ≡ carry.seen - length (still_carried cut.first carry.bytes) + cut.whole → Breaks (b ++ piece) (cs ++ cut_given piece cut) (fault_of cause place)
  breaks cause place is at =
      let ends : Ends (Some cause) (cut_left carry.bytes piece cut) = subst (λ (o : Option Cause). Ends o (cut_left carry.bytes piece cut)) is h.ends in
      let seen = s.seen in
      let within = h.within in
      let size = ap length whole_bytes in
      let kept = still_within cut.first carry.bytes in
      let carried = ap length s.decodes.bytes in
      let there : place ≡ length (encode_utf8_all (cs ++ cut_given piece cut)) =
      omega (arith, seen, within, size, kept, carried, at, length-append b piece, length-append (encode_utf8_all cs) carry.bytes, length-append (encode_utf8_all (cs ++ cut_given piece cut)) (cut_left carry.bytes piece cut), length-append (still_carried cut.first carry.bytes) (drop cut.whole piece), length-drop cut.whole piece) in
      record {
        rest = cut_left carry.bytes piece cut;
        chars = whole_chars;
        bytes = whole_bytes;
        why = fault_is cause place _ _ there ends;
      }
