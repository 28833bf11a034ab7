-- The counts of a reader behind a piece.
use Rattle.std.proofs.Common.{ℕ, ◌≡◌, ◌+◌, ◌-◌, ◌<◌, ◌≤◌, List, ◌++◌, length, take, drop, Option, Some, None, ap, ◌∙◌, arith, length-append, length-take, length-drop}
use Rattle.std.specs.Prelude.{MatchOption, IfNone, OnSome, slice_range, IsUtf8, chars}
use Rattle.std.specs.Char.{encode_utf8}
use Rattle.std.proofs.lemmas.Str.{length-encode}
use Rattle.gcx_model.specs.Faults.{size}
use Rattle.doc_chars.specs.declared.chars.CharFault.{CharFault}
use Rattle.doc_chars.specs.declared.chars.Split.{Split}
use Rattle.doc_chars.specs.Stream.{Carry, optional, given, still_carried}
use Rattle.doc_chars.proofs.Streams.{still_within}
use Rattle.doc_parts.proofs.Reading.{size_append}
use Rattle.doc_reader.proofs.Judgings.{text_size}

-- the counts stay in order
pub in_order : (o : Option CharFault) (old new : Carry) (first : Option ℕ) (whole : ℕ) (piece : List ℕ) (count place : ℕ) → IfNone o (new.bytes ≡ still_carried first old.bytes ++ drop whole piece) → IfNone o (new.seen ≡ old.seen + length piece) → OnSome o (new ≡ old) → old.seen ≤ count → place + length old.bytes ≤ count
    → (new.seen ≤ count + length piece) × (place + length new.bytes ≤ count + length piece)
in_order None old new first whole piece count place bytes seen kept a b = (
  omega (arith, seen, a),
  omega (arith, b, ap length bytes, still_within first old.bytes, length-append (still_carried first old.bytes) (drop whole piece), length-drop whole piece),
)
in_order (Some f) old new first whole piece count place bytes seen kept a b = (
  omega (arith, ap (λ (c : Carry). c.seen) kept, a),
  omega (arith, ap (λ (c : Carry). length c.bytes) kept, b),
)

first_size : (first : Option ℕ) (used : ℕ) (carried piece : List ℕ) → used ≤ length piece → MatchOption first (used ≡ 0) (λ c. (0 < length carried) × (encode_utf8 c ≡ carried ++ take used piece)) → size (optional first) + length (still_carried first carried) ≡ length carried + used
first_size None used carried piece w m = omega (arith, m)
first_size (Some c) used carried piece w m = omega (arith, ap length m.1, length-encode c, length-append carried (take used piece), length-take used piece)

-- what is given and what is carried then are the bytes that were carried and the piece
pub given_size : (split : Split) (carried piece : List ℕ) → split.used ≤ split.whole → split.whole ≤ length piece → IsUtf8 (slice_range piece split.used split.whole) → MatchOption split.first (split.used ≡ 0) (λ c. (0 < length carried) × (encode_utf8 c ≡ carried ++ take split.used piece))
    → size (given split piece) + length (still_carried split.first carried ++ drop split.whole piece) ≡ length carried + length piece
given_size split carried piece in_order within text first =
    let slice = slice_range piece split.used split.whole in
    let long : length slice ≡ split.whole - split.used = length-take (split.whole - split.used) (drop split.used piece) ∙ omega (arith, length-drop split.used piece) in
    omega (
      arith,
      first_size split.first split.used carried piece (omega arith) first,
      size_append (optional split.first) (chars slice),
      text_size slice text,
      long,
      length-append (still_carried split.first carried) (drop split.whole piece),
      length-drop split.whole piece,
    )
