-- Fronts of texts that are Chars.
use Rattle.std.proofs.Common.{◌≡◌, ◌++◌, ◌∷◌, [], ◌&&◌, ◌<◌, ◌+◌, ℕ, List, length, take, drop, true, false, refl, sym, ap, subst, ◌∙◌, append-nil, arith, append_assoc, None, Some, take-add, length-drop, length-take, take-take, take-append-drop}
use Rattle.std.specs.Prelude.{Option, is_some}
use Rattle.std.specs.List.{list_all}
use Rattle.std.specs.Char.{encode_utf8}
use Rattle.std.specs.Str.{IsUtf8, IsValidUpTo, IsErrorLen}
use Rattle.std.specs.Str.Lossy.{utf8_error_len}
use Rattle.std.proofs.Math.Seq.{take-append_seam, drop-append_seam, drop-length, take-length}
use Rattle.std.proofs.lemmas.List.{drop-append-le}
use Rattle.std.proofs.lemmas.List.Folds.{list_all-append}
use Rattle.std.proofs.lemmas.Str.{encodes-append, length-le-encodes, IsUtf8-append, IsUtf8-nil}
use Rattle.gcx_base.specs.Characters.{is_char}
use Rattle.doc_chars.specs.Stream.{IsCharFront, IsNotUtf8}
use Rattle.doc_chars.specs.declared.scan.Cause.TheVariants.{NotUtf8, NotChar}
use Rattle.doc_chars.specs.Scan.{AreChars, IsOther, Scanned}
use Rattle.doc_chars.proofs.Bytes.{front_nil, cut_front, is_not_utf8}

all_push : (cs : List ℕ) (c : ℕ) → list_all is_char cs ≡ true → is_char c ≡ true → list_all is_char (cs ++ c ∷ []) ≡ true
all_push cs c h x = list_all-append is_char cs (c ∷ []) ∙ ap (λ b. b && (is_char c && true)) h ∙ ap (λ b. b && true) x

pub chars_nil : AreChars []
chars_nil = record { cs = []; chars = refl; bytes = refl }

pub chars_push : (front : List ℕ) (c : ℕ) → AreChars front → is_char c ≡ true → AreChars (front ++ encode_utf8 c)
chars_push front c h x = record {
  cs = h.cs ++ c ∷ [];
  chars = all_push h.cs c h.chars x;
  bytes = encodes-append h.cs (c ∷ []) ∙ ap (λ l. l ++ (encode_utf8 c ++ [])) h.bytes ∙ ap (λ l. front ++ l) (append-nil (encode_utf8 c));
}

pub front_of : (text front rest : List ℕ) (at : ℕ) → text ≡ front ++ rest → length front ≡ at → take at text ≡ front
front_of text front rest at is len = ap (λ t. take at t) is ∙ ap (λ n. take n (front ++ rest)) (sym len) ∙ take-append_seam front rest

pub rest_of : (text front rest : List ℕ) (at : ℕ) → text ≡ front ++ rest → length front ≡ at → drop at text ≡ rest
rest_of text front rest at is len = ap (λ t. drop at t) is ∙ ap (λ n. drop n (front ++ rest)) (sym len) ∙ drop-append_seam front rest

pub some_bytes : (c : ℕ) → 0 < length (encode_utf8 c)
some_bytes c =
    let one = length-le-encodes (c ∷ []) in
    let same = ap length (append-nil (encode_utf8 c)) in
    omega (arith, one, same)

-- ---- where UTF-8 ends

pub front_end : (bs : List ℕ) → IsCharFront (drop (length bs) bs)
front_end bs = subst IsCharFront (sym (drop-length bs)) front_nil

-- behind the longest front that is UTF-8 none is
pub behind_valid : (bs : List ℕ) (n : ℕ) → IsValidUpTo bs n → IsValidUpTo (drop n bs) 0
behind_valid bs n v = record {
  short = let s = v.short in omega (arith, length-drop n bs);
  front = IsUtf8-nil;
  longest = λ m l w. v.longest (n + m) (omega arith) (subst IsUtf8 (sym (take-add n m bs)) (IsUtf8-append (take n bs) (take m (drop n bs)) v.front w));
}

pub cut_behind : (bs : List ℕ) (n : ℕ) → IsValidUpTo bs n → IsErrorLen bs n None → utf8_error_len (drop n bs) ≡ None → IsCharFront (drop n bs)
cut_behind bs n v len cut = cut_front (drop n bs) (omega (arith, length-drop n bs, len)) cut (behind_valid bs n v)

pub bad_behind : (bs : List ℕ) (n k : ℕ) → IsValidUpTo bs n → utf8_error_len (drop n bs) ≡ Some k → IsNotUtf8 (drop n bs)
bad_behind bs n k v e = is_not_utf8 (drop n bs) k (behind_valid bs n v) e

-- the place of a character in a front is its place in the whole
pub drop_in_front : (bs text : List ℕ) (n at : ℕ) (c : ℕ) (after : List ℕ) → text ≡ take n bs → at < length text → drop at text ≡ encode_utf8 c ++ after
    → drop at bs ≡ encode_utf8 c ++ (after ++ drop n bs)
drop_in_front bs text n at c after is lt parts =
    ap (drop at) (sym (take-append-drop n bs))
    ∙ ap (λ t. drop at (t ++ drop n bs)) (sym is)
    ∙ drop-append-le at text (drop n bs) (omega (arith, lt))
    ∙ ap (λ t. t ++ drop n bs) parts
    ∙ append_assoc (encode_utf8 c) after (drop n bs)

pub begins_front : (bs text : List ℕ) (n c : ℕ) (rest : List ℕ) → text ≡ take n bs → text ≡ encode_utf8 c ++ rest → bs ≡ encode_utf8 c ++ (rest ++ drop n bs)
begins_front bs text n c rest is parts =
    sym (take-append-drop n bs) ∙ ap (λ t. t ++ drop n bs) (sym is ∙ parts) ∙ append_assoc (encode_utf8 c) rest (drop n bs)

-- ---- what a scan finds

pub scanned_whole : (bs text : List ℕ) → text ≡ bs → AreChars text → Scanned bs (length bs) None
scanned_whole bs text is chars = record {
  within = omega arith;
  chars = subst AreChars (is ∙ sym (take-length bs)) chars;
  ends = front_end bs;
}

pub scanned_other : (bs text : List ℕ) (n at : ℕ) → text ≡ take n bs → IsOther text at → Scanned bs at (Some NotChar)
scanned_other bs text n at is (short, chars, (c, after, parts, scalar, other)) =
    let size = ap length is ∙ length-take n bs in
    record {
      within = omega (arith, size, short);
      chars = subst AreChars (ap (take at) is ∙ take-take at n bs (omega (arith, size, short))) chars;
      ends = record { c = c; rest = after ++ drop n bs; scalar = scalar; bytes = drop_in_front bs text n at c after is short parts; other = other };
    }

pub scanned_bad : (bs text : List ℕ) (n : ℕ) (o : Option ℕ) → text ≡ take n bs → AreChars text → IsValidUpTo bs n → o ≡ utf8_error_len (drop n bs) → is_some o ≡ true → Scanned bs n (Some NotUtf8)
scanned_bad bs text n None is chars v e some = absurd (cc)
scanned_bad bs text n (Some k) is chars v e some = record {
  within = let short = v.short in omega arith;
  chars = subst AreChars is chars;
  ends = bad_behind bs n k v (sym e);
}

pub scanned_cut : (bs text : List ℕ) (n : ℕ) (o : Option ℕ) → text ≡ take n bs → AreChars text → IsValidUpTo bs n → IsErrorLen bs n o → o ≡ utf8_error_len (drop n bs) → is_some o ≡ false → Scanned bs n None
scanned_cut bs text n None is chars v len e none = record {
  within = let short = v.short in omega arith;
  chars = subst AreChars is chars;
  ends = cut_behind bs n v len (sym e);
}
scanned_cut bs text n (Some k) is chars v len e none = absurd (cc)

pub begins_bad : (bs : List ℕ) (n : ℕ) (o : Option ℕ) → n ≡ 0 → IsValidUpTo bs n → o ≡ utf8_error_len (drop n bs) → is_some o ≡ true → IsNotUtf8 bs
begins_bad bs n None zero v e some = absurd (cc)
begins_bad bs n (Some k) zero v e some = subst (λ m. IsNotUtf8 (drop m bs)) zero (bad_behind bs n k v (sym e))

pub begins_cut : (bs : List ℕ) (n : ℕ) (o : Option ℕ) → n ≡ 0 → IsValidUpTo bs n → IsErrorLen bs n o → o ≡ utf8_error_len (drop n bs) → is_some o ≡ false → IsCharFront bs
begins_cut bs n None zero v len e none = subst (λ m. IsCharFront (drop m bs)) zero (cut_behind bs n v len (sym e))
begins_cut bs n (Some k) zero v len e none = absurd (cc)
