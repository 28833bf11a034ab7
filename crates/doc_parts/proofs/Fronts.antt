-- Bytes, characters and names at the front of a text.
use Rattle.std.proofs.Common.{ℕ, ◌≡◌, ◌<◌, ◌≤◌, Bool, true, false, ◌&&◌, eqb, eqb-true, List, [], ◌∷◌, ◌++◌, length, take, drop, refl, sym, ap, ◌∙◌, subst, append-nil, arith, length-append, length-take, lt-ltb, inl, inr}
use Rattle.std.specs.Prelude.{nat_lt, IsTrue, ◌↔◌}
use Rattle.std.specs.Char.{IsScalar}
use Rattle.std.specs.Cmp.Lexicographic.{pointwise}
use Rattle.std.specs.List.{list_all}
use Rattle.std.specs.Str.{chars, IsUtf8, IsCharBoundary}
use Rattle.std.proofs.lemmas.Bool.{true≢false, false≢true, cases_lt, and_parts, and_from}
use Rattle.std.proofs.lemmas.Bool.Decides.{nat_tests}
use Rattle.std.proofs.lemmas.List.Folds.{list_all-append}
use Rattle.std.proofs.lemmas.Str.{chars-nil, chars-append, chars_past_char, chars-IsAscii, IsUtf8-encode, IsUtf8-append, IsCharBoundary-start, IsCharBoundary-from_take}
use lib.Utf8.{encode, encodes}
use Rattle.gcx_base.specs.Characters.{is_start_char, is_part_char}
use Rattle.gcx_base.specs.Name.{is_name, IsNameBytes}
use Rattle.doc_chars.proofs.Fronts.{front_of}
use Rattle.doc_parts.specs.Reading.{IsFirstChar}
use Rattle.doc_parts.specs.Spans.{is_short_part, IsPartFront, IsNameFront}
use Rattle.doc_parts.proofs.Names.{short_part}
use Rattle.doc_parts.proofs.Spans.{ascii_all}
use Rattle.doc_parts.proofs.Texts.{chars_cut, front_bytes, ascii_boundary}

chars_one : (c : ℕ) → IsScalar c → chars (encode c) ≡ c ∷ []
chars_one c s = chars_past_char (encode c) [] c (IsUtf8-encode c s) (sym (append-nil (encode c))) ∙ ap (λ l. c ∷ l) chars-nil

pub none_all : list_all is_part_char (chars []) ≡ true
none_all = ap (list_all is_part_char) chars-nil

pub more_utf8 : (front : List ℕ) (c : ℕ) → IsUtf8 front → IsScalar c → IsUtf8 (front ++ encode c)
more_utf8 front c u s = IsUtf8-append front (encode c) u (IsUtf8-encode c s)

pub more_all : (front : List ℕ) (c : ℕ) → IsUtf8 front → IsScalar c → list_all is_part_char (chars front) ≡ true → is_part_char c ≡ true → list_all is_part_char (chars (front ++ encode c)) ≡ true
more_all front c u s h is =
    ap (list_all is_part_char) (chars-append front (encode c) u ∙ ap (λ l. chars front ++ l) (chars_one c s))
    ∙ list_all-append is_part_char (chars front) (c ∷ [])
    ∙ and_from (list_all is_part_char (chars front)) (is_part_char c && true) h (and_from (is_part_char c) true is refl)

-- a front whose characters are NameChars
pub part_front_is : (text front rest : List ℕ) (at : ℕ) → IsUtf8 text → IsUtf8 front → list_all is_part_char (chars front) ≡ true → text ≡ front ++ rest → length front ≡ at → IsPartFront at text
part_front_is text front rest at u v h e l =
    let taken = front_of text front rest at e l in
    record {
      boundary = IsCharBoundary-from_take text at u (omega (arith, ap length e, length-append front rest, l)) (subst IsUtf8 (sym taken) v);
      inside = ap (λ t. list_all is_part_char (chars t)) taken ∙ h;
    }

short_below : (b : ℕ) → is_short_part b ≡ true → b < 128
short_below b h = grind (arith, nat_tests)

short_all : (bs : List ℕ) → list_all is_short_part bs ≡ true → list_all is_part_char bs ≡ true
short_all [] h = refl
short_all (b ∷ bs) h =
    let both = and_parts (is_short_part b) (list_all is_short_part bs) h in
    let low = lt-ltb b 128 (short_below b both.0) in
    let is = (and_parts (nat_lt b 128) (is_part_char b) (sym (short_part b) ∙ and_from (nat_lt b 128) (is_short_part b) low both.0)).1 in
    and_from (is_part_char b) (list_all is_part_char bs) is (short_all bs both.1)

pub short_front_is : (text : List ℕ) (n : ℕ) → IsUtf8 text → n ≤ length text → list_all is_short_part (take n text) ≡ true → IsPartFront n text
short_front_is text n u l h =
    let ascii = ascii_all is_short_part short_below (take n text) h in
    record {
      boundary = ascii_boundary text n u l ascii;
      inside = ap (list_all is_part_char) (chars-IsAscii (take n text) ascii) ∙ short_all (take n text) h;
    }

pub name_none : (text : List ℕ) → IsUtf8 text → IsNameFront 0 text
name_none text u = record { boundary = IsCharBoundary-start text u; name = λ p. absurd (omega arith) }

-- a NameStartChar begins the text, and so many bytes are NameChars
pub name_is : (text rest : List ℕ) (c n : ℕ) → IsUtf8 text → IsFirstChar c rest text → is_start_char c ≡ true → IsPartFront n text → IsNameFront n text
name_is text rest c n u f h p = record {
  boundary = p.boundary;
  name = λ some. by some (chars (take n text)) (front_bytes text n u p.boundary) (sym (chars_cut text n u p.boundary) ∙ f.first) p.inside;
}
  where
    by : 0 < n → (cs : List ℕ) → encodes cs ≡ take n text → cs ++ chars (drop n text) ≡ c ∷ chars rest → list_all is_part_char cs ≡ true → is_name cs ≡ true
    by some [] e g i = absurd (let within = p.boundary.0 in omega (arith, ap length e, length-take n text, some))
    by some (d ∷ ds) e g i =
        let same : d ≡ c = head_same d c (ds ++ chars (drop n text)) (chars rest) g in
        and_from (is_start_char d) (list_all is_part_char ds) (ap is_start_char same ∙ h) (and_parts (is_part_char d) (list_all is_part_char ds) i).1
      where
        head_same : (x y : ℕ) (xs ys : List ℕ) → x ∷ xs ≡ y ∷ ys → x ≡ y
        head_same x y xs ys e = cc

-- the bytes of a name
pub name_bytes : (text : List ℕ) (n : ℕ) → IsUtf8 text → 0 < n → IsNameFront n text → IsNameBytes (take n text)
name_bytes text n u some f = record { chars = chars (take n text); name = f.name some; parts = front_bytes text n u f.boundary }

-- a place where no character may be cut isn't the start
pub not_start : (text : List ℕ) (end : ℕ) (b : Bool) → IsUtf8 text → IsTrue b ↔ IsCharBoundary text end → b ≡ false → 0 < end
not_start text end b u h e =
    elim (cases_lt 0 end) [
      | inl p ↦ p
      | inr p ↦ (let same : 0 ≡ end = omega arith in absurd (true≢false (sym (h.1 (subst (IsCharBoundary text) same (IsCharBoundary-start text u))) ∙ e)))
    ]

-- bytes that begin a list
pub begins_is : (xs ys : List ℕ) → pointwise eqb xs (take (length xs) ys) ≡ true → ys ≡ xs ++ drop (length xs) ys
begins_is [] [] h = refl
begins_is [] (y ∷ ys) h = refl
begins_is (x ∷ xs) [] h = absurd (false≢true h)
begins_is (x ∷ xs) (y ∷ ys) h =
    elim (eqb x y) as (λ (b : Bool). eqb x y ≡ b → b && pointwise eqb xs (take (length xs) ys) ≡ true → y ∷ ys ≡ x ∷ (xs ++ drop (length xs) ys)) [
      | true ↦ λ e h. (λ i. sym (eqb-true x y e) i ∷ begins_is xs ys h i)
      | false ↦ λ e h. absurd (false≢true h)
    ] refl h
