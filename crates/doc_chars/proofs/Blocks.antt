-- Characters that aren't Chars, found by their bytes.
use Rattle.std.proofs.Common.{ℕ, zero, suc, ◌≡◌, ◌+◌, ◌-◌, ◌/◌, ◌<◌, ◌≤◌, Bool, true, false, not, ◌&&◌, cond, eqb, List, [], ◌∷◌, ◌++◌, length, take, drop, get_or, refl, sym, ap, ◌∙◌, subst, arith, length-append, length-take, length-drop, append_assoc, inl, inr}
use Rattle.std.specs.Prelude.{nat_le}
use Rattle.std.specs.List.{list_all}
use Rattle.std.specs.Str.{IsUtf8}
use Rattle.std.proofs.lemmas.Bool.{true≢false, cases_lt, and_parts, and_from, not-false}
use Rattle.std.proofs.lemmas.Bool.Decides.{nat_tests}
use Rattle.std.proofs.lemmas.List.{get_or-append-add, get_or-drop, get_or-take}
use Rattle.doc_chars.proofs.Fronts.{some_bytes, front_of, rest_of}
use Rattle.std.proofs.str.Laws.{one, two, three, four}
use lib.Utf8.{scalar, scalars, encode, encodes, next}
use Rattle.gcx_base.specs.Characters.{is_char}
use Rattle.doc_chars.specs.Blocks.{is_plain_byte, is_other_at, HasNoOther, IsFirstOther}
use Rattle.doc_chars.specs.Scan.{AreChars, IsOther}

-- ---- the bytes of one character

-- whether three bytes are those of #xFFFE or #xFFFF, by the first, the two others and how many there are
abbrev other_by : ℕ → ℕ → ℕ → ℕ → Bool
other_by x y z n = cond (eqb x 239) (nat_le 3 n && (eqb y 191 && nat_le 190 z)) (not (is_plain_byte x))

one_other : (c y z n : ℕ) → c < 128 → other_by c y z n ≡ not (is_char c)
one_other c y z n h = grind (arith, nat_tests)

plain_high : (x y z n : ℕ) → 128 ≤ x → x < 239 → other_by x y z n ≡ false
plain_high x y z n l h = grind (arith, nat_tests)

plain_top : (x y z n : ℕ) → 240 ≤ x → other_by x y z n ≡ false
plain_top x y z n l = grind (arith, nat_tests)

char_middle : (c : ℕ) → scalar c ≡ true → 128 ≤ c → c < 65534 → is_char c ≡ true
char_middle c s l h = grind (arith, nat_tests)

char_top : (c : ℕ) → scalar c ≡ true → 65536 ≤ c → is_char c ≡ true
char_top c s l = grind (arith, nat_tests)

not_char_last : (c : ℕ) → 65534 ≤ c → c < 65536 → is_char c ≡ false
not_char_last c l h = grind (arith, nat_tests)

last_other : (y z n : ℕ) → y ≡ 191 → 190 ≤ z → 3 ≤ n → other_by 239 y z n ≡ true
last_other y z n e l h = grind (arith, nat_tests)

early_other : (y z n : ℕ) → (y ≡ 191 → z < 190) → other_by 239 y z n ≡ false
early_other y z n h = grind (arith, nat_tests)

-- what stands at a place, by its bytes
at_is : (bs : List ℕ) (at x y z n : ℕ) → get_or bs at 0 ≡ x → get_or bs (at + 1) 0 ≡ y → get_or bs (at + 2) 0 ≡ z → length bs - at ≡ n → is_other_at bs at ≡ other_by x y z n
at_is bs at x y z n a b c d = λ i. other_by (a i) (b i) (c i) (d i)

shift : (xs ys : List ℕ) (i : ℕ) → is_other_at (xs ++ ys) (length xs + i) ≡ is_other_at ys i
shift xs ys i =
    let one_on : (length xs + i) + 1 ≡ length xs + (i + 1) = omega arith in
    let two_on : (length xs + i) + 2 ≡ length xs + (i + 2) = omega arith in
    at_is (xs ++ ys) (length xs + i) (get_or ys i 0) (get_or ys (i + 1) 0) (get_or ys (i + 2) 0) (length ys - i)
    (get_or-append-add xs ys i 0)
    (ap (λ k. get_or (xs ++ ys) k 0) one_on ∙ get_or-append-add xs ys (i + 1) 0)
    (ap (λ k. get_or (xs ++ ys) k 0) two_on ∙ get_or-append-add xs ys (i + 2) 0)
    (omega (arith, length-append xs ys))

-- a byte inside a character
inner_at : (bs : List ℕ) (i : ℕ) → 128 ≤ get_or bs i 0 → get_or bs i 0 < 192 → is_other_at bs i ≡ false
inner_at bs i l h = plain_high (get_or bs i 0) (get_or bs (i + 1) 0) (get_or bs (i + 2) 0) (length bs - i) l (omega arith)

two_in : (x y : ℕ) (rest : List ℕ) (i : ℕ) → 0 < i → i < 2 → 128 ≤ y → y < 192 → is_other_at (x ∷ y ∷ rest) i ≡ false
two_in x y rest zero p l a b = absurd (omega arith)
two_in x y rest (suc zero) p l a b = inner_at (x ∷ y ∷ rest) 1 a b
two_in x y rest (suc (suc i)) p l a b = absurd (omega arith)

three_in : (x y z : ℕ) (rest : List ℕ) (i : ℕ) → 0 < i → i < 3 → 128 ≤ y → y < 192 → 128 ≤ z → z < 192 → is_other_at (x ∷ y ∷ z ∷ rest) i ≡ false
three_in x y z rest zero p l a b c d = absurd (omega arith)
three_in x y z rest (suc zero) p l a b c d = inner_at (x ∷ y ∷ z ∷ rest) 1 a b
three_in x y z rest (suc (suc zero)) p l a b c d = inner_at (x ∷ y ∷ z ∷ rest) 2 c d
three_in x y z rest (suc (suc (suc i))) p l a b c d = absurd (omega arith)

four_in : (w x y z : ℕ) (rest : List ℕ) (i : ℕ) → 0 < i → i < 4 → 128 ≤ x → x < 192 → 128 ≤ y → y < 192 → 128 ≤ z → z < 192 → is_other_at (w ∷ x ∷ y ∷ z ∷ rest) i ≡ false
four_in w x y z rest zero p l a b c d e f = absurd (omega arith)
four_in w x y z rest (suc zero) p l a b c d e f = inner_at (w ∷ x ∷ y ∷ z ∷ rest) 1 a b
four_in w x y z rest (suc (suc zero)) p l a b c d e f = inner_at (w ∷ x ∷ y ∷ z ∷ rest) 2 c d
four_in w x y z rest (suc (suc (suc zero))) p l a b c d e f = inner_at (w ∷ x ∷ y ∷ z ∷ rest) 3 e f
four_in w x y z rest (suc (suc (suc (suc i)))) p l a b c d e f = absurd (omega arith)

next_low : (n : ℕ) → 128 ≤ next n
next_low n = omega arith

next_high : (n : ℕ) → next n < 192
next_high n = omega arith

-- no such character begins inside a character
inner : (c : ℕ) (rest : List ℕ) (i : ℕ) → 0 < i → i < length (encode c) → is_other_at (encode c ++ rest) i ≡ false
inner c rest i p l =
    elim (cases_lt c 128) [
      | inl a ↦ absurd (let n = ap length (one c a) in omega (arith, l, n, p))
      | inr a ↦ elim (cases_lt c 2048) [
        | inl b ↦ (let n = ap length (two c a b) in ap (λ l. is_other_at (l ++ rest) i) (two c a b) ∙ two_in (192 + c / 64) (next c) rest i p (omega (arith, l, n)) (next_low c) (next_high c))
        | inr b ↦ elim (cases_lt c 65536) [
          | inl d ↦ (let n = ap length (three c b d) in ap (λ l. is_other_at (l ++ rest) i) (three c b d) ∙ three_in (224 + c / 4096) (next (c / 64)) (next c) rest i p (omega (arith, l, n)) (next_low (c / 64)) (next_high (c / 64)) (next_low c) (next_high c))
          | inr d ↦ (let n = ap length (four c d) in ap (λ l. is_other_at (l ++ rest) i) (four c d) ∙ four_in (240 + c / 262144) (next (c / 4096)) (next (c / 64)) (next c) rest i p (omega (arith, l, n)) (next_low (c / 4096)) (next_high (c / 4096)) (next_low (c / 64)) (next_high (c / 64)) (next_low c) (next_high c))
        ]
      ]
    ]

three_front : (c n : ℕ) → scalar c ≡ true → 2048 ≤ c → c < 65536 → 3 ≤ n → other_by (224 + c / 4096) (next (c / 64)) (next c) n ≡ not (is_char c)
three_front c n s l h m =
    elim (cases_lt c 61440) [
      | inl a ↦ plain_high (224 + c / 4096) (next (c / 64)) (next c) n (omega arith) (omega arith) ∙ sym (ap not (char_middle c s (omega arith) (omega arith)))
      | inr a ↦
          let x : 224 + c / 4096 ≡ 239 = omega arith in
          ap (λ x. other_by x (next (c / 64)) (next c) n) x
          ∙ elim (cases_lt c 65534) as (λ _. other_by 239 (next (c / 64)) (next c) n ≡ not (is_char c)) [
            | inl b ↦ early_other (next (c / 64)) (next c) n (λ e. omega arith) ∙ sym (ap not (char_middle c s (omega arith) b))
            | inr b ↦ last_other (next (c / 64)) (next c) n (omega arith) (omega arith) m ∙ sym (ap not (not_char_last c b h))
          ]
    ]

-- such a character begins a text exactly where its first character isn't a Char
front : (c : ℕ) (rest : List ℕ) → scalar c ≡ true → is_other_at (encode c ++ rest) 0 ≡ not (is_char c)
front c rest s =
    elim (cases_lt c 128) [
      | inl a ↦ ap (λ l. is_other_at (l ++ rest) 0) (one c a) ∙ one_other c (get_or (c ∷ rest) 1 0) (get_or (c ∷ rest) 2 0) (length (c ∷ rest) - 0) a
      | inr a ↦ elim (cases_lt c 2048) [
        | inl b ↦
            let l = (192 + c / 64) ∷ next c ∷ rest in
            ap (λ l. is_other_at (l ++ rest) 0) (two c a b) ∙ plain_high (192 + c / 64) (get_or l 1 0) (get_or l 2 0) (length l - 0) (omega arith) (omega arith) ∙ sym (ap not (char_middle c s a (omega arith)))
        | inr b ↦ elim (cases_lt c 65536) [
          | inl d ↦
              let l = (224 + c / 4096) ∷ next (c / 64) ∷ next c ∷ rest in
              ap (λ l. is_other_at (l ++ rest) 0) (three c b d) ∙ three_front c (length l - 0) s b d (omega arith)
          | inr d ↦
              let l = (240 + c / 262144) ∷ next (c / 4096) ∷ next (c / 64) ∷ next c ∷ rest in
              ap (λ l. is_other_at (l ++ rest) 0) (four c d) ∙ plain_top (240 + c / 262144) (get_or l 1 0) (get_or l 2 0) (length l - 0) (omega arith) ∙ sym (ap not (char_top c s d))
        ]
      ]
    ]

-- ---- texts

behind : (xs ys : List ℕ) (from to : ℕ) → HasNoOther 0 (length xs + to) (xs ++ ys) → HasNoOther 0 to ys
behind xs ys from to h i a b = sym (shift xs ys i) ∙ h (length xs + i) (omega arith) (omega (arith, b))

none_all : (cs : List ℕ) → scalars cs ≡ true → HasNoOther 0 (length (encodes cs)) (encodes cs) → list_all is_char cs ≡ true
none_all [] s h = refl
none_all (c ∷ cs) s h =
    let both = and_parts (scalar c) (scalars cs) s in
    let size = length-append (encode c) (encodes cs) in
    let first = not-false (is_char c) (sym (front c (encodes cs) both.0) ∙ h 0 (omega arith) (omega (arith, size, some_bytes c))) in
    and_from (is_char c) (list_all is_char cs) first
    (none_all cs both.1 (behind (encode c) (encodes cs) 0 (length (encodes cs)) (subst (λ n. HasNoOther 0 n (encode c ++ encodes cs)) size h)))

pub none_other : (text : List ℕ) → IsUtf8 text → HasNoOther 0 (length text) text → AreChars text
none_other text u h = record {
  cs = u.0;
  chars = none_all u.0 u.1.0 (subst (λ t. HasNoOther 0 (length t) t) (sym u.1.1) h);
  bytes = u.1.1;
}

-- the characters before the first such
record Found (text : List ℕ) (at : ℕ) : Type 0 where
  front : List ℕ
  c : ℕ
  after : List ℕ
  chars : list_all is_char front ≡ true
  parts : text ≡ encodes front ++ (encode c ++ after)
  size : length (encodes front) ≡ at
  scalar_is : scalar c ≡ true
  other : is_char c ≡ false

found : (cs : List ℕ) (at : ℕ) → scalars cs ≡ true → at < length (encodes cs) → HasNoOther 0 at (encodes cs) → is_other_at (encodes cs) at ≡ true → Found (encodes cs) at
found [] at s l h f = absurd (omega arith)
found (c ∷ cs) at s l h f = by (is_char c) refl (λ k. found cs k (and_parts (scalar c) (scalars cs) s).1)
  where
    both : (scalar c ≡ true) × (scalars cs ≡ true)
    both = and_parts (scalar c) (scalars cs) s

    here : is_char c ≡ false → at ≡ 0 → Found (encode c ++ encodes cs) at
    here e z = record { front = []; c = c; after = encodes cs; chars = refl; parts = refl; size = sym z; scalar_is = both.0; other = e }

    more : is_char c ≡ true → Found (encodes cs) (at - length (encode c)) → length (encode c) ≤ at → Found (encode c ++ encodes cs) at
    more e r n = record {
      front = c ∷ r.front;
      c = r.c;
      after = r.after;
      chars = and_from (is_char c) (list_all is_char r.front) e r.chars;
      parts = ap (λ l. encode c ++ l) r.parts ∙ sym (append_assoc (encode c) (encodes r.front) (encode r.c ++ r.after));
      size = omega (arith, length-append (encode c) (encodes r.front), r.size, n);
      scalar_is = r.scalar_is;
      other = r.other;
    }

    start : is_char c ≡ true → is_other_at (encode c ++ encodes cs) 0 ≡ false
    start e = front c (encodes cs) both.0 ∙ ap not e

    by : (b : Bool) → is_char c ≡ b → ((k : ℕ) → k < length (encodes cs) → HasNoOther 0 k (encodes cs) → is_other_at (encodes cs) k ≡ true → Found (encodes cs) k) → Found (encode c ++ encodes cs) at
    by false e go =
        elim (cases_lt 0 at) [
          | inl p ↦ absurd (true≢false (sym (front c (encodes cs) both.0 ∙ ap not e) ∙ h 0 (omega arith) p))
          | inr p ↦ here e (omega arith)
        ]
    by true e go =
        elim (cases_lt at (length (encode c))) [
          | inl p ↦ elim (cases_lt 0 at) [
            | inl q ↦ absurd (true≢false (sym f ∙ inner c (encodes cs) at q p))
            | inr q ↦ (let z : at ≡ 0 = omega arith in absurd (true≢false (sym f ∙ ap (is_other_at (encode c ++ encodes cs)) z ∙ start e)))
          ]
          | inr p ↦
              let k = at - length (encode c) in
              let is : length (encode c) + k ≡ at = omega arith in
              more e
              (go k (omega (arith, length-append (encode c) (encodes cs), l))
              (behind (encode c) (encodes cs) 0 k (subst (λ n. HasNoOther 0 n (encode c ++ encodes cs)) (sym is) h))
              (sym (shift (encode c) (encodes cs) k) ∙ ap (is_other_at (encode c ++ encodes cs)) is ∙ f))
              p
        ]

pub first_is : (text : List ℕ) (from to at : ℕ) → IsUtf8 text → to ≤ length text → HasNoOther 0 from text → IsFirstOther from to at text → IsOther text at
first_is text from to at u l h f =
    let low = f.low in
    let high = f.high in
    let within : at < length text = omega arith in
    let all : HasNoOther 0 at text = λ i a b. elim (cases_lt i from) [ inl p ↦ h i a p | inr p ↦ f.before i p b ] in
    let r : Found text at = subst (λ t. Found t at) u.1.1 (found u.0 at u.1.0 (subst (λ t. at < length t) (sym u.1.1) within) (subst (HasNoOther 0 at) (sym u.1.1) all) (subst (λ t. is_other_at t at ≡ true) (sym u.1.1) f.found)) in (
      within,
      record { cs = r.front; chars = r.chars; bytes = sym (front_of text (encodes r.front) (encode r.c ++ r.after) at r.parts r.size) },
      (r.c, r.after, rest_of text (encodes r.front) (encode r.c ++ r.after) at r.parts r.size, r.scalar_is, r.other),
    )

-- ---- blocks

each : (xs : List ℕ) (k : ℕ) → list_all is_plain_byte xs ≡ true → k < length xs → is_plain_byte (get_or xs k 0) ≡ true
each [] k e l = absurd (omega arith)
each (x ∷ xs) zero e l = (and_parts (is_plain_byte x) (list_all is_plain_byte xs) e).0
each (x ∷ xs) (suc k) e l = each xs k (and_parts (is_plain_byte x) (list_all is_plain_byte xs) e).1 (omega arith)

plain_other : (x y z n : ℕ) → is_plain_byte x ≡ true → other_by x y z n ≡ false
plain_other x y z n h = grind (arith, nat_tests)

plain_at : (bs : List ℕ) (i : ℕ) → is_plain_byte (get_or bs i 0) ≡ true → is_other_at bs i ≡ false
plain_at bs i h = plain_other (get_or bs i 0) (get_or bs (i + 1) 0) (get_or bs (i + 2) 0) (length bs - i) h

-- a block with no such byte is looked at no more
pub block_none : (bytes : List ℕ) (at : ℕ) → at + 64 ≤ length bytes → list_all is_plain_byte (take 64 (drop at bytes)) ≡ true → HasNoOther at (at + 64) bytes
block_none bytes at l e i a b =
    let k = i - at in
    let is : at + k ≡ i = omega arith in
    plain_at bytes i (ap is_plain_byte (ap (λ m. get_or bytes m 0) (sym is) ∙ sym (get_or-drop at bytes k 0) ∙ sym (get_or-take 64 (drop at bytes) k 0 (omega arith)))
    ∙ each (take 64 (drop at bytes)) k e (omega (arith, length-take 64 (drop at bytes), length-drop at bytes)))

pub no_more : (from to : ℕ) (bytes : List ℕ) → HasNoOther 0 from bytes → HasNoOther from to bytes → HasNoOther 0 to bytes
no_more from to bytes h k i a b = elim (cases_lt i from) [ inl p ↦ h i a p | inr p ↦ k i p b ]
