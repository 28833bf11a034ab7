-- Digits of a reference: what they may go on to, and what they can't.
use Rattle.std.proofs.Common.{◌≡◌, ◌≢◌, ◌⊎◌, ◌++◌, ◌∷◌, [], ◌&&◌, ◌<◌, ◌≤◌, ◌+◌, ◌*◌, ℕ, suc, zero, List, length, drop, get_or, true, false, refl, sym, ap, subst, ◌∙◌, arith, append_assoc, None, Some, inl, inr, lt-ltb, le-ltb}
use Rattle.std.specs.Prelude.{Option, MatchOption, unwrap_or, fold}
use Rattle.std.specs.Char.{is_digit, digit_value}
use Rattle.std.proofs.lemmas.Bool.{and_parts, cases_lt, true≢false}
use Rattle.std.proofs.lemmas.Bool.Decides.{nat_tests}
use Rattle.std.proofs.lemmas.List.Folds.{list_all-append}
use Rattle.std.proofs.lemmas.List.Sums.{fold-append}
use Rattle.gcx_base.specs.Characters.{is_char}
use Rattle.doc_chars.specs.declared.reference.Radix.{Radix}
use Rattle.doc_chars.specs.declared.reference.Radix.TheVariants.{Decimal, Hexadecimal}
use Rattle.doc_chars.specs.Reference.{radix_value, all_digits, IsNumber, Refers, lt, gt, amp, apos, quot, by_decimal, by_hexadecimal, NeverRefers}
use Rattle.doc_chars.specs.References.{base_of, opening_of, IsValueOf, InNumber}

pub char_small : (c : ℕ) → is_char c ≡ true → c ≤ 1114111
char_small c h = grind (arith, nat_tests)

-- ---- values

grows : (radix v : ℕ) (digits : List ℕ) → 1 ≤ radix → v ≤ fold (λ value digit. value * radix + digit_value digit) v digits
grows radix v [] some = omega arith
grows zero v (d ∷ digits) some = absurd (omega arith)
grows (suc k) v (d ∷ digits) some =
    let more = grows (suc k) (v * suc k + digit_value d) digits some in
    let least : v ≤ v * suc k = omega arith in
    omega arith

value_or : (radix : ℕ) (value : Option ℕ) (digits : List ℕ) → IsValueOf radix value digits → unwrap_or value 0 ≡ radix_value radix digits
value_or radix None digits is = sym (ap (radix_value radix) is)
value_or radix (Some v) digits (some, is, small) = sym is

pub digit_in : (radix : ℕ) (digits : List ℕ) (c : ℕ) (rest : List ℕ) → all_digits radix (digits ++ c ∷ rest) ≡ true → is_digit c radix ≡ true
digit_in radix digits c rest h =
    let both = and_parts (all_digits radix digits) (is_digit c radix && all_digits radix rest) (sym (list_all-append (λ d. is_digit d radix) digits (c ∷ rest)) ∙ h) in
    (and_parts (is_digit c radix) (all_digits radix rest) both.1).0

pub semicolon_no_digit : (radix : Radix) → is_digit 59 (base_of radix) ≡ false
semicolon_no_digit Decimal = refl
semicolon_no_digit Hexadecimal = refl

pub digit_is : (c radix : ℕ) → digit_value c < radix → is_digit c radix ≡ true
digit_is c radix h = lt-ltb (digit_value c) radix h

digit_not : (c radix : ℕ) → (digit_value c < radix → ⊥) → is_digit c radix ≡ false
digit_not c radix h = elim (cases_lt (digit_value c) radix) [ inl a ↦ absurd (h a) | inr a ↦ le-ltb (digit_value c) radix a ]

base_some : (radix : Radix) → 1 ≤ base_of radix
base_some Decimal = omega arith
base_some Hexadecimal = omega arith

-- ---- what a reference is behind its opening

-- digits and the semicolon
abbrev pub Closed : ℕ → List ℕ → ℕ → Type 0
Closed radix rest d = (digits : List ℕ) × IsNumber radix digits d × (rest ≡ digits ++ 59 ∷ [])

abbrev first : List ℕ → ℕ
first l = get_or l 0 0

behind_hash : (rest : List ℕ) (d : ℕ) → Refers (35 ∷ rest) d → Closed 10 rest d ⊎ ((r : List ℕ) × (rest ≡ 120 ∷ r) × Closed 16 r d)
behind_hash rest d (lt e v) = let h : first (35 ∷ rest) ≡ 108 = ap first e in absurd (omega (arith, h))
behind_hash rest d (gt e v) = let h : first (35 ∷ rest) ≡ 103 = ap first e in absurd (omega (arith, h))
behind_hash rest d (amp e v) = let h : first (35 ∷ rest) ≡ 97 = ap first e in absurd (omega (arith, h))
behind_hash rest d (apos e v) = let h : first (35 ∷ rest) ≡ 97 = ap first e in absurd (omega (arith, h))
behind_hash rest d (quot e v) = let h : first (35 ∷ rest) ≡ 113 = ap first e in absurd (omega (arith, h))
behind_hash rest d (by_decimal digits n e) = inl (digits, n, ap (drop 1) e)
behind_hash rest d (by_hexadecimal digits n e) = inr (digits ++ 59 ∷ [], ap (drop 1) e, (digits, n, refl))

-- `x` is no decimal digit
no_x : (digits rest r : List ℕ) → 0 < length digits → all_digits 10 digits ≡ true → digits ++ rest ≡ 120 ∷ r → ⊥
no_x [] rest r some h e = omega arith
no_x (x ∷ digits) rest r some h e =
    let is : x ≡ 120 = ap first e in
    let digit = (and_parts (is_digit x 10) (all_digits 10 digits) h).0 in
    true≢false (sym (subst (λ n. is_digit n 10 ≡ true) is digit))

behind_hex : (rest : List ℕ) (d : ℕ) → Refers (35 ∷ 120 ∷ rest) d → Closed 16 rest d
behind_hex rest d r = elim (behind_hash (120 ∷ rest) d r) [
  | inl (digits, n, e) ↦ absurd (no_x digits (59 ∷ []) rest n.some n.are (sym e))
  | inr (t, e, closed) ↦ subst (λ l. Closed 16 l d) (sym (ap (drop 1) e)) closed
]

-- no `x` comes directly behind `#`
abbrev pub IsBehind : Radix → List ℕ → ℕ → Type 0
IsBehind Decimal digits c = (0 < length digits) ⊎ (c ≢ 120)
IsBehind Hexadecimal digits c = Unit {0}

pub closed_of : (radix : Radix) (digits : List ℕ) (c : ℕ) (more : List ℕ) (d : ℕ) → all_digits (base_of radix) digits ≡ true → IsBehind radix digits c
    → Refers (opening_of radix ++ (digits ++ c ∷ more)) d → Closed (base_of radix) (digits ++ c ∷ more) d
closed_of Decimal digits c more d are behind r = elim (behind_hash (digits ++ c ∷ more) d r) [
  | inl closed ↦ closed
  | inr (t, e, closed) ↦ absurd (refused digits are behind e)
]
  where
    refused : (digits : List ℕ) → all_digits 10 digits ≡ true → IsBehind Decimal digits c → {t : List ℕ} → digits ++ c ∷ more ≡ 120 ∷ t → ⊥
    refused digits are (inl some) {t} e = no_x digits (c ∷ more) t some are e
    refused [] are (inr other) e = other (ap first e)
    refused (x ∷ digits) are (inr other) {t} e = no_x (x ∷ digits) (c ∷ more) t (omega arith) are e
closed_of Hexadecimal digits c more d are behind r = behind_hex (digits ++ c ∷ more) d r

-- the next character is the semicolon, or the digits go on with it
pub split_digits : (radix : ℕ) (digits found : List ℕ) (c : ℕ) (more : List ℕ) → is_digit 59 radix ≡ false → all_digits radix digits ≡ true → digits ++ c ∷ more ≡ found ++ 59 ∷ []
    → ((c ≡ 59) × (found ≡ digits)) ⊎ ((rest : List ℕ) × (found ≡ digits ++ c ∷ rest))
split_digits radix [] [] c more no_end are e = inl (ap first e, refl)
split_digits radix [] (f ∷ found) c more no_end are e = inr (found, ap (λ x. x ∷ found) (sym (ap first e)))
split_digits radix (x ∷ digits) [] c more no_end are e =
    let digit = (and_parts (is_digit x radix) (all_digits radix digits) are).0 in
    absurd (true≢false (sym (subst (λ n. is_digit n radix ≡ true) (ap first e) digit) ∙ no_end))
split_digits radix (x ∷ digits) (f ∷ found) c more no_end are e =
    let same : f ≡ x = sym (ap first e) in
    elim (split_digits radix digits found c more no_end (and_parts (is_digit x radix) (all_digits radix digits) are).1 (ap (drop 1) e)) [
      | inl (is, all) ↦ inl (is, (λ i. same i ∷ all i))
      | inr (rest, all) ↦ inr (rest, (λ i. same i ∷ all i))
    ]

-- ---- what never is a reference

never : (radix : Radix) (value : Option ℕ) (text : List ℕ) (c : ℕ) (n : InNumber radix value text) → IsBehind radix n.digits c
    → ((more : List ℕ) (d : ℕ) → Closed (base_of radix) (n.digits ++ c ∷ more) d → ⊥) → NeverRefers (text ++ c ∷ [])
never radix value text c n behind no_more more d r =
    let is : (text ++ c ∷ []) ++ more ≡ opening_of radix ++ (n.digits ++ c ∷ more) =
    append_assoc text (c ∷ []) more ∙ ap (λ t. t ++ c ∷ more) n.text_is ∙ append_assoc (opening_of radix) n.digits (c ∷ more) in
    no_more more d (closed_of radix n.digits c more d n.are behind (subst (λ t. Refers t d) is r))

pub never_large : (radix : Radix) (value : Option ℕ) (text : List ℕ) (c : ℕ) → InNumber radix value text → is_digit c (base_of radix) ≡ true
    → 1114111 < unwrap_or value 0 * base_of radix + digit_value c → NeverRefers (text ++ c ∷ [])
never_large radix value text c n digit large = never radix value text c n (behind_digit radix n.digits c digit) refused
  where
    behind_digit : (radix : Radix) (digits : List ℕ) (c : ℕ) → is_digit c (base_of radix) ≡ true → IsBehind radix digits c
    behind_digit Decimal digits c digit = inr (λ e. true≢false (sym (subst (λ n. is_digit n 10 ≡ true) e digit)))
    behind_digit Hexadecimal digits c digit = tt

    too_large : (found : List ℕ) (rest : List ℕ) (d : ℕ) → IsNumber (base_of radix) found d → found ≡ n.digits ++ c ∷ rest → ⊥
    too_large found rest d is e =
        let base = base_of radix in
        let parts : radix_value base found ≡ fold (λ value digit. value * base + digit_value digit) (radix_value base n.digits * base + digit_value c) rest =
        ap (radix_value base) e ∙ fold-append (λ value digit. value * base + digit_value digit) 0 n.digits (c ∷ rest) in
        let least = grows base (radix_value base n.digits * base + digit_value c) rest (base_some radix) in
        let same = ap (λ v. v * base + digit_value c) (value_or base value n.digits n.value_is) in
        let small = char_small d is.char in
        let value_is = is.value in
        omega (arith, parts, least, same, small, value_is, large)

    refused : (more : List ℕ) (d : ℕ) → Closed (base_of radix) (n.digits ++ c ∷ more) d → ⊥
    refused more d (found, is, e) = elim (split_digits (base_of radix) n.digits found c more (semicolon_no_digit radix) n.are e) [
      | inl (end, all) ↦ true≢false (sym (subst (λ m. is_digit m (base_of radix) ≡ true) end digit) ∙ semicolon_no_digit radix)
      | inr (rest, all) ↦ too_large found rest d is all
    ]

never_digit : (radix : Radix) (value : Option ℕ) (text : List ℕ) (c : ℕ) (n : InNumber radix value text) → IsBehind radix n.digits c → is_digit c (base_of radix) ≡ false → c ≢ 59
    → NeverRefers (text ++ c ∷ [])
never_digit radix value text c n behind no_digit no_end = never radix value text c n behind (λ more d closed.
    elim (split_digits (base_of radix) n.digits closed.0 c more (semicolon_no_digit radix) n.are closed.2) [
      | inl (end, all) ↦ no_end end
      | inr (rest, all) ↦ true≢false (sym (digit_in (base_of radix) n.digits c rest (subst (λ l. all_digits (base_of radix) l ≡ true) all closed.1.are)) ∙ no_digit)
    ])

pub behind_end : (radix : Radix) (digits : List ℕ) → IsBehind radix digits 59
behind_end Decimal digits = inr (λ e. omega arith)
behind_end Hexadecimal digits = tt

pub never_closed : (radix : Radix) (value : Option ℕ) (text : List ℕ) → InNumber radix value text → MatchOption value (Unit {0}) (λ v. is_char v ≡ false) → NeverRefers (text ++ 59 ∷ [])
never_closed radix value text n no_char = never radix value text 59 n (behind_end radix n.digits) (λ more d closed.
    elim (split_digits (base_of radix) n.digits closed.0 59 more (semicolon_no_digit radix) n.are closed.2) [
      | inl (end, all) ↦ refused (base_of radix) value n.digits d n.value_is no_char (subst (λ l. IsNumber (base_of radix) l d) all closed.1)
      | inr (rest, all) ↦ true≢false (sym (digit_in (base_of radix) n.digits 59 rest (subst (λ l. all_digits (base_of radix) l ≡ true) all closed.1.are)) ∙ semicolon_no_digit radix)
    ])
  where
    refused : (base : ℕ) (value : Option ℕ) (digits : List ℕ) (d : ℕ) → IsValueOf base value digits → MatchOption value (Unit {0}) (λ v. is_char v ≡ false) → IsNumber base digits d → ⊥
    refused base None digits d none no_char is = let some = is.some in omega (arith, some, ap length none)
    refused base (Some v) digits d (some, has, small) no_char is = true≢false (sym is.char ∙ ap is_char (sym is.value ∙ has) ∙ no_char)

-- a character that is no digit ends no number but by the semicolon, and `x` comes directly behind `#` alone
pub never_other : (radix : Radix) (value : Option ℕ) (text : List ℕ) (c : ℕ) → InNumber radix value text → (digit_value c < base_of radix → ⊥) → c ≢ 59
    → (radix ≡ Decimal → value ≡ None → c ≢ 120) → NeverRefers (text ++ c ∷ [])
never_other radix value text c n no_digit no_end no_start = never_digit radix value text c n (behind radix value n.digits n.value_is no_start) (digit_not c (base_of radix) no_digit) no_end
  where
    behind : (radix : Radix) (value : Option ℕ) (digits : List ℕ) → IsValueOf (base_of radix) value digits → (radix ≡ Decimal → value ≡ None → c ≢ 120) → IsBehind radix digits c
    behind Decimal None digits is no_start = inr (no_start refl refl)
    behind Decimal (Some v) digits is no_start = inl is.0
    behind Hexadecimal value digits is no_start = tt

-- ---- how digits go on

pub closes : (radix : Radix) (v : ℕ) (text : List ℕ) → InNumber radix (Some v) text → is_char v ≡ true → Refers (text ++ 59 ∷ []) v
closes Decimal v text n char = by_decimal n.digits (record { some = n.value_is.0; are = n.are; value = n.value_is.1; char = char }) (ap (λ t. t ++ 59 ∷ []) n.text_is)
closes Hexadecimal v text n char = by_hexadecimal n.digits (record { some = n.value_is.0; are = n.are; value = n.value_is.1; char = char }) (ap (λ t. t ++ 59 ∷ []) n.text_is)

pub closes_at : (radix : Radix) (value : Option ℕ) (v c : ℕ) (text : List ℕ) → InNumber radix value text → c ≡ 59 → value ≡ Some v → is_char v ≡ true → Refers (text ++ c ∷ []) v
closes_at radix value v c text n end is char =
    subst (λ d. Refers (text ++ d ∷ []) v) (sym end) (closes radix v text (subst (λ (o : Option ℕ). InNumber radix o text) is n) char)

pub never_end : (radix : Radix) (value : Option ℕ) (c : ℕ) (text : List ℕ) → InNumber radix value text → c ≡ 59 → MatchOption value (Unit {0}) (λ v. is_char v ≡ false) → NeverRefers (text ++ c ∷ [])
never_end radix value c text n end no_char = subst (λ d. NeverRefers (text ++ d ∷ [])) (sym end) (never_closed radix value text n no_char)
