-- Each state goes on to a reference.
use Rattle.std.proofs.Common.{◌≡◌, ◌++◌, ◌∷◌, [], ◌&&◌, ◌<◌, ◌≤◌, ◌+◌, ◌*◌, ℕ, List, length, drop, true, refl, sym, ap, subst, ◌∙◌, arith, length-append, length-drop, append_assoc, take-append-drop, None, Some, inl, inr}
use Rattle.std.specs.Prelude.{Option, fold}
use Rattle.std.specs.Char.{is_digit, digit_value}
use Rattle.std.proofs.lemmas.Bool.{cases_lt}
use Rattle.std.proofs.lemmas.Bool.Decides.{nat_tests}
use Rattle.std.proofs.lemmas.List.Folds.{list_all-append}
use Rattle.std.proofs.lemmas.List.Sums.{fold-append}
use Rattle.gcx_base.specs.Characters.{is_char}
use Rattle.doc_chars.specs.declared.reference.Entity.{Entity}
use Rattle.doc_chars.specs.declared.reference.Radix.{Radix}
use Rattle.doc_chars.specs.declared.reference.Radix.TheVariants.{Decimal, Hexadecimal}
use Rattle.doc_chars.specs.declared.reference.State.{State}
use Rattle.doc_chars.specs.declared.reference.State.TheVariants.{Start, LetterA, Name, Number}
use Rattle.doc_chars.specs.Reference.{radix_value, all_digits, IsNumber, Refers, lt, amp, by_decimal, by_hexadecimal, BeginsReference}
use Rattle.doc_chars.specs.References.{base_of, opening_of, spelling_of, character_of, IsValueOf, InNumber, InName, StandsForText}
use Rattle.doc_chars.proofs.Names.{entity_refers}

-- some digits behind the value make a Char
record Completes (radix v : ℕ) : Type 0 where
  pub digits : List ℕ
  pub are : all_digits radix digits ≡ true
  pub char : is_char (fold (λ value digit. value * radix + digit_value digit) v digits) ≡ true
  pub some : v ≡ 0 → 0 < length digits

below_surrogates : (c : ℕ) → 32 ≤ c → c ≤ 55295 → is_char c ≡ true
below_surrogates c l h = grind (arith, nat_tests)

above_plane : (c : ℕ) → 65536 ≤ c → c ≤ 1114111 → is_char c ≡ true
above_plane c l h = grind (arith, nat_tests)

-- it is one already
complete : (radix v : ℕ) → 32 ≤ v → is_char v ≡ true → Completes radix v
complete radix v l char = record { digits = []; are = refl; char = char; some = λ e. absurd (omega (arith, e)) }

zero_more : (radix : Radix) (v : ℕ) → 32 ≤ v → is_char (v * base_of radix + 0) ≡ true → Completes (base_of radix) v
zero_more Decimal v l char = record { digits = 48 ∷ []; are = refl; char = char; some = λ e. omega arith }
zero_more Hexadecimal v l char = record { digits = 48 ∷ []; are = refl; char = char; some = λ e. omega arith }

small : (radix : Radix) (v : ℕ) → v < 32 → Completes (base_of radix) v
small Decimal v h = elim (cases_lt v 1) [
  | inl a ↦ record { digits = 54 ∷ 48 ∷ []; are = refl; char = below_surrogates ((v * 10 + 6) * 10 + 0) (omega arith) (omega arith); some = λ e. omega arith }
  | inr a ↦ record { digits = 48 ∷ 48 ∷ []; are = refl; char = below_surrogates ((v * 10 + 0) * 10 + 0) (omega arith) (omega arith); some = λ e. omega arith }
]
small Hexadecimal v h = elim (cases_lt v 1) [
  | inl a ↦ record { digits = 50 ∷ 48 ∷ []; are = refl; char = below_surrogates ((v * 16 + 2) * 16 + 0) (omega arith) (omega arith); some = λ e. omega arith }
  | inr a ↦ record { digits = 48 ∷ 48 ∷ []; are = refl; char = below_surrogates ((v * 16 + 0) * 16 + 0) (omega arith) (omega arith); some = λ e. omega arith }
]

past_plane : (radix : Radix) (v : ℕ) → 55296 ≤ v → v < 65536 → is_char (v * base_of radix + 0) ≡ true
past_plane Decimal v l h = above_plane (v * 10 + 0) (omega arith) (omega arith)
past_plane Hexadecimal v l h = above_plane (v * 16 + 0) (omega arith) (omega arith)

completes : (radix : Radix) (v : ℕ) → v ≤ 1114111 → Completes (base_of radix) v
completes radix v h = elim (cases_lt v 32) [
  | inl a ↦ small radix v a
  | inr a ↦ elim (cases_lt v 55296) [
    | inl b ↦ complete (base_of radix) v a (below_surrogates v a (omega arith))
    | inr b ↦ elim (cases_lt v 65536) [
      | inl d ↦ zero_more radix v a (past_plane radix v b d)
      | inr d ↦ complete (base_of radix) v a (above_plane v d h)
    ]
  ]
]

-- ---- the rest of a reference

goes_by : (text tail : List ℕ) (c : ℕ) → 0 < length tail → Refers (text ++ tail) c → BeginsReference text
goes_by text [] c some r = absurd (omega arith)
goes_by text (x ∷ tail) c some r = record { next = x; more = tail; c = c; refers = r }

closing : (text opening digits more : List ℕ) → text ≡ opening ++ digits → text ++ (more ++ 59 ∷ []) ≡ opening ++ ((digits ++ more) ++ 59 ∷ [])
closing text opening digits more is =
    ap (λ t. t ++ (more ++ 59 ∷ [])) is ∙ append_assoc opening digits (more ++ 59 ∷ []) ∙ ap (λ t. opening ++ t) (sym (append_assoc digits more (59 ∷ [])))

refers_by : (radix : Radix) (text digits : List ℕ) (c : ℕ) → IsNumber (base_of radix) digits c → text ≡ opening_of radix ++ (digits ++ 59 ∷ []) → Refers text c
refers_by Decimal text digits c n is = by_decimal digits n is
refers_by Hexadecimal text digits c n is = by_hexadecimal digits n is

value_small : (radix : ℕ) (value : Option ℕ) (digits : List ℕ) → IsValueOf radix value digits → radix_value radix digits ≤ 1114111
value_small radix None digits is = let zero : radix_value radix digits ≡ 0 = ap (radix_value radix) is in omega (arith, zero)
value_small radix (Some v) digits (some, is, most) = omega (arith, is, most)

some_digits : (radix : ℕ) (value : Option ℕ) (digits more : List ℕ) → IsValueOf radix value digits → (radix_value radix digits ≡ 0 → 0 < length more) → 0 < length (digits ++ more)
some_digits radix None digits more is some = omega (arith, some (ap (radix_value radix) is), length-append digits more)
some_digits radix (Some v) digits more (any, is, most) some = omega (arith, any, length-append digits more)

number_goes_on : (radix : Radix) (value : Option ℕ) (text : List ℕ) → InNumber radix value text → BeginsReference text
number_goes_on radix value text n =
    let base = base_of radix in
    let done = completes radix (radix_value base n.digits) (value_small base value n.digits n.value_is) in
    let digits = n.digits ++ done.digits in
    let c = fold (λ value digit. value * base + digit_value digit) (radix_value base n.digits) done.digits in
    goes_by text (done.digits ++ 59 ∷ []) c (omega (arith, length-append done.digits (59 ∷ [])))
    (refers_by radix (text ++ (done.digits ++ 59 ∷ [])) digits c
    (record {
      some = some_digits base value n.digits done.digits n.value_is done.some;
      are = list_all-append (λ d. is_digit d base) n.digits done.digits ∙ (λ i. n.are i && done.are i);
      value = fold-append (λ value digit. value * base + digit_value digit) 0 n.digits done.digits;
      char = done.char;
    })
    (closing text (opening_of radix) n.digits done.digits n.text_is))

name_goes_on : (e : Entity) (count : ℕ) (text : List ℕ) → InName e count text → BeginsReference text
name_goes_on e count text h =
    let short = h.short in
    let whole : text ++ drop count (spelling_of e) ≡ spelling_of e = ap (λ t. t ++ drop count (spelling_of e)) h.text_is ∙ take-append-drop count (spelling_of e) in
    goes_by text (drop count (spelling_of e)) (character_of e) (omega (arith, short, length-drop count (spelling_of e)))
    (subst (λ t. Refers t (character_of e)) (sym whole) (entity_refers e))

-- behind a state some reference goes on
pub goes_on : (state : State) (text : List ℕ) → StandsForText state text → BeginsReference text
goes_on Start text is = subst BeginsReference (sym is) (record { next = 108; more = 116 ∷ 59 ∷ []; c = 60; refers = lt refl refl })
goes_on LetterA text is = subst BeginsReference (sym is) (record { next = 109; more = 112 ∷ 59 ∷ []; c = 38; refers = amp refl refl })
goes_on (Name e count) text h = name_goes_on e count text h
goes_on (Number radix value) text h = number_goes_on radix value text h
