-- References: what is read of one begins one, and the machine reads exactly these.
use Rattle.std.proofs.Common.{ℕ, zero, suc, ◌≡◌, ◌+◌, ◌*◌, ◌≤◌, inl, inr, Bool, true, false, ◌&&◌, eqb, cond, List, [], ◌∷◌, ◌++◌, Option, Some, None, refl, sym, ap, ◌∙◌, append_assoc, arith, eqb-true, leb-true, le-leb}
use Rattle.std.specs.Prelude.{nat_le, bytes_eq}
use Rattle.std.proofs.lemmas.Bool.{false≢true, cases_lt, and_parts, and_from, or_cases, or_left, or_right, cond-true, cond-false}
use Rattle.std.proofs.lemmas.Option.{same_Some}
use Rattle.gcx_base.specs.Characters.{between, is_char}
use Rattle.gcx_model.specs.References.{Entity, less_than, greater_than, ampersand, apostrophe, quotation, entity_name, entity_char, Digits, no_digit, digit, digits_spelling, is_decimal, is_hexadecimal, AreDigits, worth, value_in, Reference, named, decimal_reference, hexadecimal_reference, reference_spelling, reference_char, IsReference, BegunReference, letters, number, decimals, hexadecimals, begun_spelling, is_front, begins_entity, greatest, IsBegun}
use Rattle.doc_laws.specs.Machine.{Letters, Number, More, Done, Bad, entity_of, done_entity, is_empty, refer}
use Rattle.doc_laws.specs.States.{referring}
use Rattle.doc_laws.proofs.Tests.{same_is}

-- a Char's number is no greater than the greatest
pub char_least : (v : ℕ) → is_char v ≡ true → v ≤ 1114111
char_least v h =
    elim (or_cases (eqb v 9) _ h) [
      | inl e ↦ let is = eqb-true v 9 e in omega (arith, is)
      | inr h ↦ elim (or_cases (eqb v 10) _ h) [
        | inl e ↦ let is = eqb-true v 10 e in omega (arith, is)
        | inr h ↦ elim (or_cases (eqb v 13) _ h) [
          | inl e ↦ let is = eqb-true v 13 e in omega (arith, is)
          | inr h ↦ elim (or_cases (between 32 55295 v) _ h) [
            | inl e ↦ let le = leb-true v 55295 (and_parts (nat_le 32 v) (nat_le v 55295) e).1 in omega (arith, le)
            | inr h ↦ elim (or_cases (between 57344 65533 v) _ h) [
              | inl e ↦ let le = leb-true v 65533 (and_parts (nat_le 57344 v) (nat_le v 65533) e).1 in omega (arith, le)
              | inr e ↦ leb-true v 1114111 (and_parts (nat_le 65536 v) (nat_le v 1114111) e).1
            ]
          ]
        ]
      ]
    ]

between_true : (l h v : ℕ) → l ≤ v → v ≤ h → between l h v ≡ true
between_true l h v a b = and_from (nat_le l v) (nat_le v h) (le-leb l v a) (le-leb v h b)

-- the ranges of Char
pub low_char : (v : ℕ) → 32 ≤ v → v ≤ 55295 → is_char v ≡ true
low_char v a b = or_right (eqb v 9) _ (or_right (eqb v 10) _ (or_right (eqb v 13) _ (or_left (between 32 55295 v) _ (between_true 32 55295 v a b))))

pub middle_char : (v : ℕ) → 57344 ≤ v → v ≤ 65533 → is_char v ≡ true
middle_char v a b = or_right (eqb v 9) _ (or_right (eqb v 10) _ (or_right (eqb v 13) _ (or_right (between 32 55295 v) _ (or_left (between 57344 65533 v) _ (between_true 57344 65533 v a b)))))

pub high_char : (v : ℕ) → 65536 ≤ v → v ≤ 1114111 → is_char v ≡ true
high_char v a b = or_right (eqb v 9) _ (or_right (eqb v 10) _ (or_right (eqb v 13) _ (or_right (between 32 55295 v) _ (or_right (between 57344 65533 v) _ (between_true 65536 1114111 v a b)))))

-- a list that begins a word
rest_of : (m w : List ℕ) → is_front m w ≡ true → (r : List ℕ) × (w ≡ m ++ r)
rest_of [] w h = (w, refl)
rest_of (c ∷ m) [] h = absurd (false≢true h)
rest_of (c ∷ m) (d ∷ w) h =
    let both = and_parts (eqb c d) (is_front m w) h in
    let k = rest_of m w both.1 in
    (k.0, ap (λ l. d ∷ l) k.1 ∙ ap (λ a. a ∷ (m ++ k.0)) (sym (eqb-true c d both.0)))

shorter_front : (a b w : List ℕ) → is_front (a ++ b) w ≡ true → is_front a w ≡ true
shorter_front [] b w h = refl
shorter_front (c ∷ a) b [] h = absurd (false≢true h)
shorter_front (c ∷ a) b (d ∷ w) h = let both = and_parts (eqb c d) (is_front (a ++ b) w) h in and_from (eqb c d) _ both.0 (shorter_front a b w both.1)

-- letters begin a name
begins_one : (m : List ℕ) → begins_entity m ≡ true → (e : Entity) × (is_front m (entity_name e) ≡ true)
begins_one m h =
    elim (or_cases (is_front m (entity_name less_than)) _ h) [
      | inl e ↦ (less_than, e)
      | inr h ↦ elim (or_cases (is_front m (entity_name greater_than)) _ h) [
        | inl e ↦ (greater_than, e)
        | inr h ↦ elim (or_cases (is_front m (entity_name ampersand)) _ h) [
          | inl e ↦ (ampersand, e)
          | inr h ↦ elim (or_cases (is_front m (entity_name apostrophe)) _ h) [
            | inl e ↦ (apostrophe, e)
            | inr e ↦ (quotation, e)
          ]
        ]
      ]
    ]

one_begins : (m : List ℕ) (e : Entity) → is_front m (entity_name e) ≡ true → begins_entity m ≡ true
one_begins m less_than h = or_left (is_front m (entity_name less_than)) _ h
one_begins m greater_than h = or_right (is_front m (entity_name less_than)) _ (or_left (is_front m (entity_name greater_than)) _ h)
one_begins m ampersand h = or_right (is_front m (entity_name less_than)) _ (or_right (is_front m (entity_name greater_than)) _ (or_left (is_front m (entity_name ampersand)) _ h))
one_begins m apostrophe h = or_right (is_front m (entity_name less_than)) _ (or_right (is_front m (entity_name greater_than)) _ (or_right (is_front m (entity_name ampersand)) _ (or_left (is_front m (entity_name apostrophe)) _ h)))
one_begins m quotation h = or_right (is_front m (entity_name less_than)) _ (or_right (is_front m (entity_name greater_than)) _ (or_right (is_front m (entity_name ampersand)) _ (or_right (is_front m (entity_name apostrophe)) _ h)))

begins_shorter : (a b : List ℕ) → begins_entity (a ++ b) ≡ true → begins_entity a ≡ true
begins_shorter a b h = let k = begins_one (a ++ b) h in one_begins a k.0 (shorter_front a b (entity_name k.0) k.1)

begins_name : (e : Entity) → begins_entity (entity_name e) ≡ true
begins_name less_than = refl
begins_name greater_than = refl
begins_name ampersand = refl
begins_name apostrophe = refl
begins_name quotation = refl

-- the character of a whole name

none_some : {X : Type 0} (v : ℕ) → None ≡ Some v → X
none_some v e = let no : ⊥ = cc in absurd no

entity_found : (m : List ℕ) (v : ℕ) → entity_of m ≡ Some v → (e : Entity) × (m ≡ entity_name e) × (entity_char e ≡ v)
entity_found m v h = by (bytes_eq m (entity_name less_than)) (bytes_eq m (entity_name greater_than)) (bytes_eq m (entity_name ampersand)) (bytes_eq m (entity_name apostrophe)) (bytes_eq m (entity_name quotation)) refl refl refl refl refl h
  where
    by : (a b c d e : Bool) → bytes_eq m (entity_name less_than) ≡ a → bytes_eq m (entity_name greater_than) ≡ b → bytes_eq m (entity_name ampersand) ≡ c → bytes_eq m (entity_name apostrophe) ≡ d → bytes_eq m (entity_name quotation) ≡ e → cond a (Some 60) (cond b (Some 62) (cond c (Some 38) (cond d (Some 39) (cond e (Some 34) None)))) ≡ Some v → (e : Entity) × (m ≡ entity_name e) × (entity_char e ≡ v)
    by true b c d e p q r s t h = (less_than, same_is m _ p, same_Some 60 v h)
    by false true c d e p q r s t h = (greater_than, same_is m _ q, same_Some 62 v h)
    by false false true d e p q r s t h = (ampersand, same_is m _ r, same_Some 38 v h)
    by false false false true e p q r s t h = (apostrophe, same_is m _ s, same_Some 39 v h)
    by false false false false true p q r s t h = (quotation, same_is m _ t, same_Some 34 v h)
    by false false false false false p q r s t h = none_some v h

-- Some reference begins so.
pub record Completes (r : BegunReference) : Type 0 where
  pub more : List ℕ
  pub reference : Reference
  pub good : IsReference reference
  pub spelled : reference_spelling reference ≡ begun_spelling r ++ more

completes_name : (m : List ℕ) → begins_entity m ≡ true → Completes (letters m)
completes_name m h =
    let k = begins_one m h in
    let r = rest_of m (entity_name k.0) k.1 in
    record { more = r.0 ++ (59 ∷ []); reference = named k.0; good = tt; spelled = ap (λ l. 38 ∷ (l ++ (59 ∷ []))) r.1 ∙ ap (λ l. 38 ∷ l) (append_assoc m r.0 (59 ∷ [])) }

-- two digits more, or one

data Growing (base v : ℕ) : Type 0 where
  as_is : is_char v ≡ true → Growing base v
  by_nines : is_char ((v * base + 9) * base + 9) ≡ true → Growing base v
  by_zero : is_char (v * base + 0) ≡ true → Growing base v

grows_ten : (v : ℕ) → v ≤ 1114111 → Growing 10 v
grows_ten v h =
    elim (cases_lt v 32) [
      | inl a ↦ by_nines (low_char ((v * 10 + 9) * 10 + 9) (omega arith) (omega arith))
      | inr a ↦ elim (cases_lt v 55296) [
        | inl b ↦ as_is (low_char v a (omega arith))
        | inr b ↦ elim (cases_lt v 57344) [
          | inl c ↦ by_zero (high_char (v * 10 + 0) (omega arith) (omega arith))
          | inr c ↦ elim (cases_lt v 65534) [
            | inl d ↦ as_is (middle_char v c (omega arith))
            | inr d ↦ elim (cases_lt v 65536) [
              | inl e ↦ by_zero (high_char (v * 10 + 0) (omega arith) (omega arith))
              | inr e ↦ as_is (high_char v e h)
            ]
          ]
        ]
      ]
    ]

grows_sixteen : (v : ℕ) → v ≤ 1114111 → Growing 16 v
grows_sixteen v h =
    elim (cases_lt v 32) [
      | inl a ↦ by_nines (low_char ((v * 16 + 9) * 16 + 9) (omega arith) (omega arith))
      | inr a ↦ elim (cases_lt v 55296) [
        | inl b ↦ as_is (low_char v a (omega arith))
        | inr b ↦ elim (cases_lt v 57344) [
          | inl c ↦ by_zero (high_char (v * 16 + 0) (omega arith) (omega arith))
          | inr c ↦ elim (cases_lt v 65534) [
            | inl d ↦ as_is (middle_char v c (omega arith))
            | inr d ↦ elim (cases_lt v 65536) [
              | inl e ↦ by_zero (high_char (v * 16 + 0) (omega arith) (omega arith))
              | inr e ↦ as_is (high_char v e h)
            ]
          ]
        ]
      ]
    ]

completes_decimal : (ds : Digits) (c : ℕ) → AreDigits is_decimal (digit ds c) → nat_le (value_in 10 (digit ds c)) greatest ≡ true → Completes (decimals ds c)
completes_decimal ds c g h = by (grows_ten (value_in 10 (digit ds c)) (leb-true (value_in 10 (digit ds c)) 1114111 h))
  where
    by : Growing 10 (value_in 10 (digit ds c)) → Completes (decimals ds c)
    by (as_is k) = record { more = 59 ∷ []; reference = decimal_reference (digit ds c); good = (g, k); spelled = refl }
    by (by_nines k) = record { more = 57 ∷ (57 ∷ (59 ∷ [])); reference = decimal_reference (digit (digit (digit ds c) 57) 57); good = (((g, refl), refl), k); spelled = simp append_assoc }
    by (by_zero k) = record { more = 48 ∷ (59 ∷ []); reference = decimal_reference (digit (digit ds c) 48); good = ((g, refl), k); spelled = simp append_assoc }

completes_hexadecimal : (ds : Digits) → AreDigits is_hexadecimal ds → nat_le (value_in 16 ds) greatest ≡ true → Completes (hexadecimals ds)
completes_hexadecimal ds g h = by (grows_sixteen (value_in 16 ds) (leb-true (value_in 16 ds) 1114111 h))
  where
    by : Growing 16 (value_in 16 ds) → Completes (hexadecimals ds)
    by (as_is k) = record { more = 59 ∷ []; reference = hexadecimal_reference ds; good = (g, k); spelled = refl }
    by (by_nines k) = record { more = 57 ∷ (57 ∷ (59 ∷ [])); reference = hexadecimal_reference (digit (digit ds 57) 57); good = (((g, refl), refl), k); spelled = simp append_assoc }
    by (by_zero k) = record { more = 48 ∷ (59 ∷ []); reference = hexadecimal_reference (digit ds 48); good = ((g, refl), k); spelled = simp append_assoc }

pub completes : (r : BegunReference) → IsBegun r → Completes r
completes (letters m) h = completes_name m h
completes number h = record { more = 57 ∷ (59 ∷ []); reference = decimal_reference (digit no_digit 57); good = ((tt, refl), refl); spelled = refl }
completes (decimals ds c) h = completes_decimal ds c h.0 h.1
completes (hexadecimals ds) h = completes_hexadecimal ds h.0 h.1

-- What the machine makes of a character behind what is begun.
pub data Refers (r : BegunReference) (c : ℕ) : Type 0 where
  goes_on : (q : BegunReference) → IsBegun q → begun_spelling q ≡ begun_spelling r ++ (c ∷ []) → refer (referring r) c ≡ More (referring q) → Refers r c
  is_done : (t : Reference) → IsReference t → reference_spelling t ≡ begun_spelling r ++ (c ∷ []) → refer (referring r) c ≡ Done (reference_char t) → Refers r c
  is_bad : refer (referring r) c ≡ Bad → Refers r c

refers_letters : (m : List ℕ) (c : ℕ) → Refers (letters m) c
refers_letters m c = by (begins_entity (m ++ c ∷ [])) (eqb c 59) (entity_of m) (eqb c 35) m refl refl refl refl refl
  where
    by : (a b : Bool) (o : Option ℕ) (d : Bool) (l : List ℕ) → begins_entity (m ++ c ∷ []) ≡ a → eqb c 59 ≡ b → entity_of m ≡ o → eqb c 35 ≡ d → m ≡ l → Refers (letters m) c
    by true b o d l p q r s t = goes_on (letters (m ++ c ∷ [])) p refl (cond-true (begins_entity (m ++ c ∷ [])) _ _ p)
    by false true (Some v) d l p q r s t =
        let k = entity_found m v r in
        is_done (named k.0) tt (ap (λ w. 38 ∷ (w ++ (59 ∷ []))) (sym k.1) ∙ ap (λ a. 38 ∷ (m ++ (a ∷ []))) (sym (eqb-true c 59 q)))
        (cond-false (begins_entity (m ++ c ∷ [])) _ _ p ∙ cond-true (eqb c 59) _ _ q ∙ ap done_entity r ∙ ap Done (sym k.2))
    by false true None d l p q r s t = is_bad (cond-false (begins_entity (m ++ c ∷ [])) _ _ p ∙ cond-true (eqb c 59) _ _ q ∙ ap done_entity r)
    by false false o true [] p q r s t =
        goes_on number tt (ap (λ a. 38 ∷ (a ∷ [])) (sym (eqb-true c 35 s)) ∙ ap (λ w. 38 ∷ (w ++ (c ∷ []))) (sym t))
        (cond-false (begins_entity (m ++ c ∷ [])) _ _ p ∙ cond-false (eqb c 59) _ _ q ∙ cond-true (eqb c 35 && is_empty m) _ _ (and_from (eqb c 35) _ s (ap is_empty t)))
    by false false o true (x ∷ l) p q r s t = is_bad (cond-false (begins_entity (m ++ c ∷ [])) _ _ p ∙ cond-false (eqb c 59) _ _ q ∙ cond-false (eqb c 35 && is_empty m) _ _ (ap (λ b. b && is_empty m) s ∙ ap is_empty t))
    by false false o false l p q r s t = is_bad (cond-false (begins_entity (m ++ c ∷ [])) _ _ p ∙ cond-false (eqb c 59) _ _ q ∙ cond-false (eqb c 35 && is_empty m) _ _ (ap (λ b. b && is_empty m) s))

refers_number : (c : ℕ) → Refers number c
refers_number c = by (is_decimal c) (nat_le (0 * 10 + worth c) greatest) (eqb c 120) refl refl refl
  where
    by : (a b d : Bool) → is_decimal c ≡ a → nat_le (0 * 10 + worth c) greatest ≡ b → eqb c 120 ≡ d → Refers number c
    by true true d p q s = goes_on (decimals no_digit c) ((tt, p), q) refl (cond-true (is_decimal c) _ _ p ∙ cond-true (nat_le (0 * 10 + worth c) greatest) _ _ q)
    by true false d p q s = is_bad (cond-true (is_decimal c) _ _ p ∙ cond-false (nat_le (0 * 10 + worth c) greatest) _ _ q)
    by false b true p q s = goes_on (hexadecimals no_digit) (tt, refl) (ap (λ a. 38 ∷ (35 ∷ (a ∷ []))) (sym (eqb-true c 120 s))) (cond-false (is_decimal c) _ _ p ∙ cond-true (eqb c 120) _ _ s)
    by false b false p q s = is_bad (cond-false (is_decimal c) _ _ p ∙ cond-false (eqb c 120) _ _ s)

refers_decimals : (ds : Digits) (e c : ℕ) → IsBegun (decimals ds e) → Refers (decimals ds e) c
refers_decimals ds e c g = by (is_decimal c) (nat_le ((value_in 10 (digit ds e)) * 10 + worth c) greatest) (eqb c 59) (is_char (value_in 10 (digit ds e))) refl refl refl refl
  where
    by : (a b d f : Bool) → is_decimal c ≡ a → nat_le ((value_in 10 (digit ds e)) * 10 + worth c) greatest ≡ b → eqb c 59 ≡ d → is_char (value_in 10 (digit ds e)) ≡ f → Refers (decimals ds e) c
    by true true d f p q s t = goes_on (decimals (digit ds e) c) ((g.0, p), q) refl (cond-true (is_decimal c) _ _ p ∙ cond-true (nat_le ((value_in 10 (digit ds e)) * 10 + worth c) greatest) _ _ q)
    by true false d f p q s t = is_bad (cond-true (is_decimal c) _ _ p ∙ cond-false (nat_le ((value_in 10 (digit ds e)) * 10 + worth c) greatest) _ _ q)
    by false b true true p q s t =
        is_done (decimal_reference (digit ds e)) (g.0, t) (ap (λ a. 38 ∷ (35 ∷ (digits_spelling (digit ds e) ++ (a ∷ [])))) (sym (eqb-true c 59 s)))
        (cond-false (is_decimal c) _ _ p ∙ cond-true (eqb c 59) _ _ s ∙ cond-true (is_char (value_in 10 (digit ds e))) _ _ t)
    by false b true false p q s t = is_bad (cond-false (is_decimal c) _ _ p ∙ cond-true (eqb c 59) _ _ s ∙ cond-false (is_char (value_in 10 (digit ds e))) _ _ t)
    by false b false f p q s t = is_bad (cond-false (is_decimal c) _ _ p ∙ cond-false (eqb c 59) _ _ s)

refers_hexadecimals : (ds : Digits) (c : ℕ) → IsBegun (hexadecimals ds) → Refers (hexadecimals ds) c
refers_hexadecimals ds c g = by (is_hexadecimal c) (nat_le ((value_in 16 ds) * 16 + worth c) greatest) (eqb c 59) (is_char (value_in 16 ds)) refl refl refl refl
  where
    by : (a b d f : Bool) → is_hexadecimal c ≡ a → nat_le ((value_in 16 ds) * 16 + worth c) greatest ≡ b → eqb c 59 ≡ d → is_char (value_in 16 ds) ≡ f → Refers (hexadecimals ds) c
    by true true d f p q s t = goes_on (hexadecimals (digit ds c)) ((g.0, p), q) refl (cond-true (is_hexadecimal c) _ _ p ∙ cond-true (nat_le ((value_in 16 ds) * 16 + worth c) greatest) _ _ q)
    by true false d f p q s t = is_bad (cond-true (is_hexadecimal c) _ _ p ∙ cond-false (nat_le ((value_in 16 ds) * 16 + worth c) greatest) _ _ q)
    by false b true true p q s t =
        is_done (hexadecimal_reference ds) (g.0, t) (ap (λ a. 38 ∷ (35 ∷ (120 ∷ (digits_spelling ds ++ (a ∷ []))))) (sym (eqb-true c 59 s)))
        (cond-false (is_hexadecimal c) _ _ p ∙ cond-true (eqb c 59) _ _ s ∙ cond-true (is_char (value_in 16 ds)) _ _ t)
    by false b true false p q s t = is_bad (cond-false (is_hexadecimal c) _ _ p ∙ cond-true (eqb c 59) _ _ s ∙ cond-false (is_char (value_in 16 ds)) _ _ t)
    by false b false f p q s t = is_bad (cond-false (is_hexadecimal c) _ _ p ∙ cond-false (eqb c 59) _ _ s)

pub refers : (r : BegunReference) (c : ℕ) → IsBegun r → Refers r c
refers (letters m) c g = refers_letters m c
refers number c g = refers_number c
refers (decimals ds e) c g = refers_decimals ds e c g
refers (hexadecimals ds) c g = refers_hexadecimals ds c g

-- a character that goes on with what is begun, or ends it
pub name_on : (m : List ℕ) (c : ℕ) → begins_entity (m ++ c ∷ []) ≡ true → refer (Letters m) c ≡ More (Letters (m ++ c ∷ []))
name_on m c h = cond-true (begins_entity (m ++ c ∷ [])) _ _ h

pub decimal_on : (ds : Digits) (e c : ℕ) → is_decimal c ≡ true → nat_le (value_in 10 (digit (digit ds e) c)) greatest ≡ true → refer (referring (decimals ds e)) c ≡ More (referring (decimals (digit ds e) c))
decimal_on ds e c p q = cond-true (is_decimal c) _ _ p ∙ cond-true (nat_le (value_in 10 (digit ds e) * 10 + worth c) greatest) _ _ q

pub first_decimal : (c : ℕ) → is_decimal c ≡ true → nat_le (value_in 10 (digit no_digit c)) greatest ≡ true → refer Number c ≡ More (referring (decimals no_digit c))
first_decimal c p q = cond-true (is_decimal c) _ _ p ∙ cond-true (nat_le (0 * 10 + worth c) greatest) _ _ q

pub hexadecimal_on : (ds : Digits) (c : ℕ) → is_hexadecimal c ≡ true → nat_le (value_in 16 (digit ds c)) greatest ≡ true → refer (referring (hexadecimals ds)) c ≡ More (referring (hexadecimals (digit ds c)))
hexadecimal_on ds c p q = cond-true (is_hexadecimal c) _ _ p ∙ cond-true (nat_le (value_in 16 ds * 16 + worth c) greatest) _ _ q

pub name_done : (e : Entity) → refer (Letters (entity_name e)) 59 ≡ Done (entity_char e)
name_done less_than = refl
name_done greater_than = refl
name_done ampersand = refl
name_done apostrophe = refl
name_done quotation = refl

pub begins_whole : (e : Entity) → begins_entity (entity_name e) ≡ true
begins_whole e = begins_name e

pub begins_front : (a b : List ℕ) → begins_entity (a ++ b) ≡ true → begins_entity a ≡ true
begins_front a b h = begins_shorter a b h

pub decimal_done : (ds : Digits) (c : ℕ) → is_char (value_in 10 (digit ds c)) ≡ true → refer (referring (decimals ds c)) 59 ≡ Done (value_in 10 (digit ds c))
decimal_done ds c h = cond-true (is_char (value_in 10 (digit ds c))) _ _ h

pub hexadecimal_done : (ds : Digits) → is_char (value_in 16 ds) ≡ true → refer (referring (hexadecimals ds)) 59 ≡ Done (value_in 16 ds)
hexadecimal_done ds h = cond-true (is_char (value_in 16 ds)) _ _ h

pub char_value : (v : ℕ) → is_char v ≡ true → nat_le v greatest ≡ true
char_value v h = le-leb v 1114111 (char_least v h)

pub value_shorter : (base : ℕ) (ds : Digits) (c : ℕ) → 1 ≤ base → nat_le (value_in base (digit ds c)) greatest ≡ true → nat_le (value_in base ds) greatest ≡ true
value_shorter base ds c one h = le-leb (value_in base ds) 1114111 (shorter (value_in base ds) base (worth c) one (leb-true (value_in base (digit ds c)) 1114111 h))
  where
    shorter : (v b w : ℕ) → 1 ≤ b → v * b + w ≤ 1114111 → v ≤ 1114111
    shorter v zero w one h = absurd (omega arith)
    shorter v (suc b) w one h = grind arith
