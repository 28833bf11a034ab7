-- Strings in quotes, before what doubles no quote.
use Rattle.std.proofs.Common.{ℕ, ◌≡◌, ◌⊎◌, ◌==◌, Bool, true, false, ◌&&◌, cond, List, [], ◌∷◌, ◌++◌, flat_map, inl, inr, refl, sym, ap, ◌∙◌, subst, arith, append_assoc, eqb-true}
use Rattle.std.specs.Prelude.{IsUtf8, codes}
use Rattle.std.specs.List.{list_all}
use Rattle.std.specs.Char.{IsScalar}
use Rattle.std.specs.Str.{all_scalars, chars, encode_utf8_all}
use Rattle.std.proofs.lemmas.Bool.{and_parts, and_from, or_cases, cond_both, not-true}
use Rattle.std.proofs.lemmas.Bool.Decides.{nat_tests}
use Rattle.std.proofs.lemmas.Str.{IsUtf8-append, encodes-append, chars_from_encodes}
use Rattle.gcx_base.specs.Characters.{is_char}
use Rattle.doc_chars.specs.Reference.{Refers, lt, gt, amp, apos, quot, by_decimal, by_hexadecimal}
use Rattle.xq_lex.specs.declared.token.TokKind.TheVariants as kinds
use Rattle.xq_lex.specs.Sign.{begins}
use Rattle.xq_lex.specs.Strings.{Part, plain, doubled, reference, is_quote, part_chars, IsPart, part_value, parts_chars, AreParts, parts_value}
use Rattle.xq_lex.specs.Form.{string, form_chars, BeginsWith}
use Rattle.xq_lex.proofs.FormLaws.{string_begins}
use Rattle.xq_print.specs.Literals.{quoted}
use Rattle.xq_print.proofs.Forms.{part_of, parts_of, Fits}

-- ---- The value of a string is made of Chars.

refers_char : (text : List ℕ) (c : ℕ) → Refers text c → is_char c ≡ true
refers_char text c (lt e h) = ap is_char h
refers_char text c (gt e h) = ap is_char h
refers_char text c (amp e h) = ap is_char h
refers_char text c (apos e h) = ap is_char h
refers_char text c (quot e h) = ap is_char h
refers_char text c (by_decimal digits n e) = n.char
refers_char text c (by_hexadecimal digits n e) = n.char

quote_char : (q : ℕ) → is_quote q ≡ true → is_char q ≡ true
quote_char q e = by (or_cases (q == 34) (q == 39) e)
  where
    by : ((q == 34) ≡ true) ⊎ ((q == 39) ≡ true) → is_char q ≡ true
    by (inl h) = ap is_char (eqb-true q 34 h)
    by (inr h) = ap is_char (eqb-true q 39 h)

value_char : (q : ℕ) (p : Part) → is_quote q ≡ true → IsPart q p → is_char (part_value q p) ≡ true
value_char q (plain c) h g = g.0
value_char q doubled h g = quote_char q h
value_char q (reference text c) h g = refers_char text c g

pub value_chars : (q : ℕ) (ps : List Part) → is_quote q ≡ true → AreParts q ps → list_all is_char (parts_value q ps) ≡ true
value_chars q [] h g = refl
value_chars q (p ∷ ps) h g = and_from (is_char (part_value q p)) (list_all is_char (parts_value q ps)) (value_char q p h g.0) (value_chars q ps h g.1)

char_scalar : (c : ℕ) → is_char c ≡ true → IsScalar c
char_scalar c h = grind (arith, nat_tests)

chars_scalars : (cs : List ℕ) → list_all is_char cs ≡ true → all_scalars cs ≡ true
chars_scalars [] h = refl
chars_scalars (c ∷ cs) h =
    let parts = and_parts (is_char c) (list_all is_char cs) h in
    (λ i. char_scalar c parts.0 i && chars_scalars cs parts.1 i)

chars_utf8 : (cs : List ℕ) → list_all is_char cs ≡ true → IsUtf8 (encode_utf8_all cs)
chars_utf8 cs h = (cs, (chars_scalars cs h, refl))

pub string_chars : (cs : List ℕ) → list_all is_char cs ≡ true → cs ≡ chars (encode_utf8_all cs)
string_chars cs h = chars_from_encodes cs (encode_utf8_all cs) (chars_utf8 cs h) refl

-- ---- Its parts as they are printed

part_good : (c : ℕ) → is_char c ≡ true → IsPart 34 (part_of c)
part_good c h =
    cond_both (c == 34) doubled (cond (c == 38) (reference (codes "amp;") 38) (plain c)) (λ p. IsPart 34 p)
    (λ _. tt)
    (λ no. cond_both (c == 38) (reference (codes "amp;") 38) (plain c) (λ p. IsPart 34 p) (λ _. amp refl refl) (λ other. (h, no, other)))

parts_good : (cs : List ℕ) → list_all is_char cs ≡ true → AreParts 34 (parts_of cs)
parts_good [] h = tt
parts_good (c ∷ cs) h = let both = and_parts (is_char c) (list_all is_char cs) h in (part_good c both.0, parts_good cs both.1)

part_is : (c : ℕ) → part_value 34 (part_of c) ≡ c
part_is c =
    cond_both (c == 34) doubled (cond (c == 38) (reference (codes "amp;") 38) (plain c)) (λ p. part_value 34 p ≡ c)
    (λ e. sym (eqb-true c 34 e))
    (λ _. cond_both (c == 38) (reference (codes "amp;") 38) (plain c) (λ p. part_value 34 p ≡ c) (λ e. sym (eqb-true c 38 e)) (λ _. refl))

parts_are : (cs : List ℕ) → parts_value 34 (parts_of cs) ≡ cs
parts_are [] = refl
parts_are (c ∷ cs) = (λ i. part_is c i ∷ parts_are cs i)

part_text : (c : ℕ) (rest : List ℕ) → part_chars 34 (part_of c) rest ≡ quoted c ++ rest
part_text c rest = by (c == 34) (c == 38)
  where
    by : (a b : Bool) → part_chars 34 (cond a doubled (cond b (reference (codes "amp;") 38) (plain c))) rest ≡ cond a (codes "\"\"") (cond b (codes "&amp;") (c ∷ [])) ++ rest
    by true b = refl
    by false true = refl
    by false false = refl

pub parts_text : (cs rest : List ℕ) → parts_chars 34 (parts_of cs) rest ≡ flat_map quoted cs ++ rest
parts_text [] rest = refl
parts_text (c ∷ cs) rest =
    ap (λ (x : List ℕ). part_chars 34 (part_of c) x) (parts_text cs rest)
    ∙ (part_text c (flat_map quoted cs ++ rest) ∙ sym (append_assoc (quoted c) (flat_map quoted cs) rest))

quoted_chars : (c : ℕ) → is_char c ≡ true → all_scalars (quoted c) ≡ true
quoted_chars c h =
    cond_both (c == 34) (codes "\"\"") (cond (c == 38) (codes "&amp;") (c ∷ [])) (λ x. all_scalars x ≡ true)
    (λ _. refl)
    (λ _. cond_both (c == 38) (codes "&amp;") (c ∷ []) (λ x. all_scalars x ≡ true) (λ _. refl) (λ _. chars_scalars (c ∷ []) (and_from (is_char c) true h refl)))

quoted_utf8 : (cs : List ℕ) → list_all is_char cs ≡ true → IsUtf8 (encode_utf8_all (flat_map quoted cs))
quoted_utf8 [] h = ([], (refl, refl))
quoted_utf8 (c ∷ cs) h =
    let both = and_parts (is_char c) (list_all is_char cs) h in
    subst IsUtf8 (sym (encodes-append (quoted c) (flat_map quoted cs)))
    (IsUtf8-append (encode_utf8_all (quoted c)) (encode_utf8_all (flat_map quoted cs)) (quoted c, (quoted_chars c both.0, refl)) (quoted_utf8 cs both.1))

one_quote : IsUtf8 (encode_utf8_all (34 ∷ []))
one_quote = (34 ∷ [], (refl, refl))

string_utf8 : (cs : List ℕ) → list_all is_char cs ≡ true → IsUtf8 (encode_utf8_all (34 ∷ parts_chars 34 (parts_of cs) (34 ∷ [])))
string_utf8 cs h =
    subst (λ (x : List ℕ). IsUtf8 (encode_utf8_all (34 ∷ x))) (sym (parts_text cs (34 ∷ [])))
    (subst IsUtf8 (sym (encodes-append (34 ∷ []) (flat_map quoted cs ++ 34 ∷ []) ∙ ap (λ (x : List ℕ). encode_utf8_all (34 ∷ []) ++ x) (encodes-append (flat_map quoted cs) (34 ∷ []))))
    (IsUtf8-append (encode_utf8_all (34 ∷ [])) (encode_utf8_all (flat_map quoted cs) ++ encode_utf8_all (34 ∷ [])) one_quote
    (IsUtf8-append (encode_utf8_all (flat_map quoted cs)) (encode_utf8_all (34 ∷ [])) (quoted_utf8 cs h) one_quote)))

string_whole : (cs rest : List ℕ) → list_all is_char cs ≡ true → begins 34 rest ≡ false → BeginsWith (form_chars (string 34 (parts_of cs)) rest) (string 34 (parts_of cs)) rest
string_whole cs rest h single = string_begins 34 (parts_chars 34 (parts_of cs) (34 ∷ rest)) (parts_of cs) rest refl (record { good = parts_good cs h; chars = refl; single = single })

pub string_fits : (cs : List ℕ) → list_all is_char cs ≡ true → Fits (string 34 (parts_of cs)) (kinds.Str (encode_utf8_all cs))
string_fits cs h = record {
  is = ap (λ (x : List ℕ). kinds.Str (encode_utf8_all x)) (sym (parts_are cs));
  in_range = refl;
  utf8 = string_utf8 cs h;
  begins = λ rest ends. string_whole cs rest h (not-true (begins 34 rest) ends);
}
