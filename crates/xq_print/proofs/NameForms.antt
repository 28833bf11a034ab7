-- Names and variables, before what ends them.
use Rattle.std.proofs.Common.{ℕ, ◌≡◌, ◌==◌, true, false, not, ◌&&◌, List, [], ◌∷◌, ◌++◌, refl, sym, ap, ◌∙◌, subst, append-nil}
use Rattle.std.specs.Prelude.{IsUtf8}
use Rattle.std.specs.Str.{chars, encode_utf8_all}
use Rattle.std.proofs.lemmas.Bool.{and_parts, and_from, and_left, and_right, or_parts, or_from, cond-false, not-true, not_from_false, false≢true, ne_eqb}
use Rattle.std.proofs.lemmas.List.{append_cancel_left}
use Rattle.std.proofs.lemmas.Str.{IsUtf8-append, encodes-append, chars_from_encodes}
use Rattle.gcx_base.specs.Characters.{is_part_char}
use Rattle.gcx_base.specs.Name.{is_name}
use Rattle.base_laws.proofs.Lists.{cons_tail}
use Rattle.xq_lex.specs.declared.token.TokKind.TheVariants as kinds
use Rattle.xq_lex.specs.Sign.{begins}
use Rattle.xq_lex.specs.Names.{may_go_on, is_pair, has_pair, is_query_name, parts_at, name_at}
use Rattle.xq_lex.specs.Form.{name, variable, BeginsWith}
use Rattle.xq_lex.proofs.NameLaws.{name_at-append}
use Rattle.xq_lex.proofs.FormLaws.{name_begins, variable_begins}
use Rattle.xq_print.proofs.Forms.{ends_word, Fits}
use Rattle.xq_print.proofs.Names.{name_utf8}

-- no part of a name begins the text, so neither does a colon
no_colon : (rest : List ℕ) → ends_word rest ≡ true → begins 58 rest ≡ false
no_colon [] e = refl
no_colon (c ∷ cs) e = let no : is_part_char c ≡ false = not-true (is_part_char c) e in ne_eqb c 58 (λ h. false≢true (sym no ∙ ap is_part_char h))

no_parts : (rest : List ℕ) → ends_word rest ≡ true → parts_at rest ≡ []
unfolding may_go_on
no_parts [] e = refl
no_parts (c ∷ cs) e = cond-false (may_go_on c && not (is_pair (c ∷ cs))) _ _ (and_left (may_go_on c) (not (is_pair (c ∷ cs))) (not-true (is_part_char c) e))

-- without two colons in it, and with no colon behind it
apart : (cs before rest : List ℕ) → begins 58 rest ≡ false → has_pair cs before ≡ false → has_pair cs rest ≡ false
apart [] before rest none e = refl
apart (c ∷ []) before rest none e = or_from ((c == 58) && begins 58 rest) false (and_right (c == 58) (begins 58 rest) none) refl
apart (c ∷ d ∷ ds) before rest none e =
    let parts : (((c == 58) && (d == 58)) ≡ false) × (has_pair (d ∷ ds) before ≡ false) = or_parts ((c == 58) && (d == 58)) (has_pair (d ∷ ds) before) e in
    or_from ((c == 58) && (d == 58)) (has_pair (d ∷ ds) rest) parts.0 (apart (d ∷ ds) before rest none parts.1)

pub name_before : (cs before rest : List ℕ) → is_query_name cs before ≡ true → ends_word rest ≡ true → is_query_name cs rest ≡ true
name_before cs before rest good ends =
    let both : (is_name cs ≡ true) × (not (has_pair cs before) ≡ true) = and_parts (is_name cs) (not (has_pair cs before)) good in
    and_from (is_name cs) (not (has_pair cs rest)) both.0 (not_from_false (has_pair cs rest) (apart cs before rest (no_colon rest ends) (not-true (has_pair cs before) both.1)))

found : (cs rest : List ℕ) → is_query_name cs rest ≡ true → ends_word rest ≡ true → name_at (cs ++ rest) ≡ cs
found cs rest good ends = name_at-append cs rest good ∙ (ap (λ (x : List ℕ). cs ++ x) (no_parts rest ends) ∙ append-nil cs)

name_whole : (cs rest : List ℕ) → is_query_name cs rest ≡ true → ends_word rest ≡ true → BeginsWith (cs ++ rest) (name cs) rest
name_whole [] rest good ends = absurd (false≢true good)
name_whole (c ∷ cs) rest good ends = by (name_begins ((c ∷ cs) ++ rest) c cs (found (c ∷ cs) rest good ends))
  where
    by : (r : List ℕ) × BeginsWith ((c ∷ cs) ++ rest) (name (c ∷ cs)) r → BeginsWith ((c ∷ cs) ++ rest) (name (c ∷ cs)) rest
    by (r, b) = subst (λ (x : List ℕ). BeginsWith ((c ∷ cs) ++ rest) (name (c ∷ cs)) x) (sym (append_cancel_left (c ∷ cs) rest r b.chars)) b

variable_whole : (cs rest : List ℕ) → is_query_name cs rest ≡ true → ends_word rest ≡ true → BeginsWith (36 ∷ (cs ++ rest)) (variable cs) rest
variable_whole [] rest good ends = absurd (false≢true good)
variable_whole (c ∷ cs) rest good ends = by (variable_begins ((c ∷ cs) ++ rest) c cs (found (c ∷ cs) rest good ends))
  where
    by : (r : List ℕ) × BeginsWith (36 ∷ ((c ∷ cs) ++ rest)) (variable (c ∷ cs)) r → BeginsWith (36 ∷ ((c ∷ cs) ++ rest)) (variable (c ∷ cs)) rest
    by (r, b) = subst (λ (x : List ℕ). BeginsWith (36 ∷ ((c ∷ cs) ++ rest)) (variable (c ∷ cs)) x) (sym (append_cancel_left (c ∷ cs) rest r (cons_tail 36 36 ((c ∷ cs) ++ rest) ((c ∷ cs) ++ r) b.chars))) b

-- ---- Both, by the bytes of a name

utf8_of : (cs before : List ℕ) → is_query_name cs before ≡ true → IsUtf8 (encode_utf8_all cs)
utf8_of cs before good = name_utf8 (encode_utf8_all cs) (record { chars = cs; name = (and_parts (is_name cs) (not (has_pair cs before)) good).0; parts = refl })

pub name_chars : (cs before : List ℕ) → is_query_name cs before ≡ true → cs ≡ chars (encode_utf8_all cs)
name_chars cs before good = chars_from_encodes cs (encode_utf8_all cs) (utf8_of cs before good) refl

plain_utf8 : (cs before : List ℕ) → is_query_name cs before ≡ true → IsUtf8 (encode_utf8_all (cs ++ []))
plain_utf8 cs before good = subst (λ (x : List ℕ). IsUtf8 (encode_utf8_all x)) (sym (append-nil cs)) (utf8_of cs before good)

pub name_fits : (cs before : List ℕ) → is_query_name cs before ≡ true → Fits (name cs) (kinds.Name (encode_utf8_all cs))
name_fits cs before good = record {
  is = refl;
  in_range = refl;
  utf8 = plain_utf8 cs before good;
  begins = λ rest ends. name_whole cs rest (name_before cs before rest good ends) ends;
}

dollar : IsUtf8 (encode_utf8_all (36 ∷ []))
dollar = (36 ∷ [], (refl, refl))

pub variable_fits : (cs before : List ℕ) → is_query_name cs before ≡ true → Fits (variable cs) (kinds.Var (encode_utf8_all cs))
variable_fits cs before good = record {
  is = refl;
  in_range = refl;
  utf8 = subst IsUtf8 (sym (encodes-append (36 ∷ []) (cs ++ []))) (IsUtf8-append (encode_utf8_all (36 ∷ [])) (encode_utf8_all (cs ++ [])) dollar (plain_utf8 cs before good));
  begins = λ rest ends. variable_whole cs rest (name_before cs before rest good ends) ends;
}
