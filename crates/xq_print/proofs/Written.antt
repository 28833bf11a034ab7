-- Each token that a query can have is printed as a token of the same kind.
use Rattle.std.proofs.Common.{ℕ, ◌≡◌, ◌<◌, false, List, [], ◌∷◌, ◌++◌, flat_map, refl, sym, ap, ◌∙◌, subst, arith, append_assoc}
use Rattle.std.specs.Prelude.{codes}
use Rattle.std.specs.Char.{encode_utf8}
use Rattle.std.specs.Str.{chars, encode_utf8_all}
use Rattle.std.proofs.lemmas.Str.{encode_ascii, encodes-append}
use Rattle.xq_lex.specs.declared.sign.Sign.{Sign}
use Rattle.xq_lex.specs.declared.sign.Sign.TheVariants as signs
use Rattle.xq_lex.specs.declared.token.TokKind.{TokKind}
use Rattle.xq_lex.specs.declared.token.TokKind.TheVariants as kinds
use Rattle.xq_lex.specs.Sign.{sign_chars}
use Rattle.xq_lex.specs.Numbers.{units_of}
use Rattle.xq_lex.specs.Strings.{parts_chars, parts_value}
use Rattle.xq_lex.specs.Form.{Form, name, variable, number, string, sign, form_chars, IsForm, kind_of, is_too_wide}
use Rattle.xq_print.specs.Literals.{quoted, number_text, string_text}
use Rattle.xq_print.proofs.Lexical.{IsKind}
use Rattle.xq_print.proofs.Forms.{form_of, parts_of, Fits}
use Rattle.xq_print.proofs.NameForms.{name_chars, name_fits, variable_fits}
use Rattle.xq_print.proofs.SignForms.{sign_fits}
use Rattle.xq_print.proofs.StringForms.{value_chars, string_chars, string_fits, parts_text}
use Rattle.xq_print.proofs.UnitForms.{whole_small, number_fits, number_bytes}

by_form : (f : Form) (rest : List ℕ) → IsForm f rest → is_too_wide f ≡ false → Fits (form_of (kind_of f)) (kind_of f)
by_form (name cs) rest good narrow = subst (λ (x : List ℕ). Fits (name x) (kinds.Name (encode_utf8_all cs))) (name_chars cs rest good) (name_fits cs rest good)
by_form (variable cs) rest good narrow = subst (λ (x : List ℕ). Fits (variable x) (kinds.Var (encode_utf8_all cs))) (name_chars cs rest good) (variable_fits cs rest good)
by_form (number m w f) rest good narrow = number_fits (units_of m w f) (whole_small (units_of m w f) m w f good narrow refl)
by_form (string q ps) rest good narrow =
    let all = value_chars q ps good.0 good.1 in
    subst (λ (x : List ℕ). Fits (string 34 (parts_of x)) (kinds.Str (encode_utf8_all (parts_value q ps)))) (string_chars (parts_value q ps) all) (string_fits (parts_value q ps) all)
by_form (sign s) rest good narrow = sign_fits s

pub written : (k : TokKind) → IsKind k → Fits (form_of k) k
written k i = subst (λ (x : TokKind). Fits (form_of x) x) (sym i.is) (by_form i.form i.rest i.good i.in_range)

-- ---- The bytes of a token

abbrev pub kind_text : TokKind → List ℕ
kind_text (kinds.Name n) = n
kind_text (kinds.Var n) = codes "$" ++ n
kind_text (kinds.Number u) = number_text u
kind_text (kinds.Str v) = string_text v
kind_text (kinds.Sign s) = sign_chars s

pub low_first : (c : ℕ) (cs : List ℕ) → c < 128 → encode_utf8_all (c ∷ cs) ≡ c ∷ encode_utf8_all cs
low_first c cs h = ap (λ (x : List ℕ). x ++ encode_utf8_all cs) (encode_ascii c h)

sign_bytes : (s : Sign) → encode_utf8_all (sign_chars s) ≡ sign_chars s
unfolding encode_utf8
sign_bytes signs.ParenOpen = refl
sign_bytes signs.ParenClose = refl
sign_bytes signs.BraceOpen = refl
sign_bytes signs.BraceClose = refl
sign_bytes signs.Comma = refl
sign_bytes signs.Slash = refl
sign_bytes signs.SlashSlash = refl
sign_bytes signs.Axis = refl
sign_bytes signs.Star = refl
sign_bytes signs.Eq = refl
sign_bytes signs.Ne = refl
sign_bytes signs.Lt = refl
sign_bytes signs.Le = refl
sign_bytes signs.Gt = refl
sign_bytes signs.Ge = refl
sign_bytes signs.EndTag = refl
sign_bytes signs.EmptyEnd = refl

string_bytes : (cs rest : List ℕ) → encode_utf8_all (34 ∷ parts_chars 34 (parts_of cs) (34 ∷ rest)) ≡ (34 ∷ (encode_utf8_all (flat_map quoted cs) ++ 34 ∷ [])) ++ encode_utf8_all rest
string_bytes cs rest =
    low_first 34 (parts_chars 34 (parts_of cs) (34 ∷ rest)) (omega arith)
    ∙ ap (λ (x : List ℕ). 34 ∷ x)
    (ap encode_utf8_all (parts_text cs (34 ∷ rest))
    ∙ (encodes-append (flat_map quoted cs) (34 ∷ rest)
    ∙ (ap (λ (x : List ℕ). encode_utf8_all (flat_map quoted cs) ++ x) (low_first 34 rest (omega arith))
    ∙ sym (append_assoc (encode_utf8_all (flat_map quoted cs)) (34 ∷ []) (encode_utf8_all rest)))))

bytes_by : (f : Form) (before rest : List ℕ) → IsForm f before → is_too_wide f ≡ false → encode_utf8_all (form_chars (form_of (kind_of f)) rest) ≡ kind_text (kind_of f) ++ encode_utf8_all rest
bytes_by (name cs) before rest good narrow =
    ap (λ (x : List ℕ). encode_utf8_all (x ++ rest)) (sym (name_chars cs before good)) ∙ encodes-append cs rest
bytes_by (variable cs) before rest good narrow =
    ap (λ (x : List ℕ). encode_utf8_all (36 ∷ (x ++ rest))) (sym (name_chars cs before good))
    ∙ (low_first 36 (cs ++ rest) (omega arith) ∙ ap (λ (x : List ℕ). 36 ∷ x) (encodes-append cs rest))
bytes_by (number m w f) before rest good narrow = number_bytes (units_of m w f) rest (whole_small (units_of m w f) m w f good narrow refl)
bytes_by (string q ps) before rest good narrow = string_bytes (chars (encode_utf8_all (parts_value q ps))) rest
bytes_by (sign s) before rest good narrow = encodes-append (sign_chars s) rest ∙ ap (λ (x : List ℕ). x ++ encode_utf8_all rest) (sign_bytes s)

pub kind_bytes : (k : TokKind) (rest : List ℕ) → IsKind k → encode_utf8_all (form_chars (form_of k) rest) ≡ kind_text k ++ encode_utf8_all rest
kind_bytes k rest i = subst (λ (x : TokKind). encode_utf8_all (form_chars (form_of x) rest) ≡ kind_text x ++ encode_utf8_all rest) (sym i.is) (bytes_by i.form i.rest rest i.good i.in_range)
