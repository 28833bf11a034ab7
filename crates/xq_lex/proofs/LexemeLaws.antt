-- What is answered of a token at the front of a text, by its kind.
use Rattle.std.proofs.Common.{ℕ, zero, suc, ◌≡◌, ◌≢◌, ◌+◌, ◌-◌, ◌<◌, ◌==◌, ℤ, Bool, true, false, List, [], ◌∷◌, ◌++◌, length, drop, Some, None, refl, sym, ap, ◌∙◌, subst, arith, length-append, length-drop, append_assoc}
use Rattle.std.specs.Str.{encode_utf8_all}
use Rattle.std.proofs.Math.Seq.{drop-append_seam}
use Rattle.std.proofs.lemmas.Bool.{false≢true}
use Rattle.gcx_base.specs.Name.{is_name}
use Rattle.xq_lex.specs.declared.sign.Sign.{Sign}
use Rattle.xq_lex.specs.declared.sign.Sign.TheVariants.{ParenOpen, ParenClose, BraceOpen, BraceClose, Comma, Slash, SlashSlash, Axis, Star, Eq, Ne, Lt, Le, Gt, Ge, EndTag, EmptyEnd}
use Rattle.xq_lex.specs.declared.token.TokKind.{TokKind}
use Rattle.xq_lex.specs.declared.token.TokKind.TheVariants as kinds
use Rattle.xq_lex.specs.Sign.{begins, sign_chars, sign_at}
use Rattle.xq_lex.specs.Names.{name_at}
use Rattle.xq_lex.specs.Numbers.{minus_chars, fraction_chars, number_chars, is_wide, units_of, digits_at, fraction_at}
use Rattle.xq_lex.specs.Strings.{Part, plain, doubled, reference, is_quote, part_chars, parts_chars}
use Rattle.xq_lex.specs.Form.{Form, name, variable, number, string, sign, form_chars, IsForm, BeginsWith, kind_of, is_too_wide}
use Rattle.xq_lex.specs.Lex.{IsNoToken, HasWideNumber}
use Rattle.xq_lex.specs.Answer.{IsLexeme}
use Rattle.xq_lex.specs.Reading.{HasValue, BeginsWithNoString}
use Rattle.xq_lex.specs.Found.{Kind, of_nothing, of_number, of_name, of_sign, kind_at, number_from, unsigned_at}
use Rattle.xq_lex.proofs.NameLaws.{name_some, found_named}
use Rattle.xq_lex.proofs.NumberLaws.{digits_front}
use Rattle.xq_lex.proofs.KindLaws.{variable_kind, string_kind}
use Rattle.xq_lex.proofs.FormLaws.{name_begins, variable_begins, no_variable, BeginsNumber, number_begins, no_number, number_parts, sign_begins, no_sign, string_begins, no_string}

-- ---- A token's characters stand in front of the rest.

part_front : (q : ℕ) (p : Part) (x rest : List ℕ) → part_chars q p (x ++ rest) ≡ part_chars q p x ++ rest
part_front q (plain c) x rest = refl
part_front q doubled x rest = refl
part_front q (reference t c) x rest = ap (λ (y : List ℕ). 38 ∷ y) (sym (append_assoc t x rest))

parts_front : (q : ℕ) (ps : List Part) (x rest : List ℕ) → parts_chars q ps (x ++ rest) ≡ parts_chars q ps x ++ rest
parts_front q [] x rest = refl
parts_front q (p ∷ ps) x rest = ap (λ (y : List ℕ). part_chars q p y) (parts_front q ps x rest) ∙ part_front q p (parts_chars q ps x) rest

pub form_front : (f : Form) (rest : List ℕ) → form_chars f rest ≡ form_chars f [] ++ rest
form_front (name cs) rest = sym (append_assoc cs [] rest)
form_front (variable cs) rest = ap (λ (y : List ℕ). 36 ∷ y) (sym (append_assoc cs [] rest))
form_front (number m w f) rest = sym (append_assoc (number_chars m w f) [] rest)
form_front (string q ps) rest = ap (λ (y : List ℕ). q ∷ y) (parts_front q ps (q ∷ []) rest)
form_front (sign s) rest = sym (append_assoc (sign_chars s) [] rest)

sign_some : (s : Sign) → 0 < length (sign_chars s)
sign_some ParenOpen = omega arith
sign_some ParenClose = omega arith
sign_some BraceOpen = omega arith
sign_some BraceClose = omega arith
sign_some Comma = omega arith
sign_some Slash = omega arith
sign_some SlashSlash = omega arith
sign_some Axis = omega arith
sign_some Star = omega arith
sign_some Eq = omega arith
sign_some Ne = omega arith
sign_some Lt = omega arith
sign_some Le = omega arith
sign_some Gt = omega arith
sign_some Ge = omega arith
sign_some EndTag = omega arith
sign_some EmptyEnd = omega arith

-- a token has a character
pub form_some : (f : Form) (rest : List ℕ) → IsForm f rest → 0 < length (form_chars f [])
form_some (name []) rest good = absurd (false≢true good)
form_some (name (c ∷ cs)) rest good = omega arith
form_some (variable cs) rest good = omega arith
form_some (number true w f) rest good = omega arith
form_some (number false [] f) rest good = absurd (false≢true good)
form_some (number false (d ∷ ds) f) rest good = omega arith
form_some (string q ps) rest good = omega arith
form_some (sign s) rest good = omega (arith, sign_some s, length-append (sign_chars s) [])

pub suffix : (text front rest : List ℕ) (count : ℕ) → text ≡ front ++ rest → count + length rest ≡ length text → drop count text ≡ rest
suffix text front rest count e h =
    let same : count ≡ length front = omega (arith, ap length e, length-append front rest) in
    ap (λ n. drop n text) same ∙ (ap (λ (x : List ℕ). drop (length front) x) e ∙ drop-append_seam front rest)

pub lexeme_of : (text : List ℕ) (f : Form) (rest : List ℕ) (kind : TokKind) (count : ℕ) → BeginsWith text f rest → is_too_wide f ≡ false → kind ≡ kind_of f →
    count + length rest ≡ length text → IsLexeme text kind count
lexeme_of text f rest kind count b narrow is e =
    let front : text ≡ form_chars f [] ++ rest = b.chars ∙ form_front f rest in
    record {
      form = f;
      begins = subst (λ (x : List ℕ). BeginsWith text f x) (sym (suffix text (form_chars f []) rest count front e)) b;
      in_range = narrow;
      kind_is = is;
      some = omega (arith, form_some f rest b.good, ap length front, length-append (form_chars f []) rest);
      within = omega arith;
    }

some_text : (c : ℕ) (cs : List ℕ) → c ∷ cs ≢ []
some_text c cs e = cc (e)

-- ---- Names

count_left : (text front rest : List ℕ) → text ≡ front ++ rest → length front + length rest ≡ length text
count_left text front rest e = omega (arith, ap length e, length-append front rest)

pub name_lexeme : (text n : List ℕ) (bytes : List ℕ) → kind_at text ≡ of_name → name_at text ≡ n → bytes ≡ encode_utf8_all n → IsLexeme text (kinds.Name bytes) (length n)
name_lexeme text [] bytes kind e is = absurd (name_some text kind e)
name_lexeme text (d ∷ ds) bytes kind e is =
    let b : (rest : List ℕ) × BeginsWith text (name (d ∷ ds)) rest = name_begins text d ds e in
    lexeme_of text (name (d ∷ ds)) b.0 (kinds.Name bytes) (length (d ∷ ds)) b.1 refl (ap kinds.Name is) (count_left text (d ∷ ds) b.0 b.1.chars)

-- the name that stands here is one of XML
pub named : (text n : List ℕ) → kind_at text ≡ of_name → name_at text ≡ n → is_name n ≡ true
named text [] kind e = absurd (name_some text kind e)
named text (d ∷ ds) kind e = found_named text d ds e

kind_some : (text : List ℕ) (k : Kind) → kind_at text ≡ k → (k ≡ of_nothing → ⊥) → text ≢ []
unfolding kind_at
kind_some [] k e some h = some (sym e)
kind_some (c ∷ cs) k e some h = cc (h)

-- ---- Variables

pub variable_lexeme : (cs n : List ℕ) (bytes : List ℕ) → name_at cs ≡ n → 0 < length n → bytes ≡ encode_utf8_all n → IsLexeme (36 ∷ cs) (kinds.Var bytes) (length n + 1)
variable_lexeme cs [] bytes e some is = absurd (omega arith)
variable_lexeme cs (d ∷ ds) bytes e some is =
    let b : (rest : List ℕ) × BeginsWith (36 ∷ cs) (variable (d ∷ ds)) rest = variable_begins cs d ds e in
    lexeme_of (36 ∷ cs) (variable (d ∷ ds)) b.0 (kinds.Var bytes) (length (d ∷ ds) + 1) b.1 refl (ap kinds.Var is)
    (omega (arith, count_left (36 ∷ cs) (36 ∷ d ∷ ds) b.0 b.1.chars))

pub variable_named : (cs n : List ℕ) → name_at cs ≡ n → 0 < length n → is_name n ≡ true
variable_named cs [] e some = absurd (omega arith)
variable_named cs (d ∷ ds) e some = found_named cs d ds e

pub no_variable_here : (cs n : List ℕ) → name_at cs ≡ n → length n ≡ 0 → IsNoToken (36 ∷ cs)
no_variable_here cs [] e none = (some_text 36 cs, no_variable cs (variable_kind cs) e)
no_variable_here cs (d ∷ ds) e none = absurd (omega arith)

-- ---- Numbers

-- what is read of a number's characters
pub record ReadsNumber (text whole behind fraction rest : List ℕ) : Type 0 where
  pub whole_is : whole ≡ digits_at text
  pub behind_is : behind ≡ drop (length (digits_at text)) text
  pub some : 0 < length whole
  pub fraction_is : fraction ≡ fraction_at behind
  pub rest_is : behind ≡ fraction_chars fraction ++ rest

pub nonzero : (n : ℕ) → (n == 0) ≡ false → 0 < n
nonzero zero e = cc (e)
nonzero (suc n) e = omega arith

pub reads_of : (text whole behind fraction rest : List ℕ) → whole ≡ digits_at text → behind ≡ drop (length (digits_at text)) text → (length whole == 0) ≡ false → fraction ≡ fraction_at behind →
    behind ≡ fraction_chars fraction ++ rest → ReadsNumber text whole behind fraction rest
reads_of text whole behind fraction rest w b some f r = record { whole_is = w; behind_is = b; some = nonzero (length whole) some; fraction_is = f; rest_is = r }

from_some : (minus : Bool) (digits behind : List ℕ) → 0 < length digits → number_from minus digits behind ≡ Some (number minus digits (fraction_at behind))
from_some minus [] behind h = absurd (omega arith)
from_some minus (d ∷ ds) behind h = refl

found_number : (minus : Bool) (text whole behind fraction rest : List ℕ) → ReadsNumber text whole behind fraction rest → unsigned_at minus text ≡ Some (number minus whole fraction)
found_number minus text whole behind fraction rest r =
    ap (λ (x : List ℕ). number_from minus x (drop (length (digits_at text)) text)) (sym r.whole_is)
    ∙ (ap (λ (x : List ℕ). number_from minus whole x) (sym r.behind_is)
    ∙ (from_some minus whole behind r.some ∙ ap (λ (x : List ℕ). Some (number minus whole x)) (sym r.fraction_is)))

pub record TheNumber (minus : Bool) (text whole fraction rest : List ℕ) : Type 0 where
  pub begins : BeginsWith (minus_chars minus ++ text) (number minus whole fraction) rest
  pub chars : text ≡ whole ++ (fraction_chars fraction ++ rest)

the_number : (minus : Bool) (text whole fraction : List ℕ) → BeginsNumber text minus (number minus whole fraction) → (rest : List ℕ) × TheNumber minus text whole fraction rest
the_number minus text whole fraction b =
    let parts : (whole ≡ b.whole) × (fraction ≡ b.fraction) = number_parts minus whole fraction b.whole b.fraction (ap (λ (f : Form). Some f) b.is) in (
      b.rest,
      subst (λ (x : List ℕ). TheNumber minus text x fraction b.rest) (sym parts.0)
          (subst (λ (x : List ℕ). TheNumber minus text b.whole x b.rest) (sym parts.1) (record { begins = b.begins; chars = b.digits })),
    )

reads_number : (minus : Bool) (text whole behind fraction rest : List ℕ) → ReadsNumber text whole behind fraction rest → (tail : List ℕ) × TheNumber minus text whole fraction tail
reads_number minus text whole behind fraction rest r =
    the_number minus text whole fraction (number_begins minus text (number minus whole fraction) (found_number minus text whole behind fraction rest r))

number_count : (minus : Bool) (text whole behind fraction rest tail : List ℕ) → ReadsNumber text whole behind fraction rest → text ≡ whole ++ (fraction_chars fraction ++ tail) →
    length (minus_chars minus) + (length text - length rest) + length tail ≡ length (minus_chars minus ++ text)
number_count minus text whole behind fraction rest tail r e =
    let front : text ≡ digits_at text ++ behind = (digits_front text).chars ∙ ap (λ (x : List ℕ). digits_at text ++ x) (sym r.behind_is) in
    omega (
      arith,
      length-append (minus_chars minus) text,
      ap length e,
      length-append whole (fraction_chars fraction ++ tail),
      length-append (fraction_chars fraction) tail,
      ap length front,
      length-append (digits_at text) behind,
      ap length r.whole_is,
      ap length r.rest_is,
      length-append (fraction_chars fraction) rest,
    )

pub number_is : (minus : Bool) (text whole behind fraction rest : List ℕ) (units : ℤ) → ReadsNumber text whole behind fraction rest → is_wide minus whole fraction ≡ false → units ≡ units_of minus whole fraction →
    IsLexeme (minus_chars minus ++ text) (kinds.Number units) (length (minus_chars minus) + (length text - length rest))
number_is minus text whole behind fraction rest units r narrow is = by (reads_number minus text whole behind fraction rest r)
  where
    by : (tail : List ℕ) × TheNumber minus text whole fraction tail → IsLexeme (minus_chars minus ++ text) (kinds.Number units) (length (minus_chars minus) + (length text - length rest))
    by (tail, n) =
        lexeme_of (minus_chars minus ++ text) (number minus whole fraction) tail (kinds.Number units) (length (minus_chars minus) + (length text - length rest)) n.begins narrow (ap kinds.Number is)
        (number_count minus text whole behind fraction rest tail r n.chars)

pub number_is_wide : (minus : Bool) (text whole behind fraction rest : List ℕ) → ReadsNumber text whole behind fraction rest → is_wide minus whole fraction ≡ true → HasWideNumber (minus_chars minus ++ text)
number_is_wide minus text whole behind fraction rest r wide = by (reads_number minus text whole behind fraction rest r)
  where
    by : (tail : List ℕ) × TheNumber minus text whole fraction tail → HasWideNumber (minus_chars minus ++ text)
    by (tail, n) = record { form = number minus whole fraction; rest = tail; begins = n.begins; wide = wide }

no_digits_from : (minus : Bool) (text whole : List ℕ) → whole ≡ digits_at text → length whole ≡ 0 → unsigned_at minus text ≡ None
no_digits_from minus text [] is e = ap (λ (x : List ℕ). number_from minus x (drop (length (digits_at text)) text)) (sym is)
no_digits_from minus text (d ∷ ds) is e = absurd (omega arith)

pub number_is_not : (minus : Bool) (text whole : List ℕ) → (minus ≡ false → begins 45 text ≡ false) → kind_at (minus_chars minus ++ text) ≡ of_number → whole ≡ digits_at text → length whole ≡ 0 →
    IsNoToken (minus_chars minus ++ text)
number_is_not minus text whole unsigned kind is none =
    (kind_some (minus_chars minus ++ text) of_number kind (λ h. cc (h)), no_number minus text unsigned kind (no_digits_from minus text whole is none))

-- ---- Signs

pub sign_is : (text : List ℕ) (s : Sign) → sign_at text ≡ Some s → IsLexeme text (kinds.Sign s) (length (sign_chars s))
sign_is text s e =
    let b : (rest : List ℕ) × BeginsWith text (sign s) rest = sign_begins text s e in
    lexeme_of text (sign s) b.0 (kinds.Sign s) (length (sign_chars s)) b.1 refl refl (count_left text (sign_chars s) b.0 b.1.chars)

pub sign_is_not : (text : List ℕ) → kind_at text ≡ of_sign → sign_at text ≡ None → IsNoToken text
sign_is_not text kind e = (kind_some text of_sign kind (λ h. cc (h)), no_sign text kind e)

-- ---- Strings

pub string_is : (q : ℕ) (cs bytes : List ℕ) (count : ℕ) → is_quote q ≡ true → HasValue q cs bytes count → IsLexeme (q ∷ cs) (kinds.Str bytes) (count + 1)
string_is q cs bytes count quote h =
    lexeme_of (q ∷ cs) (string q h.parts) (drop count cs) (kinds.Str bytes) (count + 1) (string_begins q cs h.parts (drop count cs) quote h.string) refl (ap kinds.Str h.value)
    (omega (arith, length-drop count cs, h.within))

pub string_is_not : (q : ℕ) (cs : List ℕ) → is_quote q ≡ true → BeginsWithNoString q cs → IsNoToken (q ∷ cs)
string_is_not q cs quote none = (some_text q cs, no_string q cs (string_kind q cs quote) none)
