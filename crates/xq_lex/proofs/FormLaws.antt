-- The token that is found is the longest, and the only one.
use Rattle.std.proofs.Common.{ℕ, ◌≡◌, ◌≤◌, Bool, true, false, ◌&&◌, List, [], ◌∷◌, ◌++◌, length, Option, Some, None, refl, sym, ap, ◌∙◌, subst, arith, length-append, append_assoc}
use Rattle.std.specs.List.{list_all}
use Rattle.std.proofs.lemmas.Bool.{and_parts, true≢false, false≢true}
use Rattle.std.proofs.lemmas.List.{append_cancel_left}
use Rattle.gcx_model.specs.Values.{is_digit_byte, is_numeral}
use Rattle.base_laws.proofs.Lists.{cons_tail, cons_head}
use Rattle.xq_lex.specs.declared.sign.Sign.{Sign}
use Rattle.xq_lex.specs.Sign.{begins, sign_chars, sign_at, opens_comment}
use Rattle.xq_lex.specs.Names.{is_query_name, name_at, parts_at}
use Rattle.xq_lex.specs.Numbers.{minus_chars, fraction_chars, number_chars, is_number}
use Rattle.xq_lex.specs.Strings.{Part, is_quote, parts_chars, AreParts, HasString}
use Rattle.xq_lex.specs.Form.{Form, name, variable, number, string, sign, form_chars, IsForm, BeginsWith, BeginsWithNone}
use Rattle.xq_lex.specs.Found.{Kind, of_variable, of_string, of_number, of_name, of_sign, kind_at, kind_of_form, unsigned_at}
use Rattle.xq_lex.proofs.NameLaws.{HasName, name_front, name_at-append}
use Rattle.xq_lex.proofs.NumberLaws.{HasNumber, unsigned_front, LongerNumber, number_longer}
use Rattle.xq_lex.proofs.SignLaws.{HasSign, sign_front, IsLonger, sign_longer}
use Rattle.xq_lex.proofs.StringLaws.{SameParts, string_same}
use Rattle.xq_lex.proofs.KindLaws.{kind_is}

-- a token begins the text
pub record Begins (text : List ℕ) (f : Form) (rest : List ℕ) : Type 0 where
  pub chars : text ≡ form_chars f rest
  pub good : IsForm f rest

pub same_kind : (text : List ℕ) (f g : Form) (r s : List ℕ) → Begins text f r → Begins text g s → kind_of_form f ≡ kind_of_form g
same_kind text f g r s a b = sym (kind_is f r a.good) ∙ (ap kind_at (sym a.chars ∙ b.chars) ∙ kind_is g s b.good)

pub kind_here : (text : List ℕ) (f : Form) (r : List ℕ) (k : Kind) → kind_at text ≡ k → Begins text f r → kind_of_form f ≡ k
kind_here text f r k e a = sym (kind_is f r a.good) ∙ (ap kind_at (sym a.chars) ∙ e)

-- ---- Names

name_short : (text chars rest other more : List ℕ) → text ≡ chars ++ rest → name_at text ≡ chars → is_query_name other more ≡ true → text ≡ other ++ more → length rest ≤ length more
name_short text chars rest other more e found good h =
    let same : chars ≡ other ++ parts_at more = sym found ∙ (ap name_at h ∙ name_at-append other more good) in
    omega (arith, ap length e, ap length h, ap length same, length-append chars rest, length-append other more, length-append other (parts_at more))

pub name_begins : (text : List ℕ) (d : ℕ) (ds : List ℕ) → name_at text ≡ d ∷ ds → (rest : List ℕ) × BeginsWith text (name (d ∷ ds)) rest
name_begins text d ds found = (h.rest, record { chars = h.front; good = h.good; longest = λ other more e g. no_longer other more (record { chars = e; good = g }) })
  where
    h : HasName text (d ∷ ds)
    h = name_front text d ds found

    this : Begins text (name (d ∷ ds)) h.rest
    this = record { chars = h.front; good = h.good }

    no_longer : (other : Form) (more : List ℕ) → Begins text other more → length h.rest ≤ length more
    no_longer (name cs) more b = name_short text (d ∷ ds) h.rest cs more h.front found b.good b.chars
    no_longer (variable cs) more b = let k : of_name ≡ of_variable = same_kind text _ (variable cs) _ more this b in cc (k)
    no_longer (number m w f) more b = let k : of_name ≡ of_number = same_kind text _ (number m w f) _ more this b in cc (k)
    no_longer (string q ps) more b = let k : of_name ≡ of_string = same_kind text _ (string q ps) _ more this b in cc (k)
    no_longer (sign s) more b = let k : of_name ≡ of_sign = same_kind text _ (sign s) _ more this b in cc (k)

found_nothing : (cs rest : List ℕ) → is_query_name cs rest ≡ true → name_at (cs ++ rest) ≡ [] → ⊥
found_nothing [] rest good e = false≢true good
found_nothing (c ∷ cs) rest good e = let k : (c ∷ cs) ++ parts_at rest ≡ [] = sym (name_at-append (c ∷ cs) rest good) ∙ e in cc (k)

-- ---- Variables

pub variable_begins : (cs : List ℕ) (d : ℕ) (ds : List ℕ) → name_at cs ≡ d ∷ ds → (rest : List ℕ) × BeginsWith (36 ∷ cs) (variable (d ∷ ds)) rest
variable_begins cs d ds found = (h.rest, record { chars = front; good = h.good; longest = λ other more e g. no_longer other more (record { chars = e; good = g }) })
  where
    h : HasName cs (d ∷ ds)
    h = name_front cs d ds found

    front : 36 ∷ cs ≡ 36 ∷ ((d ∷ ds) ++ h.rest)
    front = ap (λ x. 36 ∷ x) h.front

    this : Begins (36 ∷ cs) (variable (d ∷ ds)) h.rest
    this = record { chars = front; good = h.good }

    no_longer : (other : Form) (more : List ℕ) → Begins (36 ∷ cs) other more → length h.rest ≤ length more
    no_longer (name xs) more b = let k : of_variable ≡ of_name = same_kind (36 ∷ cs) _ (name xs) _ more this b in cc (k)
    no_longer (variable xs) more b = name_short cs (d ∷ ds) h.rest xs more h.front found b.good (cons_tail 36 36 cs (xs ++ more) b.chars)
    no_longer (number m w f) more b = let k : of_variable ≡ of_number = same_kind (36 ∷ cs) _ (number m w f) _ more this b in cc (k)
    no_longer (string q ps) more b = let k : of_variable ≡ of_string = same_kind (36 ∷ cs) _ (string q ps) _ more this b in cc (k)
    no_longer (sign s) more b = let k : of_variable ≡ of_sign = same_kind (36 ∷ cs) _ (sign s) _ more this b in cc (k)

pub no_variable : (cs : List ℕ) → kind_at (36 ∷ cs) ≡ of_variable → name_at cs ≡ [] → BeginsWithNone (36 ∷ cs)
no_variable cs kind none f rest e g = by f (record { chars = e; good = g })
  where
    by : (f : Form) → Begins (36 ∷ cs) f rest → ⊥
    by (name xs) b = let k : of_name ≡ of_variable = kind_here (36 ∷ cs) (name xs) rest of_variable kind b in cc (k)
    by (variable xs) b = found_nothing xs rest b.good (ap name_at (sym (cons_tail 36 36 cs (xs ++ rest) b.chars)) ∙ none)
    by (number m w fr) b = let k : of_number ≡ of_variable = kind_here (36 ∷ cs) (number m w fr) rest of_variable kind b in cc (k)
    by (string q ps) b = let k : of_string ≡ of_variable = kind_here (36 ∷ cs) (string q ps) rest of_variable kind b in cc (k)
    by (sign s) b = let k : of_sign ≡ of_variable = kind_here (36 ∷ cs) (sign s) rest of_variable kind b in cc (k)

-- ---- Numbers

-- with and without `-` a text begins differently
pub minus_digit : {X : Type 0} (w : List ℕ) (x y : List ℕ) → is_numeral w ≡ true → 45 ∷ x ≡ w ++ y → X
minus_digit [] x y g e = absurd (false≢true g)
minus_digit (d ∷ ds) x y g e =
    let digit : is_digit_byte d ≡ true = (and_parts (is_digit_byte d) (list_all is_digit_byte ds) (and_parts _ (is_digit_byte d && list_all is_digit_byte ds) g).1).0 in
    let same : 45 ≡ d = cc (e) in
    absurd (false≢true (subst (λ (c : ℕ). is_digit_byte c ≡ true) (sym same) digit))

pub regroup : (minus : Bool) (w f rest : List ℕ) → number_chars minus w f ++ rest ≡ minus_chars minus ++ (w ++ (fraction_chars f ++ rest))
regroup minus w f rest = append_assoc (minus_chars minus) (w ++ fraction_chars f) rest ∙ ap (λ (x : List ℕ). minus_chars minus ++ x) (append_assoc w (fraction_chars f) rest)

pub number_parts : (m : Bool) (w f v g : List ℕ) → Some (number m w f) ≡ Some (number m v g) → (w ≡ v) × (f ≡ g)
number_parts m w f v g e = (cc (e), cc (e))

same_length : (text w f rest v g tail : List ℕ) → text ≡ w ++ (fraction_chars f ++ rest) → text ≡ v ++ (fraction_chars g ++ tail) → w ≡ v → f ≡ g → length rest ≡ length tail
same_length text w f rest v g tail e h p q =
    omega (arith, ap length e, ap length h, ap length p, ap (λ (x : List ℕ). length (fraction_chars x)) q, length-append w (fraction_chars f ++ rest), length-append (fraction_chars f) rest, length-append v (fraction_chars g ++ tail), length-append (fraction_chars g) tail)

at_most : (m : Bool) (text w f rest w' f' more : List ℕ) → unsigned_at m text ≡ Some (number m w f) → text ≡ w ++ (fraction_chars f ++ rest) → text ≡ w' ++ (fraction_chars f' ++ more) →
    LongerNumber m w' f' more (unsigned_at m (w' ++ (fraction_chars f' ++ more))) → length rest ≤ length more
at_most m text w f rest w' f' more found e same l =
    let parts : (w ≡ l.whole') × (f ≡ l.fraction') = number_parts m w f l.whole' l.fraction' (sym found ∙ (ap (unsigned_at m) same ∙ l.is)) in
    let k : length rest ≡ length l.tail = same_length text w f rest l.whole' l.fraction' l.tail e (same ∙ l.chars) parts.0 parts.1 in
    omega (arith, k, l.short)

-- another number of the same text isn't longer than the one that is found
number_short : (minus m : Bool) (text w f rest w' f' more : List ℕ) → unsigned_at minus text ≡ Some (number minus w f) → text ≡ w ++ (fraction_chars f ++ rest) →
    is_number w f ≡ true → is_number w' f' ≡ true → minus_chars minus ++ text ≡ number_chars m w' f' ++ more → length rest ≤ length more
number_short true false text w f rest w' f' more found e good good' h = minus_digit w' text (fraction_chars f' ++ more) (and_parts (is_numeral w') _ good').0 (h ∙ regroup false w' f' more)
number_short false true text w f rest w' f' more found e good good' h = minus_digit w (w' ++ (fraction_chars f' ++ more)) (fraction_chars f ++ rest) (and_parts (is_numeral w) _ good).0 (sym (h ∙ regroup true w' f' more) ∙ e)
number_short true true text w f rest w' f' more found e good good' h =
    at_most true text w f rest w' f' more found e (cons_tail 45 45 text _ (h ∙ regroup true w' f' more)) (number_longer true w' f' more good')
number_short false false text w f rest w' f' more found e good good' h =
    at_most false text w f rest w' f' more found e (h ∙ regroup false w' f' more) (number_longer false w' f' more good')

-- the number that is found behind the sign
pub record BeginsNumber (text : List ℕ) (minus : Bool) (found : Form) : Type 0 where
  pub whole : List ℕ
  pub fraction : List ℕ
  pub rest : List ℕ
  pub is : found ≡ number minus whole fraction
  pub digits : text ≡ whole ++ (fraction_chars fraction ++ rest)
  pub good : is_number whole fraction ≡ true
  pub begins : BeginsWith (minus_chars minus ++ text) (number minus whole fraction) rest

pub number_begins : (minus : Bool) (text : List ℕ) (found : Form) → unsigned_at minus text ≡ Some found → BeginsNumber text minus found
number_begins minus text form found = record {
  whole = h.whole;
  fraction = h.fraction;
  rest = h.rest;
  is = h.is;
  digits = h.chars;
  good = h.good;
  begins = record { chars = front; good = h.good; longest = λ other more e g. no_longer other more (record { chars = e; good = g }) };
}
  where
    h : HasNumber text minus form
    h = unsigned_front minus text form found

    full : List ℕ
    full = minus_chars minus ++ text

    front : minus_chars minus ++ text ≡ number_chars minus h.whole h.fraction ++ h.rest
    front = ap (λ (x : List ℕ). minus_chars minus ++ x) h.chars ∙ sym (regroup minus h.whole h.fraction h.rest)

    this : Begins (minus_chars minus ++ text) (number minus h.whole h.fraction) h.rest
    this = record { chars = front; good = h.good }

    same : unsigned_at minus text ≡ Some (number minus h.whole h.fraction)
    same = found ∙ ap (λ (x : Form). Some x) h.is

    no_longer : (other : Form) (more : List ℕ) → Begins (minus_chars minus ++ text) other more → length h.rest ≤ length more
    no_longer (name xs) more b = let k : of_number ≡ of_name = same_kind (minus_chars minus ++ text) _ (name xs) _ more this b in cc (k)
    no_longer (variable xs) more b = let k : of_number ≡ of_variable = same_kind (minus_chars minus ++ text) _ (variable xs) _ more this b in cc (k)
    no_longer (number m w f) more b = number_short minus m text h.whole h.fraction h.rest w f more same h.chars h.good b.good b.chars
    no_longer (string q ps) more b = let k : of_number ≡ of_string = same_kind (minus_chars minus ++ text) _ (string q ps) _ more this b in cc (k)
    no_longer (sign s) more b = let k : of_number ≡ of_sign = same_kind (minus_chars minus ++ text) _ (sign s) _ more this b in cc (k)

none_longer : {X : Type 0} (m : Bool) (w f more : List ℕ) → LongerNumber m w f more None → X
none_longer m w f more l = let k : None ≡ Some (number m l.whole' l.fraction') = l.is in absurd (cc (k))

begins_minus : (text x : List ℕ) → begins 45 text ≡ false → text ≡ 45 ∷ x → ⊥
begins_minus text x b e = true≢false (ap (begins 45) (sym e) ∙ b)

-- no digit, so no number
none_of : (minus m : Bool) (text w f rest : List ℕ) → (minus ≡ false → begins 45 text ≡ false) → unsigned_at minus text ≡ None → is_number w f ≡ true → minus_chars minus ++ text ≡ number_chars m w f ++ rest → ⊥
none_of true true text w f rest unsigned none good e =
    let same : text ≡ w ++ (fraction_chars f ++ rest) = cons_tail 45 45 text _ (e ∙ regroup true w f rest) in
    none_longer true w f rest (subst (λ (o : Option Form). LongerNumber true w f rest o) (ap (unsigned_at true) (sym same) ∙ none) (number_longer true w f rest good))
none_of true false text w f rest unsigned none good e = minus_digit w text (fraction_chars f ++ rest) (and_parts (is_numeral w) _ good).0 (e ∙ regroup false w f rest)
none_of false true text w f rest unsigned none good e = begins_minus text (w ++ (fraction_chars f ++ rest)) (unsigned refl) (e ∙ regroup true w f rest)
none_of false false text w f rest unsigned none good e =
    let same : text ≡ w ++ (fraction_chars f ++ rest) = e ∙ regroup false w f rest in
    none_longer false w f rest (subst (λ (o : Option Form). LongerNumber false w f rest o) (ap (unsigned_at false) (sym same) ∙ none) (number_longer false w f rest good))

pub no_number : (minus : Bool) (text : List ℕ) → (minus ≡ false → begins 45 text ≡ false) → kind_at (minus_chars minus ++ text) ≡ of_number → unsigned_at minus text ≡ None → BeginsWithNone (minus_chars minus ++ text)
no_number minus text unsigned kind none form rest e g = by form (record { chars = e; good = g })
  where
    by : (f : Form) → Begins (minus_chars minus ++ text) f rest → ⊥
    by (name xs) b = let k : of_name ≡ of_number = kind_here (minus_chars minus ++ text) (name xs) rest of_number kind b in cc (k)
    by (variable xs) b = let k : of_variable ≡ of_number = kind_here (minus_chars minus ++ text) (variable xs) rest of_number kind b in cc (k)
    by (number m w f) b = none_of minus m text w f rest unsigned none b.good b.chars
    by (string q ps) b = let k : of_string ≡ of_number = kind_here (minus_chars minus ++ text) (string q ps) rest of_number kind b in cc (k)
    by (sign s) b = let k : of_sign ≡ of_number = kind_here (minus_chars minus ++ text) (sign s) rest of_number kind b in cc (k)

-- ---- Signs

longer_short : (text : List ℕ) (s t : Sign) (rest more : List ℕ) → text ≡ sign_chars s ++ rest → sign_at text ≡ Some s → text ≡ sign_chars t ++ more → opens_comment (sign_chars t ++ more) ≡ false → length rest ≤ length more
longer_short text s t rest more e found h good =
    let l : IsLonger (sign_chars t ++ more) (Some s) t more = subst (λ (o : Option Sign). IsLonger (sign_chars t ++ more) o t more) (ap sign_at (sym h) ∙ found) (sign_longer t more good) in
    let same : l.tail ≡ rest = append_cancel_left (sign_chars s) l.tail rest (sym l.chars ∙ (sym h ∙ e)) in
    omega (arith, l.short, ap length same)

pub sign_begins : (text : List ℕ) (s : Sign) → sign_at text ≡ Some s → (rest : List ℕ) × BeginsWith text (sign s) rest
sign_begins text s found = (h.rest, record { chars = h.chars; good = good; longest = λ other more e g. no_longer other more (record { chars = e; good = g }) })
  where
    h : HasSign text s
    h = sign_front text s found

    good : opens_comment (sign_chars s ++ h.rest) ≡ false
    good = ap opens_comment (sym h.chars) ∙ h.good

    this : Begins text (sign s) h.rest
    this = record { chars = h.chars; good = good }

    no_longer : (other : Form) (more : List ℕ) → Begins text other more → length h.rest ≤ length more
    no_longer (name xs) more b = let k : of_sign ≡ of_name = same_kind text _ (name xs) _ more this b in cc (k)
    no_longer (variable xs) more b = let k : of_sign ≡ of_variable = same_kind text _ (variable xs) _ more this b in cc (k)
    no_longer (number m w f) more b = let k : of_sign ≡ of_number = same_kind text _ (number m w f) _ more this b in cc (k)
    no_longer (string q ps) more b = let k : of_sign ≡ of_string = same_kind text _ (string q ps) _ more this b in cc (k)
    no_longer (sign t) more b = longer_short text s t h.rest more h.chars found b.chars b.good

pub no_sign : (text : List ℕ) → kind_at text ≡ of_sign → sign_at text ≡ None → BeginsWithNone text
no_sign text kind none form rest e g = by form (record { chars = e; good = g })
  where
    by : (f : Form) → Begins text f rest → ⊥
    by (name xs) b = let k : of_name ≡ of_sign = kind_here text (name xs) rest of_sign kind b in cc (k)
    by (variable xs) b = let k : of_variable ≡ of_sign = kind_here text (variable xs) rest of_sign kind b in cc (k)
    by (number m w f) b = let k : of_number ≡ of_sign = kind_here text (number m w f) rest of_sign kind b in cc (k)
    by (string q ps) b = let k : of_string ≡ of_sign = kind_here text (string q ps) rest of_sign kind b in cc (k)
    by (sign s) b = subst (λ (o : Option Sign). IsLonger (sign_chars s ++ rest) o s rest) (ap sign_at (sym b.chars) ∙ none) (sign_longer s rest b.good)

-- ---- Strings

pub string_of : (q p : ℕ) (cs : List ℕ) (ps : List Part) (rest : List ℕ) → q ∷ cs ≡ p ∷ parts_chars p ps (p ∷ rest) → AreParts p ps → begins p rest ≡ false → HasString q cs ps rest
string_of q p cs ps rest e good single = by q (cons_head q p _ _ e) e
  where
    by : (q : ℕ) → q ≡ p → q ∷ cs ≡ p ∷ parts_chars p ps (p ∷ rest) → HasString q cs ps rest
    by q same e = subst (λ (x : ℕ). HasString x cs ps rest) (sym same) (record { good = good; chars = cons_tail q p _ _ e; single = single })

pub string_begins : (q : ℕ) (cs : List ℕ) (ps : List Part) (rest : List ℕ) → is_quote q ≡ true → HasString q cs ps rest → BeginsWith (q ∷ cs) (string q ps) rest
string_begins q cs ps rest quote h = record { chars = front; good = good; longest = λ other more e g. no_longer other more (record { chars = e; good = g }) }
  where
    front : q ∷ cs ≡ q ∷ parts_chars q ps (q ∷ rest)
    front = ap (λ x. q ∷ x) h.chars

    good : IsForm (string q ps) rest
    good = (quote, h.good, h.single)

    this : Begins (q ∷ cs) (string q ps) rest
    this = record { chars = front; good = good }

    no_longer : (other : Form) (more : List ℕ) → Begins (q ∷ cs) other more → length rest ≤ length more
    no_longer (name xs) more b = let k : of_string ≡ of_name = same_kind (q ∷ cs) _ (name xs) _ more this b in cc (k)
    no_longer (variable xs) more b = let k : of_string ≡ of_variable = same_kind (q ∷ cs) _ (variable xs) _ more this b in cc (k)
    no_longer (number m w f) more b = let k : of_string ≡ of_number = same_kind (q ∷ cs) _ (number m w f) _ more this b in cc (k)
    no_longer (string p ss) more b =
        let same : SameParts ps ss (q ∷ rest) (q ∷ more) = string_same q cs ps ss rest more quote h (string_of q p cs ss more b.chars b.good.1 b.good.2) in
        omega (arith, ap length same.rest)
    no_longer (sign s) more b = let k : of_string ≡ of_sign = same_kind (q ∷ cs) _ (sign s) _ more this b in cc (k)

pub no_string : (q : ℕ) (cs : List ℕ) → kind_at (q ∷ cs) ≡ of_string → ((ps : List Part) (rest : List ℕ) → HasString q cs ps rest → ⊥) → BeginsWithNone (q ∷ cs)
no_string q cs kind none form rest e g = by form (record { chars = e; good = g })
  where
    by : (f : Form) → Begins (q ∷ cs) f rest → ⊥
    by (name xs) b = let k : of_name ≡ of_string = kind_here (q ∷ cs) (name xs) rest of_string kind b in cc (k)
    by (variable xs) b = let k : of_variable ≡ of_string = kind_here (q ∷ cs) (variable xs) rest of_string kind b in cc (k)
    by (number m w f) b = let k : of_number ≡ of_string = kind_here (q ∷ cs) (number m w f) rest of_string kind b in cc (k)
    by (string p ss) b = none ss rest (string_of q p cs ss rest b.chars b.good.1 b.good.2)
    by (sign s) b = let k : of_sign ≡ of_string = kind_here (q ∷ cs) (sign s) rest of_string kind b in cc (k)
