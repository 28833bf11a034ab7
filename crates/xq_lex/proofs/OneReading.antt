-- A text begins with one token at most, and has its tokens in one way.
use Rattle.std.proofs.Common.{ℕ, ◌≡◌, ◌≢◌, ◌+◌, ◌≤◌, Bool, true, false, List, [], ◌∷◌, ◌++◌, length, Option, Some, None, refl, sym, ap, ◌∙◌, subst, arith, length-append}
use Rattle.std.specs.Str.{encode_utf8_all, chars, IsValidUpTo}
use Rattle.std.specs.Prelude.{IsUtf8}
use Rattle.std.proofs.lemmas.Bool.{and_parts, true≢false}
use Rattle.std.proofs.lemmas.List.{append_cancel_left}
use Rattle.std.proofs.lemmas.Str.{utf8_valid_len-IsValidUpTo}
use Rattle.std.proofs.Math.Seq.{take-length}
use Rattle.gcx_model.specs.Values.{is_numeral}
use Rattle.gcx_model.specs.declared.fault.QueryFault.{QueryFault}
use Rattle.gcx_model.specs.declared.fault.QueryFault.TheVariants.{Utf8, Lex, Syntax, UnknownVar, TagMismatch, DescendantNotLast, IntegerWide, TooLarge, Memory}
use Rattle.base_laws.proofs.Lists.{cons_tail, cons_head}
use Rattle.xq_lex.specs.declared.sign.Sign.{Sign}
use Rattle.xq_lex.specs.declared.token.Tok.{Tok}
use Rattle.xq_lex.specs.Sign.{sign_chars, sign_at, opens_comment}
use Rattle.xq_lex.specs.Numbers.{minus_chars, fraction_chars, number_chars}
use Rattle.xq_lex.specs.Strings.{Part, parts_chars, HasString}
use Rattle.xq_lex.specs.Form.{Form, name, variable, number, string, sign, form_chars, BeginsWith, kind_of, is_too_wide}
use Rattle.xq_lex.specs.Found.{of_variable, of_string, of_number, of_name, of_sign, unsigned_at}
use Rattle.xq_lex.specs.Gap.{HasGap}
use Rattle.xq_lex.specs.Lex.{Reads, ReadsAll, LexesAs, StopsAt, IsNoToken, HasWideNumber, Lexes, LexFault}
use Rattle.xq_lex.proofs.NumberLaws.{LongerNumber, number_longer}
use Rattle.xq_lex.proofs.SignLaws.{IsLonger, sign_longer}
use Rattle.xq_lex.proofs.StringLaws.{SameParts, string_same}
use Rattle.xq_lex.proofs.FormLaws.{Begins, same_kind, regroup, number_parts, minus_digit, string_of}
use Rattle.xq_lex.proofs.GapLaws.{one_gap}
use Rattle.xq_lex.proofs.LexemeLaws.{form_front, form_some}

append_same : (a b r s : List ℕ) → a ++ r ≡ b ++ s → length r ≡ length s → (a ≡ b) × (r ≡ s)
append_same [] [] r s e h = (refl, e)
append_same [] (y ∷ b) r s e h = absurd (omega (arith, ap length e, length-append b s))
append_same (x ∷ a) [] r s e h = absurd (omega (arith, ap length e, length-append a r))
append_same (x ∷ a) (y ∷ b) r s e h =
    let more : (a ≡ b) × (r ≡ s) = append_same a b r s (cons_tail x y _ _ e) h in
    let first : x ≡ y = cons_head x y _ _ e in
    let same : a ≡ b = more.0 in
    (cc (first, same), more.1)

pub record SameForm (f g : Form) (r s : List ℕ) : Type 0 where
  pub form : f ≡ g
  pub rest : r ≡ s

as_long : (text : List ℕ) (f g : Form) (r s : List ℕ) → BeginsWith text f r → BeginsWith text g s → length r ≡ length s
as_long text f g r s a b = omega (arith, a.longest g s b.chars b.good, b.longest f r a.chars a.good)

-- ---- Numbers

longest_number : (m : Bool) (text w f r : List ℕ) → BeginsWith (minus_chars m ++ text) (number m w f) r → text ≡ w ++ (fraction_chars f ++ r) → Some (number m w f) ≡ unsigned_at m text
longest_number m text w f r a e = by (number_longer m w f r a.good)
  where
    by : LongerNumber m w f r (unsigned_at m (w ++ (fraction_chars f ++ r))) → Some (number m w f) ≡ unsigned_at m text
    by l =
        let front : minus_chars m ++ text ≡ number_chars m l.whole' l.fraction' ++ l.tail = ap (λ (x : List ℕ). minus_chars m ++ x) (e ∙ l.chars) ∙ sym (regroup m l.whole' l.fraction' l.tail) in
        let long : length r ≤ length l.tail = a.longest (number m l.whole' l.fraction') l.tail front l.good in
        ap (λ (x : Form). Some x) (l.same (omega (arith, long, l.short))) ∙ (sym l.is ∙ ap (unsigned_at m) (sym e))

numbers_equal : (text : List ℕ) (m : Bool) (w f v g r s : List ℕ) → BeginsWith text (number m w f) r → BeginsWith text (number m v g) s → SameForm (number m w f) (number m v g) r s
numbers_equal text m w f v g r s a b =
    let p : text ≡ minus_chars m ++ (w ++ (fraction_chars f ++ r)) = a.chars ∙ regroup m w f r in
    let q : text ≡ minus_chars m ++ (v ++ (fraction_chars g ++ s)) = b.chars ∙ regroup m v g s in
    let body : w ++ (fraction_chars f ++ r) ≡ v ++ (fraction_chars g ++ s) = append_cancel_left (minus_chars m) (w ++ (fraction_chars f ++ r)) (v ++ (fraction_chars g ++ s)) (sym p ∙ q) in
    let found : Some (number m w f) ≡ unsigned_at m (w ++ (fraction_chars f ++ r)) = longest_number m (w ++ (fraction_chars f ++ r)) w f r (subst (λ (x : List ℕ). BeginsWith x (number m w f) r) p a) refl in
    let found' : Some (number m v g) ≡ unsigned_at m (v ++ (fraction_chars g ++ s)) = longest_number m (v ++ (fraction_chars g ++ s)) v g s (subst (λ (x : List ℕ). BeginsWith x (number m v g) s) q b) refl in
    let parts : (w ≡ v) × (f ≡ g) = number_parts m w f v g (found ∙ (ap (unsigned_at m) body ∙ sym found')) in
    record {
      form = (λ i. number m (parts.0 i) (parts.1 i));
      rest = (append_same (number_chars m w f) (number_chars m v g) r s (sym a.chars ∙ b.chars) (as_long text (number m w f) (number m v g) r s a b)).1;
    }

numbers_same : (text : List ℕ) (m n : Bool) (w f v g r s : List ℕ) → BeginsWith text (number m w f) r → BeginsWith text (number n v g) s → SameForm (number m w f) (number n v g) r s
numbers_same text true false w f v g r s a b = minus_digit v (w ++ (fraction_chars f ++ r)) (fraction_chars g ++ s) (and_parts (is_numeral v) _ b.good).0 (sym (regroup true w f r) ∙ (sym a.chars ∙ (b.chars ∙ regroup false v g s)))
numbers_same text false true w f v g r s a b = minus_digit w (v ++ (fraction_chars g ++ s)) (fraction_chars f ++ r) (and_parts (is_numeral w) _ a.good).0 (sym (regroup true v g s) ∙ (sym b.chars ∙ (a.chars ∙ regroup false w f r)))
numbers_same text true true w f v g r s a b = numbers_equal text true w f v g r s a b
numbers_same text false false w f v g r s a b = numbers_equal text false w f v g r s a b

-- ---- Signs

longest_sign : (text : List ℕ) (t : Sign) (r : List ℕ) → BeginsWith text (sign t) r → sign_at text ≡ Some t
longest_sign text t r a =
    by (sign_at text) refl (subst (λ (x : List ℕ). IsLonger x (sign_at x) t r) (sym a.chars) (sign_longer t r a.good))
  where
    by : (o : Option Sign) → sign_at text ≡ o → IsLonger text o t r → sign_at text ≡ Some t
    by None e l = absurd l
    by (Some u) e l =
        let long : length r ≤ length l.tail = a.longest (sign u) l.tail l.chars (ap opens_comment (sym l.chars ∙ a.chars) ∙ a.good) in
        e ∙ ap (λ (x : Sign). Some x) (sym (l.same (omega (arith, long, l.short))))

some_same : (t u : Sign) → Some t ≡ Some u → t ≡ u
some_same t u e = cc (e)

signs_same : (text : List ℕ) (t u : Sign) (r s : List ℕ) → BeginsWith text (sign t) r → BeginsWith text (sign u) s → SameForm (sign t) (sign u) r s
signs_same text t u r s a b = record {
  form = ap sign (some_same t u (sym (longest_sign text t r a) ∙ longest_sign text u s b));
  rest = (append_same (sign_chars t) (sign_chars u) r s (sym a.chars ∙ b.chars) (as_long text (sign t) (sign u) r s a b)).1;
}

-- ---- Names, variables, strings

names_same : (text c d r s : List ℕ) → BeginsWith text (name c) r → BeginsWith text (name d) s → SameForm (name c) (name d) r s
names_same text c d r s a b =
    let same : (c ≡ d) × (r ≡ s) = append_same c d r s (sym a.chars ∙ b.chars) (as_long text (name c) (name d) r s a b) in
    record { form = ap name same.0; rest = same.1 }

variables_same : (text c d r s : List ℕ) → BeginsWith text (variable c) r → BeginsWith text (variable d) s → SameForm (variable c) (variable d) r s
variables_same text c d r s a b =
    let same : (c ≡ d) × (r ≡ s) = append_same c d r s (cons_tail 36 36 (c ++ r) (d ++ s) (sym a.chars ∙ b.chars)) (as_long text (variable c) (variable d) r s a b) in
    record { form = ap variable same.0; rest = same.1 }

strings_same : (text : List ℕ) (p q : ℕ) (ps qs : List Part) (r s : List ℕ) → BeginsWith text (string p ps) r → BeginsWith text (string q qs) s → SameForm (string p ps) (string q qs) r s
strings_same text p q ps qs r s a b =
    let all : p ∷ parts_chars p ps (p ∷ r) ≡ q ∷ parts_chars q qs (q ∷ s) = sym a.chars ∙ b.chars in
    let quote : p ≡ q = cons_head p q _ _ all in
    let own : HasString p (parts_chars p ps (p ∷ r)) ps r = record { good = a.good.1; chars = refl; single = a.good.2 } in
    let other : HasString p (parts_chars p ps (p ∷ r)) qs s = string_of p q (parts_chars p ps (p ∷ r)) qs s all b.good.1 b.good.2 in
    let same : SameParts ps qs (p ∷ r) (p ∷ s) = string_same p (parts_chars p ps (p ∷ r)) ps qs r s a.good.0 own other in
    record { form = (λ i. string (quote i) (same.parts i)); rest = cons_tail p p r s same.rest }

as_begins : (text : List ℕ) (f : Form) (r : List ℕ) → BeginsWith text f r → Begins text f r
as_begins text f r a = record { chars = a.chars; good = a.good }

pub begins_same : (text : List ℕ) (f g : Form) (r s : List ℕ) → BeginsWith text f r → BeginsWith text g s → SameForm f g r s
begins_same text (name c) (name d) r s a b = names_same text c d r s a b
begins_same text (name c) (variable d) r s a b = let k : of_name ≡ of_variable = same_kind text (name c) (variable d) r s (as_begins text (name c) r a) (as_begins text (variable d) s b) in cc (k)
begins_same text (name c) (number n v g) r s a b = let k : of_name ≡ of_number = same_kind text (name c) (number n v g) r s (as_begins text (name c) r a) (as_begins text (number n v g) s b) in cc (k)
begins_same text (name c) (string q qs) r s a b = let k : of_name ≡ of_string = same_kind text (name c) (string q qs) r s (as_begins text (name c) r a) (as_begins text (string q qs) s b) in cc (k)
begins_same text (name c) (sign u) r s a b = let k : of_name ≡ of_sign = same_kind text (name c) (sign u) r s (as_begins text (name c) r a) (as_begins text (sign u) s b) in cc (k)
begins_same text (variable c) (name d) r s a b = let k : of_variable ≡ of_name = same_kind text (variable c) (name d) r s (as_begins text (variable c) r a) (as_begins text (name d) s b) in cc (k)
begins_same text (variable c) (variable d) r s a b = variables_same text c d r s a b
begins_same text (variable c) (number n v g) r s a b = let k : of_variable ≡ of_number = same_kind text (variable c) (number n v g) r s (as_begins text (variable c) r a) (as_begins text (number n v g) s b) in cc (k)
begins_same text (variable c) (string q qs) r s a b = let k : of_variable ≡ of_string = same_kind text (variable c) (string q qs) r s (as_begins text (variable c) r a) (as_begins text (string q qs) s b) in cc (k)
begins_same text (variable c) (sign u) r s a b = let k : of_variable ≡ of_sign = same_kind text (variable c) (sign u) r s (as_begins text (variable c) r a) (as_begins text (sign u) s b) in cc (k)
begins_same text (number m w f) (name d) r s a b = let k : of_number ≡ of_name = same_kind text (number m w f) (name d) r s (as_begins text (number m w f) r a) (as_begins text (name d) s b) in cc (k)
begins_same text (number m w f) (variable d) r s a b = let k : of_number ≡ of_variable = same_kind text (number m w f) (variable d) r s (as_begins text (number m w f) r a) (as_begins text (variable d) s b) in cc (k)
begins_same text (number m w f) (number n v g) r s a b = numbers_same text m n w f v g r s a b
begins_same text (number m w f) (string q qs) r s a b = let k : of_number ≡ of_string = same_kind text (number m w f) (string q qs) r s (as_begins text (number m w f) r a) (as_begins text (string q qs) s b) in cc (k)
begins_same text (number m w f) (sign u) r s a b = let k : of_number ≡ of_sign = same_kind text (number m w f) (sign u) r s (as_begins text (number m w f) r a) (as_begins text (sign u) s b) in cc (k)
begins_same text (string p ps) (name d) r s a b = let k : of_string ≡ of_name = same_kind text (string p ps) (name d) r s (as_begins text (string p ps) r a) (as_begins text (name d) s b) in cc (k)
begins_same text (string p ps) (variable d) r s a b = let k : of_string ≡ of_variable = same_kind text (string p ps) (variable d) r s (as_begins text (string p ps) r a) (as_begins text (variable d) s b) in cc (k)
begins_same text (string p ps) (number n v g) r s a b = let k : of_string ≡ of_number = same_kind text (string p ps) (number n v g) r s (as_begins text (string p ps) r a) (as_begins text (number n v g) s b) in cc (k)
begins_same text (string p ps) (string q qs) r s a b = strings_same text p q ps qs r s a b
begins_same text (string p ps) (sign u) r s a b = let k : of_string ≡ of_sign = same_kind text (string p ps) (sign u) r s (as_begins text (string p ps) r a) (as_begins text (sign u) s b) in cc (k)
begins_same text (sign t) (name d) r s a b = let k : of_sign ≡ of_name = same_kind text (sign t) (name d) r s (as_begins text (sign t) r a) (as_begins text (name d) s b) in cc (k)
begins_same text (sign t) (variable d) r s a b = let k : of_sign ≡ of_variable = same_kind text (sign t) (variable d) r s (as_begins text (sign t) r a) (as_begins text (variable d) s b) in cc (k)
begins_same text (sign t) (number n v g) r s a b = let k : of_sign ≡ of_number = same_kind text (sign t) (number n v g) r s (as_begins text (sign t) r a) (as_begins text (number n v g) s b) in cc (k)
begins_same text (sign t) (string q qs) r s a b = let k : of_sign ≡ of_string = same_kind text (sign t) (string q qs) r s (as_begins text (sign t) r a) (as_begins text (string q qs) s b) in cc (k)
begins_same text (sign t) (sign u) r s a b = signs_same text t u r s a b

-- ---- Tokens

tok_same : (t u : Tok) → t.kind ≡ u.kind → t.from ≡ u.from → t.to ≡ u.to → t ≡ u
tok_same t u k f e = λ i. record { kind = k i; from = f i; to = e i }

sum_same : (a b n total : ℕ) → a + n ≡ total → b + n ≡ total → a ≡ b
sum_same a b n total p q = omega arith

pub record SameRead (t u : Tok) (r s : List ℕ) : Type 0 where
  pub token : t ≡ u
  pub rest : r ≡ s

pub reads_same : (total : ℕ) (text : List ℕ) (t u : Tok) (r s : List ℕ) → Reads total text t r → Reads total text u s → SameRead t u r s
reads_same total text t u r s a b =
    let gap : a.behind_gap ≡ b.behind_gap = one_gap text a.behind_gap b.behind_gap a.gap b.gap in
    let form : SameForm a.form b.form r s = begins_same b.behind_gap a.form b.form r s (subst (λ (x : List ℕ). BeginsWith x a.form r) gap a.begins) b.begins in
    record {
      token = tok_same t u (a.kind ∙ (ap kind_of form.form ∙ sym b.kind))
          (sum_same t.from u.from (length (encode_utf8_all b.behind_gap)) total (ap (λ (x : List ℕ). t.from + length (encode_utf8_all x)) (sym gap) ∙ a.from) b.from)
          (sum_same t.to u.to (length (encode_utf8_all s)) total (ap (λ (x : List ℕ). t.to + length (encode_utf8_all x)) (sym form.rest) ∙ a.to) b.to);
      rest = form.rest;
    }

pub record SameFront (ts us : List Tok) (r s : List ℕ) : Type 0 where
  pub tokens : ts ≡ us
  pub rest : r ≡ s

fronts_same : (total : ℕ) (ts us : List Tok) (text r s : List ℕ) → ReadsAll total text ts r → ((t : Tok) (more : List ℕ) → Reads total r t more → ⊥) → ReadsAll total text us s → ((t : Tok) (more : List ℕ) → Reads total s t more → ⊥) → SameFront ts us r s
fronts_same total [] [] text r s a p b q = record { tokens = refl; rest = sym a ∙ b }
fronts_same total [] (u ∷ us) text r s a p (middle, (one, b)) q = absurd (p u middle (subst (λ (x : List ℕ). Reads total x u middle) a one))
fronts_same total (t ∷ ts) [] text r s (middle, (one, a)) p b q = absurd (q t middle (subst (λ (x : List ℕ). Reads total x t middle) b one))
fronts_same total (t ∷ ts) (u ∷ us) text r s (m, (one, a)) p (n, (two, b)) q =
    let first : SameRead t u m n = reads_same total text t u m n one two in
    let more : SameFront ts us r s = fronts_same total ts us n r s (subst (λ (x : List ℕ). ReadsAll total x ts r) first.rest a) p b q in
    let token : t ≡ u = first.token in
    let tokens : ts ≡ us = more.tokens in
    record { tokens = cc (token, tokens); rest = more.rest }

-- ---- What ends the tokens

begins_nothing : (f : Form) (r : List ℕ) → BeginsWith [] f r → ⊥
begins_nothing f r b =
    let front : [] ≡ form_chars f [] ++ r = b.chars ∙ form_front f r in
    omega (arith, form_some f r b.good, ap length front, length-append (form_chars f []) r)

gap_ends_all : (total : ℕ) (rest : List ℕ) → HasGap rest [] → (t : Tok) (more : List ℕ) → Reads total rest t more → ⊥
gap_ends_all total rest g t more a =
    let none : a.behind_gap ≡ [] = one_gap rest a.behind_gap [] a.gap g in
    begins_nothing a.form more (subst (λ (x : List ℕ). BeginsWith x a.form more) none a.begins)

no_token : (text : List ℕ) (f : Form) (r : List ℕ) → IsNoToken text → BeginsWith text f r → is_too_wide f ≡ false → ⊥
no_token text f r none b narrow = none.1 f r b.chars b.good

too_wide : (text : List ℕ) (f : Form) (r : List ℕ) → HasWideNumber text → BeginsWith text f r → is_too_wide f ≡ false → ⊥
too_wide text f r other b narrow =
    let same : SameForm f other.form r other.rest = begins_same text f other.form r other.rest b other.begins in
    true≢false (sym other.wide ∙ (ap is_too_wide (sym same.form) ∙ narrow))

stop_ends : (P : List ℕ → Type 0) → ((text : List ℕ) (f : Form) (r : List ℕ) → P text → BeginsWith text f r → is_too_wide f ≡ false → ⊥) →
    (total : ℕ) (rest behind : List ℕ) → HasGap rest behind → P behind → (t : Tok) (more : List ℕ) → Reads total rest t more → ⊥
stop_ends P refuses total rest behind g p t more a =
    let same : a.behind_gap ≡ behind = one_gap rest a.behind_gap behind a.gap g in
    refuses behind a.form more p (subst (λ (x : List ℕ). BeginsWith x a.form more) same a.begins) a.in_range

-- ---- Characters

pub lexes_once : (text : List ℕ) (ts us : List Tok) → LexesAs text ts → LexesAs text us → ts ≡ us
lexes_once text ts us a b =
    (fronts_same (length (encode_utf8_all text)) ts us text a.rest b.rest a.reads (gap_ends_all _ a.rest a.gap) b.reads (gap_ends_all _ b.rest b.gap)).tokens

no_token_some : (text : List ℕ) → IsNoToken text → text ≢ []
no_token_some text none = none.0

wide_some : (text : List ℕ) → HasWideNumber text → text ≢ []
wide_some text wide e = begins_nothing wide.form wide.rest (subst (λ (x : List ℕ). BeginsWith x wide.form wide.rest) e wide.begins)

lexes_or_stops : (P : List ℕ → Type 0) → ((text : List ℕ) (f : Form) (r : List ℕ) → P text → BeginsWith text f r → is_too_wide f ≡ false → ⊥) → ((text : List ℕ) → P text → text ≢ []) →
    (text : List ℕ) (ts : List Tok) (at : ℕ) → LexesAs text ts → StopsAt at P text → ⊥
lexes_or_stops P refuses some text ts at a b =
    let same : SameFront ts b.tokens a.rest b.rest =
    fronts_same (length (encode_utf8_all text)) ts b.tokens text a.rest b.rest a.reads (gap_ends_all _ a.rest a.gap) b.reads (stop_ends P refuses _ b.rest b.behind_gap b.gap b.stops) in
    some b.behind_gap b.stops (one_gap b.rest b.behind_gap [] b.gap (subst (λ (x : List ℕ). HasGap x []) same.rest a.gap))

record SameStop (at at' : ℕ) (behind behind' : List ℕ) : Type 0 where
  place : at ≡ at'
  text : behind ≡ behind'

stops_once : (P Q : List ℕ → Type 0) → ((text : List ℕ) (f : Form) (r : List ℕ) → P text → BeginsWith text f r → is_too_wide f ≡ false → ⊥) →
    ((text : List ℕ) (f : Form) (r : List ℕ) → Q text → BeginsWith text f r → is_too_wide f ≡ false → ⊥) →
    (text : List ℕ) (at at' : ℕ) (a : StopsAt at P text) (b : StopsAt at' Q text) → SameStop at at' a.behind_gap b.behind_gap
stops_once P Q p q text at at' a b =
    let same : SameFront a.tokens b.tokens a.rest b.rest =
    fronts_same (length (encode_utf8_all text)) a.tokens b.tokens text a.rest b.rest a.reads (stop_ends P p _ a.rest a.behind_gap a.gap a.stops) b.reads (stop_ends Q q _ b.rest b.behind_gap b.gap b.stops) in
    let gap : a.behind_gap ≡ b.behind_gap = one_gap b.rest a.behind_gap b.behind_gap (subst (λ (x : List ℕ). HasGap x a.behind_gap) same.rest a.gap) b.gap in
    record {
      place = sum_same at at' (length (encode_utf8_all b.behind_gap)) (length (encode_utf8_all text)) (ap (λ (x : List ℕ). at + length (encode_utf8_all x)) (sym gap) ∙ a.place) b.place;
      text = gap;
    }

none_or_wide : (text : List ℕ) → IsNoToken text → HasWideNumber text → ⊥
none_or_wide text none w = none.1 w.form w.rest w.begins.chars w.begins.good

both_stop : (text : List ℕ) (at at' : ℕ) → StopsAt at IsNoToken text → StopsAt at' HasWideNumber text → ⊥
both_stop text at at' a b =
    let same : SameStop at at' a.behind_gap b.behind_gap = stops_once IsNoToken HasWideNumber no_token too_wide text at at' a b in
    none_or_wide b.behind_gap (subst IsNoToken same.text a.stops) b.stops

-- ---- Bytes

pub tokens_once : (bytes : List ℕ) (ts us : List Tok) → Lexes bytes ts → Lexes bytes us → ts ≡ us
tokens_once bytes ts us a b = lexes_once (chars bytes) ts us a.holds b.holds

not_utf8 : (bytes : List ℕ) (at : ℕ) → IsValidUpTo bytes at → IsUtf8 bytes → ⊥
not_utf8 bytes at v u = v.longest (length bytes) v.short (subst (λ (x : List ℕ). IsUtf8 x) (sym (take-length bytes)) u)

valid_once : (bytes : List ℕ) (m n : ℕ) → IsValidUpTo bytes m → IsValidUpTo bytes n → m ≡ n
valid_once bytes m n a b = sym (utf8_valid_len-IsValidUpTo bytes m a) ∙ utf8_valid_len-IsValidUpTo bytes n b

-- a query with tokens has no fault
pub tokens_or_fault : (bytes : List ℕ) (ts : List Tok) (fault : QueryFault) → Lexes bytes ts → LexFault bytes fault → ⊥
tokens_or_fault bytes ts (TooLarge what limit) a f = omega (arith, a.short, f.2)
tokens_or_fault bytes ts (Utf8 at) a f = not_utf8 bytes at f.1 a.utf8
tokens_or_fault bytes ts (Lex at) a f = lexes_or_stops IsNoToken no_token no_token_some (chars bytes) ts at a.holds f.holds
tokens_or_fault bytes ts (IntegerWide at) a f = lexes_or_stops HasWideNumber too_wide wide_some (chars bytes) ts at a.holds f.holds
tokens_or_fault bytes ts (Syntax at) a f = f
tokens_or_fault bytes ts (UnknownVar at) a f = f
tokens_or_fault bytes ts (TagMismatch at) a f = f
tokens_or_fault bytes ts (DescendantNotLast at) a f = f
tokens_or_fault bytes ts Memory a f = f

-- and no query has two faults
pub fault_once : (bytes : List ℕ) (f g : QueryFault) → LexFault bytes f → LexFault bytes g → f ≡ g
fault_once bytes (TooLarge what limit) (TooLarge what2 limit2) p q = (λ i. TooLarge ((p.0 ∙ sym q.0) i) ((p.1 ∙ sym q.1) i))
fault_once bytes (TooLarge what limit) (Utf8 at2) p q = absurd (omega (arith, p.2, q.0))
fault_once bytes (TooLarge what limit) (Lex at2) p q = absurd (omega (arith, p.2, q.short))
fault_once bytes (TooLarge what limit) (IntegerWide at2) p q = absurd (omega (arith, p.2, q.short))
fault_once bytes (TooLarge what limit) (Syntax at2) p q = absurd q
fault_once bytes (TooLarge what limit) (UnknownVar at2) p q = absurd q
fault_once bytes (TooLarge what limit) (TagMismatch at2) p q = absurd q
fault_once bytes (TooLarge what limit) (DescendantNotLast at2) p q = absurd q
fault_once bytes (TooLarge what limit) (Memory) p q = absurd q
fault_once bytes (Utf8 at) (TooLarge what2 limit2) p q = absurd (omega (arith, q.2, p.0))
fault_once bytes (Utf8 at) (Utf8 at2) p q = ap Utf8 (valid_once bytes at at2 p.1 q.1)
fault_once bytes (Utf8 at) (Lex at2) p q = absurd (not_utf8 bytes at p.1 q.utf8)
fault_once bytes (Utf8 at) (IntegerWide at2) p q = absurd (not_utf8 bytes at p.1 q.utf8)
fault_once bytes (Utf8 at) (Syntax at2) p q = absurd q
fault_once bytes (Utf8 at) (UnknownVar at2) p q = absurd q
fault_once bytes (Utf8 at) (TagMismatch at2) p q = absurd q
fault_once bytes (Utf8 at) (DescendantNotLast at2) p q = absurd q
fault_once bytes (Utf8 at) (Memory) p q = absurd q
fault_once bytes (Lex at) (TooLarge what2 limit2) p q = absurd (omega (arith, q.2, p.short))
fault_once bytes (Lex at) (Utf8 at2) p q = absurd (not_utf8 bytes at2 q.1 p.utf8)
fault_once bytes (Lex at) (Lex at2) p q = ap Lex (stops_once IsNoToken IsNoToken no_token no_token (chars bytes) at at2 p.holds q.holds).place
fault_once bytes (Lex at) (IntegerWide at2) p q = absurd (both_stop (chars bytes) at at2 p.holds q.holds)
fault_once bytes (Lex at) (Syntax at2) p q = absurd q
fault_once bytes (Lex at) (UnknownVar at2) p q = absurd q
fault_once bytes (Lex at) (TagMismatch at2) p q = absurd q
fault_once bytes (Lex at) (DescendantNotLast at2) p q = absurd q
fault_once bytes (Lex at) (Memory) p q = absurd q
fault_once bytes (IntegerWide at) (TooLarge what2 limit2) p q = absurd (omega (arith, q.2, p.short))
fault_once bytes (IntegerWide at) (Utf8 at2) p q = absurd (not_utf8 bytes at2 q.1 p.utf8)
fault_once bytes (IntegerWide at) (Lex at2) p q = absurd (both_stop (chars bytes) at2 at q.holds p.holds)
fault_once bytes (IntegerWide at) (IntegerWide at2) p q = ap IntegerWide (stops_once HasWideNumber HasWideNumber too_wide too_wide (chars bytes) at at2 p.holds q.holds).place
fault_once bytes (IntegerWide at) (Syntax at2) p q = absurd q
fault_once bytes (IntegerWide at) (UnknownVar at2) p q = absurd q
fault_once bytes (IntegerWide at) (TagMismatch at2) p q = absurd q
fault_once bytes (IntegerWide at) (DescendantNotLast at2) p q = absurd q
fault_once bytes (IntegerWide at) (Memory) p q = absurd q
fault_once bytes (Syntax at) (TooLarge what2 limit2) p q = absurd p
fault_once bytes (Syntax at) (Utf8 at2) p q = absurd p
fault_once bytes (Syntax at) (Lex at2) p q = absurd p
fault_once bytes (Syntax at) (IntegerWide at2) p q = absurd p
fault_once bytes (Syntax at) (Syntax at2) p q = absurd p
fault_once bytes (Syntax at) (UnknownVar at2) p q = absurd p
fault_once bytes (Syntax at) (TagMismatch at2) p q = absurd p
fault_once bytes (Syntax at) (DescendantNotLast at2) p q = absurd p
fault_once bytes (Syntax at) (Memory) p q = absurd p
fault_once bytes (UnknownVar at) (TooLarge what2 limit2) p q = absurd p
fault_once bytes (UnknownVar at) (Utf8 at2) p q = absurd p
fault_once bytes (UnknownVar at) (Lex at2) p q = absurd p
fault_once bytes (UnknownVar at) (IntegerWide at2) p q = absurd p
fault_once bytes (UnknownVar at) (Syntax at2) p q = absurd p
fault_once bytes (UnknownVar at) (UnknownVar at2) p q = absurd p
fault_once bytes (UnknownVar at) (TagMismatch at2) p q = absurd p
fault_once bytes (UnknownVar at) (DescendantNotLast at2) p q = absurd p
fault_once bytes (UnknownVar at) (Memory) p q = absurd p
fault_once bytes (TagMismatch at) (TooLarge what2 limit2) p q = absurd p
fault_once bytes (TagMismatch at) (Utf8 at2) p q = absurd p
fault_once bytes (TagMismatch at) (Lex at2) p q = absurd p
fault_once bytes (TagMismatch at) (IntegerWide at2) p q = absurd p
fault_once bytes (TagMismatch at) (Syntax at2) p q = absurd p
fault_once bytes (TagMismatch at) (UnknownVar at2) p q = absurd p
fault_once bytes (TagMismatch at) (TagMismatch at2) p q = absurd p
fault_once bytes (TagMismatch at) (DescendantNotLast at2) p q = absurd p
fault_once bytes (TagMismatch at) (Memory) p q = absurd p
fault_once bytes (DescendantNotLast at) (TooLarge what2 limit2) p q = absurd p
fault_once bytes (DescendantNotLast at) (Utf8 at2) p q = absurd p
fault_once bytes (DescendantNotLast at) (Lex at2) p q = absurd p
fault_once bytes (DescendantNotLast at) (IntegerWide at2) p q = absurd p
fault_once bytes (DescendantNotLast at) (Syntax at2) p q = absurd p
fault_once bytes (DescendantNotLast at) (UnknownVar at2) p q = absurd p
fault_once bytes (DescendantNotLast at) (TagMismatch at2) p q = absurd p
fault_once bytes (DescendantNotLast at) (DescendantNotLast at2) p q = absurd p
fault_once bytes (DescendantNotLast at) (Memory) p q = absurd p
fault_once bytes (Memory) (TooLarge what2 limit2) p q = absurd p
fault_once bytes (Memory) (Utf8 at2) p q = absurd p
fault_once bytes (Memory) (Lex at2) p q = absurd p
fault_once bytes (Memory) (IntegerWide at2) p q = absurd p
fault_once bytes (Memory) (Syntax at2) p q = absurd p
fault_once bytes (Memory) (UnknownVar at2) p q = absurd p
fault_once bytes (Memory) (TagMismatch at2) p q = absurd p
fault_once bytes (Memory) (DescendantNotLast at2) p q = absurd p
fault_once bytes (Memory) (Memory) p q = absurd p
