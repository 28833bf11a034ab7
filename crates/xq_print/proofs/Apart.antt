-- Pieces that stand apart are read as their tokens.
use Rattle.std.proofs.Common.{ℕ, ◌≡◌, ◌⊎◌, ◌+◌, ◌-◌, ◌<◌, ◌≤◌, ◌==◌, true, false, ◌||◌, List, [], ◌∷◌, ◌++◌, map, length, inl, inr, refl, sym, ap, ◌∙◌, subst, arith, length-append, eqb-true}
use Rattle.std.specs.Prelude.{IsUtf8, nat_lt, nat_le}
use Rattle.std.specs.List.{list_all}
use Rattle.std.specs.Str.{encode_utf8_all}
use Rattle.std.proofs.lemmas.Bool.{and_parts, and_left, or_cases, or_from, leb-true, false≢true, ne_eqb}
use Rattle.std.proofs.lemmas.Str.{IsUtf8-append, encodes-append}
use Rattle.gcx_model.specs.Values.{is_digit_byte, is_numeral}
use Rattle.xq_lex.specs.declared.sign.Sign.{Sign}
use Rattle.xq_lex.specs.declared.sign.Sign.TheVariants as signs
use Rattle.xq_lex.specs.declared.token.TokKind.{TokKind}
use Rattle.xq_lex.specs.declared.token.Tok.{Tok}
use Rattle.xq_lex.specs.Sign.{sign_chars, begins, opens_comment}
use Rattle.xq_lex.specs.Strings.{is_quote}
use Rattle.xq_lex.specs.Form.{Form, name, variable, number, string, sign, form_chars, IsForm, BeginsWith}
use Rattle.xq_lex.specs.Gap.{white, begins_white, HasGap}
use Rattle.xq_lex.specs.Lex.{ReadsAll}
use Rattle.xq_lex.proofs.NameLaws.{IsParted, name_parts}
use Rattle.xq_lex.proofs.KindLaws.{begins_high}
use Rattle.xq_lex.proofs.GapLaws.{no_gap, gap_ends}
use Rattle.xq_lex.proofs.LexemeLaws.{form_front}
use Rattle.xq_print.proofs.Pieces.{Piece, put, blank, kinds_of}
use Rattle.xq_print.proofs.Lexical.{IsKind}
use Rattle.xq_print.proofs.Forms.{form_of, pieces_chars, may_follow, Fits}
use Rattle.xq_print.proofs.Texts.{text_of}
use Rattle.xq_print.proofs.Written.{written, kind_text, kind_bytes, low_first}

-- each token is one, and what stands behind it may follow it
abbrev pub Apart : List Piece → (rest : List ℕ) → Type 0
Apart [] rest = Unit {0}
Apart (put k ∷ ps) rest = IsKind k × (may_follow k (pieces_chars ps rest) ≡ true) × Apart ps rest
Apart (blank ∷ ps) rest = Apart ps rest

pub chars_append : (a b : List Piece) (rest : List ℕ) → pieces_chars (a ++ b) rest ≡ pieces_chars a (pieces_chars b rest)
chars_append [] b rest = refl
chars_append (put k ∷ ps) b rest = ap (λ (x : List ℕ). form_chars (form_of k) x) (chars_append ps b rest)
chars_append (blank ∷ ps) b rest = ap (λ (x : List ℕ). 32 ∷ x) (chars_append ps b rest)

pub apart_append : (a b : List Piece) (rest : List ℕ) → Apart a (pieces_chars b rest) → Apart b rest → Apart (a ++ b) rest
apart_append [] b rest h g = g
apart_append (put k ∷ ps) b rest h g = (h.0, subst (λ (x : List ℕ). may_follow k x ≡ true) (sym (chars_append ps b rest)) h.1, apart_append ps b rest h.2 g)
apart_append (blank ∷ ps) b rest h g = apart_append ps b rest h g

-- ---- No gap begins with a token.

record IsClear (text : List ℕ) : Type 0 where
  no_white : begins_white text ≡ false
  no_comment : opens_comment text ≡ false

high_clear : (c : ℕ) (cs : List ℕ) → 41 ≤ c → IsClear (c ∷ cs)
high_clear c cs h = record {
  no_white = or_from (c == 32) ((c == 9) || ((c == 13) || (c == 10))) (other 32 (omega arith)) (or_from (c == 9) ((c == 13) || (c == 10)) (other 9 (omega arith)) (or_from (c == 13) (c == 10) (other 13 (omega arith)) (other 10 (omega arith))));
  no_comment = and_left (c == 40) (begins 58 cs) (other 40 (omega arith));
}
  where
    other : (d : ℕ) → d < c → (c == d) ≡ false
    other d k = ne_eqb c d (λ e. omega arith)

sign_clear : (s : Sign) (rest : List ℕ) → begins_white (sign_chars s ++ rest) ≡ false
sign_clear signs.ParenOpen rest = refl
sign_clear signs.ParenClose rest = refl
sign_clear signs.BraceOpen rest = refl
sign_clear signs.BraceClose rest = refl
sign_clear signs.Comma rest = refl
sign_clear signs.Slash rest = refl
sign_clear signs.SlashSlash rest = refl
sign_clear signs.Axis rest = refl
sign_clear signs.Star rest = refl
sign_clear signs.Eq rest = refl
sign_clear signs.Ne rest = refl
sign_clear signs.Lt rest = refl
sign_clear signs.Le rest = refl
sign_clear signs.Gt rest = refl
sign_clear signs.Ge rest = refl
sign_clear signs.EndTag rest = refl
sign_clear signs.EmptyEnd rest = refl

quote_clear : (q : ℕ) (cs : List ℕ) → is_quote q ≡ true → IsClear (q ∷ cs)
quote_clear q cs e = by (or_cases (q == 34) (q == 39) e)
  where
    by : ((q == 34) ≡ true) ⊎ ((q == 39) ≡ true) → IsClear (q ∷ cs)
    by (inl h) = subst (λ (x : ℕ). IsClear (x ∷ cs)) (sym (eqb-true q 34 h)) (record { no_white = refl; no_comment = refl })
    by (inr h) = subst (λ (x : ℕ). IsClear (x ∷ cs)) (sym (eqb-true q 39 h)) (record { no_white = refl; no_comment = refl })

form_clear : (f : Form) (rest : List ℕ) → IsForm f rest → IsClear (form_chars f rest)
form_clear (name []) rest good = absurd (false≢true good)
form_clear (name (c ∷ cs)) rest good =
    let p : IsParted c cs rest = name_parts c cs rest good in
    let high : 58 ≤ c = begins_high c p.begins in
    high_clear c (cs ++ rest) (omega arith)
form_clear (variable cs) rest good = record { no_white = refl; no_comment = refl }
form_clear (number true w f) rest good = record { no_white = refl; no_comment = refl }
form_clear (number false [] f) rest good = absurd (false≢true good)
form_clear (number false (d ∷ ds) f) rest good =
    let whole : is_numeral (d ∷ ds) ≡ true = (and_parts (is_numeral (d ∷ ds)) (list_all is_digit_byte f) good).0 in
    let digit : is_digit_byte d ≡ true = (and_parts (is_digit_byte d) (list_all is_digit_byte ds) (and_parts (nat_lt 0 (length (d ∷ ds))) (list_all is_digit_byte (d ∷ ds)) whole).1).0 in
    let low : 48 ≤ d = leb-true 48 d (and_parts (nat_le 48 d) (nat_le d 57) digit).0 in
    high_clear d _ (omega arith)
form_clear (string q ps) rest good = quote_clear q _ good.0
form_clear (sign s) rest good = record { no_white = sign_clear s rest; no_comment = good }

starts_here : (f : Form) (rest : List ℕ) → IsForm f rest → HasGap (form_chars f rest) (form_chars f rest)
starts_here f rest good = let c : IsClear (form_chars f rest) = form_clear f rest good in no_gap (form_chars f rest) (gap_ends (form_chars f rest) c.no_white c.no_comment)

-- ---- What is read

pub record IsRead (total : ℕ) (text : List ℕ) (kinds : List TokKind) : Type 0 where
  pub tokens : List Tok
  pub kinds_are : map (λ (t : Tok). t.kind) tokens ≡ kinds
  pub rest : List ℕ
  pub reads : ReadsAll total text tokens rest
  pub gap : HasGap rest []

nothing_read : (total : ℕ) → IsRead total [] []
nothing_read total = record { tokens = []; kinds_are = refl; rest = []; reads = refl; gap = no_gap [] (gap_ends [] refl refl) }

longer_gap : (text rest : List ℕ) → HasGap text rest → HasGap (32 ∷ text) rest
longer_gap text rest g = record { gap = white 32 g.gap; good = (refl, g.good); chars = ap (λ (x : List ℕ). 32 ∷ x) g.chars; whole = g.whole }

blank_read : (total : ℕ) (text : List ℕ) (kinds : List TokKind) → IsRead total text kinds → IsRead total (32 ∷ text) kinds
blank_read total text kinds r = by r.tokens r.kinds_are r.reads
  where
    by : (ts : List Tok) → map (λ (t : Tok). t.kind) ts ≡ kinds → ReadsAll total text ts r.rest → IsRead total (32 ∷ text) kinds
    by [] e same = record { tokens = []; kinds_are = e; rest = 32 ∷ r.rest; reads = ap (λ (x : List ℕ). 32 ∷ x) same; gap = longer_gap r.rest [] r.gap }
    by (t ∷ ts) e (middle, (one, more)) = record {
      tokens = t ∷ ts;
      kinds_are = e;
      rest = r.rest;
      reads = (
        middle,
        (record { behind_gap = one.behind_gap; form = one.form; gap = longer_gap text one.behind_gap one.gap; begins = one.begins; in_range = one.in_range; kind = one.kind; from = one.from; to = one.to }, more),
      );
      gap = r.gap;
    }

abbrev size : List ℕ → ℕ
size cs = length (encode_utf8_all cs)

size_behind : (f : Form) (rest : List ℕ) → size rest ≤ size (form_chars f rest)
size_behind f rest =
    omega (arith, ap length (ap encode_utf8_all (form_front f rest) ∙ encodes-append (form_chars f []) rest), length-append (encode_utf8_all (form_chars f [])) (encode_utf8_all rest))

token_read : (total : ℕ) (k : TokKind) (text : List ℕ) (kinds : List TokKind) → IsKind k → may_follow k text ≡ true → size (form_chars (form_of k) text) ≤ total → IsRead total text kinds →
    IsRead total (form_chars (form_of k) text) (k ∷ kinds)
token_read total k text kinds i follows within r =
    let w : Fits (form_of k) k = written k i in
    let b : BeginsWith (form_chars (form_of k) text) (form_of k) text = w.begins text follows in
    record {
      tokens = record { kind = k; from = total - size (form_chars (form_of k) text); to = total - size text } ∷ r.tokens;
      kinds_are = ap (λ (x : List TokKind). k ∷ x) r.kinds_are;
      rest = r.rest;
      reads = (
        text,
        (
          record {
            behind_gap = form_chars (form_of k) text;
            form = form_of k;
            gap = starts_here (form_of k) text b.good;
            begins = b;
            in_range = w.in_range;
            kind = w.is;
            from = back total (size (form_chars (form_of k) text)) within;
            to = back total (size text) (behind (size text) (size (form_chars (form_of k) text)) total (size_behind (form_of k) text) within);
          },
          r.reads,
        ),
      );
      gap = r.gap;
    }
  where
    back : (n m : ℕ) → m ≤ n → n - m + m ≡ n
    back n m h = omega arith

    behind : (a b c : ℕ) → a ≤ b → b ≤ c → a ≤ c
    behind a b c h g = omega arith

pub pieces_read : (ps : List Piece) (total : ℕ) → size (pieces_chars ps []) ≤ total → Apart ps [] → IsRead total (pieces_chars ps []) (kinds_of ps)
pieces_read [] total within a = nothing_read total
pieces_read (put k ∷ ps) total within a =
    let less : size (pieces_chars ps []) ≤ total = smaller (size (pieces_chars ps [])) (size (form_chars (form_of k) (pieces_chars ps []))) total (size_behind (form_of k) (pieces_chars ps [])) within in
    token_read total k (pieces_chars ps []) (kinds_of ps) a.0 a.1 within (pieces_read ps total less a.2)
  where
    smaller : (a b c : ℕ) → a ≤ b → b ≤ c → a ≤ c
    smaller a b c h g = omega arith
pieces_read (blank ∷ ps) total within a =
    blank_read total (pieces_chars ps []) (kinds_of ps) (pieces_read ps total (omega (arith, ap length (low_first 32 (pieces_chars ps []) (omega arith)), within)) a)

-- ---- Their bytes

pub pieces_bytes : (ps : List Piece) → Apart ps [] → encode_utf8_all (pieces_chars ps []) ≡ text_of ps
pieces_bytes [] a = refl
pieces_bytes (put k ∷ ps) a = kind_bytes k (pieces_chars ps []) a.0 ∙ ap (λ (x : List ℕ). kind_text k ++ x) (pieces_bytes ps a.2)
pieces_bytes (blank ∷ ps) a = low_first 32 (pieces_chars ps []) (omega arith) ∙ ap (λ (x : List ℕ). 32 ∷ x) (pieces_bytes ps a)

one_blank : IsUtf8 (encode_utf8_all (32 ∷ []))
one_blank = (32 ∷ [], (refl, refl))

pub pieces_utf8 : (ps : List Piece) → Apart ps [] → IsUtf8 (encode_utf8_all (pieces_chars ps []))
pieces_utf8 [] a = ([], (refl, refl))
pieces_utf8 (put k ∷ ps) a =
    subst IsUtf8 (sym (ap encode_utf8_all (form_front (form_of k) (pieces_chars ps [])) ∙ encodes-append (form_chars (form_of k) []) (pieces_chars ps [])))
    (IsUtf8-append (encode_utf8_all (form_chars (form_of k) [])) (encode_utf8_all (pieces_chars ps [])) (written k a.0).utf8 (pieces_utf8 ps a.2))
pieces_utf8 (blank ∷ ps) a =
    subst IsUtf8 (sym (encodes-append (32 ∷ []) (pieces_chars ps []))) (IsUtf8-append (encode_utf8_all (32 ∷ [])) (encode_utf8_all (pieces_chars ps [])) one_blank (pieces_utf8 ps a))
