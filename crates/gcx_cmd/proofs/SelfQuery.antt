-- The query of `selfrun` is accepted.
use Rattle.std.proofs.Common.{ℕ, zero, suc, ◌≡◌, ◌+◌, ◌-◌, ◌≤◌, ◌<◌, ℤ, Bool, true, false, ◌&&◌, List, [], ◌∷◌, length, take, drop, Some, None, refl, sym, ap, ◌∙◌, subst, inl, arith, length-drop}
use Rattle.std.specs.Prelude.{codes, not}
use Rattle.std.specs.Fmt.{digits}
use Rattle.std.specs.Str.{IsAscii, encode_utf8_all}
use lib.Utf8.{encode}
use Rattle.std.proofs.lemmas.Bool.{and_parts, true≢false}
use Rattle.std.proofs.lemmas.List.{drop-drop, length-take-le}
use Rattle.std.proofs.lemmas.Str.{IsAscii-take, IsAscii-drop, IsUtf8-from_ascii, chars-IsAscii, encodes-IsAscii}
use Rattle.gcx_base.specs.Characters.{is_white}
use Rattle.gcx_base.specs.declared.rel.Rel.TheVariants as rels
use Rattle.gcx_model.specs.Query.{ExprTree}
use Rattle.xq_lex.specs.declared.sign.Sign.{Sign}
use Rattle.xq_lex.specs.declared.sign.Sign.TheVariants as signs
use Rattle.xq_lex.specs.declared.token.Tok.{Tok}
use Rattle.xq_lex.specs.declared.token.TokKind.{TokKind}
use Rattle.xq_lex.specs.declared.token.TokKind.TheVariants as kinds
use Rattle.xq_lex.specs.Answer.{IsLexeme}
use Rattle.xq_lex.specs.Found.{of_name, kind_at}
use Rattle.xq_lex.specs.Gap.{HasGap, begins_white}
use Rattle.xq_lex.specs.Lex.{Reads as ReadsToken, ReadsAll as ReadsQueryTokens, Lexes}
use Rattle.xq_lex.specs.Names.{name_at, may_begin, may_go_on}
use Rattle.xq_lex.specs.Numbers.{units_of}
use Rattle.xq_lex.specs.Sign.{sign_at, sign_chars, opens_comment}
use Rattle.xq_lex.specs.Steps.{IsNext}
use Rattle.xq_lex.proofs.GapLaws.{no_gap, more_gap, gap_ends}
use Rattle.xq_lex.proofs.LexLaws.{next_is}
use Rattle.xq_lex.proofs.LexemeLaws.{name_lexeme, variable_lexeme, number_is, reads_of, sign_is}
use Rattle.xq_lex.proofs.SpanLaws.{lexes_bytes}
use Rattle.xq_parse.specs.Grammar.{Derivation, Derives, derivation_tree, plain, name_test, StepsSyntax, no_step, more_steps, from_var, in_root, number, literal_operand, Cond, cond_of, no_or, all, no_and, compared, clause, no_clause, no_where, for_expr, if_expr, elem_expr, paren_expr, path_expr, closed, no_rest, long, ended, braced}
use Rattle.xq_parse.specs.Spelling.{QuerySpells}
use Rattle.xq_parse.specs.Tokens.{tokens_of}
use Rattle.xq_print.specs.Literals.{places}
use Rattle.signoff_place.specs.Refused.{refusal_of}
use Rattle.gcx_model.specs.Normal.{normal}
use Rattle.gcx_cmd.specs.Main.{Accepts}
use Rattle.gcx_cmd.specs.Texts.{self_query}
use Rattle.gcx_cmd.proofs.Lists.{ascii_all}

-- ---- One token behind the other

ascii_query : IsAscii self_query
ascii_query = ascii_all self_query refl

-- so much white space stands before a token
abbrev has_white : ℕ → List ℕ → Bool
has_white zero text = not (begins_white text) && not (opens_comment text)
has_white (suc n) [] = false
has_white (suc n) (c ∷ text) = is_white c && has_white n text

no_is_false : (b : Bool) → not b ≡ true → b ≡ false
no_is_false false e = refl
no_is_false true e = sym e

gap_at : (n : ℕ) (text : List ℕ) → has_white n text ≡ true → HasGap text (drop n text)
gap_at zero text e =
    let both = and_parts (not (begins_white text)) (not (opens_comment text)) e in
    no_gap text (gap_ends text (no_is_false (begins_white text) both.0) (no_is_false (opens_comment text) both.1))
gap_at (suc n) [] e = absurd (true≢false (sym e))
gap_at (suc n) (c ∷ text) e =
    let both = and_parts (is_white c) (has_white n text) e in
    more_gap (c ∷ text) text (drop n text) (record { shorter = omega arith; part = inl (record { c = c; good = both.0; chars = refl }) }) (gap_at n text both.1)

-- what is left of the query at this byte
abbrev left : ℕ → List ℕ
left place = drop place self_query

-- these are its tokens
pub record Rest (place : ℕ) (ts : List Tok) : Type 0 where
  pub reads : ReadsQueryTokens 78 (left place) ts []

abbrev a_tok : TokKind → (from to : ℕ) → Tok
a_tok kind from to = record { kind = kind; from = from; to = to }

front_size : (n : ℕ) (text : List ℕ) → IsAscii text → n ≤ length text → length (encode_utf8_all (take n text)) ≡ n
front_size n text ascii within = ap length (encodes-IsAscii (take n text) (IsAscii-take text n ascii)) ∙ length-take-le n text within

next : (gap place size : ℕ) (kind : TokKind) (ts : List Tok) → has_white gap (left place) ≡ true → IsLexeme (drop gap (left place)) kind size → Rest (place + (gap + size)) ts
    → Rest place (a_tok kind (place + gap) (place + gap + size) ∷ ts)
next gap place size kind ts white l more =
    let text = left place in
    let size_is : length self_query ≡ 78 = refl in
    let some : gap + size ≤ length text = omega (arith, l.within, l.some, length-drop gap text) in
    let ascii = IsAscii-drop self_query place ascii_query in
    let n : IsNext place text (record { token = a_tok kind (place + gap) (place + gap + size); count = gap + size }) =
    next_is place text gap size kind (place + gap) (place + gap + size) (omega (arith, some)) (gap_at gap text white)
    (ap (λ (k : ℕ). place + k) (sym (front_size gap text ascii (omega (arith, some)))))
    (ap (λ (k : ℕ). place + gap + k) (sym (front_size size (drop gap text) (IsAscii-drop text gap ascii) l.within))) l in
    let total : place + length (encode_utf8_all text) ≡ 78 = omega (arith, ap length (encodes-IsAscii text ascii), length-drop place self_query, size_is, some, l.some) in
    let rest : drop (gap + size) text ≡ left (place + (gap + size)) = drop-drop (gap + size) place self_query in
    record {
      reads = (
        left (place + (gap + size)),
        (
          subst (λ (x : List ℕ). ReadsToken 78 text (a_tok kind (place + gap) (place + gap + size)) x) rest
              (subst (λ (x : ℕ). ReadsToken x text (a_tok kind (place + gap) (place + gap + size)) (drop (gap + size) text)) total n.reads),
          more.reads,
        ),
      );
    }

a_sign : (gap place : ℕ) (s : Sign) (ts : List Tok) → has_white gap (left place) ≡ true → sign_at (drop gap (left place)) ≡ Some s → Rest (place + (gap + length (sign_chars s))) ts
    → Rest place (a_tok (kinds.Sign s) (place + gap) (place + gap + length (sign_chars s)) ∷ ts)
a_sign gap place s ts white is more = next gap place (length (sign_chars s)) (kinds.Sign s) ts white (sign_is (drop gap (left place)) s is) more

a_name : (gap place : ℕ) (n : List ℕ) (ts : List Tok) → has_white gap (left place) ≡ true → kind_at (drop gap (left place)) ≡ of_name → name_at (drop gap (left place)) ≡ n → n ≡ encode_utf8_all n
    → Rest (place + (gap + length n)) ts → Rest place (a_tok (kinds.Name n) (place + gap) (place + gap + length n) ∷ ts)
a_name gap place n ts white kind is bytes more = next gap place (length n) (kinds.Name n) ts white (name_lexeme (drop gap (left place)) n n kind is bytes) more

a_variable : (gap place : ℕ) (n : List ℕ) (ts : List Tok) → has_white gap (left place) ≡ true → drop gap (left place) ≡ 36 ∷ left (place + (gap + 1)) → 0 < length n → name_at (left (place + (gap + 1))) ≡ n → n ≡ encode_utf8_all n
    → Rest (place + (gap + (length n + 1))) ts → Rest place (a_tok (kinds.Var n) (place + gap) (place + gap + (length n + 1)) ∷ ts)
a_variable gap place n ts white dollar some is bytes more =
    next gap place (length n + 1) (kinds.Var n) ts white
    (subst (λ (text : List ℕ). IsLexeme text (kinds.Var n) (length n + 1)) (sym dollar) (variable_lexeme (left (place + (gap + 1))) n n is some bytes)) more

-- ---- The tokens of the query

abbrev fifty : ℤ
fifty = units_of false (codes "50") []

abbrev query_tokens : List Tok
query_tokens =
    a_tok (kinds.Sign signs.Lt) 0 1
    ∷ a_tok (kinds.Name (codes "r")) 1 2
    ∷ a_tok (kinds.Sign signs.Gt) 2 3
    ∷ a_tok (kinds.Sign signs.BraceOpen) 3 4
    ∷ a_tok (kinds.Name (codes "for")) 4 7
    ∷ a_tok (kinds.Var (codes "i")) 8 10
    ∷ a_tok (kinds.Name (codes "in")) 11 13
    ∷ a_tok (kinds.Sign signs.Slash) 14 15
    ∷ a_tok (kinds.Name (codes "items")) 15 20
    ∷ a_tok (kinds.Sign signs.Slash) 20 21
    ∷ a_tok (kinds.Name (codes "item")) 21 25
    ∷ a_tok (kinds.Name (codes "return")) 26 32
    ∷ a_tok (kinds.Name (codes "if")) 33 35
    ∷ a_tok (kinds.Sign signs.ParenOpen) 36 37
    ∷ a_tok (kinds.Var (codes "i")) 37 39
    ∷ a_tok (kinds.Sign signs.Slash) 39 40
    ∷ a_tok (kinds.Name (codes "price")) 40 45
    ∷ a_tok (kinds.Sign signs.Ge) 46 48
    ∷ a_tok (kinds.Number fifty) 49 51
    ∷ a_tok (kinds.Sign signs.ParenClose) 51 52
    ∷ a_tok (kinds.Name (codes "then")) 53 57
    ∷ a_tok (kinds.Var (codes "i")) 58 60
    ∷ a_tok (kinds.Sign signs.Slash) 60 61
    ∷ a_tok (kinds.Name (codes "note")) 61 65
    ∷ a_tok (kinds.Name (codes "else")) 66 70
    ∷ a_tok (kinds.Sign signs.ParenOpen) 71 72
    ∷ a_tok (kinds.Sign signs.ParenClose) 72 73
    ∷ a_tok (kinds.Sign signs.BraceClose) 73 74
    ∷ a_tok (kinds.Sign signs.EndTag) 74 76
    ∷ a_tok (kinds.Name (codes "r")) 76 77
    ∷ a_tok (kinds.Sign signs.Gt) 77 78
    ∷ []

number_there : IsLexeme (drop 1 (left 48)) (kinds.Number fifty) 2
unfolding kind_at may_begin
number_there = number_is false (left 49) (codes "50") (left 51) [] (left 51) fifty (reads_of (left 49) (codes "50") (left 51) [] (left 51) refl refl refl refl refl) refl refl

read : Rest 0 query_tokens
unfolding kind_at may_begin may_go_on encode
read =
    let t30 = a_sign 0 77 signs.Gt [] refl refl (record { reads = refl }) in
    let t29 = a_name 0 76 (codes "r") _ refl refl refl refl t30 in
    let t28 = a_sign 0 74 signs.EndTag _ refl refl t29 in
    let t27 = a_sign 0 73 signs.BraceClose _ refl refl t28 in
    let t26 = a_sign 0 72 signs.ParenClose _ refl refl t27 in
    let t25 = a_sign 1 70 signs.ParenOpen _ refl refl t26 in
    let t24 = a_name 1 65 (codes "else") _ refl refl refl refl t25 in
    let t23 = a_name 0 61 (codes "note") _ refl refl refl refl t24 in
    let t22 = a_sign 0 60 signs.Slash _ refl refl t23 in
    let t21 = a_variable 1 57 (codes "i") _ refl refl (omega arith) refl refl t22 in
    let t20 = a_name 1 52 (codes "then") _ refl refl refl refl t21 in
    let t19 = a_sign 0 51 signs.ParenClose _ refl refl t20 in
    let t18 = next 1 48 2 (kinds.Number fifty) _ refl number_there t19 in
    let t17 = a_sign 1 45 signs.Ge _ refl refl t18 in
    let t16 = a_name 0 40 (codes "price") _ refl refl refl refl t17 in
    let t15 = a_sign 0 39 signs.Slash _ refl refl t16 in
    let t14 = a_variable 0 37 (codes "i") _ refl refl (omega arith) refl refl t15 in
    let t13 = a_sign 1 35 signs.ParenOpen _ refl refl t14 in
    let t12 = a_name 1 32 (codes "if") _ refl refl refl refl t13 in
    let t11 = a_name 1 25 (codes "return") _ refl refl refl refl t12 in
    let t10 = a_name 0 21 (codes "item") _ refl refl refl refl t11 in
    let t9 = a_sign 0 20 signs.Slash _ refl refl t10 in
    let t8 = a_name 0 15 (codes "items") _ refl refl refl refl t9 in
    let t7 = a_sign 1 13 signs.Slash _ refl refl t8 in
    let t6 = a_name 1 10 (codes "in") _ refl refl refl refl t7 in
    let t5 = a_variable 1 7 (codes "i") _ refl refl (omega arith) refl refl t6 in
    let t4 = a_name 0 4 (codes "for") _ refl refl refl refl t5 in
    let t3 = a_sign 0 3 signs.BraceOpen _ refl refl t4 in
    let t2 = a_sign 0 2 signs.Gt _ refl refl t3 in
    let t1 = a_name 0 1 (codes "r") _ refl refl refl refl t2 in
    a_sign 0 0 signs.Lt _ refl refl t1

lexed : Lexes self_query query_tokens
lexed = lexes_bytes self_query self_query query_tokens (omega arith) (IsUtf8-from_ascii self_query ascii_query) (sym (chars-IsAscii self_query ascii_query))
    (record { rest = []; reads = subst (λ (n : ℕ). ReadsQueryTokens n self_query query_tokens []) (sym (ap length (encodes-IsAscii self_query ascii_query))) read.reads; gap = no_gap [] (gap_ends [] refl refl) })

-- ---- Its derivation

abbrev one_step : (at : ℕ) → List ℕ → StepsSyntax
one_step at n = more_steps (plain at (name_test n)) no_step

abbrev over_fifty : Cond
over_fifty = cond_of (all (compared (from_var 37 (codes "i") (one_step 39 (codes "price"))) rels.Ge (literal_operand (number fifty))) no_and) no_or

abbrev query_derivation : Derivation
query_derivation = record {
  first = elem_expr (codes "r") (long (braced
      (for_expr (clause 8 (codes "i") (in_root (plain 14 (name_test (codes "items"))) (one_step 20 (codes "item")))) no_clause no_where
      (if_expr over_fifty (path_expr (from_var 58 (codes "i") (one_step 60 (codes "note")))) (paren_expr closed)))
      no_rest ended));
  others = no_rest;
}

abbrev pub self_tree : List ExprTree
self_tree = derivation_tree query_derivation

derives : Derives 200 (tokens_of query_tokens) query_derivation
derives = record { fits = ((refl, ((refl, tt, (refl, ((tt, tt), tt), tt, (refl, tt))), tt, tt)), tt); spelled = refl }

spelled : QuerySpells self_query self_tree
spelled = record { tokens = query_tokens; lexed = lexed; holds = record { derivation = query_derivation; derives = derives; tree = refl } }

within : refusal_of (normal self_tree) ≡ None
unfolding digits places
within = refl

pub self_accepted : Accepts self_query self_tree
self_accepted = record { spells = spelled; sound = refl; within = within }
