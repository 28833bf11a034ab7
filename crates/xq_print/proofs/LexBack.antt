-- The printed text of a query has the tokens of which it is put.
use Rattle.std.proofs.Common.{ℕ, ◌≡◌, ◌≤◌, List, [], map, length, refl, sym, ◌∙◌, subst, arith}
use Rattle.std.specs.Str.{chars, encode_utf8_all}
use Rattle.std.proofs.lemmas.Str.{chars_from_encodes}
use Rattle.gcx_model.specs.Query.{ExprTree}
use Rattle.xq_lex.specs.declared.token.Tok.{Tok}
use Rattle.xq_lex.specs.declared.token.TokKind.{TokKind}
use Rattle.xq_lex.specs.Lex.{LexesAs, Lexes}
use Rattle.xq_print.specs.Printed.{printed_query}
use Rattle.xq_print.proofs.Pieces.{Piece, kinds_of, query_pieces}
use Rattle.xq_print.proofs.Lexical.{Lexical}
use Rattle.xq_print.proofs.Forms.{pieces_chars}
use Rattle.xq_print.proofs.Texts.{query_is}
use Rattle.xq_print.proofs.Apart.{Apart, IsRead, pieces_read, pieces_bytes, pieces_utf8}
use Rattle.xq_print.proofs.Spaced.{query_apart}

-- the bytes have tokens of these kinds
pub record HasKinds (bytes : List ℕ) (kinds : List TokKind) : Type 0 where
  pub tokens : List Tok
  pub lexed : Lexes bytes tokens
  pub kinds_are : map (λ (t : Tok). t.kind) tokens ≡ kinds

lexes_back : (ps : List Piece) → Apart ps [] → length (encode_utf8_all (pieces_chars ps [])) ≤ 1048576 → HasKinds (encode_utf8_all (pieces_chars ps [])) (kinds_of ps)
lexes_back ps a short =
    let r : IsRead (length (encode_utf8_all (pieces_chars ps []))) (pieces_chars ps []) (kinds_of ps) = pieces_read ps (length (encode_utf8_all (pieces_chars ps []))) (omega arith) a in
    let whole : LexesAs (pieces_chars ps []) r.tokens = record { rest = r.rest; reads = r.reads; gap = r.gap } in
    let same : pieces_chars ps [] ≡ chars (encode_utf8_all (pieces_chars ps [])) = chars_from_encodes (pieces_chars ps []) (encode_utf8_all (pieces_chars ps [])) (pieces_utf8 ps a) refl in
    record {
      tokens = r.tokens;
      lexed = record { short = short; utf8 = pieces_utf8 ps a; holds = subst (λ (x : List ℕ). LexesAs x r.tokens) same whole };
      kinds_are = r.kinds_are;
    }

pub lex_back : (q : List ExprTree) → Lexical q → length (printed_query q) ≤ 1048576 → HasKinds (printed_query q) (kinds_of (query_pieces q))
lex_back q l short =
    let a : Apart (query_pieces q) [] = query_apart q l in
    let text : encode_utf8_all (pieces_chars (query_pieces q) []) ≡ printed_query q = pieces_bytes (query_pieces q) a ∙ query_is q in
    subst (λ (x : List ℕ). HasKinds x (kinds_of (query_pieces q))) text
    (lexes_back (query_pieces q) a (subst (λ (x : List ℕ). length x ≤ 1048576) (sym text) short))
