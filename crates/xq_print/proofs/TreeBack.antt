-- Tokens of the kinds of a printed query spell it, where some tokens do.
use Rattle.std.proofs.Common.{◌≡◌, List, ◌∙◌, subst}
use Rattle.gcx_model.specs.Query.{ExprTree}
use Rattle.xq_lex.specs.declared.token.Tok.{Tok}
use Rattle.xq_parse.specs.Spelling.{Spells}
use Rattle.xq_print.proofs.Pieces.{kinds_of, query_pieces}
use Rattle.xq_print.proofs.Placing.{places_of, token_kinds, tokens_placed}
use Rattle.xq_print.proofs.Shape.{QueryShape}
use Rattle.xq_print.proofs.Shaped.{query_shaped}
use Rattle.xq_print.proofs.ExprsDerived.{QueryAt, query_at}

pub tree_back : (ts : List Tok) (q : List ExprTree) → Spells ts q → (toks : List Tok) → token_kinds toks ≡ kinds_of (query_pieces q) → Spells toks q
tree_back ts q s toks e =
    let shape : QueryShape 200 q = subst (QueryShape 200) s.tree (query_shaped 200 s.derivation s.derives.fits) in
    let back : QueryAt 200 (places_of toks) q = query_at 200 q shape (places_of toks) in
    record { derivation = back.derivation; derives = record { fits = back.fits; spelled = back.spelled ∙ tokens_placed toks (query_pieces q) e }; tree = back.tree_is }
