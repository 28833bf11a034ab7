-- A printed query that some text spells is read back.
use Rattle.std.proofs.Common.{ℕ, ◌≡◌, List, sym, subst}
use Rattle.gcx_model.specs.Query.{ExprTree}
use Rattle.xq_print.specs.Printed.{printed_query}
use Rattle.xq_print.specs.ReadsBack.{ReadsBack}
use Rattle.xq_print.proofs.Pieces.{kinds_of, query_pieces}
use Rattle.xq_print.proofs.LexBack.{HasKinds, lex_back}
use Rattle.xq_print.proofs.LexicalBack.{lexical}
use Rattle.xq_print.proofs.TreeBack.{tree_back}

printed_back : (q : List ExprTree) → ReadsBack (printed_query q) q
printed_back q read spelled short =
    let k : HasKinds (printed_query q) (kinds_of (query_pieces q)) = lex_back q (lexical read spelled.tokens q spelled.lexed spelled.holds) short in
    record { tokens = k.tokens; lexed = k.lexed; holds = tree_back spelled.tokens q spelled.holds k.tokens k.kinds_are }

pub reads_back : (text : List ℕ) (q : List ExprTree) → text ≡ printed_query q → ReadsBack text q
reads_back text q e = subst (λ (x : List ℕ). ReadsBack x q) (sym e) (printed_back q)
