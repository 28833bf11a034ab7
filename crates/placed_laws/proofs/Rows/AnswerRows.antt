-- The meaning of queries over whole documents, computed.
use Rattle.std.specs.Prelude.{◌≡◌, ℕ, true, List, [], ◌∷◌, Some, refl, codes, pos, ◌*◌, ◌^◌}
use Rattle.gcx_base.specs.declared.rel.Rel.TheVariants.{Lt}
use Rattle.gcx_model.specs.declared.query.QOperand.TheVariants as operand
use Rattle.gcx_model.specs.Document.{Nodes, none, element, text}
use Rattle.gcx_model.specs.Values.{number}
use Rattle.gcx_model.specs.Query.{ExprTree, QueryExists, QueryCompare, QueryNot, QueryAll, no_query_cond, more_query_conds, Elem, QueryPath, QueryFor}
use Rattle.gcx_model.specs.Answer.{answer}
use Rattle.gcx_model.specs.Sound.{is_sound}
use Rattle.placed_laws.proofs.Rows.Words.{child, from_root, from, clause, one_expr, query_children, query_nested, query_exists, query_literal, query_join}

abbrev leaf : Nodes → List ℕ → List ℕ → Nodes
leaf before name value = element before name (text none value)

abbrev document_children : Nodes
document_children = element none (codes "a") (leaf (element (leaf none (codes "b") (codes "1")) (codes "c") none) (codes "b") (codes "2"))

loop_over_children : answer query_children document_children ≡ codes "<r><b>1</b><b>2</b></r>"
loop_over_children = refl

abbrev document_literal : Nodes
document_literal = element none (codes "r") (leaf (leaf (leaf none (codes "p") (codes "007")) (codes "p") (codes "7x")) (codes "p") (codes " 7 "))

compared_with_number : answer (query_literal (operand.Num (pos (7 * 10 ^ 18)))) document_literal ≡ codes "<y></y><n></n><y></y>"
unfolding number
compared_with_number = refl

compared_with_text : answer (query_literal (operand.Str (codes "7"))) document_literal ≡ codes "<n></n><n></n><n></n>"
compared_with_text = refl

abbrev document_join : Nodes
document_join = element none (codes "r") (element (element (element none (codes "x") (leaf none (codes "k") (codes "1"))) (codes "y") (leaf none (codes "k") (codes "1"))) (codes "y") (leaf none (codes "k") (codes "2")))

join_of_two : answer query_join document_join ≡ codes "<m></m>"
join_of_two = refl

-- for $b in /bib/book where $b/price < 50 and not(exists($b/editor)) return <cheap>{$b/title}</cheap>
abbrev query_books : List ExprTree
query_books = Elem (codes "out") (one_expr (QueryFor (clause (codes "b") (from_root (child (codes "bib") ∷ child (codes "book") ∷ [])) ∷ [])
    (Some (QueryAll (more_query_conds (QueryCompare (operand.Path (from (codes "b") (child (codes "price") ∷ []))) Lt (operand.Num (pos (50 * 10 ^ 18)))) (more_query_conds (QueryNot (QueryExists (from (codes "b") (child (codes "editor") ∷ [])))) no_query_cond))))
    (Elem (codes "cheap") (one_expr (QueryPath (from (codes "b") (child (codes "title") ∷ []))))))) ∷ []

abbrev book : Nodes → List ℕ → List ℕ → Nodes
book before title price = element before (codes "book") (leaf (leaf none (codes "title") title) (codes "price") price)

cheap_books : answer query_books (element none (codes "bib") (book (book none (codes "Data on the Web") (codes "39")) (codes "TCP/IP & more") (codes "65"))) ≡ codes "<out><cheap><title>Data on the Web</title></cheap></out>"
unfolding number
cheap_books = refl

-- and with the prices exchanged, an escaped text
cheap_books_escaped : answer query_books (element none (codes "bib") (book (book none (codes "Data on the Web") (codes "65")) (codes "TCP/IP & more") (codes "39"))) ≡ codes "<out><cheap><title>TCP/IP &amp; more</title></cheap></out>"
unfolding number
cheap_books_escaped = refl

-- these queries are sound
sound_children : is_sound query_children ≡ true
sound_children = refl

sound_nested : is_sound query_nested ≡ true
sound_nested = refl

sound_exists : is_sound query_exists ≡ true
sound_exists = refl

sound_literal : is_sound (query_literal (operand.Str (codes "7"))) ≡ true
sound_literal = refl

sound_join : is_sound query_join ≡ true
sound_join = refl

sound_books : is_sound query_books ≡ true
sound_books = refl
