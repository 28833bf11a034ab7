-- What is settled over open trees, computed.
use Rattle.std.specs.Prelude.{◌≡◌, List, [], ◌∷◌, ◌++◌, refl, codes, pos, ◌*◌, ◌^◌, replicate}
use Rattle.gcx_base.specs.declared.rel.Rel.TheVariants.{Gt, Ge}
use Rattle.gcx_base.specs.declared.steps.Axis.TheVariants.{Child, Descendant}
use Rattle.gcx_base.specs.declared.steps.Test.TheVariants.{AnyText, AnyNode}
use Rattle.gcx_model.specs.declared.query.QOperand.TheVariants as operand
use Rattle.gcx_model.specs.Values.{number}
use Rattle.gcx_model.specs.Tree.{TreeToken, Start, Chars, End, opening}
use Rattle.gcx_model.specs.Query.{ExprTree, QueryExists, QueryCompare, QueryAny, no_query_cond, more_query_conds, Empty, Elem, QueryPath, QueryAll, QueryNot}
use Rattle.gcx_model.specs.Normal.{known}
use Rattle.placed_laws.proofs.Rows.Words.{child, desc, for_in, empty, from_root, from, one_expr, tree, element, leaf, document, query_children, tokens_children, query_nested, each_p, query_exists, query_literal, tokens_literal, query_join, tokens_join}

loop_over_children : known query_children (tree tokens_children) ≡ codes "<r><b>1</b><b>2</b></r>"
loop_over_children = refl

-- <r>{/a/b}</r> on <a><b></a>: the b is open
abbrev query_open : List ExprTree
query_open = Elem (codes "r") (one_expr (QueryPath (from_root (child (codes "a") ∷ child (codes "b") ∷ [])))) ∷ []

copy_of_open_node : known query_open (tree (Start (codes "a") ∷ Start (codes "b") ∷ [])) ≡ codes "<r><b>"
copy_of_open_node = refl

-- <r>{/a}</r> on no bytes
abbrev query_root : List ExprTree
query_root = Elem (codes "r") (one_expr (QueryPath (from_root (child (codes "a") ∷ [])))) ∷ []

nothing_read : known query_root opening ≡ codes "<r>"
nothing_read = refl

nested_descendants : known query_nested (tree (document (element (codes "a") (element (codes "a") (element (codes "b") []))))) ≡ codes "<h></h><h></h>"
nested_descendants = refl

nested_while_open : known query_nested (tree (Start (codes "a") ∷ Start (codes "a") ∷ Start (codes "b") ∷ End ∷ [])) ≡ codes "<h></h>"
nested_while_open = refl

exists_settles_early : known query_exists (tree (Start (codes "r") ∷ Start (codes "p") ∷ Start (codes "k") ∷ End ∷ [])) ≡ codes "<y></y>"
exists_settles_early = refl

exists_of_two : known query_exists (tree (document (element (codes "r") (element (codes "p") [] ++ element (codes "p") (element (codes "k") []))))) ≡ codes "<n></n><y></y>"
exists_of_two = refl

compared_with_number : known (query_literal (operand.Num (pos (7 * 10 ^ 18)))) (tree tokens_literal) ≡ codes "<y></y><n></n><y></y>"
unfolding number
compared_with_number = refl

compared_with_text : known (query_literal (operand.Str (codes "7"))) (tree tokens_literal) ≡ codes "<n></n><n></n><n></n>"
compared_with_text = refl

-- /a on <a> <b/> </a>
copy_without_white_space : known (QueryPath (from_root (child (codes "a") ∷ [])) ∷ []) (tree (document (element (codes "a") (element (codes "b") [])))) ≡ codes "<a><b></b></a>"
copy_without_white_space = refl

join_of_two : known query_join (tree tokens_join) ≡ codes "<m></m>"
join_of_two = refl

empty_query : known (Empty ∷ []) (tree (document (element (codes "a") []))) ≡ []
empty_query = refl

-- the left side of an `or` is unknown
abbrev query_or : List ExprTree
query_or = each_p (QueryAny (more_query_conds (QueryExists (from (codes "x") (child (codes "k") ∷ []))) (more_query_conds (QueryExists (from (codes "x") (child (codes "j") ∷ []))) no_query_cond)))

or_waits_for_left : known query_or (tree (Start (codes "r") ∷ Start (codes "p") ∷ Start (codes "j") ∷ End ∷ [])) ≡ []
or_waits_for_left = refl

-- so is that of an `and`, whose right side is false
abbrev query_and : List ExprTree
query_and = each_p (QueryAll (more_query_conds (QueryExists (from (codes "x") (child (codes "k") ∷ []))) (more_query_conds (QueryNot (QueryExists (from (codes "x") (child (codes "j") ∷ [])))) no_query_cond)))

and_waits_for_left : known query_and (tree (Start (codes "r") ∷ Start (codes "p") ∷ Start (codes "j") ∷ End ∷ [])) ≡ []
and_waits_for_left = refl

-- a text of a copy is escaped
copy_escaped : known (QueryPath (from_root (child (codes "a") ∷ [])) ∷ []) (tree (document (leaf (codes "a") (codes "<x>&")))) ≡ codes "<a>&lt;x&gt;&amp;</a>"
copy_escaped = refl

-- for $x in //a return for $y in $x//a return <h/> on <a><a/></a>: no node is a descendant of itself
abbrev query_below : List ExprTree
query_below = for_in (codes "x") (from_root (desc (codes "a") ∷ [])) (for_in (codes "y") (from (codes "x") (desc (codes "a") ∷ [])) (empty (codes "h"))) ∷ []

descendants_are_below : known query_below (tree (document (element (codes "a") (element (codes "a") [])))) ≡ codes "<h></h>"
descendants_are_below = refl

-- //text() and /a/node() on <a>1<b>2</b>3</a>
abbrev tokens_mixed : List TreeToken
tokens_mixed = document (element (codes "a") (Chars (codes "1") ∷ (leaf (codes "b") (codes "2") ++ Chars (codes "3") ∷ [])))

all_texts : known (QueryPath (from_root (record { axis = Descendant; test = AnyText } ∷ [])) ∷ []) (tree tokens_mixed) ≡ codes "123"
all_texts = refl

child_nodes : known (QueryPath (from_root (child (codes "a") ∷ record { axis = Child; test = AnyNode } ∷ [])) ∷ []) (tree tokens_mixed) ≡ codes "1<b>2</b>3"
child_nodes = refl

-- for $x in /r/p return if ($x > 9) then <y/> else <n/>
abbrev tokens_wide : List TreeToken
tokens_wide = document (element (codes "r") (leaf (codes "p") (49 ∷ replicate 42 48) ++ (leaf (codes "p") (codes "-0") ++ element (codes "p") [])))

wide_numbers : known (each_p (QueryCompare (operand.Path (from (codes "x") [])) Gt (operand.Num (pos (9 * 10 ^ 18))))) (tree tokens_wide) ≡ codes "<y></y><n></n><n></n>"
unfolding number
wide_numbers = refl

-- >= 2.50
abbrev tokens_decimal : List TreeToken
tokens_decimal = document (element (codes "r") (leaf (codes "p") (codes "2.5") ++ (leaf (codes "p") (codes "2.49999999999999999999") ++ (leaf (codes "p") (codes "+3.") ++ (leaf (codes "p") (codes ".5") ++ leaf (codes "p") (codes "2,6"))))))

decimals : known (each_p (QueryCompare (operand.Path (from (codes "x") [])) Ge (operand.Num (pos (25 * 10 ^ 17))))) (tree tokens_decimal) ≡ codes "<y></y><n></n><y></y><n></n><n></n>"
unfolding number
decimals = refl
