-- The cores of some queries, computed.
use Rattle.std.specs.Prelude.{◌≡◌, List, [], ◌∷◌, Some, refl, codes, true, false}
use Rattle.gcx_base.specs.declared.rel.Rel.TheVariants.{Eq}
use Rattle.gcx_model.specs.declared.query.QOperand.TheVariants as operand
use Rattle.gcx_model.specs.Query as query
use Rattle.gcx_model.specs.Core.{BodyTree, Nil, Write, Copy, For, If, Always, Exists}
use Rattle.gcx_model.specs.Sound.{is_sound}
use Rattle.gcx_model.specs.Normal.{normal}
use Rattle.placed_laws.proofs.Rows.Words.{child, desc, from_root, from, clause, for_in, empty, one_expr, body}

-- for $x in /a/b where exists($x) return $x
abbrev query_where : List query.ExprTree
query_where = query.QueryFor (clause (codes "x") (from_root (child (codes "a") ∷ child (codes "b") ∷ [])) ∷ []) (Some (query.QueryExists (from (codes "x") []))) (query.QueryPath (from (codes "x") [])) ∷ []

where_becomes_if : normal query_where ≡ body (For 1 0 (child (codes "a")) (body (For 2 1 (child (codes "b")) (body (If Always (body (Copy 2 ∷ [])) Nil ∷ [])) ∷ [])) ∷ [])
where_becomes_if = refl

-- for $x in /a return for $x in $x/b return $x
abbrev query_shadowed : List query.ExprTree
query_shadowed = for_in (codes "x") (from_root (child (codes "a") ∷ [])) (for_in (codes "x") (from (codes "x") (child (codes "b") ∷ [])) (query.QueryPath (from (codes "x") []))) ∷ []

shadowed_names : normal query_shadowed ≡ body (For 1 0 (child (codes "a")) (body (For 2 1 (child (codes "b")) (body (Copy 2 ∷ [])) ∷ [])) ∷ [])
shadowed_names = refl

-- for $x in /r/p return if (exists($x/k)) then for $y in $x/j return $y else ()
abbrev query_moved : List query.ExprTree
query_moved = for_in (codes "x") (from_root (child (codes "r") ∷ child (codes "p") ∷ [])) (query.QueryIf (query.QueryExists (from (codes "x") (child (codes "k") ∷ []))) (for_in (codes "y") (from (codes "x") (child (codes "j") ∷ [])) (query.QueryPath (from (codes "y") []))) query.Empty) ∷ []

if_moved_inside : normal query_moved ≡ body (For 1 0 (child (codes "r")) (body (For 2 1 (child (codes "p")) (body (For 3 2 (child (codes "j")) (body (If (Exists 2 (child (codes "k") ∷ [])) (body (Copy 3 ∷ [])) Nil ∷ [])) ∷ [])) ∷ [])) ∷ [])
if_moved_inside = refl

-- for $x in /r/p return if (exists($x/k)) then (<a/>, $x/j, <b/>) else $x/k
abbrev query_mixed : List query.ExprTree
query_mixed = for_in (codes "x") (from_root (child (codes "r") ∷ child (codes "p") ∷ [])) (query.QueryIf (query.QueryExists (from (codes "x") (child (codes "k") ∷ [])))
    (query.Seq (query.more_exprs (empty (codes "a")) (query.more_exprs (query.QueryPath (from (codes "x") (child (codes "j") ∷ []))) (one_expr (empty (codes "b"))))))
    (query.QueryPath (from (codes "x") (child (codes "k") ∷ [])))) ∷ []

abbrev if_k : BodyTree → BodyTree → BodyTree
if_k a b = body (If (Exists 2 (child (codes "k") ∷ [])) a b ∷ [])

if_split_in_runs : normal query_mixed ≡ body (For 1 0 (child (codes "r")) (body (For 2 1 (child (codes "p")) (body (
    If (Exists 2 (child (codes "k") ∷ [])) (body (Write (codes "<a>") ∷ Write (codes "</a>") ∷ [])) Nil
    ∷ For 3 2 (child (codes "j")) (if_k (body (Copy 3 ∷ [])) Nil)
    ∷ If (Exists 2 (child (codes "k") ∷ [])) (body (Write (codes "<b>") ∷ Write (codes "</b>") ∷ [])) Nil
    ∷ For 4 2 (child (codes "k")) (if_k Nil (body (Copy 4 ∷ [])))
    ∷ [])) ∷ [])) ∷ [])
if_split_in_runs = refl

-- a loop with an empty body gets an If with two empty branches: if (exists(/k)) then for $x in /j return () else ()
loop_with_empty_body : normal (query.QueryIf (query.QueryExists (from_root (child (codes "k") ∷ []))) (for_in (codes "x") (from_root (child (codes "j") ∷ [])) query.Empty) query.Empty ∷ [])
    ≡ body (For 1 0 (child (codes "j")) (body (If (Exists 0 (child (codes "k") ∷ [])) Nil Nil ∷ [])) ∷ [])
loop_with_empty_body = refl

-- an If inside an If, with a loop: if (exists(/k)) then if (exists(/l)) then /j else <a/> else ()
if_inside_if : normal (query.QueryIf (query.QueryExists (from_root (child (codes "k") ∷ []))) (query.QueryIf (query.QueryExists (from_root (child (codes "l") ∷ []))) (query.QueryPath (from_root (child (codes "j") ∷ []))) (empty (codes "a"))) query.Empty ∷ [])
    ≡ body (
    For 1 0 (child (codes "j")) (body (If (Exists 0 (child (codes "k") ∷ [])) (body (If (Exists 0 (child (codes "l") ∷ [])) (body (Copy 1 ∷ [])) Nil ∷ [])) Nil ∷ []))
    ∷ If (Exists 0 (child (codes "k") ∷ [])) (body (If (Exists 0 (child (codes "l") ∷ [])) Nil (body (Write (codes "<a>") ∷ Write (codes "</a>") ∷ [])) ∷ [])) Nil
    ∷ [])
if_inside_if = refl

-- which queries aren't sound: a variable that isn't bound; a descendant step before another one, but not in a condition; an All of one member; a comparison of two literals
unsound_var : is_sound (for_in (codes "x") (from_root (child (codes "a") ∷ [])) (query.QueryPath (from (codes "y") [])) ∷ []) ≡ false
unsound_var = refl

unsound_own_path : is_sound (for_in (codes "x") (from (codes "x") (child (codes "a") ∷ [])) query.Empty ∷ []) ≡ false
unsound_own_path = refl

unsound_path : is_sound (query.QueryPath (from_root (desc (codes "a") ∷ child (codes "b") ∷ [])) ∷ []) ≡ false
unsound_path = refl

sound_in_condition : is_sound (query.QueryIf (query.QueryExists (from_root (desc (codes "a") ∷ child (codes "b") ∷ []))) query.Empty query.Empty ∷ []) ≡ true
sound_in_condition = refl

unsound_all : is_sound (query.QueryIf (query.QueryAll (query.more_query_conds query.QueryAlways query.no_query_cond)) query.Empty query.Empty ∷ []) ≡ false
unsound_all = refl

unsound_none : is_sound [] ≡ false
unsound_none = refl

-- an absolute path and a loop's path have a step
unsound_no_step : is_sound (query.QueryPath (from_root []) ∷ []) ≡ false
unsound_no_step = refl

unsound_loop : is_sound (for_in (codes "x") (from_root (child (codes "a") ∷ [])) (for_in (codes "y") (from (codes "x") []) query.Empty) ∷ []) ≡ false
unsound_loop = refl

-- a clause's variable is in scope in the later clauses, in the condition and in the body, and not behind the loop
sound_clauses : is_sound (query.QueryFor (clause (codes "x") (from_root (child (codes "a") ∷ [])) ∷ clause (codes "y") (from (codes "x") (child (codes "b") ∷ [])) ∷ []) (Some (query.QueryExists (from (codes "y") []))) (query.QueryPath (from (codes "x") [])) ∷ []) ≡ true
sound_clauses = refl

unsound_behind : is_sound (for_in (codes "x") (from_root (child (codes "a") ∷ [])) query.Empty ∷ query.QueryPath (from (codes "x") []) ∷ []) ≡ false
unsound_behind = refl

unsound_literals : is_sound (query.QueryIf (query.QueryCompare (operand.Str (codes "a")) Eq (operand.Str (codes "a"))) query.Empty query.Empty ∷ []) ≡ false
unsound_literals = refl
