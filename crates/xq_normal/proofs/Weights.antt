-- A number by which expressions of a query shrink, and what their lists come to.
use Rattle.std.proofs.Common.{◌≡◌, ℕ, zero, suc, ◌+◌, ◌<◌, ◌≤◌, List, [], ◌∷◌, ◌++◌, length, map, get_or, take, sym, ◌∙◌, ap, arith}
use Rattle.std.proofs.lemmas.List.{map_more, get_or-map, length-map}
use Rattle.gcx_model.specs.declared.query.Expr.{Expr}
use Rattle.gcx_model.specs.Query.{ExprTree, ExprTrees, Empty, Seq, Elem, QueryPath, QueryFor, QueryIf, no_expr, more_exprs, exprs_of, expr_tree}
use Rattle.gcx_model.specs.Core.{BodyTree}
use Rattle.gcx_model.specs.Normal.{Names, join, loops, all_loops}
use Rattle.xq_normal.specs.Raw.{raw_expr, raw_exprs}
use Rattle.xq_normal.proofs.Behind.{join_assoc}
use Rattle.xq_normal.proofs.Building.{raw_exprs-push}

abbrev mutual
  pub weight : ExprTree → ℕ
  weight Empty = 0
  weight (Seq es) = suc (weights es)
  weight (Elem name es) = suc (weights es)
  weight (QueryPath path) = 0
  weight (QueryFor clauses filter body) = suc (suc (suc (length clauses + weight body)))
  weight (QueryIf c this other) = suc (weight this + weight other)

  pub weights : ExprTrees → ℕ
  weights no_expr = 0
  weights (more_exprs e es) = suc (weight e + weights es)

-- a part weighs less
part_weighs : (es : List ExprTree) (k : ℕ) (d : ExprTree) → k < length es → weight (get_or es k d) < weights (exprs_of es)
part_weighs [] k d h = absurd (omega arith)
part_weighs (e ∷ es) zero d h = omega arith
part_weighs (e ∷ es) (suc k) d h = let i = part_weighs es k d (omega arith) in omega arith

pub expr_weighs : (xs : List Expr) (k : ℕ) (x : Expr) → k < length xs → x ≡ get_or xs k x → weight (expr_tree x) < weights (exprs_of (map expr_tree xs))
expr_weighs xs k x h e =
    let p = part_weighs (map expr_tree xs) k (expr_tree x) (omega (arith, length-map xs expr_tree)) in
    let q = ap weight (get_or-map expr_tree xs k x (expr_tree x) h ∙ ap expr_tree (sym e)) in
    omega arith

-- the loops of the first k parts
abbrev pub loops_in : List Expr → ℕ
loops_in xs = all_loops (exprs_of (map expr_tree xs))

loops-push : (es : List ExprTree) (e : ExprTree) → all_loops (exprs_of (es ++ e ∷ [])) ≡ all_loops (exprs_of es) + loops e
loops-push [] e = omega arith
loops-push (x ∷ es) e = let h = loops-push es e in omega arith

more_trees : (xs : List Expr) (k : ℕ) (x : Expr) → k < length xs → x ≡ get_or xs k x → map expr_tree (take (k + 1) xs) ≡ map expr_tree (take k xs) ++ expr_tree x ∷ []
more_trees xs k x h e = map_more expr_tree xs k x h ∙ ap (λ y. map expr_tree (take k xs) ++ expr_tree y ∷ []) (sym e)

pub loops_more : (xs : List Expr) (k : ℕ) (x : Expr) → k < length xs → x ≡ get_or xs k x → loops_in (take (k + 1) xs) ≡ loops_in (take k xs) + loops (expr_tree x)
loops_more xs k x h e = ap (λ es. all_loops (exprs_of es)) (more_trees xs k x h e) ∙ loops-push (map expr_tree (take k xs)) (expr_tree x)

some_loops : (xs : List Expr) (k : ℕ) → loops_in (take k xs) ≤ loops_in xs
some_loops [] zero = omega arith
some_loops [] (suc k) = omega arith
some_loops (x ∷ xs) zero = omega arith
some_loops (x ∷ xs) (suc k) = let h = some_loops xs k in omega arith

pub loops_fit : (xs : List Expr) (k : ℕ) (x : Expr) → k < length xs → x ≡ get_or xs k x → loops_in (take k xs) + loops (expr_tree x) ≤ loops_in xs
loops_fit xs k x h e = let m = loops_more xs k x h e in let s = some_loops xs (k + 1) in omega arith

-- a part more behind those so far
pub part_put : (xs : List Expr) (k : ℕ) (x : Expr) (before out now : BodyTree) (names names' : Names) (first next : ℕ) → k < length xs → x ≡ get_or xs k x → names' ≡ names → next ≡ first + loops_in (take k xs)
    → out ≡ join before (raw_exprs (exprs_of (map expr_tree (take k xs))) names first) → now ≡ join out (raw_expr (expr_tree x) names' next)
    → now ≡ join before (raw_exprs (exprs_of (map expr_tree (take (k + 1) xs))) names first)
part_put xs k x before out now names names' first next h e v n p q =
    q ∙ (ap (λ ns. join out (raw_expr (expr_tree x) ns next)) v
    ∙ (ap (λ j. join out (raw_expr (expr_tree x) names j)) n
    ∙ (ap (λ d. join d (raw_expr (expr_tree x) names (first + loops_in (take k xs)))) p
    ∙ (join_assoc before _ _
    ∙ ap (λ d. join before d) (sym (ap (λ es. raw_exprs (exprs_of es) names first) (more_trees xs k x h e) ∙ raw_exprs-push (map expr_tree (take k xs)) (expr_tree x) names first))))))
