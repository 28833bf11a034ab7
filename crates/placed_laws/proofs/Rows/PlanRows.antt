-- The plans of some queries, computed: the variables, the roles, and where the statements stand.
use Rattle.std.specs.Prelude.{◌≡◌, List, [], ◌∷◌, refl, codes, true, false}
use Rattle.gcx_base.specs.declared.rel.Rel.TheVariants.{Eq}
use Rattle.gcx_base.specs.declared.steps.Step.{Step}
use Rattle.gcx_model.specs.Query as query
use Rattle.gcx_model.specs.Query.{ExprTree}
use Rattle.gcx_model.specs.Core.{Nil, Write, Copy, For, If, Exists, Compare, Path, Own, First, Whole}
use Rattle.gcx_model.specs.Placed.{plan_of}
use Rattle.gcx_model.specs.Normal.{normal}
use Rattle.placed_laws.proofs.Rows.Words.{child, from_root, from, for_in, body, off, var_row, role, query_children, query_join, query_moved}

abbrev a : Step
a = child (codes "a")

abbrev b : Step
b = child (codes "b")

abbrev k : Step
k = child (codes "k")

abbrev r : Step
r = child (codes "r")

plan_children : plan_of (normal query_children) ≡ record {
  body = body (
      Write (codes "<r>")
      ∷ For 1 0 a (body (
      For 2 1 b (body (Copy 2 ∷ off 2 2 3 [] [] Whole ∷ off 2 2 2 [] [] Own ∷ []))
      ∷ off 1 1 1 [] [] Own
      ∷ []))
      ∷ Write (codes "</r>")
      ∷ off 0 0 0 [] [] Own
      ∷ []);
  vars = var_row 0 a ∷ var_row 1 b ∷ [];
  straight = true ∷ true ∷ [];
  fsa = 1 ∷ 2 ∷ [];
  roles = role 0 [] Own ∷ role 1 [] Own ∷ role 2 [] Own ∷ role 2 [] Whole ∷ [];
}
plan_children = refl

abbrev y : Step
y = child (codes "y")

plan_join : plan_of (normal query_join) ≡ record {
  body = body (
      For 1 0 r (body (
      For 2 1 (child (codes "x")) (body (
      For 3 0 r (body (For 4 3 y (body (If (Compare (Path 2 (k ∷ [])) Eq (Path 4 (k ∷ []))) (body (Write (codes "<m>") ∷ Write (codes "</m>") ∷ [])) Nil ∷ [])) ∷ []))
      ∷ off 2 2 5 [] (k ∷ []) Whole
      ∷ off 2 2 2 [] [] Own
      ∷ []))
      ∷ off 1 1 1 [] [] Own
      ∷ []))
      ∷ off 0 0 3 (r ∷ []) [] Own
      ∷ off 0 0 4 (r ∷ y ∷ []) [] Own
      ∷ off 0 0 6 (r ∷ y ∷ []) (k ∷ []) Whole
      ∷ off 0 0 0 [] [] Own
      ∷ []);
  vars = var_row 0 r ∷ var_row 1 (child (codes "x")) ∷ var_row 0 r ∷ var_row 3 y ∷ [];
  straight = true ∷ true ∷ false ∷ false ∷ [];
  fsa = 1 ∷ 2 ∷ 0 ∷ 0 ∷ [];
  roles = role 0 [] Own ∷ role 1 [] Own ∷ role 2 [] Own ∷ role 3 [] Own ∷ role 4 [] Own ∷ role 2 (k ∷ []) Whole ∷ role 4 (k ∷ []) Whole ∷ [];
}
plan_join = refl

plan_moved : plan_of (normal query_moved) ≡ record {
  body = body (
      For 1 0 r (body (
      For 2 1 (child (codes "p")) (body (
      For 3 2 (child (codes "j")) (body (If (Exists 2 (k ∷ [])) (body (Copy 3 ∷ [])) Nil ∷ off 3 3 5 [] [] Whole ∷ off 3 3 3 [] [] Own ∷ []))
      ∷ off 2 2 4 [] (k ∷ []) First
      ∷ off 2 2 2 [] [] Own
      ∷ []))
      ∷ off 1 1 1 [] [] Own
      ∷ []))
      ∷ off 0 0 0 [] [] Own
      ∷ []);
  vars = var_row 0 r ∷ var_row 1 (child (codes "p")) ∷ var_row 2 (child (codes "j")) ∷ [];
  straight = true ∷ true ∷ true ∷ [];
  fsa = 1 ∷ 2 ∷ 3 ∷ [];
  roles = role 0 [] Own ∷ role 1 [] Own ∷ role 2 [] Own ∷ role 3 [] Own ∷ role 2 (k ∷ []) First ∷ role 3 [] Whole ∷ [];
}
plan_moved = refl

-- for $x in /r return for $y in $x/p return if (exists($y/k)) then $x else $y: the condition's roles, then those of the first branch, then those of the other
abbrev query_branches : List ExprTree
query_branches = for_in (codes "x") (from_root (r ∷ [])) (for_in (codes "y") (from (codes "x") (child (codes "p") ∷ [])) (query.QueryIf (query.QueryExists (from (codes "y") (k ∷ []))) (query.QueryPath (from (codes "x") [])) (query.QueryPath (from (codes "y") [])))) ∷ []

roles_of_branches : (plan_of (normal query_branches)).roles ≡ role 0 [] Own ∷ role 1 [] Own ∷ role 2 [] Own ∷ role 2 (k ∷ []) First ∷ role 1 [] Whole ∷ role 2 [] Whole ∷ []
roles_of_branches = refl
