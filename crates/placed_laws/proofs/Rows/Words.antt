-- Short words for queries, cores and documents.
use Rattle.std.specs.Prelude.{ℕ, List, [], ◌∷◌, ◌++◌, Some, None, codes}
use Rattle.gcx_base.specs.declared.steps.Axis.TheVariants.{Child, Descendant}
use Rattle.gcx_base.specs.declared.steps.Test.TheVariants.{Named}
use Rattle.gcx_base.specs.declared.steps.Step.{Step}
use Rattle.gcx_model.specs.declared.query.PathExpr.{PathExpr}
use Rattle.gcx_model.specs.declared.query.Clause.{Clause}
use Rattle.gcx_model.specs.Tree.{TreeToken, Start, Chars, End, Tree, opening, grow_all}
use Rattle.gcx_model.specs.declared.query.QOperand.{QOperand}
use Rattle.gcx_model.specs.declared.query.QOperand.TheVariants as operand
use Rattle.gcx_base.specs.declared.rel.Rel.TheVariants.{Eq}
use Rattle.gcx_model.specs.Query.{ExprTree, ExprTrees, Empty, Elem, QueryPath, QueryFor, QueryIf, no_expr, more_exprs, QueryCondTree, QueryExists, QueryCompare}
use Rattle.gcx_model.specs.Core as core
use Rattle.gcx_model.specs.Core.{ItemTree, BodyTree, OffTree, RoleRowTree, RoleTarget, VarRowTree}

abbrev pub child : List ℕ → Step
child n = record { axis = Child; test = Named n }

abbrev pub desc : List ℕ → Step
desc n = record { axis = Descendant; test = Named n }

-- /steps, and $x/steps
abbrev pub from_root : List Step → PathExpr
from_root steps = record { start = None; steps = steps }

abbrev pub from : List ℕ → List Step → PathExpr
from x steps = record { start = Some x; steps = steps }

abbrev pub clause : List ℕ → PathExpr → Clause
clause x path = record { var = x; path = path }

abbrev pub one_expr : ExprTree → ExprTrees
one_expr e = more_exprs e no_expr

-- for $x in path return e
abbrev pub for_in : List ℕ → PathExpr → ExprTree → ExprTree
for_in x path e = QueryFor (clause x path ∷ []) None e

abbrev pub empty : List ℕ → ExprTree
empty name = Elem name no_expr

-- the open tree of some tokens
abbrev pub tree : List TreeToken → Tree
tree ts = grow_all ts opening

-- an element, and one with a text
abbrev pub element : List ℕ → List TreeToken → List TreeToken
element name ts = Start name ∷ (ts ++ End ∷ [])

abbrev pub leaf : List ℕ → List ℕ → List TreeToken
leaf name text = Start name ∷ Chars text ∷ End ∷ []

-- all of a document
abbrev pub document : List TreeToken → List TreeToken
document ts = ts ++ End ∷ []

abbrev pub body : List ItemTree → BodyTree
body [] = core.Nil
body (i ∷ is) = core.Then i (body is)

abbrev pub off : ℕ → ℕ → ℕ → List Step → List Step → RoleTarget → ItemTree
off base own role rel tail kind = core.SignOff (record { base = base; own = own; role = role; rel = rel; tail = tail; kind = kind })

abbrev pub var_row : ℕ → Step → VarRowTree
var_row parent step = record { parent = parent; step = step }

abbrev pub role : ℕ → List Step → RoleTarget → RoleRowTree
role x tail kind = record { var = x; tail = tail; kind = kind }

-- a loop over the children of children, on a document with two of them

-- a statement counts at once, at an open node too
abbrev pub tokens_ahead : List TreeToken
tokens_ahead = document (element (codes "r") (element (codes "p") (element (codes "k") [])))

abbrev pub query_children : List ExprTree
query_children = Elem (codes "r") (one_expr (for_in (codes "x") (from_root (child (codes "a") ∷ child (codes "b") ∷ [])) (QueryPath (from (codes "x") [])))) ∷ []

abbrev pub tokens_children : List TreeToken
tokens_children = document (element (codes "a") (leaf (codes "b") (codes "1") ++ (element (codes "c") [] ++ leaf (codes "b") (codes "2"))))

-- for $x in //a return for $y in $x//b return <h/>
abbrev pub query_nested : List ExprTree
query_nested = for_in (codes "x") (from_root (desc (codes "a") ∷ [])) (for_in (codes "y") (from (codes "x") (desc (codes "b") ∷ [])) (empty (codes "h"))) ∷ []

-- for $x in /r/p return if (c) then <y/> else <n/>
abbrev pub each_p : QueryCondTree → List ExprTree
each_p c = for_in (codes "x") (from_root (child (codes "r") ∷ child (codes "p") ∷ [])) (QueryIf c (empty (codes "y")) (empty (codes "n"))) ∷ []

abbrev pub query_exists : List ExprTree
query_exists = each_p (QueryExists (from (codes "x") (child (codes "k") ∷ [])))

-- compared with a literal
abbrev pub query_literal : QOperand → List ExprTree
query_literal l = each_p (QueryCompare (operand.Path (from (codes "x") [])) Eq l)

abbrev pub tokens_literal : List TreeToken
tokens_literal = document (element (codes "r") (leaf (codes "p") (codes "007") ++ (leaf (codes "p") (codes "7x") ++ leaf (codes "p") (codes " 7 "))))

-- for $a in /r/x return for $b in /r/y return if ($a/k = $b/k) then <m/> else ()
abbrev pub query_join : List ExprTree
query_join = for_in (codes "a") (from_root (child (codes "r") ∷ child (codes "x") ∷ [])) (for_in (codes "b") (from_root (child (codes "r") ∷ child (codes "y") ∷ []))
    (QueryIf (QueryCompare (operand.Path (from (codes "a") (child (codes "k") ∷ []))) Eq (operand.Path (from (codes "b") (child (codes "k") ∷ [])))) (empty (codes "m")) Empty)) ∷ []

abbrev pub tokens_join : List TreeToken
tokens_join = document (element (codes "r") (element (codes "x") (leaf (codes "k") (codes "1")) ++ (element (codes "y") (leaf (codes "k") (codes "1")) ++ element (codes "y") (leaf (codes "k") (codes "2")))))

-- for $x in /r/p return if (exists($x/k)) then for $y in $x/j return $y else ()
abbrev pub query_moved : List ExprTree
query_moved = for_in (codes "x") (from_root (child (codes "r") ∷ child (codes "p") ∷ [])) (QueryIf (QueryExists (from (codes "x") (child (codes "k") ∷ []))) (for_in (codes "y") (from (codes "x") (child (codes "j") ∷ [])) (QueryPath (from (codes "y") []))) Empty) ∷ []

-- on <r><p><k/><j>1</j><j>2</j></p></r>
abbrev pub tokens_moved : List TreeToken
tokens_moved = document (element (codes "r") (element (codes "p") (element (codes "k") [] ++ (leaf (codes "j") (codes "1") ++ leaf (codes "j") (codes "2")))))

-- for $x in /r/p return if ($x/k = "1") then <y/> else <n/>
abbrev pub query_compared : List ExprTree
query_compared = each_p (QueryCompare (operand.Path (from (codes "x") (child (codes "k") ∷ []))) Eq (operand.Str (codes "1")))

-- on <r><p><k>1</k><k>2</k><k>3</k></p></r>
abbrev pub tokens_compared : List TreeToken
tokens_compared = document (element (codes "r") (element (codes "p") (leaf (codes "k") (codes "1") ++ (leaf (codes "k") (codes "2") ++ leaf (codes "k") (codes "3")))))
