-- Queries as plain trees, and how the types of the code are seen as such (XQuery 1.0, section 3; the fragment is this project's).
use Rattle.std.specs.Prelude.{ℕ, List, [], ◌∷◌, map, Option, Some, None, box_value, option_map}
use Rattle.gcx_base.specs.declared.rel.Rel.{Rel}
use Rattle.gcx_model.specs.declared.query.PathExpr.{PathExpr}
use Rattle.gcx_model.specs.declared.query.Clause.{Clause}
use Rattle.gcx_model.specs.declared.query.QOperand.{QOperand}
use Rattle.gcx_model.specs.declared.query.QCond.{QCond, QCond-F, fold-QCond}
use Rattle.gcx_model.specs.declared.query.QCond.TheOpen as qcond
use Rattle.gcx_model.specs.declared.query.QConds.{QConds, QConds-F}
use Rattle.gcx_model.specs.declared.query.Expr.{Expr, Expr-F, fold-Expr}
use Rattle.gcx_model.specs.declared.query.Expr.TheOpen as expr
use Rattle.gcx_model.specs.declared.query.Exprs.{Exprs, Exprs-F}
use Rattle.gcx_model.specs.declared.query.Query.{Query}

mutual
  pub data QueryCondTree : Type 0 where
    QueryAlways : QueryCondTree
    QueryExists : (path : PathExpr) → QueryCondTree
    QueryCompare : (left : QOperand) (rel : Rel) (right : QOperand) → QueryCondTree
    QueryNot : (condition : QueryCondTree) → QueryCondTree
    QueryAll : (members : QueryCondTrees) → QueryCondTree
    QueryAny : (members : QueryCondTrees) → QueryCondTree

  pub data QueryCondTrees : Type 0 where
    no_query_cond : QueryCondTrees
    more_query_conds : (first : QueryCondTree) (rest : QueryCondTrees) → QueryCondTrees

mutual
  pub data ExprTree : Type 0 where
    Empty : ExprTree
    Seq : (parts : ExprTrees) → ExprTree
    Elem : (name : List ℕ) (body : ExprTrees) → ExprTree
    QueryPath : (path : PathExpr) → ExprTree
    QueryFor : (clauses : List Clause) (filter : Option QueryCondTree) (body : ExprTree) → ExprTree
    QueryIf : (condition : QueryCondTree) (this other : ExprTree) → ExprTree

  pub data ExprTrees : Type 0 where
    no_expr : ExprTrees
    more_exprs : (first : ExprTree) (rest : ExprTrees) → ExprTrees

abbrev pub conds_of : List QueryCondTree → QueryCondTrees
conds_of [] = no_query_cond
conds_of (c ∷ cs) = more_query_conds c (conds_of cs)

abbrev pub exprs_of : List ExprTree → ExprTrees
exprs_of [] = no_expr
exprs_of (e ∷ es) = more_exprs e (exprs_of es)

abbrev pub cond_layer : QCond-F QueryCondTree QueryCondTrees → QueryCondTree
cond_layer qcond.True = QueryAlways
cond_layer (qcond.Exists p) = QueryExists p
cond_layer (qcond.Compare l r o) = QueryCompare l r o
cond_layer (qcond.Not c) = QueryNot (box_value c)
cond_layer (qcond.All cs) = QueryAll cs
cond_layer (qcond.Any cs) = QueryAny cs

abbrev pub conds_layer : QConds-F QueryCondTree QueryCondTrees → QueryCondTrees
conds_layer cs = conds_of cs.members.items

-- the condition as a plain tree
abbrev pub cond_tree : QCond → QueryCondTree
cond_tree c = fold-QCond QueryCondTree QueryCondTrees cond_layer conds_layer c

abbrev pub cond_trees : QConds → List QueryCondTree
cond_trees cs = map cond_tree cs.members.items

abbrev pub expr_layer : Expr-F ExprTree ExprTrees → ExprTree
expr_layer expr.Empty = Empty
expr_layer (expr.Seq es) = Seq es
expr_layer (expr.Elem n es) = Elem n es
expr_layer (expr.Path p) = QueryPath p
expr_layer (expr.For cs f b) = QueryFor cs (option_map cond_tree f) (box_value b)
expr_layer (expr.If c a b) = QueryIf (cond_tree c) (box_value a) (box_value b)

abbrev pub exprs_layer : Exprs-F ExprTree ExprTrees → ExprTrees
exprs_layer es = exprs_of es.members.items

-- the expression as a plain tree
abbrev pub expr_tree : Expr → ExprTree
expr_tree e = fold-Expr ExprTree ExprTrees expr_layer exprs_layer e

abbrev pub expr_trees : Exprs → List ExprTree
expr_trees es = map expr_tree es.members.items

-- the parts of the query as plain trees
abbrev pub query_trees : Query → List ExprTree
query_trees q = expr_trees q.parts
