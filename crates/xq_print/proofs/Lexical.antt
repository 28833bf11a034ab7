-- A query of which each leaf is a token: its names, its numbers and its strings.
use Rattle.std.specs.Prelude.{ℕ, ◌≡◌, false, List, [], ◌∷◌, Option, Some, None}
use Rattle.gcx_base.specs.declared.steps.Test.{Test}
use Rattle.gcx_base.specs.declared.steps.Test.TheVariants.{Named, AnyElement, AnyText, AnyNode}
use Rattle.gcx_base.specs.declared.steps.Step.{Step}
use Rattle.gcx_model.specs.declared.query.PathExpr.{PathExpr}
use Rattle.gcx_model.specs.declared.query.Clause.{Clause}
use Rattle.gcx_model.specs.declared.query.QOperand.{QOperand}
use Rattle.gcx_model.specs.declared.query.QOperand.TheVariants as operand
use Rattle.gcx_model.specs.Query as query
use Rattle.gcx_model.specs.Query.{QueryCondTree, QueryCondTrees, ExprTree, ExprTrees}
use Rattle.xq_lex.specs.declared.token.TokKind.{TokKind}
use Rattle.xq_lex.specs.declared.token.TokKind.TheVariants as kinds
use Rattle.xq_lex.specs.Form.{Form, IsForm, kind_of, is_too_wide}

-- some token in range is of this kind
pub record IsKind (kind : TokKind) : Type 0 where
  pub form : Form
  pub rest : List ℕ
  pub good : IsForm form rest
  pub in_range : is_too_wide form ≡ false
  pub is : kind ≡ kind_of form

-- ---- Paths

abbrev pub LexicalTest : Test → Type 0
LexicalTest (Named name) = IsKind (kinds.Name name)
LexicalTest AnyElement = Unit {0}
LexicalTest AnyText = Unit {0}
LexicalTest AnyNode = Unit {0}

abbrev pub LexicalSteps : List Step → Type 0
LexicalSteps [] = Unit {0}
LexicalSteps (s ∷ ss) = LexicalTest s.test × LexicalSteps ss

abbrev pub LexicalStart : Option (List ℕ) → Type 0
LexicalStart None = Unit {0}
LexicalStart (Some name) = IsKind (kinds.Var name)

abbrev pub LexicalPath : PathExpr → Type 0
LexicalPath p = LexicalStart p.start × LexicalSteps p.steps

-- ---- Conditions

abbrev pub LexicalOperand : QOperand → Type 0
LexicalOperand (operand.Path path) = LexicalPath path
LexicalOperand (operand.Str value) = IsKind (kinds.Str value)
LexicalOperand (operand.Num units) = IsKind (kinds.Number units)

abbrev mutual
  pub LexicalCond : QueryCondTree → Type 0
  LexicalCond query.QueryAlways = Unit {0}
  LexicalCond (query.QueryExists path) = LexicalPath path
  LexicalCond (query.QueryCompare left rel right) = LexicalOperand left × LexicalOperand right
  LexicalCond (query.QueryNot inner) = LexicalCond inner
  LexicalCond (query.QueryAll members) = LexicalConds members
  LexicalCond (query.QueryAny members) = LexicalConds members

  pub LexicalConds : QueryCondTrees → Type 0
  LexicalConds query.no_query_cond = Unit {0}
  LexicalConds (query.more_query_conds c cs) = LexicalCond c × LexicalConds cs

-- ---- Expressions

abbrev pub LexicalClause : Clause → Type 0
LexicalClause c = IsKind (kinds.Var c.var) × LexicalPath c.path

abbrev pub LexicalClauses : List Clause → Type 0
LexicalClauses [] = Unit {0}
LexicalClauses (c ∷ cs) = LexicalClause c × LexicalClauses cs

abbrev pub LexicalFilter : Option QueryCondTree → Type 0
LexicalFilter None = Unit {0}
LexicalFilter (Some c) = LexicalCond c

abbrev mutual
  pub LexicalExpr : ExprTree → Type 0
  LexicalExpr query.Empty = Unit {0}
  LexicalExpr (query.Seq parts) = LexicalExprs parts
  LexicalExpr (query.Elem name body) = IsKind (kinds.Name name) × LexicalExprs body
  LexicalExpr (query.QueryPath path) = LexicalPath path
  LexicalExpr (query.QueryFor clauses filter body) = LexicalClauses clauses × LexicalFilter filter × LexicalExpr body
  LexicalExpr (query.QueryIf c this other) = LexicalCond c × LexicalExpr this × LexicalExpr other

  pub LexicalExprs : ExprTrees → Type 0
  LexicalExprs query.no_expr = Unit {0}
  LexicalExprs (query.more_exprs e es) = LexicalExpr e × LexicalExprs es

abbrev pub Lexical : List ExprTree → Type 0
Lexical [] = Unit {0}
Lexical (e ∷ es) = LexicalExpr e × Lexical es
