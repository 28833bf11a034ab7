-- How a query is printed (this project's; the words are those of XQuery 1.0).
use Rattle.std.specs.Prelude.{ℕ, ◌≡◌, String, string_bytes, Bool, true, false, List, [], ◌∷◌, ◌++◌, map, flat_map, codes, Option, Some, None}
use Rattle.gcx_base.specs.declared.rel.Rel.{Rel}
use Rattle.gcx_base.specs.declared.rel.Rel.TheVariants.{Eq, Ne, Lt, Le, Gt, Ge}
use Rattle.gcx_base.specs.declared.steps.Axis.{Axis}
use Rattle.gcx_base.specs.declared.steps.Axis.TheVariants.{Child, Descendant}
use Rattle.gcx_base.specs.declared.steps.Test.{Test}
use Rattle.gcx_base.specs.declared.steps.Test.TheVariants.{Named, AnyElement, AnyText, AnyNode}
use Rattle.gcx_base.specs.declared.steps.Step.{Step}
use Rattle.gcx_model.specs.declared.query.PathExpr.{PathExpr}
use Rattle.gcx_model.specs.declared.query.Clause.{Clause}
use Rattle.gcx_model.specs.declared.query.QOperand.{QOperand}
use Rattle.gcx_model.specs.declared.query.QOperand.TheVariants as operand
use Rattle.gcx_model.specs.Query as query
use Rattle.gcx_model.specs.Query.{QueryCondTree, QueryCondTrees, ExprTree, ExprTrees}
use Rattle.gcx_model.specs.Written.{start_tag, end_tag}
use Rattle.xq_print.specs.declared.cond.Joint.{Joint}
use Rattle.xq_print.specs.declared.cond.Joint.TheVariants.{And, Or}
use Rattle.xq_print.specs.Literals.{number_text, string_text}

-- a text is put at the end
abbrev pub Prints : {X : Type 0} → (before after : String X) → (text : List ℕ) → Type 0
Prints before after text = string_bytes after ≡ string_bytes before ++ text

-- the texts in a row, with one more between each two
abbrev pub joined : (between : List ℕ) → List (List ℕ) → List ℕ
joined between [] = []
joined between (t ∷ ts) = t ++ flat_map (λ u. between ++ u) ts

abbrev pub in_parens : List ℕ → List ℕ
in_parens text = codes "(" ++ (text ++ codes ")")

-- ---- Paths

abbrev pub axis_text : Axis → List ℕ
axis_text Child = codes "/"
axis_text Descendant = codes "//"

abbrev pub test_text : Test → List ℕ
test_text (Named name) = name
test_text AnyElement = codes "*"
test_text AnyText = codes "text()"
test_text AnyNode = codes "node()"

abbrev pub step_text : Step → List ℕ
step_text s = axis_text s.axis ++ test_text s.test

-- the variable, or nothing for the document node
abbrev pub start_text : Option (List ℕ) → List ℕ
start_text None = []
start_text (Some name) = codes "$" ++ name

abbrev pub path_text : PathExpr → List ℕ
path_text p = start_text p.start ++ flat_map step_text p.steps

-- ---- Conditions

abbrev pub rel_text : Rel → List ℕ
rel_text Eq = codes " = "
rel_text Ne = codes " != "
rel_text Lt = codes " < "
rel_text Le = codes " <= "
rel_text Gt = codes " > "
rel_text Ge = codes " >= "

abbrev pub operand_text : QOperand → List ℕ
operand_text (operand.Path path) = path_text path
operand_text (operand.Str value) = string_text value
operand_text (operand.Num units) = number_text units

abbrev pub joint_text : Joint → List ℕ
joint_text And = codes " and "
joint_text Or = codes " or "

-- A member stands in parentheses: an All or Any inside an All, and an Any inside an Any.
abbrev pub is_enclosed : Joint → QueryCondTree → Bool
is_enclosed joint query.QueryAlways = false
is_enclosed joint (query.QueryExists path) = false
is_enclosed joint (query.QueryCompare left rel right) = false
is_enclosed joint (query.QueryNot inner) = false
is_enclosed And (query.QueryAll members) = true
is_enclosed Or (query.QueryAll members) = false
is_enclosed joint (query.QueryAny members) = true

abbrev pub enclosed : Bool → List ℕ → List ℕ
enclosed true text = in_parens text
enclosed false text = text

abbrev mutual
  pub cond_text : QueryCondTree → List ℕ
  cond_text query.QueryAlways = codes "true()"
  cond_text (query.QueryExists path) = codes "exists(" ++ (path_text path ++ codes ")")
  cond_text (query.QueryCompare left rel right) = operand_text left ++ (rel_text rel ++ operand_text right)
  cond_text (query.QueryNot inner) = codes "not(" ++ (cond_text inner ++ codes ")")
  cond_text (query.QueryAll members) = joined (joint_text And) (member_texts And members)
  cond_text (query.QueryAny members) = joined (joint_text Or) (member_texts Or members)

  pub member_texts : Joint → QueryCondTrees → List (List ℕ)
  member_texts joint query.no_query_cond = []
  member_texts joint (query.more_query_conds c cs) = enclosed (is_enclosed joint c) (cond_text c) ∷ member_texts joint cs

-- ---- Expressions

abbrev pub clause_text : Clause → List ℕ
clause_text c = codes "$" ++ (c.var ++ (codes " in " ++ path_text c.path))

abbrev pub filter_text : Option QueryCondTree → List ℕ
filter_text None = []
filter_text (Some c) = codes " where " ++ cond_text c

-- the body of a constructor
abbrev pub body_text : List (List ℕ) → List ℕ
body_text [] = []
body_text (t ∷ ts) = codes "{" ++ (joined (codes ", ") (t ∷ ts) ++ codes "}")

abbrev mutual
  pub expr_text : ExprTree → List ℕ
  expr_text query.Empty = codes "()"
  expr_text (query.Seq parts) = in_parens (joined (codes ", ") (expr_texts parts))
  expr_text (query.Elem name body) = start_tag name ++ (body_text (expr_texts body) ++ end_tag name)
  expr_text (query.QueryPath path) = path_text path
  expr_text (query.QueryFor clauses filter body) =
      codes "for " ++ (joined (codes ", ") (map clause_text clauses) ++ (filter_text filter ++ (codes " return " ++ expr_text body)))
  expr_text (query.QueryIf c this other) =
      codes "if (" ++ (cond_text c ++ (codes ") then " ++ (expr_text this ++ (codes " else " ++ expr_text other))))

  pub expr_texts : ExprTrees → List (List ℕ)
  expr_texts query.no_expr = []
  expr_texts (query.more_exprs e es) = expr_text e ∷ expr_texts es

-- the query of these parts
abbrev pub printed_query : List ExprTree → List ℕ
printed_query parts = joined (codes ", ") (map expr_text parts)
