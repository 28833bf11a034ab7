-- The tokens of a query's printed text, in order, and the blanks between them.
use Rattle.std.specs.Prelude.{ℕ, Bool, true, false, List, [], ◌∷◌, ◌++◌, map, flat_map, Option, Some, None}
use Rattle.gcx_base.specs.declared.rel.Rel.{Rel}
use Rattle.gcx_base.specs.declared.steps.Axis.{Axis}
use Rattle.gcx_base.specs.declared.steps.Axis.TheVariants.{Child, Descendant}
use Rattle.gcx_base.specs.declared.steps.Test.{Test}
use Rattle.gcx_base.specs.declared.steps.Test.TheVariants.{Named, AnyElement, AnyText, AnyNode}
use Rattle.gcx_base.specs.declared.steps.Step.{Step}
use Rattle.gcx_model.specs.declared.query.PathExpr.{PathExpr}
use Rattle.gcx_model.specs.declared.query.Clause.{Clause}
use Rattle.gcx_model.specs.declared.query.QOperand.{QOperand}
use Rattle.gcx_model.specs.declared.query.QOperand.TheVariants as operand
use Rattle.gcx_model.specs.Query as query
use Rattle.gcx_model.specs.Query.{QueryCondTree, QueryCondTrees, ExprTree, ExprTrees}
use Rattle.xq_lex.specs.declared.sign.Sign.{Sign}
use Rattle.xq_lex.specs.declared.sign.Sign.TheVariants as signs
use Rattle.xq_lex.specs.declared.token.TokKind.{TokKind}
use Rattle.xq_lex.specs.declared.token.TokKind.TheVariants as kinds
use Rattle.xq_parse.specs.Tokens.{for_, in_, where_, return_, if_, then_, else_, or_, and_, not_, true_, exists_, text_, node_}
use Rattle.xq_parse.specs.Grammar.{rel_sign}
use Rattle.xq_print.specs.declared.cond.Joint.{Joint}
use Rattle.xq_print.specs.declared.cond.Joint.TheVariants.{And, Or}
use Rattle.xq_print.specs.Printed.{is_enclosed}

-- a token, or one space
pub data Piece : Type 0 where
  put : (kind : TokKind) → Piece
  blank : Piece

-- what the tokens are
abbrev pub kinds_of : List Piece → List TokKind
kinds_of [] = []
kinds_of (put k ∷ ps) = k ∷ kinds_of ps
kinds_of (blank ∷ ps) = kinds_of ps

abbrev pub word : List ℕ → Piece
word name = put (kinds.Name name)

abbrev pub mark : Sign → Piece
mark s = put (kinds.Sign s)

-- the pieces in a row, with these between each two
abbrev pub joined_pieces : (between : List Piece) → List (List Piece) → List Piece
joined_pieces between [] = []
joined_pieces between (p ∷ ps) = p ++ flat_map (λ q. between ++ q) ps

abbrev pub in_parens : List Piece → List Piece
in_parens ps = (mark signs.ParenOpen ∷ []) ++ (ps ++ (mark signs.ParenClose ∷ []))

abbrev pub comma : List Piece
comma = mark signs.Comma ∷ blank ∷ []

-- ---- Paths

abbrev pub axis_pieces : Axis → List Piece
axis_pieces Child = mark signs.Slash ∷ []
axis_pieces Descendant = mark signs.SlashSlash ∷ []

abbrev pub test_pieces : Test → List Piece
test_pieces (Named name) = word name ∷ []
test_pieces AnyElement = mark signs.Star ∷ []
test_pieces AnyText = word text_ ∷ mark signs.ParenOpen ∷ mark signs.ParenClose ∷ []
test_pieces AnyNode = word node_ ∷ mark signs.ParenOpen ∷ mark signs.ParenClose ∷ []

abbrev pub step_pieces : Step → List Piece
step_pieces s = axis_pieces s.axis ++ test_pieces s.test

abbrev pub start_pieces : Option (List ℕ) → List Piece
start_pieces None = []
start_pieces (Some name) = put (kinds.Var name) ∷ []

abbrev pub path_pieces : PathExpr → List Piece
path_pieces p = start_pieces p.start ++ flat_map step_pieces p.steps

-- ---- Conditions

abbrev pub rel_pieces : Rel → List Piece
rel_pieces rel = blank ∷ mark (rel_sign rel) ∷ blank ∷ []

abbrev pub operand_pieces : QOperand → List Piece
operand_pieces (operand.Path path) = path_pieces path
operand_pieces (operand.Str value) = put (kinds.Str value) ∷ []
operand_pieces (operand.Num units) = put (kinds.Number units) ∷ []

abbrev pub joint_pieces : Joint → List Piece
joint_pieces And = blank ∷ word and_ ∷ blank ∷ []
joint_pieces Or = blank ∷ word or_ ∷ blank ∷ []

abbrev pub enclosed_pieces : Bool → List Piece → List Piece
enclosed_pieces true ps = in_parens ps
enclosed_pieces false ps = ps

abbrev mutual
  pub cond_pieces : QueryCondTree → List Piece
  cond_pieces query.QueryAlways = word true_ ∷ mark signs.ParenOpen ∷ mark signs.ParenClose ∷ []
  cond_pieces (query.QueryExists path) = (word exists_ ∷ mark signs.ParenOpen ∷ []) ++ (path_pieces path ++ (mark signs.ParenClose ∷ []))
  cond_pieces (query.QueryCompare left rel right) = operand_pieces left ++ (rel_pieces rel ++ operand_pieces right)
  cond_pieces (query.QueryNot inner) = (word not_ ∷ mark signs.ParenOpen ∷ []) ++ (cond_pieces inner ++ (mark signs.ParenClose ∷ []))
  cond_pieces (query.QueryAll members) = joined_pieces (joint_pieces And) (members_pieces And members)
  cond_pieces (query.QueryAny members) = joined_pieces (joint_pieces Or) (members_pieces Or members)

  pub members_pieces : Joint → QueryCondTrees → List (List Piece)
  members_pieces joint query.no_query_cond = []
  members_pieces joint (query.more_query_conds c cs) = enclosed_pieces (is_enclosed joint c) (cond_pieces c) ∷ members_pieces joint cs

-- ---- Expressions

abbrev pub clause_pieces : Clause → List Piece
clause_pieces c = (put (kinds.Var c.var) ∷ []) ++ ((blank ∷ word in_ ∷ blank ∷ []) ++ path_pieces c.path)

abbrev pub filter_pieces : Option QueryCondTree → List Piece
filter_pieces None = []
filter_pieces (Some c) = (blank ∷ word where_ ∷ blank ∷ []) ++ cond_pieces c

abbrev pub start_tag_pieces : List ℕ → List Piece
start_tag_pieces name = mark signs.Lt ∷ word name ∷ mark signs.Gt ∷ []

abbrev pub end_tag_pieces : List ℕ → List Piece
end_tag_pieces name = mark signs.EndTag ∷ word name ∷ mark signs.Gt ∷ []

-- the body of a constructor
abbrev pub body_pieces : List (List Piece) → List Piece
body_pieces [] = []
body_pieces (p ∷ ps) = (mark signs.BraceOpen ∷ []) ++ (joined_pieces comma (p ∷ ps) ++ (mark signs.BraceClose ∷ []))

abbrev mutual
  pub expr_pieces : ExprTree → List Piece
  expr_pieces query.Empty = mark signs.ParenOpen ∷ mark signs.ParenClose ∷ []
  expr_pieces (query.Seq parts) = in_parens (joined_pieces comma (exprs_pieces parts))
  expr_pieces (query.Elem name body) = start_tag_pieces name ++ (body_pieces (exprs_pieces body) ++ end_tag_pieces name)
  expr_pieces (query.QueryPath path) = path_pieces path
  expr_pieces (query.QueryFor clauses filter body) =
      (word for_ ∷ blank ∷ []) ++ (joined_pieces comma (map clause_pieces clauses) ++ (filter_pieces filter ++ ((blank ∷ word return_ ∷ blank ∷ []) ++ expr_pieces body)))
  expr_pieces (query.QueryIf c this other) =
      (word if_ ∷ blank ∷ mark signs.ParenOpen ∷ []) ++ (cond_pieces c
      ++ ((mark signs.ParenClose ∷ blank ∷ word then_ ∷ blank ∷ []) ++ (expr_pieces this ++ ((blank ∷ word else_ ∷ blank ∷ []) ++ expr_pieces other))))

  pub exprs_pieces : ExprTrees → List (List Piece)
  exprs_pieces query.no_expr = []
  exprs_pieces (query.more_exprs e es) = expr_pieces e ∷ exprs_pieces es

-- the query of these parts
abbrev pub query_pieces : List ExprTree → List Piece
query_pieces parts = joined_pieces comma (map expr_pieces parts)
