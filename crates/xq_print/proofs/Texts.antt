-- The pieces of a query have the text that is printed.
use Rattle.std.proofs.Common.{ℕ, ◌≡◌, Bool, true, false, List, [], ◌∷◌, ◌++◌, map, flat_map, Option, Some, None, refl, sym, ap, ◌∙◌, append_assoc, append-nil}
use Rattle.std.specs.Prelude.{codes}
use Rattle.gcx_base.specs.declared.rel.Rel.{Rel}
use Rattle.gcx_base.specs.declared.rel.Rel.TheVariants as rels
use Rattle.gcx_base.specs.declared.steps.Axis.{Axis}
use Rattle.gcx_base.specs.declared.steps.Axis.TheVariants.{Child, Descendant}
use Rattle.gcx_base.specs.declared.steps.Test.{Test}
use Rattle.gcx_base.specs.declared.steps.Test.TheVariants.{Named, AnyElement, AnyText, AnyNode}
use Rattle.gcx_base.specs.declared.steps.Step.{Step}
use Rattle.gcx_model.specs.declared.query.PathExpr.{PathExpr}
use Rattle.gcx_model.specs.declared.query.Clause.{Clause}
use Rattle.gcx_model.specs.declared.query.QOperand.{QOperand}
use Rattle.gcx_model.specs.declared.query.QOperand.TheVariants as operand
use Rattle.gcx_model.specs.Query as query
use Rattle.gcx_model.specs.Query.{QueryCondTree, QueryCondTrees, ExprTree, ExprTrees}
use Rattle.gcx_model.specs.Written.{start_tag, end_tag}
use Rattle.xq_parse.specs.Tokens.{for_, in_, where_, return_, if_, then_, else_, not_, exists_}
use Rattle.xq_lex.specs.declared.sign.Sign.TheVariants as signs
use Rattle.xq_print.specs.declared.cond.Joint.{Joint}
use Rattle.xq_print.specs.declared.cond.Joint.TheVariants.{And, Or}
use Rattle.xq_print.specs.Printed as printed
use Rattle.xq_print.specs.Printed.{joined, axis_text, test_text, step_text, start_text, path_text, rel_text, operand_text, joint_text, is_enclosed, enclosed, cond_text, member_texts, clause_text, filter_text, body_text, expr_text, expr_texts, printed_query}
use Rattle.xq_print.proofs.Pieces.{Piece, put, blank, word, mark, joined_pieces, in_parens, comma, axis_pieces, test_pieces, step_pieces, start_pieces, path_pieces, rel_pieces, operand_pieces, joint_pieces, enclosed_pieces, cond_pieces, members_pieces, clause_pieces, filter_pieces, start_tag_pieces, end_tag_pieces, body_pieces, expr_pieces, exprs_pieces, query_pieces}
use Rattle.xq_print.proofs.Written.{kind_text}

abbrev pub text_of : List Piece → List ℕ
text_of [] = []
text_of (put k ∷ ps) = kind_text k ++ text_of ps
text_of (blank ∷ ps) = 32 ∷ text_of ps

text_append : (a b : List Piece) → text_of (a ++ b) ≡ text_of a ++ text_of b
text_append [] b = refl
text_append (put k ∷ ps) b = ap (λ (x : List ℕ). kind_text k ++ x) (text_append ps b) ∙ sym (append_assoc (kind_text k) (text_of ps) (text_of b))
text_append (blank ∷ ps) b = ap (λ (x : List ℕ). 32 ∷ x) (text_append ps b)

beside : (a b : List Piece) (x y : List ℕ) → text_of a ≡ x → text_of b ≡ y → text_of (a ++ b) ≡ x ++ y
beside a b x y e h = text_append a b ∙ (λ i. e i ++ h i)

later_text : (between : List Piece) (ps : List (List Piece)) → text_of (flat_map (λ q. between ++ q) ps) ≡ flat_map (λ u. text_of between ++ u) (map text_of ps)
later_text between [] = refl
later_text between (p ∷ ps) = beside (between ++ p) (flat_map (λ q. between ++ q) ps) (text_of between ++ text_of p) (flat_map (λ u. text_of between ++ u) (map text_of ps)) (text_append between p) (later_text between ps)

joined_is : (between : List Piece) (ps : List (List Piece)) → text_of (joined_pieces between ps) ≡ joined (text_of between) (map text_of ps)
joined_is between [] = refl
joined_is between (p ∷ ps) = beside p (flat_map (λ q. between ++ q) ps) (text_of p) (flat_map (λ u. text_of between ++ u) (map text_of ps)) refl (later_text between ps)

joined_by : (between : List Piece) (x : List ℕ) (ps : List (List Piece)) (ts : List (List ℕ)) → text_of between ≡ x → map text_of ps ≡ ts → text_of (joined_pieces between ps) ≡ joined x ts
joined_by between x ps ts e h = joined_is between ps ∙ (λ i. joined (e i) (h i))

parens_is : (ps : List Piece) (x : List ℕ) → text_of ps ≡ x → text_of (in_parens ps) ≡ printed.in_parens x
parens_is ps x e = beside (mark signs.ParenOpen ∷ []) (ps ++ (mark signs.ParenClose ∷ [])) (codes "(") (x ++ codes ")") refl (beside ps (mark signs.ParenClose ∷ []) x (codes ")") e refl)

-- ---- Paths

axis_is : (a : Axis) → text_of (axis_pieces a) ≡ axis_text a
axis_is Child = refl
axis_is Descendant = refl

test_is : (t : Test) → text_of (test_pieces t) ≡ test_text t
test_is (Named name) = append-nil name
test_is AnyElement = refl
test_is AnyText = refl
test_is AnyNode = refl

steps_is : (ss : List Step) → text_of (flat_map step_pieces ss) ≡ flat_map step_text ss
steps_is [] = refl
steps_is (s ∷ ss) =
    beside (step_pieces s) (flat_map step_pieces ss) (step_text s) (flat_map step_text ss)
    (beside (axis_pieces s.axis) (test_pieces s.test) (axis_text s.axis) (test_text s.test) (axis_is s.axis) (test_is s.test)) (steps_is ss)

start_is : (s : Option (List ℕ)) → text_of (start_pieces s) ≡ start_text s
start_is None = refl
start_is (Some name) = ap (λ (x : List ℕ). 36 ∷ x) (append-nil name)

path_is : (p : PathExpr) → text_of (path_pieces p) ≡ path_text p
path_is p = beside (start_pieces p.start) (flat_map step_pieces p.steps) (start_text p.start) (flat_map step_text p.steps) (start_is p.start) (steps_is p.steps)

-- ---- Conditions

rel_is : (r : Rel) → text_of (rel_pieces r) ≡ rel_text r
rel_is rels.Eq = refl
rel_is rels.Ne = refl
rel_is rels.Lt = refl
rel_is rels.Le = refl
rel_is rels.Gt = refl
rel_is rels.Ge = refl

operand_is : (o : QOperand) → text_of (operand_pieces o) ≡ operand_text o
operand_is (operand.Path path) = path_is path
operand_is (operand.Str value) = append-nil (operand_text (operand.Str value))
operand_is (operand.Num units) = append-nil (operand_text (operand.Num units))

joint_is : (j : Joint) → text_of (joint_pieces j) ≡ joint_text j
joint_is And = refl
joint_is Or = refl

enclosed_is : (b : Bool) (ps : List Piece) (x : List ℕ) → text_of ps ≡ x → text_of (enclosed_pieces b ps) ≡ enclosed b x
enclosed_is true ps x e = parens_is ps x e
enclosed_is false ps x e = e

mutual
  cond_is : (c : QueryCondTree) → text_of (cond_pieces c) ≡ cond_text c
  cond_is query.QueryAlways = refl
  cond_is (query.QueryExists path) =
      beside (word exists_ ∷ mark signs.ParenOpen ∷ []) (path_pieces path ++ (mark signs.ParenClose ∷ [])) (codes "exists(") (path_text path ++ codes ")") refl
      (beside (path_pieces path) (mark signs.ParenClose ∷ []) (path_text path) (codes ")") (path_is path) refl)
  cond_is (query.QueryCompare left rel right) =
      beside (operand_pieces left) (rel_pieces rel ++ operand_pieces right) (operand_text left) (rel_text rel ++ operand_text right) (operand_is left)
      (beside (rel_pieces rel) (operand_pieces right) (rel_text rel) (operand_text right) (rel_is rel) (operand_is right))
  cond_is (query.QueryNot inner) =
      beside (word not_ ∷ mark signs.ParenOpen ∷ []) (cond_pieces inner ++ (mark signs.ParenClose ∷ [])) (codes "not(") (cond_text inner ++ codes ")") refl
      (beside (cond_pieces inner) (mark signs.ParenClose ∷ []) (cond_text inner) (codes ")") (cond_is inner) refl)
  cond_is (query.QueryAll members) = joined_by (joint_pieces And) (joint_text And) (members_pieces And members) (member_texts And members) (joint_is And) (members_are And members)
  cond_is (query.QueryAny members) = joined_by (joint_pieces Or) (joint_text Or) (members_pieces Or members) (member_texts Or members) (joint_is Or) (members_are Or members)

  members_are : (j : Joint) (cs : QueryCondTrees) → map text_of (members_pieces j cs) ≡ member_texts j cs
  members_are j query.no_query_cond = refl
  members_are j (query.more_query_conds c cs) = (λ i. enclosed_is (is_enclosed j c) (cond_pieces c) (cond_text c) (cond_is c) i ∷ members_are j cs i)

-- ---- Expressions

clause_is : (c : Clause) → text_of (clause_pieces c) ≡ clause_text c
clause_is c =
    ap (λ (x : List ℕ). 36 ∷ (c.var ++ x))
    (beside (blank ∷ word in_ ∷ blank ∷ []) (path_pieces c.path) (codes " in ") (path_text c.path) refl (path_is c.path))

clauses_are : (cs : List Clause) → map text_of (map clause_pieces cs) ≡ map clause_text cs
clauses_are [] = refl
clauses_are (c ∷ cs) = (λ i. clause_is c i ∷ clauses_are cs i)

filter_is : (f : Option QueryCondTree) → text_of (filter_pieces f) ≡ filter_text f
filter_is None = refl
filter_is (Some c) = beside (blank ∷ word where_ ∷ blank ∷ []) (cond_pieces c) (codes " where ") (cond_text c) refl (cond_is c)

body_is : (ps : List (List Piece)) → text_of (body_pieces ps) ≡ body_text (map text_of ps)
body_is [] = refl
body_is (p ∷ ps) =
    beside (mark signs.BraceOpen ∷ []) (joined_pieces comma (p ∷ ps) ++ (mark signs.BraceClose ∷ [])) (codes "{") (joined (codes ", ") (map text_of (p ∷ ps)) ++ codes "}") refl
    (beside (joined_pieces comma (p ∷ ps)) (mark signs.BraceClose ∷ []) (joined (codes ", ") (map text_of (p ∷ ps))) (codes "}") (joined_is comma (p ∷ ps)) refl)

mutual
  expr_is : (e : ExprTree) → text_of (expr_pieces e) ≡ expr_text e
  expr_is query.Empty = refl
  expr_is (query.Seq parts) =
      parens_is (joined_pieces comma (exprs_pieces parts)) (joined (codes ", ") (expr_texts parts)) (joined_by comma (codes ", ") (exprs_pieces parts) (expr_texts parts) refl (exprs_are parts))
  expr_is (query.Elem name body) =
      beside (start_tag_pieces name) (body_pieces (exprs_pieces body) ++ end_tag_pieces name) (start_tag name) (body_text (expr_texts body) ++ end_tag name) refl
      (beside (body_pieces (exprs_pieces body)) (end_tag_pieces name) (body_text (expr_texts body)) (end_tag name) (body_is (exprs_pieces body) ∙ ap body_text (exprs_are body)) refl)
  expr_is (query.QueryPath path) = path_is path
  expr_is (query.QueryFor clauses filter body) =
      beside (word for_ ∷ blank ∷ []) (joined_pieces comma (map clause_pieces clauses) ++ (filter_pieces filter ++ ((blank ∷ word return_ ∷ blank ∷ []) ++ expr_pieces body)))
      (codes "for ") (joined (codes ", ") (map clause_text clauses) ++ (filter_text filter ++ (codes " return " ++ expr_text body))) refl
      (beside (joined_pieces comma (map clause_pieces clauses)) (filter_pieces filter ++ ((blank ∷ word return_ ∷ blank ∷ []) ++ expr_pieces body))
      (joined (codes ", ") (map clause_text clauses)) (filter_text filter ++ (codes " return " ++ expr_text body))
      (joined_by comma (codes ", ") (map clause_pieces clauses) (map clause_text clauses) refl (clauses_are clauses))
      (beside (filter_pieces filter) ((blank ∷ word return_ ∷ blank ∷ []) ++ expr_pieces body) (filter_text filter) (codes " return " ++ expr_text body) (filter_is filter)
      (beside (blank ∷ word return_ ∷ blank ∷ []) (expr_pieces body) (codes " return ") (expr_text body) refl (expr_is body))))
  expr_is (query.QueryIf c this other) =
      beside (word if_ ∷ blank ∷ mark signs.ParenOpen ∷ []) (cond_pieces c ++ ((mark signs.ParenClose ∷ blank ∷ word then_ ∷ blank ∷ []) ++ (expr_pieces this ++ ((blank ∷ word else_ ∷ blank ∷ []) ++ expr_pieces other))))
      (codes "if (") (cond_text c ++ (codes ") then " ++ (expr_text this ++ (codes " else " ++ expr_text other)))) refl
      (beside (cond_pieces c) ((mark signs.ParenClose ∷ blank ∷ word then_ ∷ blank ∷ []) ++ (expr_pieces this ++ ((blank ∷ word else_ ∷ blank ∷ []) ++ expr_pieces other)))
      (cond_text c) (codes ") then " ++ (expr_text this ++ (codes " else " ++ expr_text other))) (cond_is c)
      (beside (mark signs.ParenClose ∷ blank ∷ word then_ ∷ blank ∷ []) (expr_pieces this ++ ((blank ∷ word else_ ∷ blank ∷ []) ++ expr_pieces other))
      (codes ") then ") (expr_text this ++ (codes " else " ++ expr_text other)) refl
      (beside (expr_pieces this) ((blank ∷ word else_ ∷ blank ∷ []) ++ expr_pieces other) (expr_text this) (codes " else " ++ expr_text other) (expr_is this)
      (beside (blank ∷ word else_ ∷ blank ∷ []) (expr_pieces other) (codes " else ") (expr_text other) refl (expr_is other)))))

  exprs_are : (es : ExprTrees) → map text_of (exprs_pieces es) ≡ expr_texts es
  exprs_are query.no_expr = refl
  exprs_are (query.more_exprs e es) = (λ i. expr_is e i ∷ exprs_are es i)

parts_are : (q : List ExprTree) → map text_of (map expr_pieces q) ≡ map expr_text q
parts_are [] = refl
parts_are (e ∷ es) = (λ i. expr_is e i ∷ parts_are es i)

pub query_is : (q : List ExprTree) → text_of (query_pieces q) ≡ printed_query q
query_is q = joined_by comma (codes ", ") (map expr_pieces q) (map expr_text q) refl (parts_are q)
