-- The tree of a derivation has its shape: a parenthesis that is read and not printed leaves room.
use Rattle.std.proofs.Common.{ℕ, ◌+◌, Bool, true, false, List, [], ◌∷◌, ◌++◌}
use Rattle.gcx_model.specs.Query as query
use Rattle.gcx_model.specs.Query.{QueryCondTree, QueryCondTrees, ExprTree, ExprTrees, conds_of, exprs_of}
use Rattle.xq_parse.specs.Grammar as g
use Rattle.xq_parse.specs.Grammar.{path_tree, source_tree, operand_tree, literal_tree, derived_cond, ors_tree, all_tree, ands_tree, atom_tree, clause_tree, clauses_tree, where_tree, derived_expr, inner_tree, rest_tree, tag_tree, content_tree, derivation_tree, CondFits, OrsFits, AllFits, AndsFits, AtomFits, WhereFits, ExprFits, InnerFits, RestFits, TagFits, ContentFits}
use Rattle.xq_print.specs.declared.cond.Joint.TheVariants.{And, Or}
use Rattle.xq_print.specs.Printed.{is_enclosed}
use Rattle.xq_print.proofs.Shape.{MayOpen, IsPath, IsSide, Around, CondShape, MembersShape, MemberShape, HasStep, AreClauses, FilterShape, ExprShape, PartsShape, LaterShape, QueryShape, cond_before, expr_before}

path_shaped : (p : g.Path) → IsPath (path_tree p)
path_shaped (g.from_var at x ss) = tt
path_shaped (g.from_root s ss) = tt

side_shaped : (o : g.Operand) → IsSide (operand_tree o)
side_shaped (g.path_operand p) = path_shaped p
side_shaped (g.literal_operand (g.text x)) = tt
side_shaped (g.literal_operand (g.number u)) = tt

-- ---- Conditions

abbrev Shapes : (limit : ℕ) → QueryCondTree → ℕ → Type 0
Shapes limit c m = CondShape limit m c

-- what stood in parentheses stands in some or in none
opened : (limit n : ℕ) (b : Bool) (c : QueryCondTree) → MayOpen limit n → CondShape limit (n + 1) c → Around limit n b (Shapes limit c)
opened limit n true c m h = (m, h)
opened limit n false c m h = cond_before limit n c h

bare : (limit n : ℕ) (b : Bool) (c : QueryCondTree) → Around limit n b (Shapes limit c) → CondShape limit n c
bare limit n true c h = cond_before limit n c h.1
bare limit n false c h = h

-- each member of an All that stands in none is one of an Any
as_any : (limit n : ℕ) (c : QueryCondTree) → MemberShape limit n And c → MemberShape limit n Or c
as_any limit n query.QueryAlways h = h
as_any limit n (query.QueryExists p) h = h
as_any limit n (query.QueryCompare l r o) h = h
as_any limit n (query.QueryNot c) h = h
as_any limit n (query.QueryAll cs) h = bare limit n true (query.QueryAll cs) h
as_any limit n (query.QueryAny cs) h = h

mutual
  cond_shaped : (limit n : ℕ) (c : g.Cond) → CondFits limit n c → CondShape limit n (derived_cond c)
  cond_shaped limit n (g.cond_of a g.no_or) h = bare limit n (is_enclosed Or (all_tree a)) (all_tree a) (all_shaped limit n a h.0)
  cond_shaped limit n (g.cond_of a (g.or_more b os)) h = (tt, (all_shaped limit n a h.0, (all_shaped limit n b h.1.0, ors_shaped limit n os h.1.1)))

  ors_shaped : (limit n : ℕ) (os : g.Ors) → OrsFits limit n os → MembersShape limit n Or (conds_of (ors_tree os))
  ors_shaped limit n g.no_or h = tt
  ors_shaped limit n (g.or_more a os) h = (all_shaped limit n a h.0, ors_shaped limit n os h.1)

  all_shaped : (limit n : ℕ) (a : g.All) → AllFits limit n a → MemberShape limit n Or (all_tree a)
  all_shaped limit n (g.all a g.no_and) h = as_any limit n (atom_tree a) (atom_shaped limit n a h.0)
  all_shaped limit n (g.all a (g.and_more b bs)) h = (tt, (atom_shaped limit n a h.0, (atom_shaped limit n b h.1.0, ands_shaped limit n bs h.1.1)))

  ands_shaped : (limit n : ℕ) (bs : g.Ands) → AndsFits limit n bs → MembersShape limit n And (conds_of (ands_tree bs))
  ands_shaped limit n g.no_and h = tt
  ands_shaped limit n (g.and_more a bs) h = (atom_shaped limit n a h.0, ands_shaped limit n bs h.1)

  atom_shaped : (limit n : ℕ) (a : g.Atom) → AtomFits limit n a → MemberShape limit n And (atom_tree a)
  atom_shaped limit n (g.negated c) h = (h.0, cond_shaped limit (n + 1) c h.1)
  atom_shaped limit n g.always h = tt
  atom_shaped limit n (g.existing p) h = path_shaped p
  atom_shaped limit n (g.grouped c) h = opened limit n (is_enclosed And (derived_cond c)) (derived_cond c) h.0 (cond_shaped limit (n + 1) c h.1)
  atom_shaped limit n (g.compared p r o) h = (path_shaped p, side_shaped o)
  atom_shaped limit n (g.literal_first (g.text x) r p) h = path_shaped p
  atom_shaped limit n (g.literal_first (g.number u) r p) h = path_shaped p

-- ---- Expressions

source_shaped : (s : g.Source) → HasStep (source_tree s).steps
source_shaped (g.in_var at x s ss) = tt
source_shaped (g.in_root s ss) = tt

clause_shaped : (c : g.ClauseSyntax) → HasStep (clause_tree c).path.steps
clause_shaped (g.clause at x s) = source_shaped s

clauses_shaped : (cs : g.Clauses) → AreClauses (clauses_tree cs)
clauses_shaped g.no_clause = tt
clauses_shaped (g.clause_more c cs) = (clause_shaped c, clauses_shaped cs)

where_shaped : (limit n : ℕ) (w : g.Where) → WhereFits limit n w → FilterShape limit n (where_tree w)
where_shaped limit n g.no_where h = tt
where_shaped limit n (g.where_cond c) h = cond_shaped limit n c h

join_parts : (limit n : ℕ) (es fs : List ExprTree) → PartsShape limit n (exprs_of es) → PartsShape limit n (exprs_of fs) → PartsShape limit n (exprs_of (es ++ fs))
join_parts limit n [] fs h k = k
join_parts limit n (e ∷ es) fs h k = (h.0, join_parts limit n es fs h.1 k)

mutual
  expr_shaped : (limit n : ℕ) (e : g.Expr) → ExprFits limit n e → ExprShape limit n (derived_expr e)
  expr_shaped limit n (g.for_expr c cs w e) h = (h.0, (clause_shaped c, clauses_shaped cs), where_shaped limit (n + 1) w h.1, expr_shaped limit (n + 1) e h.2)
  expr_shaped limit n (g.if_expr c a b) h = (h.0, cond_shaped limit (n + 1) c h.1, expr_shaped limit (n + 1) a h.2, expr_shaped limit (n + 1) b h.3)
  expr_shaped limit n (g.elem_expr x t) h = (h.0, tag_shaped limit (n + 1) t h.1)
  expr_shaped limit n (g.paren_expr i) h = inner_shaped limit n i h.0 h.1
  expr_shaped limit n (g.path_expr p) h = path_shaped p

  inner_shaped : (limit n : ℕ) (i : g.Inner) → MayOpen limit n → InnerFits limit (n + 1) i → ExprShape limit n (inner_tree i)
  inner_shaped limit n g.closed m h = m
  inner_shaped limit n (g.listed e g.no_rest) m h = expr_before limit n (derived_expr e) (expr_shaped limit (n + 1) e h.0)
  inner_shaped limit n (g.listed e (g.rest_more f r)) m h = (m, tt, (expr_shaped limit (n + 1) e h.0, (expr_shaped limit (n + 1) f h.1.0, rest_shaped limit (n + 1) r h.1.1)))

  rest_shaped : (limit n : ℕ) (r : g.Rest) → RestFits limit n r → PartsShape limit n (exprs_of (rest_tree r))
  rest_shaped limit n g.no_rest h = tt
  rest_shaped limit n (g.rest_more e r) h = (expr_shaped limit n e h.0, rest_shaped limit n r h.1)

  tag_shaped : (limit n : ℕ) (t : g.Tag) → TagFits limit n t → PartsShape limit n (exprs_of (tag_tree t))
  tag_shaped limit n g.short h = tt
  tag_shaped limit n (g.long c) h = content_shaped limit n c h

  content_shaped : (limit n : ℕ) (c : g.Content) → ContentFits limit n c → PartsShape limit n (exprs_of (content_tree c))
  content_shaped limit n g.ended h = tt
  content_shaped limit n (g.nested y t c) h = ((h.0, tag_shaped limit (n + 1) t h.1), content_shaped limit n c h.2)
  content_shaped limit n (g.braced e r c) h =
      (expr_shaped limit n e h.0, join_parts limit n (rest_tree r) (content_tree c) (rest_shaped limit n r h.1) (content_shaped limit n c h.2))

later_shaped : (limit : ℕ) (r : g.Rest) → RestFits limit 0 r → LaterShape limit (rest_tree r)
later_shaped limit g.no_rest h = tt
later_shaped limit (g.rest_more e r) h = (expr_shaped limit 0 e h.0, later_shaped limit r h.1)

pub query_shaped : (limit : ℕ) (d : g.Derivation) → ExprFits limit 0 d.first × RestFits limit 0 d.others → QueryShape limit (derivation_tree d)
query_shaped limit d h = (expr_shaped limit 0 d.first h.0, later_shaped limit d.others h.1)
