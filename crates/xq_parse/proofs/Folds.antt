-- What the machine makes of a derivation: the routes of its paths, and its marks.
use Rattle.std.proofs.Common.{ℕ, Option, Some, None}
use Rattle.gcx_model.specs.Paths.{head}
use Rattle.xq_parse.specs.declared.route.Trail.{Trail}
use Rattle.xq_parse.specs.declared.route.Route.{Route}
use Rattle.xq_parse.specs.declared.marks.Marks.{Marks}
use Rattle.xq_parse.specs.Grammar as g
use Rattle.xq_parse.specs.Grammar.{step_tree, path_tree, source_tree}
use Rattle.xq_parse.specs.Places.{Scope, step_place, path_late, source_late, clause_scope, clauses_scope}
use Rattle.xq_parse.specs.Machine.{added, seen, seen_in_order}

abbrev pub trail_behind : Trail → g.StepsSyntax → Trail
trail_behind t g.no_step = t
trail_behind t (g.more_steps s ss) = trail_behind (added t (step_place s) (step_tree s)) ss

abbrev pub path_place : g.Path → Option ℕ
path_place (g.from_var at x ss) = Some at
path_place (g.from_root s ss) = None

abbrev pub path_route : g.Path → Route
path_route p = record { path = path_tree p; var_at = path_place p; late = head (path_late p) }

abbrev pub source_place : g.Source → Option ℕ
source_place (g.in_var at x s ss) = Some at
source_place (g.in_root s ss) = None

abbrev pub source_route : g.Source → Route
source_route p = record { path = source_tree p; var_at = source_place p; late = head (source_late p) }

abbrev pub path_marks : Scope → Marks → g.Path → Marks
path_marks sc m p = seen sc m (path_route p)

abbrev pub ordered_marks : Scope → Marks → g.Path → Marks
ordered_marks sc m p = seen_in_order sc m (path_route p)

abbrev pub operand_marks : Scope → Marks → g.Operand → Marks
operand_marks sc m (g.path_operand p) = path_marks sc m p
operand_marks sc m (g.literal_operand l) = m

abbrev mutual
  pub cond_marks : Scope → Marks → g.Cond → Marks
  cond_marks sc m (g.cond_of a os) = ors_marks sc (all_marks sc m a) os

  pub ors_marks : Scope → Marks → g.Ors → Marks
  ors_marks sc m g.no_or = m
  ors_marks sc m (g.or_more a os) = ors_marks sc (all_marks sc m a) os

  pub all_marks : Scope → Marks → g.All → Marks
  all_marks sc m (g.all a bs) = ands_marks sc (atom_marks sc m a) bs

  pub ands_marks : Scope → Marks → g.Ands → Marks
  ands_marks sc m g.no_and = m
  ands_marks sc m (g.and_more a bs) = ands_marks sc (atom_marks sc m a) bs

  pub atom_marks : Scope → Marks → g.Atom → Marks
  atom_marks sc m (g.negated c) = cond_marks sc m c
  atom_marks sc m g.always = m
  atom_marks sc m (g.existing p) = path_marks sc m p
  atom_marks sc m (g.grouped c) = cond_marks sc m c
  atom_marks sc m (g.compared p r o) = operand_marks sc (path_marks sc m p) o
  atom_marks sc m (g.literal_first l r p) = path_marks sc m p

abbrev pub clause_marks : Scope → Marks → g.ClauseSyntax → Marks
clause_marks sc m (g.clause at x s) = seen_in_order sc m (source_route s)

abbrev pub clauses_marks : Scope → Marks → g.Clauses → Marks
clauses_marks sc m g.no_clause = m
clauses_marks sc m (g.clause_more c cs) = clauses_marks (clause_scope sc c) (clause_marks sc m c) cs

abbrev pub where_marks : Scope → Marks → g.Where → Marks
where_marks sc m g.no_where = m
where_marks sc m (g.where_cond c) = cond_marks sc m c

abbrev mutual
  pub expr_marks : Scope → Marks → g.Expr → Marks
  expr_marks sc m (g.for_expr c cs w e) = expr_marks (clauses_scope (clause_scope sc c) cs) (where_marks (clauses_scope (clause_scope sc c) cs) (clauses_marks (clause_scope sc c) (clause_marks sc m c) cs) w) e
  expr_marks sc m (g.if_expr c a b) = expr_marks sc (expr_marks sc (cond_marks sc m c) a) b
  expr_marks sc m (g.elem_expr x t) = tag_marks sc m t
  expr_marks sc m (g.paren_expr i) = inner_marks sc m i
  expr_marks sc m (g.path_expr p) = ordered_marks sc m p

  pub inner_marks : Scope → Marks → g.Inner → Marks
  inner_marks sc m g.closed = m
  inner_marks sc m (g.listed e r) = rest_marks sc (expr_marks sc m e) r

  pub rest_marks : Scope → Marks → g.Rest → Marks
  rest_marks sc m g.no_rest = m
  rest_marks sc m (g.rest_more e r) = rest_marks sc (expr_marks sc m e) r

  pub tag_marks : Scope → Marks → g.Tag → Marks
  tag_marks sc m g.short = m
  tag_marks sc m (g.long c) = content_marks sc m c

  pub content_marks : Scope → Marks → g.Content → Marks
  content_marks sc m g.ended = m
  content_marks sc m (g.nested y t c) = content_marks sc (tag_marks sc m t) c
  content_marks sc m (g.braced e r c) = content_marks sc (rest_marks sc (expr_marks sc m e) r) c
