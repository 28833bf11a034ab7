-- Where the variables of a derivation stand that no clause binds, and its descendant steps behind which a step follows (XQuery 1.0, section 3.8.1 for the scopes; the rest is this project's).
use Rattle.std.specs.Prelude.{ℕ, cond, List, [], ◌∷◌, ◌++◌, bytes_eq}
use Rattle.gcx_model.specs.Paths.{any}
use Rattle.gcx_model.specs.Variables.{is_child}
use Rattle.xq_parse.specs.Grammar.{StepSyntax, plain, child, descendant, double, step_tree, StepsSyntax, no_step, more_steps, Path, from_var, from_root, Source, in_var, in_root, Operand, path_operand, literal_operand, Cond, cond_of, Ors, no_or, or_more, All, all, Ands, no_and, and_more, Atom, negated, always, existing, grouped, compared, literal_first, ClauseSyntax, clause, Clauses, no_clause, clause_more, Where, no_where, where_cond, Expr, for_expr, if_expr, elem_expr, paren_expr, path_expr, Inner, closed, listed, Rest, no_rest, rest_more, Tag, short, long, Content, ended, nested, braced, Derivation}

-- The names that are bound, the innermost first.
abbrev pub Scope : Type 0
Scope = List (List ℕ)

-- ---- unknown variables, in their order

abbrev pub unbound : Scope → (at : ℕ) (name : List ℕ) → List ℕ
unbound scope at x = cond (any (bytes_eq x) scope) [] (at ∷ [])

abbrev pub path_unknown : Scope → Path → List ℕ
path_unknown scope (from_var at x ss) = unbound scope at x
path_unknown scope (from_root s ss) = []

abbrev pub source_unknown : Scope → Source → List ℕ
source_unknown scope (in_var at x s ss) = unbound scope at x
source_unknown scope (in_root s ss) = []

abbrev pub operand_unknown : Scope → Operand → List ℕ
operand_unknown scope (path_operand p) = path_unknown scope p
operand_unknown scope (literal_operand l) = []

abbrev mutual
  pub cond_unknown : Scope → Cond → List ℕ
  cond_unknown scope (cond_of a os) = all_unknown scope a ++ ors_unknown scope os

  pub ors_unknown : Scope → Ors → List ℕ
  ors_unknown scope no_or = []
  ors_unknown scope (or_more a os) = all_unknown scope a ++ ors_unknown scope os

  pub all_unknown : Scope → All → List ℕ
  all_unknown scope (all a bs) = atom_unknown scope a ++ ands_unknown scope bs

  pub ands_unknown : Scope → Ands → List ℕ
  ands_unknown scope no_and = []
  ands_unknown scope (and_more a bs) = atom_unknown scope a ++ ands_unknown scope bs

  pub atom_unknown : Scope → Atom → List ℕ
  atom_unknown scope (negated c) = cond_unknown scope c
  atom_unknown scope always = []
  atom_unknown scope (existing p) = path_unknown scope p
  atom_unknown scope (grouped c) = cond_unknown scope c
  atom_unknown scope (compared p r o) = path_unknown scope p ++ operand_unknown scope o
  atom_unknown scope (literal_first l r p) = path_unknown scope p

-- A clause's variable isn't in scope in its own path.
abbrev pub clause_unknown : Scope → ClauseSyntax → List ℕ
clause_unknown scope (clause at x s) = source_unknown scope s

-- the scope behind a clause
abbrev pub clause_scope : Scope → ClauseSyntax → Scope
clause_scope scope (clause at x s) = x ∷ scope

abbrev pub clauses_unknown : Scope → Clauses → List ℕ
clauses_unknown scope no_clause = []
clauses_unknown scope (clause_more c cs) = clause_unknown scope c ++ clauses_unknown (clause_scope scope c) cs

abbrev pub clauses_scope : Scope → Clauses → Scope
clauses_scope scope no_clause = scope
clauses_scope scope (clause_more c cs) = clauses_scope (clause_scope scope c) cs

-- the scope of a loop's `where` and `return`
abbrev pub loop_scope : Scope → ClauseSyntax → Clauses → Scope
loop_scope scope c cs = clauses_scope (clause_scope scope c) cs

abbrev pub where_unknown : Scope → Where → List ℕ
where_unknown scope no_where = []
where_unknown scope (where_cond c) = cond_unknown scope c

abbrev mutual
  pub expr_unknown : Scope → Expr → List ℕ
  expr_unknown scope (for_expr c cs w e) = clauses_unknown scope (clause_more c cs) ++ (where_unknown (loop_scope scope c cs) w ++ expr_unknown (loop_scope scope c cs) e)
  expr_unknown scope (if_expr c a b) = cond_unknown scope c ++ (expr_unknown scope a ++ expr_unknown scope b)
  expr_unknown scope (elem_expr x t) = tag_unknown scope t
  expr_unknown scope (paren_expr i) = inner_unknown scope i
  expr_unknown scope (path_expr p) = path_unknown scope p

  pub inner_unknown : Scope → Inner → List ℕ
  inner_unknown scope closed = []
  inner_unknown scope (listed e r) = expr_unknown scope e ++ rest_unknown scope r

  pub rest_unknown : Scope → Rest → List ℕ
  rest_unknown scope no_rest = []
  rest_unknown scope (rest_more e r) = expr_unknown scope e ++ rest_unknown scope r

  pub tag_unknown : Scope → Tag → List ℕ
  tag_unknown scope short = []
  tag_unknown scope (long c) = content_unknown scope c

  pub content_unknown : Scope → Content → List ℕ
  content_unknown scope ended = []
  content_unknown scope (nested y t c) = tag_unknown scope t ++ content_unknown scope c
  content_unknown scope (braced e r c) = expr_unknown scope e ++ (rest_unknown scope r ++ content_unknown scope c)

-- the unknown variables of a query
abbrev pub unknown_of : Derivation → List ℕ
unknown_of d = expr_unknown [] d.first ++ rest_unknown [] d.others

-- ---- descendant steps that aren't the last of their path, in their order: in the paths of clauses and of expressions, not in those of conditions

abbrev pub step_place : StepSyntax → ℕ
step_place (plain at t) = at
step_place (child at t) = at
step_place (descendant at t) = at
step_place (double at t) = at

-- the step's place, if it is a descendant step
abbrev pub descent : StepSyntax → List ℕ
descent s = cond (is_child (step_tree s).axis) [] (step_place s ∷ [])

-- these steps stand behind the step s
abbrev pub late_behind : StepSyntax → StepsSyntax → List ℕ
late_behind s no_step = []
late_behind s (more_steps u us) = descent s ++ late_behind u us

abbrev pub steps_late : StepsSyntax → List ℕ
steps_late no_step = []
steps_late (more_steps s ss) = late_behind s ss

abbrev pub path_late : Path → List ℕ
path_late (from_var at x ss) = steps_late ss
path_late (from_root s ss) = late_behind s ss

abbrev pub source_late : Source → List ℕ
source_late (in_var at x s ss) = late_behind s ss
source_late (in_root s ss) = late_behind s ss

abbrev pub clause_late : ClauseSyntax → List ℕ
clause_late (clause at x s) = source_late s

abbrev pub clauses_late : Clauses → List ℕ
clauses_late no_clause = []
clauses_late (clause_more c cs) = clause_late c ++ clauses_late cs

abbrev mutual
  pub expr_late : Expr → List ℕ
  expr_late (for_expr c cs w e) = clauses_late (clause_more c cs) ++ expr_late e
  expr_late (if_expr c a b) = expr_late a ++ expr_late b
  expr_late (elem_expr x t) = tag_late t
  expr_late (paren_expr i) = inner_late i
  expr_late (path_expr p) = path_late p

  pub inner_late : Inner → List ℕ
  inner_late closed = []
  inner_late (listed e r) = expr_late e ++ rest_late r

  pub rest_late : Rest → List ℕ
  rest_late no_rest = []
  rest_late (rest_more e r) = expr_late e ++ rest_late r

  pub tag_late : Tag → List ℕ
  tag_late short = []
  tag_late (long c) = content_late c

  pub content_late : Content → List ℕ
  content_late ended = []
  content_late (nested y t c) = tag_late t ++ content_late c
  content_late (braced e r c) = expr_late e ++ (rest_late r ++ content_late c)

-- the steps of a query that may not be descendant steps and are
abbrev pub late_of : Derivation → List ℕ
late_of d = expr_late d.first ++ rest_late d.others
