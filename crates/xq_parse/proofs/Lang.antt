-- What is spelled from a state on.
use Rattle.std.proofs.Common.{ℕ, ◌≡◌, List, [], ◌∷◌, ◌++◌, Option, None, Result, Ok, Err}
use Rattle.gcx_base.specs.declared.rel.Rel.{Rel}
use Rattle.gcx_base.specs.declared.steps.Axis.{Axis}
use Rattle.gcx_base.specs.declared.steps.Axis.TheVariants as axes
use Rattle.gcx_base.specs.declared.steps.Step.{Step}
use Rattle.gcx_base.specs.declared.steps.Test.TheVariants as tests
use Rattle.xq_lex.specs.declared.sign.Sign.TheVariants as signs
use Rattle.xq_parse.specs.declared.refusal.Why.{Why}
use Rattle.xq_parse.specs.Tokens.{Token, TName, TVar, TSign, child_, descendant_}
use Rattle.xq_parse.specs.Grammar as g
use Rattle.xq_parse.specs.Grammar.{a_step, test_tokens, test_tree, step_tokens, step_tree, steps_tokens, path_tokens, source_tokens, operand_tokens, operand_tree, rel_sign, ors_tokens, ors_tree, ands_tokens, ands_tree, atom_tokens, atom_tree, OrsFits, AndsFits, AtomFits, clauses_tokens, clauses_tree, where_tokens, where_tree, WhereFits, expr_tokens, derived_expr, ExprFits, inner_tokens, inner_tree, InnerFits, rest_tokens, rest_tree, RestFits, tag_tokens, tag_tree, TagFits, content_tokens, content_tree, ContentFits}
use Rattle.xq_parse.specs.Places.{step_place, clauses_scope}
use Rattle.xq_parse.specs.Machine.{State, Found, done, sign, word, end_name, var, name, axis, axis_or_name, test, call_or_name, first_step, steps, source, path, rel, operand, atom, ands, ors, expr, rest, inner, clauses, condition, tag, content, kind_test, axis_named, step, whole}
use Rattle.xq_parse.specs.Reading.{a_found}
use Rattle.xq_parse.proofs.Folds.{trail_behind, path_route, source_route, operand_marks, ors_marks, ands_marks, atom_marks, clauses_marks, where_marks, expr_marks, inner_marks, rest_marks, tag_marks, content_marks}

-- what tokens lead to
abbrev pub onto : Result State Why → (State → Option Found) → Option Found
onto (Ok s) f = f s
onto (Err e) f = None

abbrev pub reads : ℕ → State → List Token → Option Found
reads limit s [] = whole s
reads limit s (t ∷ ts) = onto (step limit s t) (λ u. reads limit u ts)

-- behind a `/`: a test with an axis or without
pub data AxisTest : Type 0 where
  child_axis : g.TestSyntax → AxisTest
  descendant_axis : g.TestSyntax → AxisTest
  no_axis : g.TestSyntax → AxisTest

abbrev pub axis_tree : AxisTest → Step
axis_tree (child_axis t) = a_step axes.Child (test_tree t)
axis_tree (descendant_axis t) = a_step axes.Descendant (test_tree t)
axis_tree (no_axis t) = a_step axes.Child (test_tree t)

abbrev pub axis_tokens : AxisTest → List Token
axis_tokens (child_axis t) = TName child_ ∷ TSign signs.Axis ∷ test_tokens t
axis_tokens (descendant_axis t) = TName descendant_ ∷ TSign signs.Axis ∷ test_tokens t
axis_tokens (no_axis t) = test_tokens t

-- behind `child` or `descendant`, and behind `text` or `node`
pub data Behind : Type 0 where
  colons : g.TestSyntax → Behind
  bare : Behind

abbrev pub colons_tokens : Behind → List Token
colons_tokens (colons t) = TSign signs.Axis ∷ test_tokens t
colons_tokens bare = []

abbrev pub colons_tree : List ℕ → Behind → Step
colons_tree x (colons t) = a_step (axis_named x) (test_tree t)
colons_tree x bare = a_step axes.Child (tests.Named x)

pub data Call : Type 0 where
  called : Call
  uncalled : Call

abbrev pub call_tokens : Call → List Token
call_tokens called = TSign signs.ParenOpen ∷ TSign signs.ParenClose ∷ []
call_tokens uncalled = []

abbrev pub call_tree : Axis → List ℕ → Call → Step
call_tree d x called = a_step d (kind_test x)
call_tree d x uncalled = a_step d (tests.Named x)

-- Tokens ts begin with those of x, and next speaks of what is behind them.
pub record Begins (front ts : List Token) (next : List Token → Type 0) : Type 0 where
  pub behind : List Token
  pub parts : ts ≡ front ++ behind
  pub goes_on : next behind

abbrev pub Lang : ℕ → State → List Token → Found → Type 0
Lang limit (done m es) ts f = (ts ≡ []) × (a_found m es ≡ f)
Lang limit (sign x s) ts f = Begins (TSign x ∷ []) ts (λ ws. Lang limit s ws f)
Lang limit (word w s) ts f = Begins (TName w ∷ []) ts (λ ws. Lang limit s ws f)
Lang limit (end_name w s) ts f = Begins (TName w ∷ []) ts (λ ws. Lang limit s ws f)
Lang limit (var k) ts f = (at : ℕ) × (x : List ℕ) × Begins (TVar at x ∷ []) ts (λ ws. Lang limit (k x) ws f)
Lang limit (name k) ts f = (x : List ℕ) × Begins (TName x ∷ []) ts (λ ws. Lang limit (k x) ws f)
Lang limit (axis k) ts f = (a : AxisTest) × Begins (axis_tokens a) ts (λ ws. Lang limit (k (axis_tree a)) ws f)
Lang limit (axis_or_name x k) ts f = (b : Behind) × Begins (colons_tokens b) ts (λ ws. Lang limit (k (colons_tree x b)) ws f)
Lang limit (test d k) ts f = (t : g.TestSyntax) × Begins (test_tokens t) ts (λ ws. Lang limit (k (a_step d (test_tree t))) ws f)
Lang limit (call_or_name d x k) ts f = (c : Call) × Begins (call_tokens c) ts (λ ws. Lang limit (k (call_tree d x c)) ws f)
Lang limit (first_step k) ts f = (s : g.StepSyntax) × Begins (step_tokens s) ts (λ ws. Lang limit (k (step_place s) (step_tree s)) ws f)
Lang limit (steps t k) ts f = (s : g.StepsSyntax) × Begins (steps_tokens s) ts (λ ws. Lang limit (k (trail_behind t s)) ws f)
Lang limit (source k) ts f = (s : g.Source) × Begins (source_tokens s) ts (λ ws. Lang limit (k (source_route s)) ws f)
Lang limit (path k) ts f = (s : g.Path) × Begins (path_tokens s) ts (λ ws. Lang limit (k (path_route s)) ws f)
Lang limit (rel k) ts f = (r : Rel) × Begins (TSign (rel_sign r) ∷ []) ts (λ ws. Lang limit (k r) ws f)
Lang limit (operand sc m k) ts f = (o : g.Operand) × Begins (operand_tokens o) ts (λ ws. Lang limit (k (operand_marks sc m o) (operand_tree o)) ws f)
Lang limit (atom n sc m k) ts f = (a : g.Atom) × AtomFits limit n a × Begins (atom_tokens a) ts (λ ws. Lang limit (k (atom_marks sc m a) (atom_tree a)) ws f)
Lang limit (ands n sc m cs k) ts f = (a : g.Ands) × AndsFits limit n a × Begins (ands_tokens a) ts (λ ws. Lang limit (k (ands_marks sc m a) (cs ++ ands_tree a)) ws f)
Lang limit (ors n sc m cs k) ts f = (o : g.Ors) × OrsFits limit n o × Begins (ors_tokens o) ts (λ ws. Lang limit (k (ors_marks sc m o) (cs ++ ors_tree o)) ws f)
Lang limit (expr n sc m k) ts f = (e : g.Expr) × ExprFits limit n e × Begins (expr_tokens e) ts (λ ws. Lang limit (k (expr_marks sc m e) (derived_expr e)) ws f)
Lang limit (rest n sc m es k) ts f = (r : g.Rest) × RestFits limit n r × Begins (rest_tokens r) ts (λ ws. Lang limit (k (rest_marks sc m r) (es ++ rest_tree r)) ws f)
Lang limit (inner n sc m k) ts f = (i : g.Inner) × InnerFits limit n i × Begins (inner_tokens i) ts (λ ws. Lang limit (k (inner_marks sc m i) (inner_tree i)) ws f)
Lang limit (clauses sc m cs k) ts f = (c : g.Clauses) × Begins (clauses_tokens c) ts (λ ws. Lang limit (k (clauses_scope sc c) (clauses_marks sc m c) (cs ++ clauses_tree c)) ws f)
Lang limit (condition n sc m k) ts f = (w : g.Where) × WhereFits limit n w × Begins (where_tokens w) ts (λ ws. Lang limit (k (where_marks sc m w) (where_tree w)) ws f)
Lang limit (tag n sc m x k) ts f = (t : g.Tag) × TagFits limit n t × Begins (tag_tokens x t) ts (λ ws. Lang limit (k (tag_marks sc m t) (tag_tree t)) ws f)
Lang limit (content n sc m x es k) ts f = (c : g.Content) × ContentFits limit n c × Begins (content_tokens x c) ts (λ ws. Lang limit (k (content_marks sc m c) (es ++ content_tree c)) ws f)
