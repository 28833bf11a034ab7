-- Each state of the machine can go on to a whole query.
use Rattle.std.proofs.Common.{ℕ, List, [], ◌∷◌, ◌++◌, None, refl}
use Rattle.gcx_base.specs.declared.rel.Rel.TheVariants as rels
use Rattle.gcx_base.specs.declared.steps.Axis.{Axis}
use Rattle.gcx_base.specs.declared.steps.Axis.TheVariants as axes
use Rattle.gcx_base.specs.declared.steps.Step.{Step}
use Rattle.gcx_base.specs.declared.steps.Test.TheVariants as tests
use Rattle.gcx_model.specs.declared.query.QOperand.TheVariants as sides
use Rattle.gcx_model.specs.Query as q
use Rattle.gcx_model.specs.Query.{QueryCondTree, ExprTree, exprs_of}
use Rattle.xq_lex.specs.declared.sign.Sign.TheVariants as signs
use Rattle.xq_parse.specs.Tokens.{Token, TName, TVar, TStr, TSign}
use Rattle.xq_parse.specs.Grammar as g
use Rattle.xq_parse.specs.Grammar.{a_step, a_clause, any_of, seq_of, test_tokens, test_tree, step_tokens, step_tree, steps_tokens, path_tokens, path_tree, source_tokens, operand_tokens, operand_tree, literal_token, literal_tree, rel_sign, cond_tokens, derived_cond, ors_tokens, ors_tree, all_tokens, all_tree, ands_tokens, ands_tree, atom_tokens, atom_tree, CondFits, OrsFits, AllFits, AndsFits, AtomFits, clause_tokens, clause_tree, clauses_tokens, clauses_tree, where_tokens, where_tree, WhereFits, expr_tokens, derived_expr, ExprFits, inner_tokens, inner_tree, InnerFits, rest_tokens, rest_tree, RestFits, tag_tokens, tag_tree, TagFits, content_tokens, content_tree, ContentFits}
use Rattle.xq_parse.specs.Machine.{State, Found, done, sign, word, end_name, var, name, axis, axis_or_name, test, call_or_name, first_step, steps, source, path, rel, operand, atom, ands, ors, expr, rest, inner, clauses, condition, tag, content}
use Rattle.xq_parse.specs.Reading.{a_found}
use Rattle.xq_parse.proofs.Lang.{no_axis, Lang}
use Rattle.xq_parse.proofs.Folds.{path_route, source_route, expr_marks}
use Rattle.xq_parse.proofs.PathsBack.{no_more_back}
use Rattle.xq_parse.proofs.Back.{call_over, colons_over, no_and_back, no_clause_back, no_or_back, no_rest_back, no_where_back}

-- ---- a way on from each state

abbrev pub Way : ℕ → State → Type 0
Way limit s = (ts : List Token) × (p : Found) × Lang limit s ts p

abbrev any_step : g.StepSyntax
any_step = g.plain 0 g.star_test

abbrev any_path : g.Path
any_path = g.from_root any_step g.no_step

abbrev any_source : g.Source
any_source = g.in_root any_step g.no_step

-- the way behind x, with x before it
then_on : (limit : ℕ) (front : List Token) (s after : State) → ((ts : List Token) (p : Found) → Lang limit s ts p → Lang limit after (front ++ ts) p) → Way limit s → Way limit after
then_on limit front s after f v = (front ++ v.0, v.1, f v.0 v.1 v.2)

abbrev star : Axis → Step
star d = a_step d tests.AnyElement

pub way : (limit : ℕ) (s : State) → Way limit s
way limit (done m es) = ([], a_found m es, (refl, refl))
way limit (sign x s) = then_on limit (TSign x ∷ []) s (sign x s) (λ ts p l. record { behind = ts; parts = refl; goes_on = l }) (way limit s)
way limit (word x s) = then_on limit (TName x ∷ []) s (word x s) (λ ts p l. record { behind = ts; parts = refl; goes_on = l }) (way limit s)
way limit (end_name x s) = then_on limit (TName x ∷ []) s (end_name x s) (λ ts p l. record { behind = ts; parts = refl; goes_on = l }) (way limit s)
way limit (var k) = then_on limit (TVar 0 [] ∷ []) (k []) (var k) (λ ts p l. (0, [], record { behind = ts; parts = refl; goes_on = l })) (way limit (k []))
way limit (name k) = then_on limit (TName [] ∷ []) (k []) (name k) (λ ts p l. ([], record { behind = ts; parts = refl; goes_on = l })) (way limit (k []))
way limit (axis k) = then_on limit (TSign signs.Star ∷ []) (k (star axes.Child)) (axis k) (λ ts p l. (no_axis g.star_test, record { behind = ts; parts = refl; goes_on = l })) (way limit (k (star axes.Child)))
way limit (test d k) = then_on limit (TSign signs.Star ∷ []) (k (star d)) (test d k) (λ ts p l. (g.star_test, record { behind = ts; parts = refl; goes_on = l })) (way limit (k (star d)))
way limit (axis_or_name x k) = then_on limit [] (k (a_step axes.Child (tests.Named x))) (axis_or_name x k) (λ ts p l. colons_over limit x k ts p l) (way limit (k (a_step axes.Child (tests.Named x))))
way limit (call_or_name d x k) = then_on limit [] (k (a_step d (tests.Named x))) (call_or_name d x k) (λ ts p l. call_over limit d x k ts p l) (way limit (k (a_step d (tests.Named x))))
way limit (first_step k) = then_on limit (step_tokens any_step) (k 0 (star axes.Child)) (first_step k) (λ ts p l. (any_step, record { behind = ts; parts = refl; goes_on = l })) (way limit (k 0 (star axes.Child)))
way limit (steps t k) = then_on limit [] (k t) (steps t k) (λ ts p l. no_more_back limit t k ts p l) (way limit (k t))
way limit (source k) = then_on limit (source_tokens any_source) (k (source_route any_source)) (source k) (λ ts p l. (any_source, record { behind = ts; parts = refl; goes_on = l })) (way limit (k (source_route any_source)))
way limit (path k) = then_on limit (path_tokens any_path) (k (path_route any_path)) (path k) (λ ts p l. (any_path, record { behind = ts; parts = refl; goes_on = l })) (way limit (k (path_route any_path)))
way limit (rel k) = then_on limit (TSign signs.Eq ∷ []) (k rels.Eq) (rel k) (λ ts p l. (rels.Eq, record { behind = ts; parts = refl; goes_on = l })) (way limit (k rels.Eq))
way limit (operand sc m k) = then_on limit (TStr [] ∷ []) (k m (sides.Str [])) (operand sc m k) (λ ts p l. (g.literal_operand (g.text []), record { behind = ts; parts = refl; goes_on = l })) (way limit (k m (sides.Str [])))
way limit (atom n sc m k) = then_on limit (atom_tokens g.always) (k m q.QueryAlways) (atom n sc m k) (λ ts p l. (g.always, tt, record { behind = ts; parts = refl; goes_on = l })) (way limit (k m q.QueryAlways))
way limit (ands n sc m bs k) = then_on limit [] (k m bs) (ands n sc m bs k) (λ ts p l. no_and_back limit n sc m bs k ts p l) (way limit (k m bs))
way limit (ors n sc m bs k) = then_on limit [] (k m bs) (ors n sc m bs k) (λ ts p l. no_or_back limit n sc m bs k ts p l) (way limit (k m bs))
way limit (expr n sc m k) = then_on limit (path_tokens any_path) (k (expr_marks sc m (g.path_expr any_path)) (q.QueryPath (path_tree any_path))) (expr n sc m k) (λ ts p l. (g.path_expr any_path, tt, record { behind = ts; parts = refl; goes_on = l })) (way limit (k (expr_marks sc m (g.path_expr any_path)) (q.QueryPath (path_tree any_path))))
way limit (rest n sc m es k) = then_on limit [] (k m es) (rest n sc m es k) (λ ts p l. no_rest_back limit n sc m es k ts p l) (way limit (k m es))
way limit (inner n sc m k) = then_on limit (TSign signs.ParenClose ∷ []) (k m q.Empty) (inner n sc m k) (λ ts p l. (g.closed, tt, record { behind = ts; parts = refl; goes_on = l })) (way limit (k m q.Empty))
way limit (clauses sc m cs k) = then_on limit [] (k sc m cs) (clauses sc m cs k) (λ ts p l. no_clause_back limit sc m cs k ts p l) (way limit (k sc m cs))
way limit (condition n sc m k) = then_on limit [] (k m None) (condition n sc m k) (λ ts p l. no_where_back limit n sc m k ts p l) (way limit (k m None))
way limit (tag n sc m x k) = then_on limit (TSign signs.EmptyEnd ∷ []) (k m []) (tag n sc m x k) (λ ts p l. (g.short, tt, record { behind = ts; parts = refl; goes_on = l })) (way limit (k m []))
way limit (content n sc m x es k) = then_on limit (content_tokens x g.ended) (k m (es ++ [])) (content n sc m x es k) (λ ts p l. (g.ended, tt, record { behind = ts; parts = refl; goes_on = l })) (way limit (k m (es ++ [])))
