-- What the grammar spells, the machine reads.
use Rattle.std.proofs.Common.{ℕ, ◌≡◌, ◌+◌, Bool, true, false, not, ◌||◌, cond, List, [], ◌∷◌, ◌++◌, Option, Some, None, Result, Ok, refl, sym, ap, ◌∙◌, append_assoc, append-nil}
use Rattle.std.specs.Prelude.{bytes_eq}
use Rattle.std.proofs.lemmas.Slice.Eq.{bytes_eq-Decides}
use Rattle.gcx_base.specs.declared.rel.Rel.{Rel}
use Rattle.gcx_base.specs.declared.rel.Rel.TheVariants as rels
use Rattle.gcx_base.specs.declared.steps.Axis.{Axis}
use Rattle.gcx_base.specs.declared.steps.Axis.TheVariants as axes
use Rattle.gcx_base.specs.declared.steps.Step.{Step}
use Rattle.gcx_base.specs.declared.steps.Test.TheVariants as tests
use Rattle.gcx_model.specs.declared.query.Clause.{Clause}
use Rattle.gcx_model.specs.declared.query.QOperand.{QOperand}
use Rattle.gcx_model.specs.declared.query.QOperand.TheVariants as sides
use Rattle.gcx_model.specs.Query as q
use Rattle.gcx_model.specs.Query.{QueryCondTree, ExprTree, exprs_of}
use Rattle.xq_lex.specs.declared.sign.Sign.TheVariants as signs
use Rattle.xq_parse.specs.declared.refusal.Why.{Why}
use Rattle.xq_parse.specs.declared.route.Trail.{Trail}
use Rattle.xq_parse.specs.declared.route.Route.{Route}
use Rattle.xq_parse.specs.declared.marks.Marks.{Marks}
use Rattle.xq_parse.specs.Tokens.{Token, TName, TVar, TNum, TStr, TSlash, TSlashes, TSign, return_, then_, else_, or_, and_, text_, node_, child_, descendant_}
use Rattle.xq_parse.specs.Grammar as g
use Rattle.xq_parse.specs.Grammar.{a_step, a_clause, all_of, any_of, seq_of, test_tokens, test_tree, step_tokens, step_tree, steps_tokens, path_tokens, path_tree, source_tokens, operand_tokens, operand_tree, literal_token, literal_tree, rel_sign, cond_tokens, derived_cond, ors_tokens, ors_tree, all_tokens, all_tree, ands_tokens, ands_tree, atom_tokens, atom_tree, CondFits, OrsFits, AllFits, AndsFits, AtomFits, clause_tokens, clause_tree, clauses_tokens, clauses_tree, where_tokens, where_tree, WhereFits, expr_tokens, derived_expr, ExprFits, inner_tokens, inner_tree, InnerFits, rest_tokens, rest_tree, RestFits, tag_tokens, tag_tree, TagFits, content_tokens, content_tree, ContentFits}
use Rattle.xq_parse.specs.Places.{Scope, step_place, clause_scope, clauses_scope}
use Rattle.xq_parse.specs.Machine.{State, Found, done, sign, word, axis, axis_or_name, test, call_or_name, first_step, steps, source, path, rel, operand, atom, ands, ors, expr, rest, inner, clauses, condition, tag, content, no_trail, a_var, a_route, no_marks, seen, seen_in_order, steps_behind, steps_state, with_start, side_seen, path_seen, close_list, after_brace, after_nested, more_ands, more_ors, more_rest, more_clauses, atoms_state, all_state, alls_state, cond_state, clause_state, clauses_state, list_state, for_state, head_state, if_state, elem_state, group_state, not_state, exists_state, literal_state, compare_state, members, step, start}
use Rattle.xq_parse.specs.Reading.{a_found}
use Rattle.xq_parse.proofs.Lang.{reads, onto}
use Rattle.xq_parse.proofs.Routes.{from_var_is, from_root_is, in_var_is, in_root_is}
use Rattle.xq_parse.proofs.Folds.{trail_behind, path_route, source_route, path_marks, operand_marks, cond_marks, ors_marks, all_marks, ands_marks, atom_marks, clause_marks, clauses_marks, where_marks, expr_marks, inner_marks, rest_marks, tag_marks, content_marks}

-- Tokens that don't go on with a name test: no `(` and no `::` first.
abbrev pub no_call : List Token → Bool
no_call [] = true
no_call (TSign signs.ParenOpen ∷ ts) = false
no_call (TSign signs.Axis ∷ ts) = false
no_call (t ∷ ts) = true

-- nor with a path
abbrev pub no_step : List Token → Bool
no_step [] = true
no_step (TSign signs.ParenOpen ∷ ts) = false
no_step (TSign signs.Axis ∷ ts) = false
no_step (TSlash at ∷ ts) = false
no_step (TSlashes at ∷ ts) = false
no_step (t ∷ ts) = true

pub step_call : (ts : List Token) → no_step ts ≡ true → no_call ts ≡ true
step_call [] h = refl
step_call (TName x ∷ ts) h = refl
step_call (TVar at x ∷ ts) h = refl
step_call (TNum u ∷ ts) h = refl
step_call (TStr x ∷ ts) h = refl
step_call (TSlash at ∷ ts) h = refl
step_call (TSlashes at ∷ ts) h = refl
step_call (TSign signs.ParenOpen ∷ ts) h = h
step_call (TSign signs.Axis ∷ ts) h = h
step_call (TSign s ∷ ts) h = refl

-- `text` or `node` as a name
call_over : (limit : ℕ) (d : Axis) (x : List ℕ) (k : Step → State) (ts : List Token) → no_call ts ≡ true → reads limit (call_or_name d x k) ts ≡ reads limit (k (a_step d (tests.Named x))) ts
call_over limit d x k [] h = refl
call_over limit d x k (TSign signs.ParenOpen ∷ ts) h = absurd cc
call_over limit d x k (TName y ∷ ts) h = refl
call_over limit d x k (TVar at y ∷ ts) h = refl
call_over limit d x k (TNum y ∷ ts) h = refl
call_over limit d x k (TStr y ∷ ts) h = refl
call_over limit d x k (TSlash at ∷ ts) h = refl
call_over limit d x k (TSlashes at ∷ ts) h = refl
call_over limit d x k (TSign s ∷ ts) h = refl

colons_over : (limit : ℕ) (x : List ℕ) (k : Step → State) (ts : List Token) → no_call ts ≡ true → reads limit (axis_or_name x k) ts ≡ reads limit (k (a_step axes.Child (tests.Named x))) ts
colons_over limit x k [] h = refl
colons_over limit x k (TSign signs.Axis ∷ ts) h = absurd cc
colons_over limit x k (TName y ∷ ts) h = refl
colons_over limit x k (TVar at y ∷ ts) h = refl
colons_over limit x k (TNum y ∷ ts) h = refl
colons_over limit x k (TStr y ∷ ts) h = refl
colons_over limit x k (TSlash at ∷ ts) h = refl
colons_over limit x k (TSlashes at ∷ ts) h = refl
colons_over limit x k (TSign s ∷ ts) h = refl

name_reads : (limit : ℕ) (d : Axis) (k : Step → State) (x : List ℕ) (ts : List Token) → no_call ts ≡ true → reads limit (test d k) (TName x ∷ ts) ≡ reads limit (k (a_step d (tests.Named x))) ts
name_reads limit d k x ts h =
    elim (bytes_eq x text_ || bytes_eq x node_) as (λ (b : Bool). reads limit (cond b (call_or_name d x k) (k (a_step d (tests.Named x)))) ts ≡ reads limit (k (a_step d (tests.Named x))) ts)
    [ true ↦ call_over limit d x k ts h | false ↦ refl ]

pub test_reads : (limit : ℕ) (d : Axis) (k : Step → State) (t : g.TestSyntax) (ts : List Token) → no_call ts ≡ true → reads limit (test d k) (test_tokens t ++ ts) ≡ reads limit (k (a_step d (test_tree t))) ts
test_reads limit d k (g.name_test x) ts h = name_reads limit d k x ts h
test_reads limit d k g.star_test ts h = refl
test_reads limit d k g.text_test ts h = refl
test_reads limit d k g.node_test ts h = refl

axis_reads : (limit : ℕ) (k : Step → State) (t : g.TestSyntax) (ts : List Token) → no_call ts ≡ true → reads limit (axis k) (test_tokens t ++ ts) ≡ reads limit (k (a_step axes.Child (test_tree t))) ts
axis_reads limit k (g.name_test x) ts h =
    elim (bytes_eq x child_ || bytes_eq x descendant_) as (λ (b : Bool). onto (cond b (Ok (axis_or_name x k)) (step limit (test axes.Child k) (TName x))) (λ u. reads limit u ts) ≡ reads limit (k (a_step axes.Child (tests.Named x))) ts)
    [ true ↦ colons_over limit x k ts h | false ↦ name_reads limit axes.Child k x ts h ]
axis_reads limit k g.star_test ts h = refl
axis_reads limit k g.text_test ts h = refl
axis_reads limit k g.node_test ts h = refl

pub step_reads : (limit : ℕ) (k : ℕ → Step → State) (s : g.StepSyntax) (ts : List Token) → no_call ts ≡ true → reads limit (first_step k) (step_tokens s ++ ts) ≡ reads limit (k (step_place s) (step_tree s)) ts
step_reads limit k (g.plain at t) ts h = axis_reads limit (k at) t ts h
step_reads limit k (g.child at t) ts h = test_reads limit axes.Child (k at) t ts h
step_reads limit k (g.descendant at t) ts h = test_reads limit axes.Descendant (k at) t ts h
step_reads limit k (g.double at t) ts h = test_reads limit axes.Descendant (k at) t ts h

steps_over : (limit : ℕ) (t : Trail) (k : Trail → State) (ts : List Token) → no_step ts ≡ true → reads limit (steps t k) ts ≡ reads limit (k t) ts
steps_over limit t k [] h = refl
steps_over limit t k (TSlash at ∷ ts) h = absurd cc
steps_over limit t k (TSlashes at ∷ ts) h = absurd cc
steps_over limit t k (TName y ∷ ts) h = refl
steps_over limit t k (TVar at y ∷ ts) h = refl
steps_over limit t k (TNum y ∷ ts) h = refl
steps_over limit t k (TStr y ∷ ts) h = refl
steps_over limit t k (TSign s ∷ ts) h = refl

-- what begins with a step
steps_first : (limit : ℕ) (t : Trail) (k : Trail → State) (s : g.StepSyntax) (ts : List Token) → reads limit (steps t k) (step_tokens s ++ ts) ≡ reads limit (first_step (steps_behind t k)) (step_tokens s ++ ts)
steps_first limit t k (g.plain at u) ts = refl
steps_first limit t k (g.child at u) ts = refl
steps_first limit t k (g.descendant at u) ts = refl
steps_first limit t k (g.double at u) ts = refl

steps_no_call : (ss : g.StepsSyntax) (ts : List Token) → no_step ts ≡ true → no_call (steps_tokens ss ++ ts) ≡ true
steps_no_call g.no_step ts h = step_call ts h
steps_no_call (g.more_steps (g.plain at t) ss) ts h = refl
steps_no_call (g.more_steps (g.child at t) ss) ts h = refl
steps_no_call (g.more_steps (g.descendant at t) ss) ts h = refl
steps_no_call (g.more_steps (g.double at t) ss) ts h = refl

pub steps_reads : (limit : ℕ) (t : Trail) (k : Trail → State) (ss : g.StepsSyntax) (ts : List Token) → no_step ts ≡ true → reads limit (steps t k) (steps_tokens ss ++ ts) ≡ reads limit (k (trail_behind t ss)) ts
steps_reads limit t k g.no_step ts h = steps_over limit t k ts h
steps_reads limit t k (g.more_steps s ss) ts h =
    ap (reads limit (steps t k)) (append_assoc (step_tokens s) (steps_tokens ss) ts)
    ∙ steps_first limit t k s (steps_tokens ss ++ ts)
    ∙ step_reads limit (steps_behind t k) s (steps_tokens ss ++ ts) (steps_no_call ss ts h)
    ∙ steps_reads limit (trail_behind t (g.more_steps s g.no_step)) k ss ts h

-- Step {Step}
pub some_reads : (limit : ℕ) (k : Trail → State) (s : g.StepSyntax) (ss : g.StepsSyntax) (ts : List Token) → no_step ts ≡ true → reads limit (steps_state k) ((step_tokens s ++ steps_tokens ss) ++ ts) ≡ reads limit (k (trail_behind no_trail (g.more_steps s ss))) ts
some_reads limit k s ss ts h =
    ap (reads limit (steps_state k)) (append_assoc (step_tokens s) (steps_tokens ss) ts)
    ∙ step_reads limit (steps_behind no_trail k) s (steps_tokens ss ++ ts) (steps_no_call ss ts h)
    ∙ steps_reads limit (trail_behind no_trail (g.more_steps s g.no_step)) k ss ts h

path_first : (limit : ℕ) (k : Route → State) (s : g.StepSyntax) (ts : List Token) → reads limit (path k) (step_tokens s ++ ts) ≡ reads limit (steps_state (with_start None k)) (step_tokens s ++ ts)
path_first limit k (g.plain at t) ts = refl
path_first limit k (g.child at t) ts = refl
path_first limit k (g.descendant at t) ts = refl
path_first limit k (g.double at t) ts = refl

-- a path, once it is known to begin with a step
root_reads : (limit : ℕ) (s : State) (k : Route → State) (r : Route) (t : g.StepSyntax) (ss : g.StepsSyntax) (ts : List Token) → no_step ts ≡ true →
    (reads limit s (step_tokens t ++ (steps_tokens ss ++ ts)) ≡ reads limit (steps_state (with_start None k)) (step_tokens t ++ (steps_tokens ss ++ ts))) →
    a_route None (trail_behind no_trail (g.more_steps t ss)) ≡ r → reads limit s ((step_tokens t ++ steps_tokens ss) ++ ts) ≡ reads limit (k r) ts
root_reads limit s k r t ss ts h first e =
    ap (reads limit s) (append_assoc (step_tokens t) (steps_tokens ss) ts)
    ∙ first
    ∙ ap (reads limit (steps_state (with_start None k))) (sym (append_assoc (step_tokens t) (steps_tokens ss) ts))
    ∙ some_reads limit (with_start None k) t ss ts h
    ∙ ap (λ (r : Route). reads limit (k r) ts) e

pub path_reads : (limit : ℕ) (k : Route → State) (p : g.Path) (ts : List Token) → no_step ts ≡ true → reads limit (path k) (path_tokens p ++ ts) ≡ reads limit (k (path_route p)) ts
path_reads limit k (g.from_var at x ss) ts h = steps_reads limit no_trail (with_start (Some (a_var at x)) k) ss ts h ∙ ap (λ (r : Route). reads limit (k r) ts) (from_var_is at x ss)
path_reads limit k (g.from_root s ss) ts h = root_reads limit (path k) k (path_route (g.from_root s ss)) s ss ts h (path_first limit k s (steps_tokens ss ++ ts)) (from_root_is s ss)

source_first : (limit : ℕ) (k : Route → State) (s : g.StepSyntax) (ts : List Token) → reads limit (source k) (step_tokens s ++ ts) ≡ reads limit (steps_state (with_start None k)) (step_tokens s ++ ts)
source_first limit k (g.plain at t) ts = refl
source_first limit k (g.child at t) ts = refl
source_first limit k (g.descendant at t) ts = refl
source_first limit k (g.double at t) ts = refl

pub source_reads : (limit : ℕ) (k : Route → State) (s : g.Source) (ts : List Token) → no_step ts ≡ true → reads limit (source k) (source_tokens s ++ ts) ≡ reads limit (k (source_route s)) ts
source_reads limit k (g.in_var at x s ss) ts h = some_reads limit (with_start (Some (a_var at x)) k) s ss ts h ∙ ap (λ (r : Route). reads limit (k r) ts) (in_var_is at x s ss)
source_reads limit k (g.in_root s ss) ts h = root_reads limit (source k) k (source_route (g.in_root s ss)) s ss ts h (source_first limit k s (steps_tokens ss ++ ts)) (in_root_is s ss)

operand_first : (limit : ℕ) (sc : Scope) (m : Marks) (k : Marks → QOperand → State) (p : g.Path) (ts : List Token) → reads limit (operand sc m k) (path_tokens p ++ ts) ≡ reads limit (path (side_seen sc m k)) (path_tokens p ++ ts)
operand_first limit sc m k (g.from_var at x ss) ts = refl
operand_first limit sc m k (g.from_root (g.plain at t) ss) ts = refl
operand_first limit sc m k (g.from_root (g.child at t) ss) ts = refl
operand_first limit sc m k (g.from_root (g.descendant at t) ss) ts = refl
operand_first limit sc m k (g.from_root (g.double at t) ss) ts = refl

pub operand_reads : (limit : ℕ) (sc : Scope) (m : Marks) (k : Marks → QOperand → State) (o : g.Operand) (ts : List Token) → no_step ts ≡ true → reads limit (operand sc m k) (operand_tokens o ++ ts) ≡ reads limit (k (operand_marks sc m o) (operand_tree o)) ts
operand_reads limit sc m k (g.path_operand p) ts h = operand_first limit sc m k p ts ∙ path_reads limit (side_seen sc m k) p ts h
operand_reads limit sc m k (g.literal_operand (g.text x)) ts h = refl
operand_reads limit sc m k (g.literal_operand (g.number u)) ts h = refl

-- ---- conditions

-- Tokens that don't begin with this word.
abbrev pub no_word : List ℕ → List Token → Bool
no_word w [] = true
no_word w (TName x ∷ ts) = not (bytes_eq x w)
no_word w (t ∷ ts) = true

-- Tokens that don't go on with what may stand between `or`s, and none that go on with a condition.
pub record EndsAll (ts : List Token) : Type 0 where
  pub path : no_step ts ≡ true
  pub ands : no_word and_ ts ≡ true

pub record EndsCond (ts : List Token) : Type 0 where
  pub all : EndsAll ts
  pub ors : no_word or_ ts ≡ true

more_over : (w x : List ℕ) (s : State) (over : Result State Why) (f : State → Option Found) → not (bytes_eq x w) ≡ true → onto (cond (bytes_eq x w) (Ok s) over) f ≡ onto over f
more_over w x s over f h = go (bytes_eq x w) h
  where
    go : (b : Bool) → not b ≡ true → onto (cond b (Ok s) over) f ≡ onto over f
    go true h = absurd cc
    go false h = refl

ands_over : (limit n : ℕ) (sc : Scope) (m : Marks) (bs : List QueryCondTree) (k : Marks → List QueryCondTree → State) (ts : List Token) → no_word and_ ts ≡ true → reads limit (ands n sc m bs k) ts ≡ reads limit (k m bs) ts
ands_over limit n sc m bs k [] h = refl
ands_over limit n sc m bs k (TName x ∷ ts) h = more_over and_ x (atom n sc m (more_ands n sc bs k)) (step limit (k m bs) (TName x)) (λ u. reads limit u ts) h
ands_over limit n sc m bs k (TVar at y ∷ ts) h = refl
ands_over limit n sc m bs k (TNum y ∷ ts) h = refl
ands_over limit n sc m bs k (TStr y ∷ ts) h = refl
ands_over limit n sc m bs k (TSlash at ∷ ts) h = refl
ands_over limit n sc m bs k (TSlashes at ∷ ts) h = refl
ands_over limit n sc m bs k (TSign s ∷ ts) h = refl

ors_over : (limit n : ℕ) (sc : Scope) (m : Marks) (bs : List QueryCondTree) (k : Marks → List QueryCondTree → State) (ts : List Token) → no_word or_ ts ≡ true → reads limit (ors n sc m bs k) ts ≡ reads limit (k m bs) ts
ors_over limit n sc m bs k [] h = refl
ors_over limit n sc m bs k (TName x ∷ ts) h = more_over or_ x (all_state n sc m (more_ors n sc bs k)) (step limit (k m bs) (TName x)) (λ u. reads limit u ts) h
ors_over limit n sc m bs k (TVar at y ∷ ts) h = refl
ors_over limit n sc m bs k (TNum y ∷ ts) h = refl
ors_over limit n sc m bs k (TStr y ∷ ts) h = refl
ors_over limit n sc m bs k (TSlash at ∷ ts) h = refl
ors_over limit n sc m bs k (TSlashes at ∷ ts) h = refl
ors_over limit n sc m bs k (TSign s ∷ ts) h = refl

ands_ends : (bs : g.Ands) (ts : List Token) → no_step ts ≡ true → no_step (ands_tokens bs ++ ts) ≡ true
ands_ends g.no_and ts h = h
ands_ends (g.and_more a bs) ts h = refl

ors_ends : (os : g.Ors) (ts : List Token) → EndsAll ts → EndsAll (ors_tokens os ++ ts)
ors_ends g.no_or ts h = h
ors_ends (g.or_more a os) ts h = record { path = refl; ands = refl }

rel_no_step : (r : Rel) (ts : List Token) → no_step (TSign (rel_sign r) ∷ ts) ≡ true
rel_no_step rels.Eq ts = refl
rel_no_step rels.Ne ts = refl
rel_no_step rels.Lt ts = refl
rel_no_step rels.Le ts = refl
rel_no_step rels.Gt ts = refl
rel_no_step rels.Ge ts = refl

rel_reads : (limit : ℕ) (k : Rel → State) (r : Rel) (ts : List Token) → reads limit (rel k) (TSign (rel_sign r) ∷ ts) ≡ reads limit (k r) ts
rel_reads limit k rels.Eq ts = refl
rel_reads limit k rels.Ne ts = refl
rel_reads limit k rels.Lt ts = refl
rel_reads limit k rels.Le ts = refl
rel_reads limit k rels.Gt ts = refl
rel_reads limit k rels.Ge ts = refl

atom_first : (limit n : ℕ) (sc : Scope) (m : Marks) (k : Marks → QueryCondTree → State) (p : g.Path) (ts : List Token) → reads limit (atom n sc m k) (path_tokens p ++ ts) ≡ reads limit (path (compare_state sc m k)) (path_tokens p ++ ts)
atom_first limit n sc m k (g.from_var at x ss) ts = refl
atom_first limit n sc m k (g.from_root (g.plain at t) ss) ts = refl
atom_first limit n sc m k (g.from_root (g.child at t) ss) ts = refl
atom_first limit n sc m k (g.from_root (g.descendant at t) ss) ts = refl
atom_first limit n sc m k (g.from_root (g.double at t) ss) ts = refl

exists_reads : (limit : ℕ) (sc : Scope) (m : Marks) (k : Marks → QueryCondTree → State) (p : g.Path) (ts : List Token) → reads limit (exists_state sc m k) (TSign signs.ParenOpen ∷ (path_tokens p ++ (TSign signs.ParenClose ∷ ts))) ≡ reads limit (k (path_marks sc m p) (q.QueryExists (path_tree p))) ts
unfolding exists_state
exists_reads limit sc m k p ts = path_reads limit (λ r. sign signs.ParenClose (k (seen sc m r) (q.QueryExists r.path))) p (TSign signs.ParenClose ∷ ts) refl

literal_reads : (limit : ℕ) (sc : Scope) (m : Marks) (k : Marks → QueryCondTree → State) (l : QOperand) (r : Rel) (p : g.Path) (ts : List Token) → no_step ts ≡ true → reads limit (literal_state l sc m k) (TSign (rel_sign r) ∷ (path_tokens p ++ ts)) ≡ reads limit (k (path_marks sc m p) (q.QueryCompare l r (sides.Path (path_tree p)))) ts
unfolding literal_state
literal_reads limit sc m k l r p ts h = rel_reads limit (λ c. path (λ r. k (seen sc m r) (q.QueryCompare l c (sides.Path r.path)))) r (path_tokens p ++ ts) ∙ path_reads limit (λ s. k (seen sc m s) (q.QueryCompare l r (sides.Path s.path))) p ts h

ends_paren : (ts : List Token) → EndsCond (TSign signs.ParenClose ∷ ts)
ends_paren ts = record { all = record { path = refl; ands = refl }; ors = refl }

abbrev close_cond : (Marks → QueryCondTree → State) → Marks → QueryCondTree → State
close_cond k m c = sign signs.ParenClose (k m c)

group_reads : (limit n : ℕ) (sc : Scope) (m : Marks) (k : Marks → QueryCondTree → State) (c : g.Cond) (ts : List Token) →
    reads limit (cond_state n sc m (close_cond k)) (cond_tokens c ++ (TSign signs.ParenClose ∷ ts)) ≡ reads limit (k (cond_marks sc m c) (derived_cond c)) ts →
    reads limit (group_state n sc m k) ((cond_tokens c ++ (TSign signs.ParenClose ∷ [])) ++ ts) ≡ reads limit (k (cond_marks sc m c) (derived_cond c)) ts
unfolding group_state
group_reads limit n sc m k c ts e = ap (reads limit (cond_state n sc m (close_cond k))) (append_assoc (cond_tokens c) (TSign signs.ParenClose ∷ []) ts) ∙ e

abbrev any_then : (Marks → QueryCondTree → State) → Marks → List QueryCondTree → State
any_then k m os = k m (any_of os)

abbrev all_then : (Marks → QueryCondTree → State) → Marks → List QueryCondTree → State
all_then k m bs = k m (all_of bs)

mutual
  unfolding cond_state all_state not_state

  pub cond_reads : (limit n : ℕ) (sc : Scope) (m : Marks) (k : Marks → QueryCondTree → State) (c : g.Cond) (ts : List Token) → CondFits limit n c → EndsCond ts → reads limit (cond_state n sc m k) (cond_tokens c ++ ts) ≡ reads limit (k (cond_marks sc m c) (derived_cond c)) ts
  cond_reads limit n sc m k (g.cond_of a os) ts f h =
      ap (reads limit (alls_state n sc m (any_then k))) (append_assoc (all_tokens a) (ors_tokens os) ts)
      ∙ all_reads limit n sc m (more_ors n sc [] (any_then k)) a (ors_tokens os ++ ts) f.0 (ors_ends os ts h.all)
      ∙ ors_reads limit n sc (all_marks sc m a) (all_tree a ∷ []) (any_then k) os ts f.1 h

  pub ors_reads : (limit n : ℕ) (sc : Scope) (m : Marks) (bs : List QueryCondTree) (k : Marks → List QueryCondTree → State) (os : g.Ors) (ts : List Token) → OrsFits limit n os → EndsCond ts → reads limit (ors n sc m bs k) (ors_tokens os ++ ts) ≡ reads limit (k (ors_marks sc m os) (bs ++ ors_tree os)) ts
  ors_reads limit n sc m bs k g.no_or ts f h = ors_over limit n sc m bs k ts h.ors ∙ ap (λ (l : List QueryCondTree). reads limit (k m l) ts) (sym (append-nil bs))
  ors_reads limit n sc m bs k (g.or_more a os) ts f h =
      ap (reads limit (all_state n sc m (more_ors n sc bs k))) (append_assoc (all_tokens a) (ors_tokens os) ts)
      ∙ all_reads limit n sc m (more_ors n sc bs k) a (ors_tokens os ++ ts) f.0 (ors_ends os ts h.all)
      ∙ ors_reads limit n sc (all_marks sc m a) (bs ++ (all_tree a ∷ [])) k os ts f.1 h
      ∙ ap (λ (l : List QueryCondTree). reads limit (k (ors_marks sc (all_marks sc m a) os) l) ts) (append_assoc bs (all_tree a ∷ []) (ors_tree os))

  pub all_reads : (limit n : ℕ) (sc : Scope) (m : Marks) (k : Marks → QueryCondTree → State) (a : g.All) (ts : List Token) → AllFits limit n a → EndsAll ts → reads limit (all_state n sc m k) (all_tokens a ++ ts) ≡ reads limit (k (all_marks sc m a) (all_tree a)) ts
  all_reads limit n sc m k (g.all a bs) ts f h =
      ap (reads limit (atoms_state n sc m (all_then k))) (append_assoc (atom_tokens a) (ands_tokens bs) ts)
      ∙ atom_reads limit n sc m (more_ands n sc [] (all_then k)) a (ands_tokens bs ++ ts) f.0 (ands_ends bs ts h.path)
      ∙ ands_reads limit n sc (atom_marks sc m a) (atom_tree a ∷ []) (all_then k) bs ts f.1 h

  pub ands_reads : (limit n : ℕ) (sc : Scope) (m : Marks) (bs : List QueryCondTree) (k : Marks → List QueryCondTree → State) (os : g.Ands) (ts : List Token) → AndsFits limit n os → EndsAll ts → reads limit (ands n sc m bs k) (ands_tokens os ++ ts) ≡ reads limit (k (ands_marks sc m os) (bs ++ ands_tree os)) ts
  ands_reads limit n sc m bs k g.no_and ts f h = ands_over limit n sc m bs k ts h.ands ∙ ap (λ (l : List QueryCondTree). reads limit (k m l) ts) (sym (append-nil bs))
  ands_reads limit n sc m bs k (g.and_more a os) ts f h =
      ap (reads limit (atom n sc m (more_ands n sc bs k))) (append_assoc (atom_tokens a) (ands_tokens os) ts)
      ∙ atom_reads limit n sc m (more_ands n sc bs k) a (ands_tokens os ++ ts) f.0 (ands_ends os ts h.path)
      ∙ ands_reads limit n sc (atom_marks sc m a) (bs ++ (atom_tree a ∷ [])) k os ts f.1 h
      ∙ ap (λ (l : List QueryCondTree). reads limit (k (ands_marks sc (atom_marks sc m a) os) l) ts) (append_assoc bs (atom_tree a ∷ []) (ands_tree os))

  pub atom_reads : (limit n : ℕ) (sc : Scope) (m : Marks) (k : Marks → QueryCondTree → State) (a : g.Atom) (ts : List Token) → AtomFits limit n a → no_step ts ≡ true → reads limit (atom n sc m k) (atom_tokens a ++ ts) ≡ reads limit (k (atom_marks sc m a) (atom_tree a)) ts
  atom_reads limit n sc m k (g.negated c) ts f h = rw (f.0) (group_reads limit (n + 1) sc m (λ m c. k m (q.QueryNot c)) c ts (cond_reads limit (n + 1) sc m (close_cond (λ m c. k m (q.QueryNot c))) c (TSign signs.ParenClose ∷ ts) f.1 (ends_paren ts)))
  atom_reads limit n sc m k g.always ts f h = refl
  atom_reads limit n sc m k (g.existing p) ts f h =
      ap (λ (l : List Token). reads limit (exists_state sc m k) (TSign signs.ParenOpen ∷ l)) (append_assoc (path_tokens p) (TSign signs.ParenClose ∷ []) ts) ∙ exists_reads limit sc m k p ts
  atom_reads limit n sc m k (g.grouped c) ts f h = rw (f.0) (group_reads limit (n + 1) sc m k c ts (cond_reads limit (n + 1) sc m (close_cond k) c (TSign signs.ParenClose ∷ ts) f.1 (ends_paren ts)))
  atom_reads limit n sc m k (g.compared p r o) ts f h =
      let next : Rel → State = λ c. operand sc (path_marks sc m p) (λ m o. k m (q.QueryCompare (sides.Path (path_tree p)) c o)) in
      ap (reads limit (atom n sc m k)) (append_assoc (path_tokens p) (TSign (rel_sign r) ∷ operand_tokens o) ts)
      ∙ atom_first limit n sc m k p (TSign (rel_sign r) ∷ (operand_tokens o ++ ts))
      ∙ path_reads limit (compare_state sc m k) p (TSign (rel_sign r) ∷ (operand_tokens o ++ ts)) (rel_no_step r (operand_tokens o ++ ts))
      ∙ rel_reads limit next r (operand_tokens o ++ ts)
      ∙ operand_reads limit sc (path_marks sc m p) (λ m o. k m (q.QueryCompare (sides.Path (path_tree p)) r o)) o ts h
  atom_reads limit n sc m k (g.literal_first (g.text x) r p) ts f h = literal_reads limit sc m k (sides.Str x) r p ts h
  atom_reads limit n sc m k (g.literal_first (g.number u) r p) ts f h = literal_reads limit sc m k (sides.Num u) r p ts h

-- ---- expressions

clause_reads : (limit : ℕ) (sc : Scope) (m : Marks) (k : Marks → Clause → State) (c : g.ClauseSyntax) (ts : List Token) → no_step ts ≡ true → reads limit (clause_state sc m k) (clause_tokens c ++ ts) ≡ reads limit (k (clause_marks sc m c) (clause_tree c)) ts
unfolding clause_state
clause_reads limit sc m k (g.clause at x s) ts h = source_reads limit (λ r. k (seen_in_order sc m r) (a_clause x r.path)) s ts h

clauses_ends : (cs : g.Clauses) (ts : List Token) → no_step ts ≡ true → no_step (clauses_tokens cs ++ ts) ≡ true
clauses_ends g.no_clause ts h = h
clauses_ends (g.clause_more c cs) ts h = refl

-- a clause's variable stands in scope behind it
scope_is : (sc : Scope) (c : g.ClauseSyntax) → (clause_tree c).var ∷ sc ≡ clause_scope sc c
scope_is sc (g.clause at x s) = refl

later_clauses : (limit : ℕ) (sc : Scope) (m : Marks) (before : List Clause) (k : Scope → Marks → List Clause → State) (cs : g.Clauses) (ts : List Token) → no_step ts ≡ true → reads limit (clauses sc m before k) (clauses_tokens cs ++ ts) ≡ reads limit (clauses (clauses_scope sc cs) (clauses_marks sc m cs) (before ++ clauses_tree cs) k) ts
later_clauses limit sc m before k g.no_clause ts h = ap (λ (l : List Clause). reads limit (clauses sc m l k) ts) (sym (append-nil before))
later_clauses limit sc m before k (g.clause_more c cs) ts h =
    ap (λ (l : List Token). reads limit (clause_state sc m (more_clauses sc before k)) l) (append_assoc (clause_tokens c) (clauses_tokens cs) ts)
    ∙ clause_reads limit sc m (more_clauses sc before k) c (clauses_tokens cs ++ ts) (clauses_ends cs ts h)
    ∙ ap (λ (s : Scope). reads limit (clauses s (clause_marks sc m c) (before ++ (clause_tree c ∷ [])) k) (clauses_tokens cs ++ ts)) (scope_is sc c)
    ∙ later_clauses limit (clause_scope sc c) (clause_marks sc m c) (before ++ (clause_tree c ∷ [])) k cs ts h
    ∙ ap (λ (l : List Clause). reads limit (clauses (clauses_scope (clause_scope sc c) cs) (clauses_marks (clause_scope sc c) (clause_marks sc m c) cs) l k) ts) (append_assoc before (clause_tree c ∷ []) (clauses_tree cs))

-- the tokens before `return`
where_ends : (w : g.Where) (ts : List Token) → no_step (where_tokens w ++ (TName return_ ∷ ts)) ≡ true
where_ends g.no_where ts = refl
where_ends (g.where_cond c) ts = refl

abbrev filter_then : ℕ → (Scope → Marks → List Clause → Option QueryCondTree → State) → Scope → Marks → List Clause → State
filter_then n k sc m cs = condition n sc m (λ m w. word return_ (k sc m cs w))

where_reads : (limit n : ℕ) (sc : Scope) (m : Marks) (cs : List Clause) (k : Scope → Marks → List Clause → Option QueryCondTree → State) (w : g.Where) (ts : List Token) → WhereFits limit n w →
    reads limit (clauses sc m cs (filter_then n k)) (where_tokens w ++ (TName return_ ∷ ts)) ≡ reads limit (k sc (where_marks sc m w) cs (where_tree w)) ts
where_reads limit n sc m cs k g.no_where ts f = refl
where_reads limit n sc m cs k (g.where_cond c) ts f = cond_reads limit n sc m (λ m c. word return_ (k sc m cs (Some c))) c (TName return_ ∷ ts) f (record { all = record { path = refl; ands = refl }; ors = refl })

expr_first : (limit n : ℕ) (sc : Scope) (m : Marks) (k : Marks → ExprTree → State) (p : g.Path) (ts : List Token) → reads limit (expr n sc m k) (path_tokens p ++ ts) ≡ reads limit (path (path_seen sc m k)) (path_tokens p ++ ts)
expr_first limit n sc m k (g.from_var at x ss) ts = refl
expr_first limit n sc m k (g.from_root (g.plain at t) ss) ts = refl
expr_first limit n sc m k (g.from_root (g.child at t) ss) ts = refl
expr_first limit n sc m k (g.from_root (g.descendant at t) ss) ts = refl
expr_first limit n sc m k (g.from_root (g.double at t) ss) ts = refl

inner_path : (limit n : ℕ) (sc : Scope) (m : Marks) (k : Marks → ExprTree → State) (p : g.Path) (ts : List Token) → reads limit (inner n sc m k) (path_tokens p ++ ts) ≡ reads limit (expr n sc m (members n sc k)) (path_tokens p ++ ts)
inner_path limit n sc m k (g.from_var at x ss) ts = refl
inner_path limit n sc m k (g.from_root (g.plain at t) ss) ts = refl
inner_path limit n sc m k (g.from_root (g.child at t) ss) ts = refl
inner_path limit n sc m k (g.from_root (g.descendant at t) ss) ts = refl
inner_path limit n sc m k (g.from_root (g.double at t) ss) ts = refl

inner_first : (limit n : ℕ) (sc : Scope) (m : Marks) (k : Marks → ExprTree → State) (e : g.Expr) (ts : List Token) → reads limit (inner n sc m k) (expr_tokens e ++ ts) ≡ reads limit (expr n sc m (members n sc k)) (expr_tokens e ++ ts)
inner_first limit n sc m k (g.for_expr c cs w e) ts = refl
inner_first limit n sc m k (g.if_expr c a b) ts = refl
inner_first limit n sc m k (g.elem_expr x t) ts = refl
inner_first limit n sc m k (g.paren_expr i) ts = refl
inner_first limit n sc m k (g.path_expr p) ts = inner_path limit n sc m k p ts

rest_ends : (r : g.Rest) (ts : List Token) → no_step ts ≡ true → no_step (rest_tokens r ++ ts) ≡ true
rest_ends g.no_rest ts h = h
rest_ends (g.rest_more e r) ts h = refl

four : (a b c d e : List Token) → (a ++ (b ++ (c ++ d))) ++ e ≡ a ++ (b ++ (c ++ (d ++ e)))
four a b c d e = simp append_assoc

three : (a b c d : List Token) → (a ++ (b ++ c)) ++ d ≡ a ++ (b ++ (c ++ d))
three a b c d = simp append_assoc

bytes_same : (x : List ℕ) → bytes_eq x x ≡ true
bytes_same x = (bytes_eq-Decides x x).1 refl

mutual
  unfolding for_state if_state head_state elem_state

  pub expr_reads : (limit n : ℕ) (sc : Scope) (m : Marks) (k : Marks → ExprTree → State) (e : g.Expr) (ts : List Token) → ExprFits limit n e → no_step ts ≡ true → reads limit (expr n sc m k) (expr_tokens e ++ ts) ≡ reads limit (k (expr_marks sc m e) (derived_expr e)) ts
  expr_reads limit n sc m k (g.for_expr c cs w e) ts f h =
      let d = n + 1 in
      let body : Scope → Marks → List Clause → Option QueryCondTree → State = λ sc m cs w. expr d sc m (λ m e. k m (q.QueryFor cs w e)) in
      let behind : List Token = where_tokens w ++ (TName return_ ∷ (expr_tokens e ++ ts)) in
      let inside : Scope = clauses_scope (clause_scope sc c) cs in
      let marked : Marks = clauses_marks (clause_scope sc c) (clause_marks sc m c) cs in
      rw (f.0) (
      ap (reads limit (clauses_state sc m (filter_then d body))) (four (clause_tokens c) (clauses_tokens cs) (where_tokens w) (TName return_ ∷ expr_tokens e) ts)
      ∙ clause_reads limit sc m (more_clauses sc [] (filter_then d body)) c (clauses_tokens cs ++ behind) (clauses_ends cs behind (where_ends w (expr_tokens e ++ ts)))
      ∙ ap (λ (s : Scope). reads limit (clauses s (clause_marks sc m c) (clause_tree c ∷ []) (filter_then d body)) (clauses_tokens cs ++ behind)) (scope_is sc c)
      ∙ later_clauses limit (clause_scope sc c) (clause_marks sc m c) (clause_tree c ∷ []) (filter_then d body) cs behind (where_ends w (expr_tokens e ++ ts))
      ∙ where_reads limit d inside marked (clause_tree c ∷ clauses_tree cs) body w (expr_tokens e ++ ts) f.1
      ∙ expr_reads limit d inside (where_marks inside marked w) (λ m e. k m (q.QueryFor (clause_tree c ∷ clauses_tree cs) (where_tree w) e)) e ts f.2 h)
  expr_reads limit n sc m k (g.if_expr c a b) ts f h =
      let d = n + 1 in
      let other : QueryCondTree → Marks → ExprTree → State = λ c m a. expr d sc m (λ m b. k m (q.QueryIf c a b)) in
      let this : Marks → QueryCondTree → State = λ m c. expr d sc m (λ m a. word else_ (other c m a)) in
      let next : Marks → QueryCondTree → State = λ m c. sign signs.ParenClose (word then_ (this m c)) in
      let last : List Token = TName else_ ∷ (expr_tokens b ++ ts) in
      let marked : Marks = cond_marks sc m c in
      rw (f.0) (
      ap (reads limit (cond_state d sc m next)) (append_assoc (cond_tokens c) (TSign signs.ParenClose ∷ TName then_ ∷ (expr_tokens a ++ (TName else_ ∷ expr_tokens b))) ts)
      ∙ cond_reads limit d sc m next c (TSign signs.ParenClose ∷ TName then_ ∷ ((expr_tokens a ++ (TName else_ ∷ expr_tokens b)) ++ ts)) f.1 (record { all = record { path = refl; ands = refl }; ors = refl })
      ∙ ap (reads limit (this marked (derived_cond c))) (append_assoc (expr_tokens a) (TName else_ ∷ expr_tokens b) ts)
      ∙ expr_reads limit d sc marked (λ m a. word else_ (other (derived_cond c) m a)) a last f.2 refl
      ∙ expr_reads limit d sc (expr_marks sc marked a) (λ m b. k m (q.QueryIf (derived_cond c) (derived_expr a) b)) b ts f.3 h)
  expr_reads limit n sc m k (g.elem_expr x t) ts f h = rw (f.0) (tag_reads limit (n + 1) sc m x (λ m es. k m (q.Elem x (exprs_of es))) t ts f.1)
  expr_reads limit n sc m k (g.paren_expr i) ts f h = rw (f.0) (inner_reads limit (n + 1) sc m k i ts f.1)
  expr_reads limit n sc m k (g.path_expr p) ts f h = expr_first limit n sc m k p ts ∙ path_reads limit (path_seen sc m k) p ts h

  pub inner_reads : (limit n : ℕ) (sc : Scope) (m : Marks) (k : Marks → ExprTree → State) (i : g.Inner) (ts : List Token) → InnerFits limit n i → reads limit (inner n sc m k) (inner_tokens i ++ ts) ≡ reads limit (k (inner_marks sc m i) (inner_tree i)) ts
  inner_reads limit n sc m k g.closed ts f = refl
  inner_reads limit n sc m k (g.listed e r) ts f =
      ap (reads limit (inner n sc m k)) (three (expr_tokens e) (rest_tokens r) (TSign signs.ParenClose ∷ []) ts)
      ∙ inner_first limit n sc m k e (rest_tokens r ++ (TSign signs.ParenClose ∷ ts))
      ∙ expr_reads limit n sc m (members n sc k) e (rest_tokens r ++ (TSign signs.ParenClose ∷ ts)) f.0 (rest_ends r (TSign signs.ParenClose ∷ ts) refl)
      ∙ rest_reads limit n sc (expr_marks sc m e) (derived_expr e ∷ []) (close_list k) r (TSign signs.ParenClose ∷ ts) f.1 refl

  pub rest_reads : (limit n : ℕ) (sc : Scope) (m : Marks) (es : List ExprTree) (k : Marks → List ExprTree → State) (r : g.Rest) (ts : List Token) → RestFits limit n r → no_step ts ≡ true → reads limit (rest n sc m es k) (rest_tokens r ++ ts) ≡ reads limit (rest n sc (rest_marks sc m r) (es ++ rest_tree r) k) ts
  rest_reads limit n sc m es k g.no_rest ts f h = ap (λ (l : List ExprTree). reads limit (rest n sc m l k) ts) (sym (append-nil es))
  rest_reads limit n sc m es k (g.rest_more e r) ts f h =
      ap (reads limit (expr n sc m (more_rest n sc es k))) (append_assoc (expr_tokens e) (rest_tokens r) ts)
      ∙ expr_reads limit n sc m (more_rest n sc es k) e (rest_tokens r ++ ts) f.0 (rest_ends r ts h)
      ∙ rest_reads limit n sc (expr_marks sc m e) (es ++ (derived_expr e ∷ [])) k r ts f.1 h
      ∙ ap (λ (l : List ExprTree). reads limit (rest n sc (rest_marks sc (expr_marks sc m e) r) l k) ts) (append_assoc es (derived_expr e ∷ []) (rest_tree r))

  pub tag_reads : (limit n : ℕ) (sc : Scope) (m : Marks) (x : List ℕ) (k : Marks → List ExprTree → State) (t : g.Tag) (ts : List Token) → TagFits limit n t → reads limit (tag n sc m x k) (tag_tokens x t ++ ts) ≡ reads limit (k (tag_marks sc m t) (tag_tree t)) ts
  tag_reads limit n sc m x k g.short ts f = refl
  tag_reads limit n sc m x k (g.long c) ts f = content_reads limit n sc m x [] k c ts f

  pub content_reads : (limit n : ℕ) (sc : Scope) (m : Marks) (x : List ℕ) (es : List ExprTree) (k : Marks → List ExprTree → State) (c : g.Content) (ts : List Token) → ContentFits limit n c → reads limit (content n sc m x es k) (content_tokens x c ++ ts) ≡ reads limit (k (content_marks sc m c) (es ++ content_tree c)) ts
  content_reads limit n sc m x es k g.ended ts f = rw (bytes_same x) (ap (λ (l : List ExprTree). reads limit (k m l) ts) (sym (append-nil es)))
  content_reads limit n sc m x es k (g.nested y t c) ts f =
      rw (f.0) (
      ap (reads limit (tag (n + 1) sc m y (λ m bs. after_nested n sc x es k m (q.Elem y (exprs_of bs))))) (append_assoc (tag_tokens y t) (content_tokens x c) ts)
      ∙ tag_reads limit (n + 1) sc m y (λ m bs. after_nested n sc x es k m (q.Elem y (exprs_of bs))) t (content_tokens x c ++ ts) f.1
      ∙ content_reads limit n sc (tag_marks sc m t) x (es ++ (q.Elem y (exprs_of (tag_tree t)) ∷ [])) k c ts f.2
      ∙ ap (λ (l : List ExprTree). reads limit (k (content_marks sc (tag_marks sc m t) c) l) ts) (append_assoc es (q.Elem y (exprs_of (tag_tree t)) ∷ []) (content_tree c)))
  content_reads limit n sc m x es k (g.braced e r c) ts f =
      let next : Marks → List ExprTree → State = after_brace n sc x es k in
      let last : List Token = TSign signs.BraceClose ∷ (content_tokens x c ++ ts) in
      let marked : Marks = rest_marks sc (expr_marks sc m e) r in
      ap (reads limit (list_state n sc m next)) (three (expr_tokens e) (rest_tokens r) (TSign signs.BraceClose ∷ content_tokens x c) ts)
      ∙ expr_reads limit n sc m (more_rest n sc [] next) e (rest_tokens r ++ last) f.0 (rest_ends r last refl)
      ∙ rest_reads limit n sc (expr_marks sc m e) (derived_expr e ∷ []) next r last f.1 refl
      ∙ content_reads limit n sc marked x (es ++ (derived_expr e ∷ rest_tree r)) k c ts f.2
      ∙ ap (λ (l : List ExprTree). reads limit (k (content_marks sc marked c) l) ts) (append_assoc es (derived_expr e ∷ rest_tree r) (content_tree c))

-- what the machine finds of a derivation
abbrev pub found_of : g.Derivation → Found
found_of d = a_found (rest_marks [] (expr_marks [] no_marks d.first) d.others) (g.derivation_tree d)

-- What spells a query leads to it.
pub derives_reads : (limit : ℕ) (ts : List Token) (d : g.Derivation) → g.Derives limit ts d → reads limit start ts ≡ Some (found_of d)
derives_reads limit ts d s =
    ap (reads limit start) (sym s.spelled)
    ∙ ap (λ (l : List Token). reads limit start (expr_tokens d.first ++ l)) (sym (append-nil (rest_tokens d.others)))
    ∙ expr_reads limit 0 [] no_marks (λ m e. rest 0 [] m (e ∷ []) (λ m es. done m es)) d.first (rest_tokens d.others ++ []) s.fits.0 (rest_ends d.others [] refl)
    ∙ rest_reads limit 0 [] (expr_marks [] no_marks d.first) (derived_expr d.first ∷ []) (λ m es. done m es) d.others [] s.fits.1 refl
