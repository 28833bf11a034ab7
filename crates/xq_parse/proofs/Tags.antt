-- The machine waits for the name of an end tag exactly behind `</`.
use Rattle.std.proofs.Common.{ℕ, ◌≡◌, ◌+◌, Bool, true, false, ◌||◌, nat_lt, cond, List, [], Option, Some, None, Result, Ok, Err, refl, sym, subst}
use Rattle.std.specs.Prelude.{bytes_eq}
use Rattle.gcx_base.specs.declared.rel.Rel.{Rel}
use Rattle.gcx_base.specs.declared.steps.Axis.{Axis}
use Rattle.gcx_base.specs.declared.steps.Axis.TheVariants as axes
use Rattle.gcx_base.specs.declared.steps.Step.{Step}
use Rattle.gcx_base.specs.declared.steps.Test.TheVariants as tests
use Rattle.gcx_model.specs.declared.query.Clause.{Clause}
use Rattle.gcx_model.specs.declared.query.QOperand.{QOperand}
use Rattle.gcx_model.specs.declared.query.QOperand.TheVariants as sides
use Rattle.gcx_model.specs.Query as q
use Rattle.gcx_model.specs.Query.{QueryCondTree, ExprTree, exprs_of}
use Rattle.xq_lex.specs.declared.sign.Sign.{Sign}
use Rattle.xq_lex.specs.declared.sign.Sign.TheVariants as signs
use Rattle.xq_parse.specs.declared.refusal.Why.{Why}
use Rattle.xq_parse.specs.declared.refusal.Why.TheVariants.{Syntax, TagMismatch, Nesting}
use Rattle.xq_parse.specs.declared.route.Trail.{Trail}
use Rattle.xq_parse.specs.declared.route.Route.{Route}
use Rattle.xq_parse.specs.declared.marks.Marks.{Marks}
use Rattle.xq_parse.specs.Signs.{sign_eq}
use Rattle.xq_parse.specs.Tokens.{Token, TName, TVar, TNum, TStr, TSlash, TSlashes, TSign, for_, where_, return_, if_, then_, else_, or_, and_, not_, true_, exists_, text_, node_, child_, descendant_}
use Rattle.xq_parse.specs.Grammar.{a_step, a_clause, all_of, any_of, seq_of}
use Rattle.xq_parse.specs.Places.{Scope}
use Rattle.xq_parse.specs.Machine.{State, done, sign, word, end_name, var, name, axis, axis_or_name, test, call_or_name, first_step, steps, source, path, rel, operand, atom, ands, ors, expr, rest, inner, clauses, condition, tag, content, a_var, a_route, seen, seen_in_order, side_seen, path_seen, close_list, after_nested, more_ands, more_ors, more_clauses, with_filter, all_state, cond_state, clause_state, for_state, head_state, if_state, elem_state, group_state, not_state, exists_state, true_state, literal_state, compare_state, members, kind_test, rel_of, step, start, at_test, at_axis, at_step, at_path, at_source, at_found, at_operand, at_atom, at_expr, at_content, opens}

abbrev pub IsOther : State → Type 0
IsOther (end_name x s) = ⊥
IsOther s = Unit {0}

abbrev pub IsEndName : State → Type 0
IsEndName (end_name x s) = Unit {0}
IsEndName s = ⊥

-- No state behind it waits for such a name, but that right behind `</`.
abbrev pub Keeps : State → Type 0
Keeps (done m es) = Unit {0}
Keeps (sign x s) = (Keeps s × IsOther s) × (sign_eq x signs.EndTag ≡ false)
Keeps (word w s) = Keeps s × IsOther s
Keeps (end_name w s) = Keeps s × IsOther s
Keeps (var k) = (x : List ℕ) → Keeps (k x) × IsOther (k x)
Keeps (name k) = (x : List ℕ) → Keeps (k x) × IsOther (k x)
Keeps (axis k) = (s : Step) → Keeps (k s) × IsOther (k s)
Keeps (axis_or_name x k) = (s : Step) → Keeps (k s) × IsOther (k s)
Keeps (test a k) = (s : Step) → Keeps (k s) × IsOther (k s)
Keeps (call_or_name a x k) = (s : Step) → Keeps (k s) × IsOther (k s)
Keeps (first_step k) = (at : ℕ) (s : Step) → Keeps (k at s) × IsOther (k at s)
Keeps (steps tr k) = (t : Trail) → Keeps (k t) × IsOther (k t)
Keeps (source k) = (r : Route) → Keeps (k r) × IsOther (k r)
Keeps (path k) = (r : Route) → Keeps (k r) × IsOther (k r)
Keeps (rel k) = (r : Rel) → Keeps (k r) × IsOther (k r)
Keeps (operand sc m k) = (m : Marks) (o : QOperand) → Keeps (k m o) × IsOther (k m o)
Keeps (atom n sc m k) = (m : Marks) (c : QueryCondTree) → Keeps (k m c) × IsOther (k m c)
Keeps (ands n sc m bs k) = (m : Marks) (cs : List QueryCondTree) → Keeps (k m cs) × IsOther (k m cs)
Keeps (ors n sc m os k) = (m : Marks) (cs : List QueryCondTree) → Keeps (k m cs) × IsOther (k m cs)
Keeps (expr n sc m k) = (m : Marks) (e : ExprTree) → Keeps (k m e) × IsOther (k m e)
Keeps (rest n sc m es k) = (m : Marks) (es : List ExprTree) → Keeps (k m es) × IsOther (k m es)
Keeps (inner n sc m k) = (m : Marks) (e : ExprTree) → Keeps (k m e) × IsOther (k m e)
Keeps (clauses sc m cs k) = (sc : Scope) (m : Marks) (cs : List Clause) → Keeps (k sc m cs) × IsOther (k sc m cs)
Keeps (condition n sc m k) = (m : Marks) (c : Option QueryCondTree) → Keeps (k m c) × IsOther (k m c)
Keeps (tag n sc m x k) = (m : Marks) (es : List ExprTree) → Keeps (k m es) × IsOther (k m es)
Keeps (content n sc m x es k) = (m : Marks) (es : List ExprTree) → Keeps (k m es) × IsOther (k m es)

abbrev pub Calm : State → Type 0
Calm s = Keeps s × IsOther s

abbrev CalmCond : (Marks → QueryCondTree → State) → Type 0
CalmCond k = (m : Marks) (c : QueryCondTree) → Calm (k m c)

abbrev CalmExpr : (Marks → ExprTree → State) → Type 0
CalmExpr k = (m : Marks) (e : ExprTree) → Calm (k m e)

abbrev CalmExprs : (Marks → List ExprTree → State) → Type 0
CalmExprs k = (m : Marks) (es : List ExprTree) → Calm (k m es)

-- the state behind the token t
abbrev pub After : Token → State → Type 0
After (TSign signs.EndTag) u = IsEndName u
After t u = IsOther u

abbrev pub Kept : Token → Result State Why → Type 0
Kept t (Ok u) = Keeps u × After t u
Kept t (Err TagMismatch) = ⊥
Kept t (Err why) = Unit {0}

kept_cond : (b : Bool) (t : Token) (x y : Result State Why) → Kept t x → Kept t y → Kept t (cond b x y)
kept_cond true t x y p q = p
kept_cond false t x y p q = q

calm_cond : (b : Bool) (x y : State) → Calm x → Calm y → Calm (cond b x y)
calm_cond true x y p q = p
calm_cond false x y p q = q

-- ---- rules

all_calm : (n : ℕ) (sc : Scope) (m : Marks) (k : Marks → QueryCondTree → State) → CalmCond k → Calm (all_state n sc m k)
unfolding all_state
all_calm n sc m k h = (λ (m : Marks) (a : QueryCondTree). (λ (m : Marks) (bs : List QueryCondTree). h m (all_of bs), tt), tt)

cond_calm : (n : ℕ) (sc : Scope) (m : Marks) (k : Marks → QueryCondTree → State) → CalmCond k → Calm (cond_state n sc m k)
unfolding cond_state
cond_calm n sc m k h = all_calm n sc m (more_ors n sc [] (λ m os. k m (any_of os))) (λ (m : Marks) (a : QueryCondTree). (λ (m : Marks) (os : List QueryCondTree). h m (any_of os), tt))

group_calm : (n : ℕ) (sc : Scope) (m : Marks) (k : Marks → QueryCondTree → State) → CalmCond k → Calm (group_state n sc m k)
unfolding group_state
group_calm n sc m k h = cond_calm n sc m (λ m c. sign signs.ParenClose (k m c)) (λ (m : Marks) (c : QueryCondTree). ((h m c, refl), tt))

not_calm : (n : ℕ) (sc : Scope) (m : Marks) (k : Marks → QueryCondTree → State) → CalmCond k → Calm (not_state n sc m k)
unfolding not_state
not_calm n sc m k h = ((group_calm n sc m (λ m c. k m (q.QueryNot c)) (λ (m : Marks) (c : QueryCondTree). h m (q.QueryNot c)), refl), tt)

true_calm : (m : Marks) (k : Marks → QueryCondTree → State) → CalmCond k → Calm (true_state m k)
true_calm m k h = (((((h m q.QueryAlways, refl), tt), refl)), tt)

exists_calm : (sc : Scope) (m : Marks) (k : Marks → QueryCondTree → State) → CalmCond k → Calm (exists_state sc m k)
unfolding exists_state
exists_calm sc m k h = (((λ (r : Route). ((h (seen sc m r) (q.QueryExists r.path), refl), tt), tt), refl), tt)

literal_calm : (l : QOperand) (sc : Scope) (m : Marks) (k : Marks → QueryCondTree → State) → CalmCond k → Calm (literal_state l sc m k)
unfolding literal_state
literal_calm l sc m k h = (λ (c : Rel). (λ (r : Route). h (seen sc m r) (q.QueryCompare l c (sides.Path r.path)), tt), tt)

compare_calm : (sc : Scope) (m : Marks) (k : Marks → QueryCondTree → State) → CalmCond k → (r : Route) → Calm (compare_state sc m k r)
compare_calm sc m k h r = (λ (c : Rel). (λ (m : Marks) (o : QOperand). h m (q.QueryCompare (sides.Path r.path) c o), tt), tt)

clause_calm : (sc : Scope) (m : Marks) (k : Marks → Clause → State) → ((m : Marks) (c : Clause) → Calm (k m c)) → Calm (clause_state sc m k)
unfolding clause_state
clause_calm sc m k h = (λ (x : List ℕ). ((λ (r : Route). h (seen_in_order sc m r) (a_clause x r.path), tt), tt), tt)

for_calm : (n : ℕ) (sc : Scope) (m : Marks) (k : Marks → ExprTree → State) → CalmExpr k → Calm (for_state n sc m k)
unfolding for_state
for_calm n sc m k h =
    clause_calm sc m (more_clauses sc [] (λ sc m cs. condition n sc m (λ m w. word return_ (expr n sc m (λ m e. k m (q.QueryFor cs w e))))))
    (λ (m : Marks) (c : Clause). (λ (sc : Scope) (m : Marks) (cs : List Clause). (λ (m : Marks) (w : Option QueryCondTree). ((λ (m : Marks) (e : ExprTree). h m (q.QueryFor cs w e), tt), tt), tt), tt))

if_calm : (n : ℕ) (sc : Scope) (m : Marks) (k : Marks → ExprTree → State) → CalmExpr k → Calm (if_state n sc m k)
unfolding if_state head_state
if_calm n sc m k h =
    let next : Marks → QueryCondTree → State = λ m c. sign signs.ParenClose (word then_ (expr n sc m (λ m a. word else_ (expr n sc m (λ m b. k m (q.QueryIf c a b)))))) in
    ((cond_calm n sc m next (λ (m : Marks) (c : QueryCondTree). (((((λ (m : Marks) (a : ExprTree). ((λ (m : Marks) (b : ExprTree). h m (q.QueryIf c a b), tt), tt), tt), tt), refl)), tt)), refl), tt)

elem_calm : (n : ℕ) (sc : Scope) (m : Marks) (k : Marks → ExprTree → State) → CalmExpr k → Calm (elem_state n sc m k)
unfolding elem_state
elem_calm n sc m k h = (λ (x : List ℕ). (λ (m : Marks) (es : List ExprTree). h m (q.Elem x (exprs_of es)), tt), tt)

close_calm : (k : Marks → ExprTree → State) → CalmExpr k → (m : Marks) (es : List ExprTree) → Calm (close_list k m es)
close_calm k h m es = ((h m (seq_of es), refl), tt)

members_calm : (n : ℕ) (sc : Scope) (k : Marks → ExprTree → State) → CalmExpr k → CalmExpr (members n sc k)
members_calm n sc k h m e = (close_calm k h, tt)

-- ---- one token

opens_kept : (limit n : ℕ) (t : Token) (s : State) → Kept t (Ok s) → Kept t (opens limit n s)
opens_kept limit n t s h = kept_cond (nat_lt n limit) t (Ok s) (Err Nesting) h tt

test_kept : (a : Axis) (k : Step → State) (t : Token) → ((s : Step) → Calm (k s)) → Kept t (at_test a k t)
test_kept a k (TName x) h = calm_cond (bytes_eq x text_ || bytes_eq x node_) (call_or_name a x k) (k (a_step a (tests.Named x))) (h, tt) (h (a_step a (tests.Named x)))
test_kept a k (TSign signs.Star) h = h (a_step a tests.AnyElement)
test_kept a k t h = tt

axis_kept : (k : Step → State) (t : Token) → ((s : Step) → Calm (k s)) → Kept t (at_axis k t)
axis_kept k (TName x) h = kept_cond (bytes_eq x child_ || bytes_eq x descendant_) (TName x) (Ok (axis_or_name x k)) (at_test axes.Child k (TName x)) (h, tt) (test_kept axes.Child k (TName x) h)
axis_kept k (TVar at x) h = tt
axis_kept k (TNum x) h = tt
axis_kept k (TStr x) h = tt
axis_kept k (TSlash at) h = tt
axis_kept k (TSlashes at) h = tt
axis_kept k (TSign s) h = test_kept axes.Child k (TSign s) h

first_kept : (k : ℕ → Step → State) (t : Token) → ((at : ℕ) (s : Step) → Calm (k at s)) → Kept t (at_step k (Err Syntax) t)
first_kept k (TSlash at) h = (h at, tt)
first_kept k (TSlashes at) h = (h at, tt)
first_kept k t h = tt

path_kept : (k : Route → State) (t : Token) → ((r : Route) → Calm (k r)) → Kept t (at_path k t)
path_kept k (TVar at x) h = (λ (t : Trail). h (a_route (Some (a_var at x)) t), tt)
path_kept k (TSlash at) h = (λ (s : Step). (λ (t : Trail). h (a_route None t), tt), tt)
path_kept k (TSlashes at) h = (λ (s : Step). (λ (t : Trail). h (a_route None t), tt), tt)
path_kept k t h = tt

source_kept : (k : Route → State) (t : Token) → ((r : Route) → Calm (k r)) → Kept t (at_source k t)
source_kept k (TVar at x) h = (λ (a : ℕ) (s : Step). (λ (t : Trail). h (a_route (Some (a_var at x)) t), tt), tt)
source_kept k (TSlash at) h = (λ (s : Step). (λ (t : Trail). h (a_route None t), tt), tt)
source_kept k (TSlashes at) h = (λ (s : Step). (λ (t : Trail). h (a_route None t), tt), tt)
source_kept k t h = tt

rel_kept : (k : Rel → State) (s : Sign) → ((r : Rel) → Calm (k r)) → Kept (TSign s) (at_found k (rel_of s))
rel_kept k signs.Eq h = h _
rel_kept k signs.Ne h = h _
rel_kept k signs.Lt h = h _
rel_kept k signs.Le h = h _
rel_kept k signs.Gt h = h _
rel_kept k signs.Ge h = h _
rel_kept k s h = tt

operand_kept : (sc : Scope) (m : Marks) (k : Marks → QOperand → State) (t : Token) → ((m : Marks) (o : QOperand) → Calm (k m o)) → Kept t (at_operand sc m k t)
operand_kept sc m k (TStr x) h = h m (sides.Str x)
operand_kept sc m k (TNum x) h = h m (sides.Num x)
operand_kept sc m k t h = path_kept (side_seen sc m k) t (λ (r : Route). h (seen sc m r) (sides.Path r.path))

atom_kept : (limit n : ℕ) (sc : Scope) (m : Marks) (k : Marks → QueryCondTree → State) (t : Token) → CalmCond k → Kept t (at_atom limit n sc m k t)
atom_kept limit n sc m k (TName x) h =
    kept_cond (bytes_eq x not_) (TName x) (opens limit n (not_state (n + 1) sc m k)) (cond (bytes_eq x true_) (Ok (true_state m k)) (cond (bytes_eq x exists_) (Ok (exists_state sc m k)) (Err Syntax)))
    (opens_kept limit n (TName x) (not_state (n + 1) sc m k) (not_calm (n + 1) sc m k h))
    (kept_cond (bytes_eq x true_) (TName x) (Ok (true_state m k)) (cond (bytes_eq x exists_) (Ok (exists_state sc m k)) (Err Syntax)) (true_calm m k h)
    (kept_cond (bytes_eq x exists_) (TName x) (Ok (exists_state sc m k)) (Err Syntax) (exists_calm sc m k h) tt))
atom_kept limit n sc m k (TSign signs.ParenOpen) h = opens_kept limit n (TSign signs.ParenOpen) (group_state (n + 1) sc m k) (group_calm (n + 1) sc m k h)
atom_kept limit n sc m k (TStr x) h = literal_calm (sides.Str x) sc m k h
atom_kept limit n sc m k (TNum x) h = literal_calm (sides.Num x) sc m k h
atom_kept limit n sc m k t h = path_kept (compare_state sc m k) t (compare_calm sc m k h)

expr_kept : (limit n : ℕ) (sc : Scope) (m : Marks) (k : Marks → ExprTree → State) (t : Token) → CalmExpr k → Kept t (at_expr limit n sc m k t)
expr_kept limit n sc m k (TName x) h =
    kept_cond (bytes_eq x for_) (TName x) (opens limit n (for_state (n + 1) sc m k)) (cond (bytes_eq x if_) (opens limit n (if_state (n + 1) sc m k)) (Err Syntax))
    (opens_kept limit n (TName x) (for_state (n + 1) sc m k) (for_calm (n + 1) sc m k h))
    (kept_cond (bytes_eq x if_) (TName x) (opens limit n (if_state (n + 1) sc m k)) (Err Syntax) (opens_kept limit n (TName x) (if_state (n + 1) sc m k) (if_calm (n + 1) sc m k h)) tt)
expr_kept limit n sc m k (TSign signs.Lt) h = opens_kept limit n (TSign signs.Lt) (elem_state (n + 1) sc m k) (elem_calm (n + 1) sc m k h)
expr_kept limit n sc m k (TSign signs.ParenOpen) h = opens_kept limit n (TSign signs.ParenOpen) (inner (n + 1) sc m k) (h, tt)
expr_kept limit n sc m k t h = path_kept (path_seen sc m k) t (λ (r : Route). h (seen_in_order sc m r) (q.QueryPath r.path))

content_kept : (limit n : ℕ) (sc : Scope) (m : Marks) (x : List ℕ) (es : List ExprTree) (k : Marks → List ExprTree → State) (t : Token) → CalmExprs k → Kept t (at_content limit n sc m x es k t)
content_kept limit n sc m x es k (TSign signs.EndTag) h = ((((h m es, refl)), tt), tt)
content_kept limit n sc m x es k (TSign signs.Lt) h = opens_kept limit n (TSign signs.Lt) (elem_state (n + 1) sc m (after_nested n sc x es k)) (elem_calm (n + 1) sc m (after_nested n sc x es k) (λ (m : Marks) (e : ExprTree). (h, tt)))
content_kept limit n sc m x es k (TSign signs.BraceOpen) h = (λ (m : Marks) (e : ExprTree). (λ (m : Marks) (es : List ExprTree). (((h, tt), refl), tt), tt), tt)
content_kept limit n sc m x es k t h = tt

pub step_kept : (limit : ℕ) (s : State) (t : Token) → Keeps s → IsOther s → Kept t (step limit s t)
step_kept limit (done m es) t h o = tt
step_kept limit (sign x s) (TSign signs.EndTag) h o = subst (λ (b : Bool). Kept (TSign signs.EndTag) (cond b (Ok s) (Err Syntax))) (sym h.1) tt
step_kept limit (sign x s) (TSign y) h o = kept_cond (sign_eq x y) (TSign y) (Ok s) (Err Syntax) h.0 tt
step_kept limit (sign x s) t h o = tt
step_kept limit (word w s) (TName x) h o = kept_cond (bytes_eq x w) (TName x) (Ok s) (Err Syntax) h tt
step_kept limit (word w s) t h o = tt
step_kept limit (end_name w s) t h o = absurd o
step_kept limit (var k) (TVar at x) h o = h x
step_kept limit (var k) t h o = tt
step_kept limit (name k) (TName x) h o = h x
step_kept limit (name k) t h o = tt
step_kept limit (axis k) t h o = axis_kept k t h
step_kept limit (axis_or_name x k) (TSign signs.Axis) h o = (h, tt)
step_kept limit (axis_or_name x k) t h o = let c = h (a_step axes.Child (tests.Named x)) in step_kept limit (k (a_step axes.Child (tests.Named x))) t c.0 c.1
step_kept limit (test a k) t h o = test_kept a k t h
step_kept limit (call_or_name a x k) (TSign signs.ParenOpen) h o = ((h (a_step a (kind_test x)), refl), tt)
step_kept limit (call_or_name a x k) t h o = let c = h (a_step a (tests.Named x)) in step_kept limit (k (a_step a (tests.Named x))) t c.0 c.1
step_kept limit (first_step k) t h o = first_kept k t h
step_kept limit (steps tr k) (TSlash at) h o = (λ (s : Step). (h, tt), tt)
step_kept limit (steps tr k) (TSlashes at) h o = (λ (s : Step). (h, tt), tt)
step_kept limit (steps tr k) t h o = let c = h tr in step_kept limit (k tr) t c.0 c.1
step_kept limit (source k) t h o = source_kept k t h
step_kept limit (path k) t h o = path_kept k t h
step_kept limit (rel k) (TSign s) h o = rel_kept k s h
step_kept limit (rel k) t h o = tt
step_kept limit (operand sc m k) t h o = operand_kept sc m k t h
step_kept limit (atom n sc m k) t h o = atom_kept limit n sc m k t h
step_kept limit (ands n sc m bs k) (TName x) h o = let c = h m bs in kept_cond (bytes_eq x and_) (TName x) (Ok (atom n sc m (more_ands n sc bs k))) (step limit (k m bs) (TName x)) (λ (m : Marks) (a : QueryCondTree). (h, tt), tt) (step_kept limit (k m bs) (TName x) c.0 c.1)
step_kept limit (ands n sc m bs k) t h o = let c = h m bs in step_kept limit (k m bs) t c.0 c.1
step_kept limit (ors n sc m os k) (TName x) h o = let c = h m os in kept_cond (bytes_eq x or_) (TName x) (Ok (all_state n sc m (more_ors n sc os k))) (step limit (k m os) (TName x)) (all_calm n sc m (more_ors n sc os k) (λ (m : Marks) (a : QueryCondTree). (h, tt))) (step_kept limit (k m os) (TName x) c.0 c.1)
step_kept limit (ors n sc m os k) t h o = let c = h m os in step_kept limit (k m os) t c.0 c.1
step_kept limit (expr n sc m k) t h o = expr_kept limit n sc m k t h
step_kept limit (rest n sc m es k) (TSign signs.Comma) h o = (λ (m : Marks) (e : ExprTree). (h, tt), tt)
step_kept limit (rest n sc m es k) t h o = let c = h m es in step_kept limit (k m es) t c.0 c.1
step_kept limit (inner n sc m k) (TSign signs.ParenClose) h o = h m q.Empty
step_kept limit (inner n sc m k) (TName x) h o = expr_kept limit n sc m (members n sc k) (TName x) (members_calm n sc k h)
step_kept limit (inner n sc m k) (TVar at x) h o = expr_kept limit n sc m (members n sc k) (TVar at x) (members_calm n sc k h)
step_kept limit (inner n sc m k) (TNum x) h o = tt
step_kept limit (inner n sc m k) (TStr x) h o = tt
step_kept limit (inner n sc m k) (TSlash at) h o = expr_kept limit n sc m (members n sc k) (TSlash at) (members_calm n sc k h)
step_kept limit (inner n sc m k) (TSlashes at) h o = expr_kept limit n sc m (members n sc k) (TSlashes at) (members_calm n sc k h)
step_kept limit (inner n sc m k) (TSign s) h o = expr_kept limit n sc m (members n sc k) (TSign s) (members_calm n sc k h)
step_kept limit (clauses sc m cs k) (TSign signs.Comma) h o = clause_calm sc m (more_clauses sc cs k) (λ (m : Marks) (c : Clause). (h, tt))
step_kept limit (clauses sc m cs k) t h o = let c = h sc m cs in step_kept limit (k sc m cs) t c.0 c.1
step_kept limit (condition n sc m k) (TName x) h o = let c = h m None in kept_cond (bytes_eq x where_) (TName x) (Ok (cond_state n sc m (with_filter k))) (step limit (k m None) (TName x)) (cond_calm n sc m (with_filter k) (λ (m : Marks) (c : QueryCondTree). h m (Some c))) (step_kept limit (k m None) (TName x) c.0 c.1)
step_kept limit (condition n sc m k) t h o = let c = h m None in step_kept limit (k m None) t c.0 c.1
step_kept limit (tag n sc m x k) (TSign signs.EmptyEnd) h o = h m []
step_kept limit (tag n sc m x k) (TSign signs.Gt) h o = (h, tt)
step_kept limit (tag n sc m x k) t h o = tt
step_kept limit (content n sc m x es k) t h o = content_kept limit n sc m x es k t h

pub start_calm : Calm start
start_calm = (λ (m : Marks) (e : ExprTree). (λ (m : Marks) (es : List ExprTree). (tt, tt), tt), tt)
