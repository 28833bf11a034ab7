-- This follows the code, for its proofs: no public clause speaks of it.
-- A machine over tokens: what is expected next, and what is done with what is read. Beside the query it finds the first variable without a clause, and the first descendant step that may not stand where it does.
use Rattle.std.specs.Prelude.{ℕ, ◌+◌, ◌||◌, nat_lt, List, [], ◌∷◌, ◌++◌, Option, Some, None, Result, Ok, Err, if◌then◌else◌, bytes_eq, option_map}
use Rattle.gcx_base.specs.declared.rel.Rel.{Rel}
use Rattle.gcx_base.specs.declared.rel.Rel.TheVariants as rels
use Rattle.gcx_base.specs.declared.steps.Axis.{Axis}
use Rattle.gcx_base.specs.declared.steps.Axis.TheVariants as axes
use Rattle.gcx_base.specs.declared.steps.Step.{Step}
use Rattle.gcx_base.specs.declared.steps.Test.{Test}
use Rattle.gcx_base.specs.declared.steps.Test.TheVariants as tests
use Rattle.gcx_model.specs.declared.query.Clause.{Clause}
use Rattle.gcx_model.specs.declared.query.QOperand.{QOperand}
use Rattle.gcx_model.specs.declared.query.QOperand.TheVariants as sides
use Rattle.gcx_model.specs.Paths.{any}
use Rattle.gcx_model.specs.Query as q
use Rattle.gcx_model.specs.Query.{QueryCondTree, ExprTree, exprs_of}
use Rattle.xq_lex.specs.declared.sign.Sign.{Sign}
use Rattle.xq_lex.specs.declared.sign.Sign.TheVariants as signs
use Rattle.xq_parse.specs.declared.refusal.Why.{Why}
use Rattle.xq_parse.specs.declared.refusal.Why.TheVariants.{Syntax, TagMismatch, Nesting}
use Rattle.xq_parse.specs.declared.route.Var.{Var}
use Rattle.xq_parse.specs.declared.route.Trail.{Trail}
use Rattle.xq_parse.specs.declared.route.Route.{Route}
use Rattle.xq_parse.specs.declared.marks.Marks.{Marks}
use Rattle.xq_parse.specs.Tokens.{Token, TName, TVar, TNum, TStr, TSlash, TSlashes, TSign, for_, in_, where_, return_, if_, then_, else_, or_, and_, not_, true_, exists_, text_, node_, child_, descendant_}
use Rattle.xq_parse.specs.Grammar.{a_step, a_path, a_clause, all_of, any_of, seq_of}
use Rattle.xq_parse.specs.Places.{Scope}
use Rattle.xq_parse.specs.Signs.{sign_eq}

-- at most so many constructs are open at a token
abbrev pub deepest : ℕ
deepest = 200

-- ---- paths with their places

abbrev pub or_else : {X : Type 0} → Option X → Option X → Option X
or_else None b = b
or_else (Some a) b = Some a

abbrev pub descent_at : Axis → ℕ → Option ℕ
descent_at axes.Child at = None
descent_at axes.Descendant at = Some at

abbrev pub no_trail : Trail
no_trail = record { steps = []; last = None; late = None }

-- one step more, whose slash stands there
abbrev pub added : Trail → ℕ → Step → Trail
added t at s = record { steps = t.steps ++ (s ∷ []); last = descent_at s.axis at; late = or_else t.late t.last }

abbrev pub a_var : ℕ → List ℕ → Var
a_var at x = record { name = x; at = at }

abbrev pub a_route : Option Var → Trail → Route
a_route v t = record { path = a_path (option_map (λ v. v.name) v) t.steps; var_at = option_map (λ v. v.at) v; late = t.late }

-- ---- what was found of places

abbrev pub unbound_at : Scope → (start : Option (List ℕ)) (at : Option ℕ) → Option ℕ
unbound_at scope None at = None
unbound_at scope (Some x) at = if any (bytes_eq x) scope then None else at

-- a path was read
abbrev pub seen : Scope → Marks → Route → Marks
seen scope m r = record { unknown = or_else m.unknown (unbound_at scope r.path.start r.var_at); late = m.late }

-- a path was read whose matches come in order
abbrev pub seen_in_order : Scope → Marks → Route → Marks
seen_in_order scope m r = record { unknown = or_else m.unknown (unbound_at scope r.path.start r.var_at); late = or_else m.late r.late }

-- ---- states

pub data State : Type 0 where
  done : Marks → List ExprTree → State
  sign : Sign → State → State
  word : List ℕ → State → State
  -- the name of an end tag
  end_name : List ℕ → State → State
  var : (List ℕ → State) → State
  name : (List ℕ → State) → State
  -- behind a "/"; behind a "/" and `child` or `descendant`; a test; behind `text` or `node` as a test
  axis : (Step → State) → State
  axis_or_name : List ℕ → (Step → State) → State
  test : Axis → (Step → State) → State
  call_or_name : Axis → List ℕ → (Step → State) → State
  first_step : (ℕ → Step → State) → State
  steps : Trail → (Trail → State) → State
  source : (Route → State) → State
  path : (Route → State) → State
  rel : (Rel → State) → State
  operand : Scope → Marks → (Marks → QOperand → State) → State
  atom : ℕ → Scope → Marks → (Marks → QueryCondTree → State) → State
  ands : ℕ → Scope → Marks → List QueryCondTree → (Marks → List QueryCondTree → State) → State
  ors : ℕ → Scope → Marks → List QueryCondTree → (Marks → List QueryCondTree → State) → State
  expr : ℕ → Scope → Marks → (Marks → ExprTree → State) → State
  rest : ℕ → Scope → Marks → List ExprTree → (Marks → List ExprTree → State) → State
  inner : ℕ → Scope → Marks → (Marks → ExprTree → State) → State
  clauses : Scope → Marks → List Clause → (Scope → Marks → List Clause → State) → State
  condition : ℕ → Scope → Marks → (Marks → Option QueryCondTree → State) → State
  tag : ℕ → Scope → Marks → List ℕ → (Marks → List ExprTree → State) → State
  content : ℕ → Scope → Marks → List ℕ → List ExprTree → (Marks → List ExprTree → State) → State

-- ---- rules that begin in one way

-- Atom {"and" Atom}, All {"or" All}
abbrev pub atoms_state : ℕ → Scope → Marks → (Marks → List QueryCondTree → State) → State
atoms_state n sc m k = atom n sc m (λ m a. ands n sc m (a ∷ []) k)

unfoldable pub all_state : ℕ → Scope → Marks → (Marks → QueryCondTree → State) → State
all_state n sc m k = atoms_state n sc m (λ m bs. k m (all_of bs))

abbrev pub alls_state : ℕ → Scope → Marks → (Marks → List QueryCondTree → State) → State
alls_state n sc m k = all_state n sc m (λ m a. ors n sc m (a ∷ []) k)

unfoldable pub cond_state : ℕ → Scope → Marks → (Marks → QueryCondTree → State) → State
cond_state n sc m k = alls_state n sc m (λ m os. k m (any_of os))

unfoldable pub clause_state : Scope → Marks → (Marks → Clause → State) → State
clause_state sc m k = var (λ x. word in_ (source (λ r. k (seen_in_order sc m r) (a_clause x r.path))))

abbrev pub clauses_state : Scope → Marks → (Scope → Marks → List Clause → State) → State
clauses_state sc m k = clause_state sc m (λ m c. clauses (c.var ∷ sc) m (c ∷ []) k)

abbrev pub list_state : ℕ → Scope → Marks → (Marks → List ExprTree → State) → State
list_state n sc m k = expr n sc m (λ m e. rest n sc m (e ∷ []) k)

-- Clause {"," Clause} ["where" Cond]
abbrev pub loop_head_state : ℕ → Scope → Marks → (Scope → Marks → List Clause → Option QueryCondTree → State) → State
loop_head_state n sc m k = clauses_state sc m (λ sc m cs. condition n sc m (λ m w. k sc m cs w))

-- "return" Expr
abbrev pub loop_body_state : ℕ → Scope → Marks → (Marks → ExprTree → State) → State
loop_body_state n sc m k = word return_ (expr n sc m k)

unfoldable pub for_state : ℕ → Scope → Marks → (Marks → ExprTree → State) → State
for_state n sc m k = loop_head_state n sc m (λ sc m cs w. loop_body_state n sc m (λ m e. k m (q.QueryFor cs w e)))

-- "(" Cond ")" "then"
unfoldable pub head_state : ℕ → Scope → Marks → (Marks → QueryCondTree → State) → State
head_state n sc m k = sign signs.ParenOpen (cond_state n sc m (λ m c. sign signs.ParenClose (word then_ (k m c))))

-- "else" Expr
abbrev pub else_state : ℕ → Scope → Marks → (Marks → ExprTree → State) → State
else_state n sc m k = word else_ (expr n sc m k)

unfoldable pub if_state : ℕ → Scope → Marks → (Marks → ExprTree → State) → State
if_state n sc m k = head_state n sc m (λ m c. expr n sc m (λ m a. else_state n sc m (λ m b. k m (q.QueryIf c a b))))

unfoldable pub elem_state : ℕ → Scope → Marks → (Marks → ExprTree → State) → State
elem_state n sc m k = name (λ x. tag n sc m x (λ m es. k m (q.Elem x (exprs_of es))))

unfoldable pub group_state : ℕ → Scope → Marks → (Marks → QueryCondTree → State) → State
group_state n sc m k = cond_state n sc m (λ m c. sign signs.ParenClose (k m c))

unfoldable pub not_state : ℕ → Scope → Marks → (Marks → QueryCondTree → State) → State
not_state n sc m k = sign signs.ParenOpen (group_state n sc m (λ m c. k m (q.QueryNot c)))

unfoldable pub exists_state : Scope → Marks → (Marks → QueryCondTree → State) → State
exists_state sc m k = sign signs.ParenOpen (path (λ r. sign signs.ParenClose (k (seen sc m r) (q.QueryExists r.path))))

abbrev pub true_state : Marks → (Marks → QueryCondTree → State) → State
true_state m k = sign signs.ParenOpen (sign signs.ParenClose (k m q.QueryAlways))

-- ---- one token

abbrev pub opens : ℕ → ℕ → State → Result State Why
opens limit n s = if nat_lt n limit then Ok s else Err Nesting

abbrev pub at_sign : Sign → State → Token → Result State Why
at_sign x s (TSign y) = if sign_eq x y then Ok s else Err Syntax
at_sign x s t = Err Syntax

abbrev pub at_word : List ℕ → State → Token → Result State Why
at_word w s (TName x) = if bytes_eq x w then Ok s else Err Syntax
at_word w s t = Err Syntax

abbrev pub at_end_name : List ℕ → State → Token → Result State Why
at_end_name w s (TName x) = if bytes_eq x w then Ok s else Err TagMismatch
at_end_name w s t = Err Syntax

abbrev pub at_var : (List ℕ → State) → Token → Result State Why
at_var k (TVar at x) = Ok (k x)
at_var k t = Err Syntax

abbrev pub at_name : (List ℕ → State) → Token → Result State Why
at_name k (TName x) = Ok (k x)
at_name k t = Err Syntax

-- behind the name of a test
abbrev pub name_behind : Axis → List ℕ → (Step → State) → State
name_behind a x k = if bytes_eq x text_ || bytes_eq x node_ then call_or_name a x k else k (a_step a (tests.Named x))

abbrev pub at_test : Axis → (Step → State) → Token → Result State Why
at_test a k (TName x) = Ok (name_behind a x k)
at_test a k (TSign signs.Star) = Ok (k (a_step a tests.AnyElement))
at_test a k t = Err Syntax

abbrev pub at_axis : (Step → State) → Token → Result State Why
at_axis k (TName x) = if bytes_eq x child_ || bytes_eq x descendant_ then Ok (axis_or_name x k) else at_test axes.Child k (TName x)
at_axis k t = at_test axes.Child k t

abbrev pub kind_test : List ℕ → Test
kind_test x = if bytes_eq x text_ then tests.AnyText else tests.AnyNode

abbrev pub axis_named : List ℕ → Axis
axis_named x = if bytes_eq x descendant_ then axes.Descendant else axes.Child

abbrev pub at_call : Axis → List ℕ → (Step → State) → Result State Why → Token → Result State Why
at_call a x k over (TSign signs.ParenOpen) = Ok (sign signs.ParenClose (k (a_step a (kind_test x))))
at_call a x k over t = over

abbrev pub at_colons : List ℕ → (Step → State) → Result State Why → Token → Result State Why
at_colons x k over (TSign signs.Axis) = Ok (test (axis_named x) k)
at_colons x k over t = over

abbrev pub at_step : (ℕ → Step → State) → Result State Why → Token → Result State Why
at_step k over (TSlash at) = Ok (axis (k at))
at_step k over (TSlashes at) = Ok (test axes.Descendant (k at))
at_step k over t = over

-- one more behind those before
abbrev pub steps_behind : Trail → (Trail → State) → ℕ → Step → State
steps_behind t k at s = steps (added t at s) k

-- Step {Step}
abbrev pub steps_state : (Trail → State) → State
steps_state k = first_step (steps_behind no_trail k)

abbrev pub with_start : Option Var → (Route → State) → Trail → State
with_start v k t = k (a_route v t)

abbrev pub at_path : (Route → State) → Token → Result State Why
at_path k (TVar at x) = Ok (steps no_trail (with_start (Some (a_var at x)) k))
at_path k t = at_step (steps_behind no_trail (with_start None k)) (Err Syntax) t

abbrev pub at_source : (Route → State) → Token → Result State Why
at_source k (TVar at x) = Ok (steps_state (with_start (Some (a_var at x)) k))
at_source k t = at_step (steps_behind no_trail (with_start None k)) (Err Syntax) t

abbrev pub rel_of : Sign → Option Rel
rel_of signs.Eq = Some rels.Eq
rel_of signs.Ne = Some rels.Ne
rel_of signs.Lt = Some rels.Lt
rel_of signs.Le = Some rels.Le
rel_of signs.Gt = Some rels.Gt
rel_of signs.Ge = Some rels.Ge
rel_of s = None

abbrev pub at_found : (Rel → State) → Option Rel → Result State Why
at_found k (Some r) = Ok (k r)
at_found k None = Err Syntax

abbrev pub at_rel : (Rel → State) → Token → Result State Why
at_rel k (TSign s) = at_found k (rel_of s)
at_rel k t = Err Syntax

abbrev pub side_seen : Scope → Marks → (Marks → QOperand → State) → Route → State
side_seen sc m k r = k (seen sc m r) (sides.Path r.path)

abbrev pub at_operand : Scope → Marks → (Marks → QOperand → State) → Token → Result State Why
at_operand sc m k (TStr x) = Ok (k m (sides.Str x))
at_operand sc m k (TNum u) = Ok (k m (sides.Num u))
at_operand sc m k t = at_path (side_seen sc m k) t

abbrev pub compare_state : Scope → Marks → (Marks → QueryCondTree → State) → Route → State
compare_state sc m k r = rel (λ c. operand sc (seen sc m r) (λ m o. k m (q.QueryCompare (sides.Path r.path) c o)))

unfoldable pub literal_state : QOperand → Scope → Marks → (Marks → QueryCondTree → State) → State
literal_state l sc m k = rel (λ c. path (λ r. k (seen sc m r) (q.QueryCompare l c (sides.Path r.path))))

abbrev pub at_atom : ℕ → ℕ → Scope → Marks → (Marks → QueryCondTree → State) → Token → Result State Why
at_atom limit n sc m k (TName x) =
    if bytes_eq x not_ then opens limit n (not_state (n + 1) sc m k)
    else if bytes_eq x true_ then Ok (true_state m k)
    else if bytes_eq x exists_ then Ok (exists_state sc m k)
    else Err Syntax
at_atom limit n sc m k (TSign signs.ParenOpen) = opens limit n (group_state (n + 1) sc m k)
at_atom limit n sc m k (TStr x) = Ok (literal_state (sides.Str x) sc m k)
at_atom limit n sc m k (TNum u) = Ok (literal_state (sides.Num u) sc m k)
at_atom limit n sc m k t = at_path (compare_state sc m k) t

-- a separator goes on; any other token is that of what stands behind
abbrev pub at_more : List ℕ → State → Result State Why → Token → Result State Why
at_more w s over (TName x) = if bytes_eq x w then Ok s else over
at_more w s over t = over

abbrev pub at_comma : State → Result State Why → Token → Result State Why
at_comma s over (TSign signs.Comma) = Ok s
at_comma s over t = over

abbrev pub path_seen : Scope → Marks → (Marks → ExprTree → State) → Route → State
path_seen sc m k r = k (seen_in_order sc m r) (q.QueryPath r.path)

abbrev pub at_expr : ℕ → ℕ → Scope → Marks → (Marks → ExprTree → State) → Token → Result State Why
at_expr limit n sc m k (TName x) =
    if bytes_eq x for_ then opens limit n (for_state (n + 1) sc m k)
    else if bytes_eq x if_ then opens limit n (if_state (n + 1) sc m k)
    else Err Syntax
at_expr limit n sc m k (TSign signs.Lt) = opens limit n (elem_state (n + 1) sc m k)
at_expr limit n sc m k (TSign signs.ParenOpen) = opens limit n (inner (n + 1) sc m k)
at_expr limit n sc m k t = at_path (path_seen sc m k) t

abbrev pub close_list : (Marks → ExprTree → State) → Marks → List ExprTree → State
close_list k m es = sign signs.ParenClose (k m (seq_of es))

abbrev pub members : ℕ → Scope → (Marks → ExprTree → State) → Marks → ExprTree → State
members n sc k m e = rest n sc m (e ∷ []) (close_list k)

-- Expr {"," Expr} ")"
abbrev pub listed_state : ℕ → Scope → Marks → (Marks → ExprTree → State) → State
listed_state n sc m k = list_state n sc m (close_list k)

abbrev pub at_inner : ℕ → ℕ → Scope → Marks → (Marks → ExprTree → State) → Token → Result State Why
at_inner limit n sc m k (TSign signs.ParenClose) = Ok (k m q.Empty)
at_inner limit n sc m k t = at_expr limit n sc m (members n sc k) t

abbrev pub at_tag : ℕ → Scope → Marks → List ℕ → (Marks → List ExprTree → State) → Token → Result State Why
at_tag n sc m x k (TSign signs.EmptyEnd) = Ok (k m [])
at_tag n sc m x k (TSign signs.Gt) = Ok (content n sc m x [] k)
at_tag n sc m x k t = Err Syntax

abbrev pub after_brace : ℕ → Scope → List ℕ → List ExprTree → (Marks → List ExprTree → State) → Marks → List ExprTree → State
after_brace n sc x body k m es = sign signs.BraceClose (content n sc m x (body ++ es) k)

abbrev pub braces_state : ℕ → Scope → Marks → List ℕ → List ExprTree → (Marks → List ExprTree → State) → State
braces_state n sc m x body k = list_state n sc m (after_brace n sc x body k)

abbrev pub after_nested : ℕ → Scope → List ℕ → List ExprTree → (Marks → List ExprTree → State) → Marks → ExprTree → State
after_nested n sc x body k m e = content n sc m x (body ++ (e ∷ [])) k

abbrev pub at_content : ℕ → ℕ → Scope → Marks → List ℕ → List ExprTree → (Marks → List ExprTree → State) → Token → Result State Why
at_content limit n sc m x body k (TSign signs.EndTag) = Ok (end_name x (sign signs.Gt (k m body)))
at_content limit n sc m x body k (TSign signs.Lt) = opens limit n (elem_state (n + 1) sc m (after_nested n sc x body k))
at_content limit n sc m x body k (TSign signs.BraceOpen) = Ok (braces_state n sc m x body k)
at_content limit n sc m x body k t = Err Syntax

-- one member more behind a separator
abbrev pub more_ands : ℕ → Scope → List QueryCondTree → (Marks → List QueryCondTree → State) → Marks → QueryCondTree → State
more_ands n sc bs k m a = ands n sc m (bs ++ (a ∷ [])) k

abbrev pub more_ors : ℕ → Scope → List QueryCondTree → (Marks → List QueryCondTree → State) → Marks → QueryCondTree → State
more_ors n sc os k m a = ors n sc m (os ++ (a ∷ [])) k

abbrev pub more_rest : ℕ → Scope → List ExprTree → (Marks → List ExprTree → State) → Marks → ExprTree → State
more_rest n sc es k m e = rest n sc m (es ++ (e ∷ [])) k

abbrev pub more_clauses : Scope → List Clause → (Scope → Marks → List Clause → State) → Marks → Clause → State
more_clauses sc cs k m c = clauses (c.var ∷ sc) m (cs ++ (c ∷ [])) k

abbrev pub with_filter : (Marks → Option QueryCondTree → State) → Marks → QueryCondTree → State
with_filter k m c = k m (Some c)

abbrev pub step : ℕ → State → Token → Result State Why
step limit (done m es) t = Err Syntax
step limit (sign x s) t = at_sign x s t
step limit (word w s) t = at_word w s t
step limit (end_name w s) t = at_end_name w s t
step limit (var k) t = at_var k t
step limit (name k) t = at_name k t
step limit (axis k) t = at_axis k t
step limit (axis_or_name x k) t = at_colons x k (step limit (k (a_step axes.Child (tests.Named x))) t) t
step limit (test a k) t = at_test a k t
step limit (call_or_name a x k) t = at_call a x k (step limit (k (a_step a (tests.Named x))) t) t
step limit (first_step k) t = at_step k (Err Syntax) t
step limit (steps tr k) t = at_step (steps_behind tr k) (step limit (k tr) t) t
step limit (source k) t = at_source k t
step limit (path k) t = at_path k t
step limit (rel k) t = at_rel k t
step limit (operand sc m k) t = at_operand sc m k t
step limit (atom n sc m k) t = at_atom limit n sc m k t
step limit (ands n sc m bs k) t = at_more and_ (atom n sc m (more_ands n sc bs k)) (step limit (k m bs) t) t
step limit (ors n sc m os k) t = at_more or_ (all_state n sc m (more_ors n sc os k)) (step limit (k m os) t) t
step limit (expr n sc m k) t = at_expr limit n sc m k t
step limit (rest n sc m es k) t = at_comma (expr n sc m (more_rest n sc es k)) (step limit (k m es) t) t
step limit (inner n sc m k) t = at_inner limit n sc m k t
step limit (clauses sc m cs k) t = at_comma (clause_state sc m (more_clauses sc cs k)) (step limit (k sc m cs) t) t
step limit (condition n sc m k) t = at_more where_ (cond_state n sc m (with_filter k)) (step limit (k m None) t) t
step limit (tag n sc m x k) t = at_tag n sc m x k t
step limit (content n sc m x body k) t = at_content limit n sc m x body k t

-- a query, and what was found of its places
pub record Found : Type 0 where
  pub marks : Marks
  pub parts : List ExprTree

-- the query, where nothing more is wanted
abbrev pub whole : State → Option Found
whole (done m es) = Some (record { marks = m; parts = es })
whole (axis_or_name x k) = whole (k (a_step axes.Child (tests.Named x)))
whole (call_or_name a x k) = whole (k (a_step a (tests.Named x)))
whole (steps tr k) = whole (k tr)
whole (ands n sc m bs k) = whole (k m bs)
whole (ors n sc m os k) = whole (k m os)
whole (rest n sc m es k) = whole (k m es)
whole (clauses sc m cs k) = whole (k sc m cs)
whole (condition n sc m k) = whole (k m None)
whole (sign x s) = None
whole (word w s) = None
whole (end_name w s) = None
whole (var k) = None
whole (name k) = None
whole (axis k) = None
whole (test a k) = None
whole (first_step k) = None
whole (source k) = None
whole (path k) = None
whole (rel k) = None
whole (operand sc m k) = None
whole (atom n sc m k) = None
whole (expr n sc m k) = None
whole (inner n sc m k) = None
whole (tag n sc m x k) = None
whole (content n sc m x body k) = None

abbrev pub no_marks : Marks
no_marks = record { unknown = None; late = None }

abbrev pub start : State
start = list_state 0 [] no_marks (λ m es. done m es)
