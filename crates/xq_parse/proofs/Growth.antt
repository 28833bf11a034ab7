-- More room changes nothing but a refusal for want of room.
use Rattle.std.proofs.Common.{ℕ, ◌≡◌, ◌+◌, ◌<◌, ◌≤◌, Bool, true, false, ◌||◌, nat_lt, cond, List, None, Result, Ok, Err, refl, sym, ap, ◌∙◌, subst, arith, inl, inr, ◌⊎◌, ltb-true}
use Rattle.std.proofs.lemmas.Bool.Decides.{nat_tests}
use Rattle.std.specs.Prelude.{bytes_eq}
use Rattle.gcx_base.specs.declared.rel.Rel.{Rel}
use Rattle.gcx_base.specs.declared.steps.Axis.{Axis}
use Rattle.gcx_base.specs.declared.steps.Axis.TheVariants as axes
use Rattle.gcx_base.specs.declared.steps.Step.{Step}
use Rattle.gcx_base.specs.declared.steps.Test.TheVariants as tests
use Rattle.gcx_model.specs.declared.query.QOperand.{QOperand}
use Rattle.gcx_model.specs.Query.{QueryCondTree, ExprTree}
use Rattle.xq_lex.specs.declared.sign.Sign.{Sign}
use Rattle.xq_lex.specs.declared.sign.Sign.TheVariants as signs
use Rattle.xq_parse.specs.declared.refusal.Why.{Why}
use Rattle.xq_parse.specs.declared.refusal.Why.TheVariants.{Syntax, TagMismatch, Nesting}
use Rattle.xq_parse.specs.declared.route.Route.{Route}
use Rattle.xq_parse.specs.declared.marks.Marks.{Marks}
use Rattle.xq_parse.specs.Signs.{sign_eq}
use Rattle.xq_parse.specs.Tokens.{Token, TName, TVar, TNum, TStr, TSlash, TSlashes, TSign, for_, if_, or_, and_, where_, not_, true_, exists_, child_, descendant_}
use Rattle.xq_parse.specs.Grammar.{a_step}
use Rattle.xq_parse.specs.Places.{Scope}
use Rattle.xq_parse.specs.Machine.{State, done, sign, word, end_name, var, name, axis, axis_or_name, test, call_or_name, first_step, steps, source, path, rel, operand, atom, ands, ors, expr, rest, inner, clauses, condition, tag, content, path_seen, after_nested, for_state, if_state, elem_state, group_state, not_state, exists_state, true_state, compare_state, members, rel_of, step, at_sign, at_word, at_end_name, at_var, at_name, at_test, at_axis, at_step, at_path, at_source, at_found, at_rel, at_operand, at_tag, at_atom, at_expr, opens}
use Rattle.xq_parse.proofs.PathsBack.{okay}

-- Only room is missing.
pub record Lacks (limit : ℕ) (r : ℕ → Result State Why) : Type 0 where
  pub now : r limit ≡ Err Nesting
  pub room : ℕ
  pub more : limit ≤ room
  pub then' : State
  pub goes : r room ≡ okay then'

abbrev pub NotNesting : Result State Why → Type 0
NotNesting (Ok s) = Unit {0}
NotNesting (Err Syntax) = Unit {0}
NotNesting (Err TagMismatch) = Unit {0}
NotNesting (Err Nesting) = ⊥

pub record Same (limit : ℕ) (r : ℕ → Result State Why) : Type 0 where
  pub same : (m : ℕ) → limit ≤ m → r m ≡ r limit
  pub room : NotNesting (r limit)

abbrev pub Growth : ℕ → (ℕ → Result State Why) → Type 0
Growth limit r = Same limit r ⊎ Lacks limit r

steady : (limit : ℕ) (x : Result State Why) → NotNesting x → Growth limit (λ _. x)
steady limit x h = inl (record { same = λ (m : ℕ) (h : limit ≤ m). refl; room = h })

cond_not : (b : Bool) (x y : Result State Why) → NotNesting x → NotNesting y → NotNesting (cond b x y)
cond_not true x y p q = p
cond_not false x y p q = q

sign_not : (x : Sign) (s : State) (t : Token) → NotNesting (at_sign x s t)
sign_not x s (TSign y) = cond_not (sign_eq x y) (Ok s) (Err Syntax) tt tt
sign_not x s t = tt

word_not : (x : List ℕ) (s : State) (t : Token) → NotNesting (at_word x s t)
word_not x s (TName y) = cond_not (bytes_eq y x) (Ok s) (Err Syntax) tt tt
word_not x s t = tt

end_name_not : (x : List ℕ) (s : State) (t : Token) → NotNesting (at_end_name x s t)
end_name_not x s (TName y) = cond_not (bytes_eq y x) (Ok s) (Err TagMismatch) tt tt
end_name_not x s t = tt

var_not : (k : List ℕ → State) (t : Token) → NotNesting (at_var k t)
var_not k (TVar at x) = tt
var_not k t = tt

name_not : (k : List ℕ → State) (t : Token) → NotNesting (at_name k t)
name_not k (TName x) = tt
name_not k t = tt

test_not : (d : Axis) (k : Step → State) (t : Token) → NotNesting (at_test d k t)
test_not d k (TName x) = tt
test_not d k (TSign signs.Star) = tt
test_not d k t = tt

axis_not : (k : Step → State) (t : Token) → NotNesting (at_axis k t)
axis_not k (TName x) = cond_not (bytes_eq x child_ || bytes_eq x descendant_) (Ok (axis_or_name x k)) (at_test axes.Child k (TName x)) tt (test_not axes.Child k (TName x))
axis_not k (TVar at x) = tt
axis_not k (TNum x) = tt
axis_not k (TStr x) = tt
axis_not k (TSlash at) = tt
axis_not k (TSlashes at) = tt
axis_not k (TSign x) = test_not axes.Child k (TSign x)

first_not : (k : ℕ → Step → State) (t : Token) → NotNesting (at_step k (Err Syntax) t)
first_not k (TSlash at) = tt
first_not k (TSlashes at) = tt
first_not k t = tt

path_not : (k : Route → State) (t : Token) → NotNesting (at_path k t)
path_not k (TSlash at) = tt
path_not k (TSlashes at) = tt
path_not k t = tt

source_not : (k : Route → State) (t : Token) → NotNesting (at_source k t)
source_not k (TSlash at) = tt
source_not k (TSlashes at) = tt
source_not k t = tt

rel_not : (k : Rel → State) (t : Token) → NotNesting (at_rel k t)
rel_not k (TSign s) = found_not s
  where
    found_not : (s : Sign) → NotNesting (at_found k (rel_of s))
    found_not signs.Eq = tt
    found_not s = tt
rel_not k t = tt

operand_not : (sc : Scope) (m : Marks) (k : Marks → QOperand → State) (t : Token) → NotNesting (at_operand sc m k t)
operand_not sc m k (TSlash at) = tt
operand_not sc m k (TSlashes at) = tt
operand_not sc m k t = tt

tag_not : (n : ℕ) (sc : Scope) (m : Marks) (x : List ℕ) (k : Marks → List ExprTree → State) (t : Token) → NotNesting (at_tag n sc m x k t)
tag_not n sc m x k (TSign signs.Gt) = tt
tag_not n sc m x k t = tt

lt_true : (a b : ℕ) → a < b → nat_lt a b ≡ true
lt_true a b h = grind (arith, nat_tests)

opens_growth : (limit n : ℕ) (s : State) → Growth limit (λ m. opens m n s)
opens_growth limit n s = go (nat_lt n limit) refl
  where
    go : (b : Bool) → nat_lt n limit ≡ b → Growth limit (λ m. opens m n s)
    go true e = inl (record { same = λ (m : ℕ) (h : limit ≤ m). ap (λ (b : Bool). cond b (okay s) (Err Nesting)) (lt_true n m (omega (arith, ltb-true n limit e)) ∙ sym e); room = subst (λ (b : Bool). NotNesting (cond b (okay s) (Err Nesting))) (sym e) tt })
    go false e = inr (record { now = ap (λ (b : Bool). cond b (okay s) (Err Nesting)) e; room = n + 1 + limit; more = omega arith; then' = s; goes = ap (λ (b : Bool). cond b (okay s) (Err Nesting)) (lt_true n (n + 1 + limit) (omega arith)) })

cond_growth : (limit : ℕ) (b : Bool) (x y : ℕ → Result State Why) → Growth limit x → Growth limit y → Growth limit (λ m. cond b (x m) (y m))
cond_growth limit true x y p q = p
cond_growth limit false x y p q = q

expr_growth : (limit n : ℕ) (sc : Scope) (m : Marks) (k : Marks → ExprTree → State) (t : Token) → Growth limit (λ l. at_expr l n sc m k t)
expr_growth limit n sc m k (TName x) = cond_growth limit (bytes_eq x for_) (λ l. opens l n (for_state (n + 1) sc m k)) (λ l. cond (bytes_eq x if_) (opens l n (if_state (n + 1) sc m k)) (Err Syntax)) (opens_growth limit n (for_state (n + 1) sc m k))
    (cond_growth limit (bytes_eq x if_) (λ l. opens l n (if_state (n + 1) sc m k)) (λ _. Err Syntax) (opens_growth limit n (if_state (n + 1) sc m k)) (steady limit (Err Syntax) tt))
expr_growth limit n sc m k (TSign signs.Lt) = opens_growth limit n (elem_state (n + 1) sc m k)
expr_growth limit n sc m k (TSign signs.ParenOpen) = opens_growth limit n (inner (n + 1) sc m k)
expr_growth limit n sc m k t = steady limit _ (path_not (path_seen sc m k) t)

atom_growth : (limit n : ℕ) (sc : Scope) (m : Marks) (k : Marks → QueryCondTree → State) (t : Token) → Growth limit (λ l. at_atom l n sc m k t)
atom_growth limit n sc m k (TName x) =
    cond_growth limit (bytes_eq x not_) (λ l. opens l n (not_state (n + 1) sc m k)) (λ _. cond (bytes_eq x true_) (Ok (true_state m k)) (cond (bytes_eq x exists_) (Ok (exists_state sc m k)) (Err Syntax))) (opens_growth limit n (not_state (n + 1) sc m k))
    (steady limit _ (cond_not (bytes_eq x true_) (Ok (true_state m k)) (cond (bytes_eq x exists_) (Ok (exists_state sc m k)) (Err Syntax)) tt (cond_not (bytes_eq x exists_) (Ok (exists_state sc m k)) (Err Syntax) tt tt)))
atom_growth limit n sc m k (TSign signs.ParenOpen) = opens_growth limit n (group_state (n + 1) sc m k)
atom_growth limit n sc m k (TStr x) = steady limit _ tt
atom_growth limit n sc m k (TNum x) = steady limit _ tt
atom_growth limit n sc m k t = steady limit _ (path_not (compare_state sc m k) t)

pub step_growth : (limit : ℕ) (s : State) (t : Token) → Growth limit (λ l. step l s t)
step_growth limit (expr n sc m k) t = expr_growth limit n sc m k t
step_growth limit (atom n sc m k) t = atom_growth limit n sc m k t
step_growth limit (inner n sc m k) (TSign signs.ParenClose) = steady limit _ tt
step_growth limit (inner n sc m k) t = expr_growth limit n sc m (members n sc k) t
step_growth limit (content n sc m x es k) (TSign signs.Lt) = opens_growth limit n (elem_state (n + 1) sc m (after_nested n sc x es k))
step_growth limit (content n sc m x es k) t = steady limit _ tt
step_growth limit (axis_or_name x k) (TSign signs.Axis) = steady limit _ tt
step_growth limit (axis_or_name x k) t = step_growth limit (k (a_step axes.Child (tests.Named x))) t
step_growth limit (call_or_name a x k) (TSign signs.ParenOpen) = steady limit _ tt
step_growth limit (call_or_name a x k) t = step_growth limit (k (a_step a (tests.Named x))) t
step_growth limit (steps tr k) (TSlash at) = steady limit _ tt
step_growth limit (steps tr k) (TSlashes at) = steady limit _ tt
step_growth limit (steps tr k) t = step_growth limit (k tr) t
step_growth limit (rest n sc m es k) (TSign signs.Comma) = steady limit _ tt
step_growth limit (rest n sc m es k) t = step_growth limit (k m es) t
step_growth limit (clauses sc m cs k) (TSign signs.Comma) = steady limit _ tt
step_growth limit (clauses sc m cs k) t = step_growth limit (k sc m cs) t
step_growth limit (ands n sc m bs k) (TName x) = cond_growth limit (bytes_eq x and_) (λ _. step limit (ands n sc m bs k) (TName and_)) (λ l. step l (k m bs) (TName x)) (steady limit _ tt) (step_growth limit (k m bs) (TName x))
step_growth limit (ands n sc m bs k) t = step_growth limit (k m bs) t
step_growth limit (ors n sc m os k) (TName x) = cond_growth limit (bytes_eq x or_) (λ _. step limit (ors n sc m os k) (TName or_)) (λ l. step l (k m os) (TName x)) (steady limit _ tt) (step_growth limit (k m os) (TName x))
step_growth limit (ors n sc m os k) t = step_growth limit (k m os) t
step_growth limit (condition n sc m k) (TName x) = cond_growth limit (bytes_eq x where_) (λ _. step limit (condition n sc m k) (TName where_)) (λ l. step l (k m None) (TName x)) (steady limit _ tt) (step_growth limit (k m None) (TName x))
step_growth limit (condition n sc m k) t = step_growth limit (k m None) t
step_growth limit (done m es) t = steady limit _ tt
step_growth limit (sign x s) t = steady limit _ (sign_not x s t)
step_growth limit (word x s) t = steady limit _ (word_not x s t)
step_growth limit (end_name x s) t = steady limit _ (end_name_not x s t)
step_growth limit (var k) t = steady limit _ (var_not k t)
step_growth limit (name k) t = steady limit _ (name_not k t)
step_growth limit (axis k) t = steady limit _ (axis_not k t)
step_growth limit (test d k) t = steady limit _ (test_not d k t)
step_growth limit (first_step k) t = steady limit _ (first_not k t)
step_growth limit (source k) t = steady limit _ (source_not k t)
step_growth limit (path k) t = steady limit _ (path_not k t)
step_growth limit (rel k) t = steady limit _ (rel_not k t)
step_growth limit (operand sc m k) t = steady limit _ (operand_not sc m k t)
step_growth limit (tag n sc m x k) t = steady limit _ (tag_not n sc m x k t)

-- A step that goes on goes on with more room.
pub step_more : (limit m : ℕ) (s u : State) (t : Token) → limit ≤ m → step limit s t ≡ okay u → step m s t ≡ okay u
step_more limit m s u t h e = go (step_growth limit s t)
  where
    go : Growth limit (λ l. step l s t) → step m s t ≡ okay u
    go (inl f) = f.same m h ∙ e
    go (inr l) = let n = l.now in absurd cc
