-- What the machine reads of paths and operands, the grammar spells.
use Rattle.std.proofs.Common.{ℕ, ◌≡◌, Bool, true, false, ◌||◌, cond, List, [], ◌∷◌, ◌++◌, Some, None, Result, Ok, Err, inl, inr, ◌⊎◌, eqb-true, refl, sym, ap, ◌∙◌, subst, append_assoc}
use Rattle.std.specs.Prelude.{bytes_eq, slice_get}
use Rattle.std.proofs.lemmas.Slice.Eq.{bytes_eq-Decides}
use Rattle.std.proofs.lemmas.Bool.{or_cases}
use Rattle.gcx_base.specs.declared.rel.Rel.{Rel}
use Rattle.gcx_base.specs.declared.rel.Rel.TheVariants as rels
use Rattle.gcx_base.specs.declared.steps.Axis.{Axis}
use Rattle.gcx_base.specs.declared.steps.Axis.TheVariants as axes
use Rattle.gcx_base.specs.declared.steps.Step.{Step}
use Rattle.gcx_base.specs.declared.steps.Test.{Test as NodeTest}
use Rattle.gcx_base.specs.declared.steps.Test.TheVariants as tests
use Rattle.gcx_model.specs.declared.query.QOperand.{QOperand}
use Rattle.gcx_model.specs.declared.query.QOperand.TheVariants as sides
use Rattle.xq_lex.specs.declared.sign.Sign.{Sign}
use Rattle.xq_lex.specs.declared.sign.Sign.TheVariants as signs
use Rattle.xq_parse.specs.declared.refusal.Why.{Why}
use Rattle.xq_parse.specs.declared.refusal.Why.TheVariants.{Syntax}
use Rattle.xq_parse.specs.declared.route.Trail.{Trail}
use Rattle.xq_parse.specs.declared.route.Route.{Route}
use Rattle.xq_parse.specs.declared.marks.Marks.{Marks}
use Rattle.xq_parse.specs.Signs.{sign_code, sign_eq}
use Rattle.xq_parse.specs.Tokens.{Token, TName, TVar, TNum, TStr, TSlash, TSlashes, TSign, text_, node_, child_, descendant_}
use Rattle.xq_parse.specs.Grammar as g
use Rattle.xq_parse.specs.Grammar.{a_step, a_clause, any_of, seq_of, test_tokens, test_tree, step_tokens, step_tree, steps_tokens, path_tokens, path_tree, source_tokens, operand_tokens, operand_tree, literal_token, literal_tree, rel_sign, cond_tokens, derived_cond, ors_tokens, ors_tree, all_tokens, all_tree, ands_tokens, ands_tree, atom_tokens, atom_tree, CondFits, OrsFits, AllFits, AndsFits, AtomFits, clause_tokens, clause_tree, clauses_tokens, clauses_tree, where_tokens, where_tree, WhereFits, expr_tokens, derived_expr, ExprFits, inner_tokens, inner_tree, InnerFits, rest_tokens, rest_tree, RestFits, tag_tokens, tag_tree, TagFits, content_tokens, content_tree, ContentFits}
use Rattle.xq_parse.specs.Places.{Scope}
use Rattle.xq_parse.specs.Machine.{State, Found, axis, axis_or_name, test, call_or_name, first_step, steps, source, path, rel, operand, no_trail, a_var, steps_behind, steps_state, with_start, side_seen, kind_test, rel_of, at_test, at_axis, at_step, at_path, at_source, at_found, at_operand}
use Rattle.xq_parse.proofs.Lang.{AxisTest, child_axis, descendant_axis, no_axis, axis_tree, axis_tokens, Behind, colons, bare, colons_tokens, colons_tree, Call, called, uncalled, call_tokens, call_tree, Begins, Lang}
use Rattle.xq_parse.proofs.Routes.{from_var_is, from_root_is, in_var_is, in_root_is}

-- ---- tests that went well

abbrev pub okay : State → Result State Why
okay s = Ok s

pub ok_is : {s u : State} → okay s ≡ okay u → s ≡ u
ok_is e = cc

-- the state that a step leads to
pub along : (limit : ℕ) (s u : State) (w : List Token) (p : Found) → okay s ≡ okay u → Lang limit u w p → Lang limit s w p
along limit s u w p e h = subst (λ (v : State). Lang limit v w p) (sym (ok_is e)) h

pub chosen : (b : Bool) (x y z : Result State Why) → cond b x y ≡ z → ((b ≡ true) × (x ≡ z)) ⊎ ((b ≡ false) × (y ≡ z))
chosen true x y z e = inl (refl, e)
chosen false x y z e = inr (refl, e)

pub guarded : (b : Bool) (s u : State) (why : Why) → cond b (okay s) (Err why) ≡ okay u → (b ≡ true) × (okay s ≡ okay u)
guarded true s u why e = (refl, e)
guarded false s u why e = absurd cc

pub picked : (b : Bool) (x y u : State) → okay (cond b x y) ≡ okay u → ((b ≡ true) × (okay x ≡ okay u)) ⊎ ((b ≡ false) × (okay y ≡ okay u))
picked true x y u e = inl (refl, e)
picked false x y u e = inr (refl, e)

pub same_is : (x y : List ℕ) → bytes_eq x y ≡ true → x ≡ y
same_is x y e = (bytes_eq-Decides x y).0 e

abbrev pub signs_in_order : List Sign
signs_in_order = signs.ParenOpen ∷ signs.ParenClose ∷ signs.BraceOpen ∷ signs.BraceClose ∷ signs.Comma ∷ signs.Slash ∷ signs.SlashSlash ∷ signs.Axis ∷ signs.Star ∷ signs.Eq ∷ signs.Ne ∷ signs.Lt ∷ signs.Le ∷ signs.Gt ∷ signs.Ge ∷ signs.EndTag ∷ signs.EmptyEnd ∷ []

pub coded : (x : Sign) → slice_get signs_in_order (sign_code x) ≡ Some x
coded signs.ParenOpen = refl
coded signs.ParenClose = refl
coded signs.BraceOpen = refl
coded signs.BraceClose = refl
coded signs.Comma = refl
coded signs.Slash = refl
coded signs.SlashSlash = refl
coded signs.Axis = refl
coded signs.Star = refl
coded signs.Eq = refl
coded signs.Ne = refl
coded signs.Lt = refl
coded signs.Le = refl
coded signs.Gt = refl
coded signs.Ge = refl
coded signs.EndTag = refl
coded signs.EmptyEnd = refl

pub sign_is : (x y : Sign) → sign_eq x y ≡ true → x ≡ y
sign_is x y e =
    let same : Some x ≡ Some y = sym (coded x) ∙ ap (λ (n : ℕ). slice_get signs_in_order n) (eqb-true (sign_code x) (sign_code y) e) ∙ coded y in
    cc

-- ---- fronts of lists

pub put : {front ts : List Token} {next : List Token → Type 0} (t : Token) → Begins front ts next → Begins (t ∷ front) (t ∷ ts) next
put t b = record { behind = b.behind; parts = ap (λ (l : List Token). t ∷ l) b.parts; goes_on = b.goes_on }

pub seq2 : (a b r : List Token) {ts m : List Token} → ts ≡ a ++ m → m ≡ b ++ r → ts ≡ (a ++ b) ++ r
seq2 a b r p q = p ∙ ap (λ (l : List Token). a ++ l) q ∙ sym (append_assoc a b r)

-- ---- steps

pub test_back : (limit : ℕ) (d : Axis) (k : Step → State) (t : Token) (w : List Token) (p : Found) (u : State) → at_test d k t ≡ okay u → Lang limit u w p → Lang limit (test d k) (t ∷ w) p
test_back limit d k (TName x) w p u e h = go (picked (bytes_eq x text_ || bytes_eq x node_) (call_or_name d x k) (k (a_step d (tests.Named x))) u e)
  where
    word_call : (y : List ℕ) → x ≡ y → (t : g.TestSyntax) → test_tokens t ≡ TName y ∷ TSign signs.ParenOpen ∷ TSign signs.ParenClose ∷ [] → test_tree t ≡ kind_test y → Begins (call_tokens called) w (λ ws. Lang limit (k (a_step d (kind_test x))) ws p) → Lang limit (test d k) (TName x ∷ w) p
    word_call y xy t i j b = (t, record { behind = b.behind; parts = ap (λ (l : List Token). TName x ∷ l) b.parts ∙ ap (λ (v : List ℕ). TName v ∷ TSign signs.ParenOpen ∷ TSign signs.ParenClose ∷ b.behind) xy ∙ ap (λ (l : List Token). l ++ b.behind) (sym i); goes_on = subst (λ (v : NodeTest). Lang limit (k (a_step d v)) b.behind p) (ap kind_test xy ∙ sym j) b.goes_on })

    with_call : (c : Call) → Begins (call_tokens c) w (λ ws. Lang limit (k (call_tree d x c)) ws p) → (bytes_eq x text_ ≡ true) ⊎ (bytes_eq x node_ ≡ true) → Lang limit (test d k) (TName x ∷ w) p
    with_call called b (inl i) = word_call text_ (same_is x text_ i) g.text_test refl refl b
    with_call called b (inr i) = word_call node_ (same_is x node_ i) g.node_test refl refl b
    with_call uncalled b i = (g.name_test x, put (TName x) b)

    go : (((bytes_eq x text_ || bytes_eq x node_) ≡ true) × (okay (call_or_name d x k) ≡ okay u)) ⊎ (((bytes_eq x text_ || bytes_eq x node_) ≡ false) × (okay (k (a_step d (tests.Named x))) ≡ okay u)) → Lang limit (test d k) (TName x ∷ w) p
    go (inl c) = let l : Lang limit (call_or_name d x k) w p = along limit (call_or_name d x k) u w p c.1 h in with_call l.0 l.1 (or_cases (bytes_eq x text_) (bytes_eq x node_) c.0)
    go (inr c) = (g.name_test x, record { behind = w; parts = refl; goes_on = along limit (k (a_step d (tests.Named x))) u w p c.1 h })
test_back limit d k (TSign signs.Star) w p u e h = (g.star_test, record { behind = w; parts = refl; goes_on = along limit (k (a_step d tests.AnyElement)) u w p e h })
test_back limit d k (TVar at x) w p u e h = absurd cc
test_back limit d k (TNum x) w p u e h = absurd cc
test_back limit d k (TStr x) w p u e h = absurd cc
test_back limit d k (TSlash at) w p u e h = absurd cc
test_back limit d k (TSlashes at) w p u e h = absurd cc
test_back limit d k (TSign s) w p u e h = absurd cc

pub no_axis_back : (limit : ℕ) (k : Step → State) (ts : List Token) (p : Found) → Lang limit (test axes.Child k) ts p → Lang limit (axis k) ts p
no_axis_back limit k ts p l = (no_axis l.0, l.1)

pub axis_back : (limit : ℕ) (k : Step → State) (t : Token) (w : List Token) (p : Found) (u : State) → at_axis k t ≡ okay u → Lang limit u w p → Lang limit (axis k) (t ∷ w) p
axis_back limit k (TName x) w p u e h = go (chosen (bytes_eq x child_ || bytes_eq x descendant_) (Ok (axis_or_name x k)) (at_test axes.Child k (TName x)) (okay u) e)
  where
    word_colons : (y : List ℕ) → x ≡ y → (t : g.TestSyntax) (a : AxisTest) → axis_tokens a ≡ TName y ∷ TSign signs.Axis ∷ test_tokens t → axis_tree a ≡ colons_tree y (colons t) → Begins (colons_tokens (colons t)) w (λ ws. Lang limit (k (colons_tree x (colons t))) ws p) → Lang limit (axis k) (TName x ∷ w) p
    word_colons y xy t a i j b = (a, record { behind = b.behind; parts = ap (λ (l : List Token). TName x ∷ l) b.parts ∙ ap (λ (v : List ℕ). TName v ∷ TSign signs.Axis ∷ (test_tokens t ++ b.behind)) xy ∙ ap (λ (l : List Token). l ++ b.behind) (sym i); goes_on = subst (λ (v : Step). Lang limit (k v) b.behind p) (ap (λ (v : List ℕ). colons_tree v (colons t)) xy ∙ sym j) b.goes_on })

    with_colons : (c : Behind) → Begins (colons_tokens c) w (λ ws. Lang limit (k (colons_tree x c)) ws p) → (bytes_eq x child_ ≡ true) ⊎ (bytes_eq x descendant_ ≡ true) → Lang limit (axis k) (TName x ∷ w) p
    with_colons (colons t) b (inl i) = word_colons child_ (same_is x child_ i) t (child_axis t) refl refl b
    with_colons (colons t) b (inr i) = word_colons descendant_ (same_is x descendant_ i) t (descendant_axis t) refl refl b
    with_colons bare b i = (no_axis (g.name_test x), put (TName x) b)

    go : (((bytes_eq x child_ || bytes_eq x descendant_) ≡ true) × (okay (axis_or_name x k) ≡ okay u)) ⊎ (((bytes_eq x child_ || bytes_eq x descendant_) ≡ false) × (at_test axes.Child k (TName x) ≡ okay u)) → Lang limit (axis k) (TName x ∷ w) p
    go (inl c) = let l : Lang limit (axis_or_name x k) w p = along limit (axis_or_name x k) u w p c.1 h in with_colons l.0 l.1 (or_cases (bytes_eq x child_) (bytes_eq x descendant_) c.0)
    go (inr c) = no_axis_back limit k (TName x ∷ w) p (test_back limit axes.Child k (TName x) w p u c.1 h)
axis_back limit k (TVar at x) w p u e h = absurd cc
axis_back limit k (TNum x) w p u e h = absurd cc
axis_back limit k (TStr x) w p u e h = absurd cc
axis_back limit k (TSlash at) w p u e h = absurd cc
axis_back limit k (TSlashes at) w p u e h = absurd cc
axis_back limit k (TSign s) w p u e h = no_axis_back limit k (TSign s ∷ w) p (test_back limit axes.Child k (TSign s) w p u e h)

pub slash_test : (limit at : ℕ) (k : ℕ → Step → State) (w : List Token) (p : Found) (a : AxisTest) → Begins (axis_tokens a) w (λ ws. Lang limit (k at (axis_tree a)) ws p) → Lang limit (first_step k) (TSlash at ∷ w) p
slash_test limit at k w p (child_axis t) b = (g.child at t, put (TSlash at) b)
slash_test limit at k w p (descendant_axis t) b = (g.descendant at t, put (TSlash at) b)
slash_test limit at k w p (no_axis t) b = (g.plain at t, put (TSlash at) b)

pub slash_back : (limit at : ℕ) (k : ℕ → Step → State) (w : List Token) (p : Found) → Lang limit (axis (k at)) w p → Lang limit (first_step k) (TSlash at ∷ w) p
slash_back limit at k w p l = slash_test limit at k w p l.0 l.1

pub double_back : (limit at : ℕ) (k : ℕ → Step → State) (w : List Token) (p : Found) → Lang limit (test axes.Descendant (k at)) w p → Lang limit (first_step k) (TSlashes at ∷ w) p
double_back limit at k w p l = (g.double at l.0, put (TSlashes at) l.1)

pub first_back : (limit : ℕ) (k : ℕ → Step → State) (t : Token) (w : List Token) (p : Found) (u : State) → at_step k (Err Syntax) t ≡ okay u → Lang limit u w p → Lang limit (first_step k) (t ∷ w) p
first_back limit k (TSlash at) w p u e h = slash_back limit at k w p (along limit (axis (k at)) u w p e h)
first_back limit k (TSlashes at) w p u e h = double_back limit at k w p (along limit (test axes.Descendant (k at)) u w p e h)
first_back limit k (TName x) w p u e h = absurd cc
first_back limit k (TVar at x) w p u e h = absurd cc
first_back limit k (TNum x) w p u e h = absurd cc
first_back limit k (TStr x) w p u e h = absurd cc
first_back limit k (TSign s) w p u e h = absurd cc

-- a step and the steps behind it
pub more_back : (limit : ℕ) (t : Trail) (k : Trail → State) (ts : List Token) (p : Found) → Lang limit (first_step (steps_behind t k)) ts p → Lang limit (steps t k) ts p
more_back limit t k ts p l =
    let m = l.1.goes_on in
    (g.more_steps l.0 m.0, record { behind = m.1.behind; parts = seq2 (step_tokens l.0) (steps_tokens m.0) m.1.behind l.1.parts m.1.parts; goes_on = m.1.goes_on })

pub no_more_back : (limit : ℕ) (t : Trail) (k : Trail → State) (ts : List Token) (p : Found) → Lang limit (k t) ts p → Lang limit (steps t k) ts p
no_more_back limit t k ts p h = (g.no_step, record { behind = ts; parts = refl; goes_on = h })

pub root_back : (limit : ℕ) (k : Route → State) (ts : List Token) (p : Found) → Lang limit (steps_state (with_start None k)) ts p → Lang limit (path k) ts p
root_back limit k ts p l =
    let m = l.1.goes_on in
    (g.from_root l.0 m.0, record { behind = m.1.behind; parts = seq2 (step_tokens l.0) (steps_tokens m.0) m.1.behind l.1.parts m.1.parts; goes_on = subst (λ (r : Route). Lang limit (k r) m.1.behind p) (from_root_is l.0 m.0) m.1.goes_on })

pub path_back : (limit : ℕ) (k : Route → State) (t : Token) (w : List Token) (p : Found) (u : State) → at_path k t ≡ okay u → Lang limit u w p → Lang limit (path k) (t ∷ w) p
path_back limit k (TVar at x) w p u e h =
    let l : Lang limit (steps no_trail (with_start (Some (a_var at x)) k)) w p = along limit (steps no_trail (with_start (Some (a_var at x)) k)) u w p e h in
    (g.from_var at x l.0, record { behind = l.1.behind; parts = ap (λ (r : List Token). TVar at x ∷ r) l.1.parts; goes_on = subst (λ (r : Route). Lang limit (k r) l.1.behind p) (from_var_is at x l.0) l.1.goes_on })
path_back limit k (TName x) w p u e h = absurd cc
path_back limit k (TNum x) w p u e h = absurd cc
path_back limit k (TStr x) w p u e h = absurd cc
path_back limit k (TSign s) w p u e h = absurd cc
path_back limit k (TSlash at) w p u e h = root_back limit k (TSlash at ∷ w) p (first_back limit (steps_behind no_trail (with_start None k)) (TSlash at) w p u e h)
path_back limit k (TSlashes at) w p u e h = root_back limit k (TSlashes at ∷ w) p (first_back limit (steps_behind no_trail (with_start None k)) (TSlashes at) w p u e h)

pub source_root : (limit : ℕ) (k : Route → State) (ts : List Token) (p : Found) → Lang limit (steps_state (with_start None k)) ts p → Lang limit (source k) ts p
source_root limit k ts p l =
    let m = l.1.goes_on in
    (g.in_root l.0 m.0, record { behind = m.1.behind; parts = seq2 (step_tokens l.0) (steps_tokens m.0) m.1.behind l.1.parts m.1.parts; goes_on = subst (λ (r : Route). Lang limit (k r) m.1.behind p) (in_root_is l.0 m.0) m.1.goes_on })

pub source_back : (limit : ℕ) (k : Route → State) (t : Token) (w : List Token) (p : Found) (u : State) → at_source k t ≡ okay u → Lang limit u w p → Lang limit (source k) (t ∷ w) p
source_back limit k (TVar at x) w p u e h =
    let l : Lang limit (steps_state (with_start (Some (a_var at x)) k)) w p = along limit (steps_state (with_start (Some (a_var at x)) k)) u w p e h in
    let m = l.1.goes_on in
    (g.in_var at x l.0 m.0, record { behind = m.1.behind; parts = ap (λ (r : List Token). TVar at x ∷ r) (seq2 (step_tokens l.0) (steps_tokens m.0) m.1.behind l.1.parts m.1.parts); goes_on = subst (λ (r : Route). Lang limit (k r) m.1.behind p) (in_var_is at x l.0 m.0) m.1.goes_on })
source_back limit k (TName x) w p u e h = absurd cc
source_back limit k (TNum x) w p u e h = absurd cc
source_back limit k (TStr x) w p u e h = absurd cc
source_back limit k (TSign s) w p u e h = absurd cc
source_back limit k (TSlash at) w p u e h = source_root limit k (TSlash at ∷ w) p (first_back limit (steps_behind no_trail (with_start None k)) (TSlash at) w p u e h)
source_back limit k (TSlashes at) w p u e h = source_root limit k (TSlashes at ∷ w) p (first_back limit (steps_behind no_trail (with_start None k)) (TSlashes at) w p u e h)

pub rel_back : (limit : ℕ) (k : Rel → State) (s : Sign) (w : List Token) (p : Found) (u : State) → at_found k (rel_of s) ≡ okay u → Lang limit u w p → Lang limit (rel k) (TSign s ∷ w) p
rel_back limit k signs.Eq w p u e h = (rels.Eq, record { behind = w; parts = refl; goes_on = along limit (k rels.Eq) u w p e h })
rel_back limit k signs.Ne w p u e h = (rels.Ne, record { behind = w; parts = refl; goes_on = along limit (k rels.Ne) u w p e h })
rel_back limit k signs.Lt w p u e h = (rels.Lt, record { behind = w; parts = refl; goes_on = along limit (k rels.Lt) u w p e h })
rel_back limit k signs.Le w p u e h = (rels.Le, record { behind = w; parts = refl; goes_on = along limit (k rels.Le) u w p e h })
rel_back limit k signs.Gt w p u e h = (rels.Gt, record { behind = w; parts = refl; goes_on = along limit (k rels.Gt) u w p e h })
rel_back limit k signs.Ge w p u e h = (rels.Ge, record { behind = w; parts = refl; goes_on = along limit (k rels.Ge) u w p e h })
rel_back limit k s w p u e h = absurd cc

pub operand_path : (limit : ℕ) (sc : Scope) (m : Marks) (k : Marks → QOperand → State) (ts : List Token) (p : Found) → Lang limit (path (side_seen sc m k)) ts p → Lang limit (operand sc m k) ts p
operand_path limit sc m k ts p l = (g.path_operand l.0, l.1)

pub operand_back : (limit : ℕ) (sc : Scope) (m : Marks) (k : Marks → QOperand → State) (t : Token) (w : List Token) (p : Found) (u : State) → at_operand sc m k t ≡ okay u → Lang limit u w p → Lang limit (operand sc m k) (t ∷ w) p
operand_back limit sc m k (TStr x) w p u e h = (g.literal_operand (g.text x), record { behind = w; parts = refl; goes_on = along limit (k m (sides.Str x)) u w p e h })
operand_back limit sc m k (TNum x) w p u e h = (g.literal_operand (g.number x), record { behind = w; parts = refl; goes_on = along limit (k m (sides.Num x)) u w p e h })
operand_back limit sc m k (TVar at x) w p u e h = operand_path limit sc m k (TVar at x ∷ w) p (path_back limit (side_seen sc m k) (TVar at x) w p u e h)
operand_back limit sc m k (TName x) w p u e h = absurd cc
operand_back limit sc m k (TSign s) w p u e h = absurd cc
operand_back limit sc m k (TSlash at) w p u e h = operand_path limit sc m k (TSlash at ∷ w) p (path_back limit (side_seen sc m k) (TSlash at) w p u e h)
operand_back limit sc m k (TSlashes at) w p u e h = operand_path limit sc m k (TSlashes at ∷ w) p (path_back limit (side_seen sc m k) (TSlashes at) w p u e h)
