-- What the machine reads, the grammar spells.
use Rattle.std.proofs.Common.{ℕ, ◌≡◌, ◌+◌, true, false, nat_lt, cond, List, [], ◌∷◌, ◌++◌, Option, Some, None, Result, Ok, Err, inl, inr, ◌⊎◌, refl, sym, ap, ◌∙◌, subst, append_assoc, append-nil}
use Rattle.std.specs.Prelude.{bytes_eq}
use Rattle.gcx_base.specs.declared.steps.Axis.{Axis}
use Rattle.gcx_base.specs.declared.steps.Axis.TheVariants as axes
use Rattle.gcx_base.specs.declared.steps.Step.{Step}
use Rattle.gcx_base.specs.declared.steps.Test.TheVariants as tests
use Rattle.gcx_model.specs.declared.query.Clause.{Clause}
use Rattle.gcx_model.specs.declared.query.QOperand.TheVariants as sides
use Rattle.gcx_model.specs.Query as q
use Rattle.gcx_model.specs.Query.{QueryCondTree, ExprTree, exprs_of}
use Rattle.xq_lex.specs.declared.sign.Sign.{Sign}
use Rattle.xq_lex.specs.declared.sign.Sign.TheVariants as signs
use Rattle.xq_parse.specs.declared.refusal.Why.{Why}
use Rattle.xq_parse.specs.declared.refusal.Why.TheVariants.{Syntax, TagMismatch, Nesting}
use Rattle.xq_parse.specs.declared.marks.Marks.{Marks}
use Rattle.xq_parse.specs.Signs.{sign_eq}
use Rattle.xq_parse.specs.Tokens.{Token, TName, TVar, TNum, TStr, TSlash, TSlashes, TSign, for_, in_, where_, return_, if_, then_, else_, or_, and_, not_, true_, exists_}
use Rattle.xq_parse.specs.Grammar as g
use Rattle.xq_parse.specs.Grammar.{a_step, a_clause, any_of, seq_of, test_tokens, test_tree, step_tokens, step_tree, steps_tokens, path_tokens, path_tree, source_tokens, operand_tokens, operand_tree, literal_token, literal_tree, rel_sign, cond_tokens, derived_cond, ors_tokens, ors_tree, all_tokens, all_tree, ands_tokens, ands_tree, atom_tokens, atom_tree, CondFits, OrsFits, AllFits, AndsFits, AtomFits, clause_tokens, clause_tree, clauses_tokens, clauses_tree, where_tokens, where_tree, WhereFits, expr_tokens, derived_expr, ExprFits, inner_tokens, inner_tree, InnerFits, rest_tokens, rest_tree, RestFits, tag_tokens, tag_tree, TagFits, content_tokens, content_tree, ContentFits}
use Rattle.xq_parse.specs.Places.{Scope, clause_scope, clauses_scope}
use Rattle.xq_parse.specs.Machine.{State, Found, done, sign, word, end_name, var, name, axis, axis_or_name, test, call_or_name, first_step, steps, source, path, rel, operand, atom, ands, ors, expr, rest, inner, clauses, condition, tag, content, steps_behind, path_seen, after_nested, more_ands, more_ors, more_rest, more_clauses, with_filter, all_state, cond_state, clause_state, for_state, head_state, if_state, elem_state, group_state, not_state, exists_state, true_state, literal_state, compare_state, braces_state, listed_state, members, kind_test, axis_named, step, whole, at_atom, at_expr, opens}
use Rattle.xq_parse.specs.Reading.{a_found}
use Rattle.xq_parse.proofs.Lang.{colons, bare, called, uncalled, Begins, Lang}
use Rattle.xq_parse.proofs.Folds.{cond_marks, ors_marks, all_marks, ands_marks, atom_marks, clause_marks, clauses_marks, expr_marks, rest_marks, tag_marks, content_marks}
use Rattle.xq_parse.proofs.PathsBack.{along, axis_back, chosen, double_back, first_back, guarded, more_back, no_more_back, okay, operand_back, path_back, put, rel_back, same_is, seq2, sign_is, slash_back, source_back, test_back}

-- ---- conditions

-- an empty rest of atoms, of alternatives
pub no_and_back : (limit n : ℕ) (sc : Scope) (m : Marks) (bs : List QueryCondTree) (k : Marks → List QueryCondTree → State) (ts : List Token) (p : Found) → Lang limit (k m bs) ts p → Lang limit (ands n sc m bs k) ts p
no_and_back limit n sc m bs k ts p h = (g.no_and, tt, record { behind = ts; parts = refl; goes_on = subst (λ (l : List QueryCondTree). Lang limit (k m l) ts p) (sym (append-nil bs)) h })

pub no_or_back : (limit n : ℕ) (sc : Scope) (m : Marks) (bs : List QueryCondTree) (k : Marks → List QueryCondTree → State) (ts : List Token) (p : Found) → Lang limit (k m bs) ts p → Lang limit (ors n sc m bs k) ts p
no_or_back limit n sc m bs k ts p h = (g.no_or, tt, record { behind = ts; parts = refl; goes_on = subst (λ (l : List QueryCondTree). Lang limit (k m l) ts p) (sym (append-nil bs)) h })

-- what a rule begins with, and a property of what is behind it
abbrev AllThen : ℕ → ℕ → Scope → Marks → (Marks → QueryCondTree → State) → List Token → Found → Type 0
AllThen limit n sc m k ts p = (a : g.All) × AllFits limit n a × Begins (all_tokens a) ts (λ ws. Lang limit (k (all_marks sc m a) (all_tree a)) ws p)

abbrev CondThen : ℕ → ℕ → Scope → Marks → (Marks → QueryCondTree → State) → List Token → Found → Type 0
CondThen limit n sc m k ts p = (c : g.Cond) × CondFits limit n c × Begins (cond_tokens c) ts (λ ws. Lang limit (k (cond_marks sc m c) (derived_cond c)) ws p)

all_then : (limit n : ℕ) (sc : Scope) (m : Marks) (k : Marks → QueryCondTree → State) (ts : List Token) (p : Found) → Lang limit (all_state n sc m k) ts p → AllThen limit n sc m k ts p
unfolding all_state
all_then limit n sc m k ts p l =
    let r = l.2.goes_on in
    (g.all l.0 r.0, (l.1, r.1), record { behind = r.2.behind; parts = seq2 (atom_tokens l.0) (ands_tokens r.0) r.2.behind l.2.parts r.2.parts; goes_on = r.2.goes_on })

cond_then : (limit n : ℕ) (sc : Scope) (m : Marks) (k : Marks → QueryCondTree → State) (ts : List Token) (p : Found) → Lang limit (cond_state n sc m k) ts p → CondThen limit n sc m k ts p
unfolding cond_state
cond_then limit n sc m k ts p h =
    let l = all_then limit n sc m (more_ors n sc [] (λ m os. k m (any_of os))) ts p h in
    let r = l.2.goes_on in
    (g.cond_of l.0 r.0, (l.1, r.1), record { behind = r.2.behind; parts = seq2 (all_tokens l.0) (ors_tokens r.0) r.2.behind l.2.parts r.2.parts; goes_on = r.2.goes_on })

abbrev GroupThen : ℕ → ℕ → Scope → Marks → (Marks → QueryCondTree → State) → List Token → Found → Type 0
GroupThen limit n sc m k ts p = (c : g.Cond) × CondFits limit n c × Begins (cond_tokens c ++ (TSign signs.ParenClose ∷ [])) ts (λ ws. Lang limit (k (cond_marks sc m c) (derived_cond c)) ws p)

group_then : (limit n : ℕ) (sc : Scope) (m : Marks) (k : Marks → QueryCondTree → State) (ts : List Token) (p : Found) → Lang limit (group_state n sc m k) ts p → GroupThen limit n sc m k ts p
unfolding group_state
group_then limit n sc m k ts p h =
    let l = cond_then limit n sc m (λ m c. sign signs.ParenClose (k m c)) ts p h in
    let r = l.2.goes_on in
    (l.0, l.1, record { behind = r.behind; parts = seq2 (cond_tokens l.0) (TSign signs.ParenClose ∷ []) r.behind l.2.parts r.parts; goes_on = r.goes_on })

not_back : (limit n : ℕ) (sc : Scope) (m : Marks) (k : Marks → QueryCondTree → State) (w : List Token) (p : Found) → nat_lt n limit ≡ true → Lang limit (not_state (n + 1) sc m k) w p → Lang limit (atom n sc m k) (TName not_ ∷ w) p
unfolding not_state
not_back limit n sc m k w p f l =
    let r = group_then limit (n + 1) sc m (λ m c. k m (q.QueryNot c)) l.behind p l.goes_on in
    (g.negated r.0, (f, r.1), record { behind = r.2.behind; parts = ap (λ (l : List Token). TName not_ ∷ l) (l.parts ∙ ap (λ (l : List Token). TSign signs.ParenOpen ∷ l) r.2.parts); goes_on = r.2.goes_on })

true_back : (limit n : ℕ) (sc : Scope) (m : Marks) (k : Marks → QueryCondTree → State) (w : List Token) (p : Found) → Lang limit (true_state m k) w p → Lang limit (atom n sc m k) (TName true_ ∷ w) p
true_back limit n sc m k w p l =
    let r = l.goes_on in
    (g.always, tt, record { behind = r.behind; parts = ap (λ (l : List Token). TName true_ ∷ l) (l.parts ∙ ap (λ (l : List Token). TSign signs.ParenOpen ∷ l) r.parts); goes_on = r.goes_on })

exists_back : (limit n : ℕ) (sc : Scope) (m : Marks) (k : Marks → QueryCondTree → State) (w : List Token) (p : Found) → Lang limit (exists_state sc m k) w p → Lang limit (atom n sc m k) (TName exists_ ∷ w) p
unfolding exists_state
exists_back limit n sc m k w p l =
    let r = l.goes_on in
    let c = r.1.goes_on in (
      g.existing r.0,
      tt,
      record {
        behind = c.behind;
        parts = ap (λ (l : List Token). TName exists_ ∷ l) (l.parts ∙ ap (λ (l : List Token). TSign signs.ParenOpen ∷ l) (seq2 (path_tokens r.0) (TSign signs.ParenClose ∷ []) c.behind r.1.parts c.parts));
        goes_on = c.goes_on;
      },
    )

literal_back : (limit n : ℕ) (sc : Scope) (m : Marks) (k : Marks → QueryCondTree → State) (x : g.Literal) (w : List Token) (p : Found) → Lang limit (literal_state (literal_tree x) sc m k) w p → Lang limit (atom n sc m k) (literal_token x ∷ w) p
unfolding literal_state
literal_back limit n sc m k x w p l =
    let r = l.1.goes_on in (
      g.literal_first x l.0 r.0,
      tt,
      record {
        behind = r.1.behind;
        parts = ap (λ (l : List Token). literal_token x ∷ l) (l.1.parts ∙ ap (λ (r : List Token). TSign (rel_sign l.0) ∷ r) r.1.parts);
        goes_on = r.1.goes_on;
      },
    )

compare_back : (limit n : ℕ) (sc : Scope) (m : Marks) (k : Marks → QueryCondTree → State) (ts : List Token) (p : Found) → Lang limit (path (compare_state sc m k)) ts p → Lang limit (atom n sc m k) ts p
compare_back limit n sc m k ts p l =
    let r = l.1.goes_on in
    let o = r.1.goes_on in (
      g.compared l.0 r.0 o.0,
      tt,
      record {
        behind = o.1.behind;
        parts = seq2 (path_tokens l.0) (TSign (rel_sign r.0) ∷ operand_tokens o.0) o.1.behind l.1.parts (r.1.parts ∙ ap (λ (l : List Token). TSign (rel_sign r.0) ∷ l) o.1.parts);
        goes_on = o.1.goes_on;
      },
    )

atom_back : (limit n : ℕ) (sc : Scope) (m : Marks) (k : Marks → QueryCondTree → State) (t : Token) (w : List Token) (p : Found) (u : State) → at_atom limit n sc m k t ≡ okay u → Lang limit u w p → Lang limit (atom n sc m k) (t ∷ w) p
atom_back limit n sc m k (TName x) w p u e h = not_or (chosen (bytes_eq x not_) (opens limit n (not_state (n + 1) sc m k)) (cond (bytes_eq x true_) (Ok (true_state m k)) (cond (bytes_eq x exists_) (Ok (exists_state sc m k)) (Err Syntax))) (okay u) e)
  where
    named_as : (y : List ℕ) → bytes_eq x y ≡ true → Lang limit (atom n sc m k) (TName y ∷ w) p → Lang limit (atom n sc m k) (TName x ∷ w) p
    named_as y i l = subst (λ (v : List ℕ). Lang limit (atom n sc m k) (TName v ∷ w) p) (sym (same_is x y i)) l

    exists_or : cond (bytes_eq x exists_) (Ok (exists_state sc m k)) (Err Syntax) ≡ okay u → Lang limit (atom n sc m k) (TName x ∷ w) p
    exists_or d = let c = guarded (bytes_eq x exists_) (exists_state sc m k) u Syntax d in named_as exists_ c.0 (exists_back limit n sc m k w p (along limit (exists_state sc m k) u w p c.1 h))

    true_or : ((bytes_eq x true_ ≡ true) × (okay (true_state m k) ≡ okay u)) ⊎ ((bytes_eq x true_ ≡ false) × (cond (bytes_eq x exists_) (Ok (exists_state sc m k)) (Err Syntax) ≡ okay u)) → Lang limit (atom n sc m k) (TName x ∷ w) p
    true_or (inl c) = named_as true_ c.0 (true_back limit n sc m k w p (along limit (true_state m k) u w p c.1 h))
    true_or (inr c) = exists_or c.1

    not_or : ((bytes_eq x not_ ≡ true) × (opens limit n (not_state (n + 1) sc m k) ≡ okay u)) ⊎ ((bytes_eq x not_ ≡ false) × (cond (bytes_eq x true_) (Ok (true_state m k)) (cond (bytes_eq x exists_) (Ok (exists_state sc m k)) (Err Syntax)) ≡ okay u)) → Lang limit (atom n sc m k) (TName x ∷ w) p
    not_or (inl c) = let o = guarded (nat_lt n limit) (not_state (n + 1) sc m k) u Nesting c.1 in named_as not_ c.0 (not_back limit n sc m k w p o.0 (along limit (not_state (n + 1) sc m k) u w p o.1 h))
    not_or (inr c) = true_or (chosen (bytes_eq x true_) (Ok (true_state m k)) (cond (bytes_eq x exists_) (Ok (exists_state sc m k)) (Err Syntax)) (okay u) c.1)
atom_back limit n sc m k (TSign signs.ParenOpen) w p u e h =
    let o = guarded (nat_lt n limit) (group_state (n + 1) sc m k) u Nesting e in
    let r = group_then limit (n + 1) sc m k w p (along limit (group_state (n + 1) sc m k) u w p o.1 h) in
    (g.grouped r.0, (o.0, r.1), put (TSign signs.ParenOpen) r.2)
atom_back limit n sc m k (TStr x) w p u e h = literal_back limit n sc m k (g.text x) w p (along limit (literal_state (sides.Str x) sc m k) u w p e h)
atom_back limit n sc m k (TNum x) w p u e h = literal_back limit n sc m k (g.number x) w p (along limit (literal_state (sides.Num x) sc m k) u w p e h)
atom_back limit n sc m k (TVar at x) w p u e h = compare_back limit n sc m k (TVar at x ∷ w) p (path_back limit (compare_state sc m k) (TVar at x) w p u e h)
atom_back limit n sc m k (TSlash at) w p u e h = compare_back limit n sc m k (TSlash at ∷ w) p (path_back limit (compare_state sc m k) (TSlash at) w p u e h)
atom_back limit n sc m k (TSlashes at) w p u e h = compare_back limit n sc m k (TSlashes at ∷ w) p (path_back limit (compare_state sc m k) (TSlashes at) w p u e h)
atom_back limit n sc m k (TSign s) w p u e h = absurd cc

and_back : (limit n : ℕ) (sc : Scope) (m : Marks) (bs : List QueryCondTree) (k : Marks → List QueryCondTree → State) (w : List Token) (p : Found) → Lang limit (atom n sc m (more_ands n sc bs k)) w p → Lang limit (ands n sc m bs k) (TName and_ ∷ w) p
and_back limit n sc m bs k w p l =
    let r = l.2.goes_on in (
      g.and_more l.0 r.0,
      (l.1, r.1),
      record {
        behind = r.2.behind;
        parts = ap (λ (l : List Token). TName and_ ∷ l) (seq2 (atom_tokens l.0) (ands_tokens r.0) r.2.behind l.2.parts r.2.parts);
        goes_on = subst (λ (b : List QueryCondTree). Lang limit (k (ands_marks sc (atom_marks sc m l.0) r.0) b) r.2.behind p) (append_assoc bs (atom_tree l.0 ∷ []) (ands_tree r.0)) r.2.goes_on;
      },
    )

or_back : (limit n : ℕ) (sc : Scope) (m : Marks) (bs : List QueryCondTree) (k : Marks → List QueryCondTree → State) (w : List Token) (p : Found) → Lang limit (all_state n sc m (more_ors n sc bs k)) w p → Lang limit (ors n sc m bs k) (TName or_ ∷ w) p
or_back limit n sc m bs k w p h =
    let l = all_then limit n sc m (more_ors n sc bs k) w p h in
    let r = l.2.goes_on in (
      g.or_more l.0 r.0,
      (l.1, r.1),
      record {
        behind = r.2.behind;
        parts = ap (λ (l : List Token). TName or_ ∷ l) (seq2 (all_tokens l.0) (ors_tokens r.0) r.2.behind l.2.parts r.2.parts);
        goes_on = subst (λ (b : List QueryCondTree). Lang limit (k (ors_marks sc (all_marks sc m l.0) r.0) b) r.2.behind p) (append_assoc bs (all_tree l.0 ∷ []) (ors_tree r.0)) r.2.goes_on;
      },
    )

-- ---- expressions

abbrev ClauseThen : ℕ → Scope → Marks → (Marks → Clause → State) → List Token → Found → Type 0
ClauseThen limit sc m k ts p = (at : ℕ) × (x : List ℕ) × (s : g.Source) × Begins (clause_tokens (g.clause at x s)) ts (λ ws. Lang limit (k (clause_marks sc m (g.clause at x s)) (clause_tree (g.clause at x s))) ws p)

clause_then : (limit : ℕ) (sc : Scope) (m : Marks) (k : Marks → Clause → State) (ts : List Token) (p : Found) → Lang limit (clause_state sc m k) ts p → ClauseThen limit sc m k ts p
unfolding clause_state
clause_then limit sc m k ts p l =
    let r = l.2.goes_on in
    let s = r.goes_on in
    (l.0, l.1, s.0, record { behind = s.1.behind; parts = l.2.parts ∙ ap (λ (r : List Token). TVar l.0 l.1 ∷ r) (r.parts ∙ ap (λ (r : List Token). TName in_ ∷ r) s.1.parts); goes_on = s.1.goes_on })

pub no_clause_back : (limit : ℕ) (sc : Scope) (m : Marks) (cs : List Clause) (k : Scope → Marks → List Clause → State) (ts : List Token) (p : Found) → Lang limit (k sc m cs) ts p → Lang limit (clauses sc m cs k) ts p
no_clause_back limit sc m cs k ts p h = (g.no_clause, record { behind = ts; parts = refl; goes_on = subst (λ (l : List Clause). Lang limit (k sc m l) ts p) (sym (append-nil cs)) h })

clauses_back : (limit : ℕ) (sc : Scope) (m : Marks) (cs : List Clause) (k : Scope → Marks → List Clause → State) (w : List Token) (p : Found) → Lang limit (clause_state sc m (more_clauses sc cs k)) w p → Lang limit (clauses sc m cs k) (TSign signs.Comma ∷ w) p
clauses_back limit sc m cs k w p h =
    let l = clause_then limit sc m (more_clauses sc cs k) w p h in
    let r = l.3.goes_on in
    let c : g.ClauseSyntax = g.clause l.0 l.1 l.2 in (
      g.clause_more c r.0,
      record {
        behind = r.1.behind;
        parts = ap (λ (l : List Token). TSign signs.Comma ∷ l) (seq2 (clause_tokens c) (clauses_tokens r.0) r.1.behind l.3.parts r.1.parts);
        goes_on = subst (λ (b : List Clause). Lang limit (k (clauses_scope (clause_scope sc c) r.0) (clauses_marks (clause_scope sc c) (clause_marks sc m c) r.0) b) r.1.behind p) (append_assoc cs (clause_tree c ∷ []) (clauses_tree r.0)) r.1.goes_on;
      },
    )

where_back : (limit n : ℕ) (sc : Scope) (m : Marks) (k : Marks → Option QueryCondTree → State) (w : List Token) (p : Found) → Lang limit (cond_state n sc m (with_filter k)) w p → Lang limit (condition n sc m k) (TName where_ ∷ w) p
where_back limit n sc m k w p h =
    let l = cond_then limit n sc m (with_filter k) w p h in
    (g.where_cond l.0, l.1, put (TName where_) l.2)

pub no_where_back : (limit n : ℕ) (sc : Scope) (m : Marks) (k : Marks → Option QueryCondTree → State) (ts : List Token) (p : Found) → Lang limit (k m None) ts p → Lang limit (condition n sc m k) ts p
no_where_back limit n sc m k ts p h = (g.no_where, tt, record { behind = ts; parts = refl; goes_on = h })

pub no_rest_back : (limit n : ℕ) (sc : Scope) (m : Marks) (es : List ExprTree) (k : Marks → List ExprTree → State) (ts : List Token) (p : Found) → Lang limit (k m es) ts p → Lang limit (rest n sc m es k) ts p
no_rest_back limit n sc m es k ts p h = (g.no_rest, tt, record { behind = ts; parts = refl; goes_on = subst (λ (l : List ExprTree). Lang limit (k m l) ts p) (sym (append-nil es)) h })

rest_back : (limit n : ℕ) (sc : Scope) (m : Marks) (es : List ExprTree) (k : Marks → List ExprTree → State) (w : List Token) (p : Found) → Lang limit (expr n sc m (more_rest n sc es k)) w p → Lang limit (rest n sc m es k) (TSign signs.Comma ∷ w) p
rest_back limit n sc m es k w p l =
    let r = l.2.goes_on in (
      g.rest_more l.0 r.0,
      (l.1, r.1),
      record {
        behind = r.2.behind;
        parts = ap (λ (l : List Token). TSign signs.Comma ∷ l) (seq2 (expr_tokens l.0) (rest_tokens r.0) r.2.behind l.2.parts r.2.parts);
        goes_on = subst (λ (b : List ExprTree). Lang limit (k (rest_marks sc (expr_marks sc m l.0) r.0) b) r.2.behind p) (append_assoc es (derived_expr l.0 ∷ []) (rest_tree r.0)) r.2.goes_on;
      },
    )

for_back : (limit n : ℕ) (sc : Scope) (m : Marks) (k : Marks → ExprTree → State) (w : List Token) (p : Found) → nat_lt n limit ≡ true → Lang limit (for_state (n + 1) sc m k) w p → Lang limit (expr n sc m k) (TName for_ ∷ w) p
unfolding for_state
for_back limit n sc m k w p f h =
    let next : Scope → Marks → List Clause → State = λ sc m cs. condition (n + 1) sc m (λ m w. word return_ (expr (n + 1) sc m (λ m e. k m (q.QueryFor cs w e)))) in
    let c = clause_then limit sc m (more_clauses sc [] next) w p h in
    let cs = c.3.goes_on in
    let v = cs.1.goes_on in
    let r = v.2.goes_on in
    let e = r.goes_on in
    let d : g.ClauseSyntax = g.clause c.0 c.1 c.2 in (
      g.for_expr d cs.0 v.0 e.0,
      (f, v.1, e.1),
      record {
        behind = e.2.behind;
        parts = ap (λ (l : List Token). TName for_ ∷ l) (seq2 (clause_tokens d) (clauses_tokens cs.0 ++ (where_tokens v.0 ++ (TName return_ ∷ expr_tokens e.0))) e.2.behind c.3.parts
            (seq2 (clauses_tokens cs.0) (where_tokens v.0 ++ (TName return_ ∷ expr_tokens e.0)) e.2.behind cs.1.parts
            (seq2 (where_tokens v.0) (TName return_ ∷ expr_tokens e.0) e.2.behind v.2.parts (r.parts ∙ ap (λ (l : List Token). TName return_ ∷ l) e.2.parts))));
        goes_on = e.2.goes_on;
      },
    )

if_back : (limit n : ℕ) (sc : Scope) (m : Marks) (k : Marks → ExprTree → State) (w : List Token) (p : Found) → nat_lt n limit ≡ true → Lang limit (if_state (n + 1) sc m k) w p → Lang limit (expr n sc m k) (TName if_ ∷ w) p
unfolding if_state head_state
if_back limit n sc m k w p f h =
    let d = n + 1 in
    let next : Marks → QueryCondTree → State = λ m c. sign signs.ParenClose (word then_ (expr d sc m (λ m a. word else_ (expr d sc m (λ m b. k m (q.QueryIf c a b)))))) in
    let c = cond_then limit d sc m next h.behind p h.goes_on in
    let pc = c.2.goes_on in
    let th = pc.goes_on in
    let a = th.goes_on in
    let el = a.2.goes_on in
    let b = el.goes_on in (
      g.if_expr c.0 a.0 b.0,
      (f, c.1, a.1, b.1),
      record {
        behind = b.2.behind;
        parts = ap (λ (l : List Token). TName if_ ∷ l) (h.parts ∙ ap (λ (l : List Token). TSign signs.ParenOpen ∷ l)
            (seq2 (cond_tokens c.0) (TSign signs.ParenClose ∷ TName then_ ∷ (expr_tokens a.0 ++ (TName else_ ∷ expr_tokens b.0))) b.2.behind c.2.parts
            (pc.parts ∙ ap (λ (l : List Token). TSign signs.ParenClose ∷ l) (th.parts ∙ ap (λ (l : List Token). TName then_ ∷ l)
            (seq2 (expr_tokens a.0) (TName else_ ∷ expr_tokens b.0) b.2.behind a.2.parts (el.parts ∙ ap (λ (l : List Token). TName else_ ∷ l) b.2.parts))))));
        goes_on = b.2.goes_on;
      },
    )

abbrev ElemThen : ℕ → ℕ → Scope → Marks → (Marks → ExprTree → State) → List Token → Found → Type 0
ElemThen limit n sc m k ts p = (x : List ℕ) × (t : g.Tag) × TagFits limit n t × Begins (TName x ∷ tag_tokens x t) ts (λ ws. Lang limit (k (tag_marks sc m t) (q.Elem x (exprs_of (tag_tree t)))) ws p)

elem_then : (limit n : ℕ) (sc : Scope) (m : Marks) (k : Marks → ExprTree → State) (ts : List Token) (p : Found) → Lang limit (elem_state n sc m k) ts p → ElemThen limit n sc m k ts p
unfolding elem_state
elem_then limit n sc m k ts p l =
    let r = l.1.goes_on in
    (l.0, r.0, r.1, record { behind = r.2.behind; parts = l.1.parts ∙ ap (λ (r : List Token). TName l.0 ∷ r) r.2.parts; goes_on = r.2.goes_on })

expr_path : (limit n : ℕ) (sc : Scope) (m : Marks) (k : Marks → ExprTree → State) (ts : List Token) (p : Found) → Lang limit (path (path_seen sc m k)) ts p → Lang limit (expr n sc m k) ts p
expr_path limit n sc m k ts p l = (g.path_expr l.0, tt, l.1)

expr_back : (limit n : ℕ) (sc : Scope) (m : Marks) (k : Marks → ExprTree → State) (t : Token) (w : List Token) (p : Found) (u : State) → at_expr limit n sc m k t ≡ okay u → Lang limit u w p → Lang limit (expr n sc m k) (t ∷ w) p
expr_back limit n sc m k (TName x) w p u e h = for_or (chosen (bytes_eq x for_) (opens limit n (for_state (n + 1) sc m k)) (cond (bytes_eq x if_) (opens limit n (if_state (n + 1) sc m k)) (Err Syntax)) (okay u) e)
  where
    named_as : (y : List ℕ) → bytes_eq x y ≡ true → Lang limit (expr n sc m k) (TName y ∷ w) p → Lang limit (expr n sc m k) (TName x ∷ w) p
    named_as y i l = subst (λ (v : List ℕ). Lang limit (expr n sc m k) (TName v ∷ w) p) (sym (same_is x y i)) l

    if_or : ((bytes_eq x if_ ≡ true) × (opens limit n (if_state (n + 1) sc m k) ≡ okay u)) ⊎ ((bytes_eq x if_ ≡ false) × (Err Syntax ≡ okay u)) → Lang limit (expr n sc m k) (TName x ∷ w) p
    if_or (inl c) = let o = guarded (nat_lt n limit) (if_state (n + 1) sc m k) u Nesting c.1 in named_as if_ c.0 (if_back limit n sc m k w p o.0 (along limit (if_state (n + 1) sc m k) u w p o.1 h))
    if_or (inr c) = absurd cc

    for_or : ((bytes_eq x for_ ≡ true) × (opens limit n (for_state (n + 1) sc m k) ≡ okay u)) ⊎ ((bytes_eq x for_ ≡ false) × (cond (bytes_eq x if_) (opens limit n (if_state (n + 1) sc m k)) (Err Syntax) ≡ okay u)) → Lang limit (expr n sc m k) (TName x ∷ w) p
    for_or (inl c) = let o = guarded (nat_lt n limit) (for_state (n + 1) sc m k) u Nesting c.1 in named_as for_ c.0 (for_back limit n sc m k w p o.0 (along limit (for_state (n + 1) sc m k) u w p o.1 h))
    for_or (inr c) = if_or (chosen (bytes_eq x if_) (opens limit n (if_state (n + 1) sc m k)) (Err Syntax) (okay u) c.1)
expr_back limit n sc m k (TSign signs.Lt) w p u e h =
    let o = guarded (nat_lt n limit) (elem_state (n + 1) sc m k) u Nesting e in
    let l = elem_then limit (n + 1) sc m k w p (along limit (elem_state (n + 1) sc m k) u w p o.1 h) in
    (g.elem_expr l.0 l.1, (o.0, l.2), put (TSign signs.Lt) l.3)
expr_back limit n sc m k (TSign signs.ParenOpen) w p u e h =
    let o = guarded (nat_lt n limit) (inner (n + 1) sc m k) u Nesting e in
    let l : Lang limit (inner (n + 1) sc m k) w p = along limit (inner (n + 1) sc m k) u w p o.1 h in
    (g.paren_expr l.0, (o.0, l.1), put (TSign signs.ParenOpen) l.2)
expr_back limit n sc m k (TStr x) w p u e h = absurd cc
expr_back limit n sc m k (TNum x) w p u e h = absurd cc
expr_back limit n sc m k (TVar at x) w p u e h = expr_path limit n sc m k (TVar at x ∷ w) p (path_back limit (path_seen sc m k) (TVar at x) w p u e h)
expr_back limit n sc m k (TSlash at) w p u e h = expr_path limit n sc m k (TSlash at ∷ w) p (path_back limit (path_seen sc m k) (TSlash at) w p u e h)
expr_back limit n sc m k (TSlashes at) w p u e h = expr_path limit n sc m k (TSlashes at ∷ w) p (path_back limit (path_seen sc m k) (TSlashes at) w p u e h)
expr_back limit n sc m k (TSign s) w p u e h = absurd cc

listed_back : (limit n : ℕ) (sc : Scope) (m : Marks) (k : Marks → ExprTree → State) (ts : List Token) (p : Found) → Lang limit (listed_state n sc m k) ts p → Lang limit (inner n sc m k) ts p
listed_back limit n sc m k ts p l =
    let r = l.2.goes_on in
    let c = r.2.goes_on in
    (g.listed l.0 r.0, (l.1, r.1), record { behind = c.behind; parts = seq2 (expr_tokens l.0) (rest_tokens r.0 ++ (TSign signs.ParenClose ∷ [])) c.behind l.2.parts (seq2 (rest_tokens r.0) (TSign signs.ParenClose ∷ []) c.behind r.2.parts c.parts); goes_on = c.goes_on })

inner_back : (limit n : ℕ) (sc : Scope) (m : Marks) (k : Marks → ExprTree → State) (t : Token) (w : List Token) (p : Found) (u : State) → step limit (inner n sc m k) t ≡ okay u → Lang limit u w p → Lang limit (inner n sc m k) (t ∷ w) p
inner_back limit n sc m k (TSign signs.ParenClose) w p u e h = (g.closed, tt, record { behind = w; parts = refl; goes_on = along limit (k m q.Empty) u w p e h })
inner_back limit n sc m k (TStr x) w p u e h = absurd cc
inner_back limit n sc m k (TNum x) w p u e h = absurd cc
inner_back limit n sc m k (TName x) w p u e h = listed_back limit n sc m k (TName x ∷ w) p (expr_back limit n sc m (members n sc k) (TName x) w p u e h)
inner_back limit n sc m k (TVar at x) w p u e h = listed_back limit n sc m k (TVar at x ∷ w) p (expr_back limit n sc m (members n sc k) (TVar at x) w p u e h)
inner_back limit n sc m k (TSlash at) w p u e h = listed_back limit n sc m k (TSlash at ∷ w) p (expr_back limit n sc m (members n sc k) (TSlash at) w p u e h)
inner_back limit n sc m k (TSlashes at) w p u e h = listed_back limit n sc m k (TSlashes at ∷ w) p (expr_back limit n sc m (members n sc k) (TSlashes at) w p u e h)
inner_back limit n sc m k (TSign s) w p u e h = listed_back limit n sc m k (TSign s ∷ w) p (expr_back limit n sc m (members n sc k) (TSign s) w p u e h)

tag_back : (limit n : ℕ) (sc : Scope) (m : Marks) (x : List ℕ) (k : Marks → List ExprTree → State) (t : Token) (w : List Token) (p : Found) (u : State) → step limit (tag n sc m x k) t ≡ okay u → Lang limit u w p → Lang limit (tag n sc m x k) (t ∷ w) p
tag_back limit n sc m x k (TSign signs.EmptyEnd) w p u e h = (g.short, tt, record { behind = w; parts = refl; goes_on = along limit (k m []) u w p e h })
tag_back limit n sc m x k (TSign signs.Gt) w p u e h =
    let l : Lang limit (content n sc m x [] k) w p = along limit (content n sc m x [] k) u w p e h in
    (g.long l.0, l.1, put (TSign signs.Gt) l.2)
tag_back limit n sc m x k (TName y) w p u e h = absurd cc
tag_back limit n sc m x k (TVar at y) w p u e h = absurd cc
tag_back limit n sc m x k (TNum y) w p u e h = absurd cc
tag_back limit n sc m x k (TStr y) w p u e h = absurd cc
tag_back limit n sc m x k (TSlash at) w p u e h = absurd cc
tag_back limit n sc m x k (TSlashes at) w p u e h = absurd cc
tag_back limit n sc m x k (TSign s) w p u e h = absurd cc

content_back : (limit n : ℕ) (sc : Scope) (m : Marks) (x : List ℕ) (es : List ExprTree) (k : Marks → List ExprTree → State) (t : Token) (w : List Token) (p : Found) (u : State) → step limit (content n sc m x es k) t ≡ okay u → Lang limit u w p → Lang limit (content n sc m x es k) (t ∷ w) p
content_back limit n sc m x es k (TSign signs.EndTag) w p u e h =
    let l : Lang limit (end_name x (sign signs.Gt (k m es))) w p = along limit (end_name x (sign signs.Gt (k m es))) u w p e h in
    let r = l.goes_on in (
      g.ended,
      tt,
      record {
        behind = r.behind;
        parts = ap (λ (l : List Token). TSign signs.EndTag ∷ l) (l.parts ∙ ap (λ (l : List Token). TName x ∷ l) r.parts);
        goes_on = subst (λ (l : List ExprTree). Lang limit (k m l) r.behind p) (sym (append-nil es)) r.goes_on;
      },
    )
content_back limit n sc m x es k (TSign signs.Lt) w p u e h =
    let next : Marks → ExprTree → State = after_nested n sc x es k in
    let o = guarded (nat_lt n limit) (elem_state (n + 1) sc m next) u Nesting e in
    let l = elem_then limit (n + 1) sc m next w p (along limit (elem_state (n + 1) sc m next) u w p o.1 h) in
    let r = l.3.goes_on in (
      g.nested l.0 l.1 r.0,
      (o.0, l.2, r.1),
      record {
        behind = r.2.behind;
        parts = ap (λ (l : List Token). TSign signs.Lt ∷ l) (seq2 (TName l.0 ∷ tag_tokens l.0 l.1) (content_tokens x r.0) r.2.behind l.3.parts r.2.parts);
        goes_on = subst (λ (b : List ExprTree). Lang limit (k (content_marks sc (tag_marks sc m l.1) r.0) b) r.2.behind p) (append_assoc es (q.Elem l.0 (exprs_of (tag_tree l.1)) ∷ []) (content_tree r.0)) r.2.goes_on;
      },
    )
content_back limit n sc m x es k (TSign signs.BraceOpen) w p u e h =
    let l : Lang limit (braces_state n sc m x es k) w p = along limit (braces_state n sc m x es k) u w p e h in
    let r = l.2.goes_on in
    let b = r.2.goes_on in
    let c = b.goes_on in (
      g.braced l.0 r.0 c.0,
      (l.1, r.1, c.1),
      record {
        behind = c.2.behind;
        parts = ap (λ (l : List Token). TSign signs.BraceOpen ∷ l) (seq2 (expr_tokens l.0) (rest_tokens r.0 ++ (TSign signs.BraceClose ∷ content_tokens x c.0)) c.2.behind l.2.parts
            (seq2 (rest_tokens r.0) (TSign signs.BraceClose ∷ content_tokens x c.0) c.2.behind r.2.parts (b.parts ∙ ap (λ (l : List Token). TSign signs.BraceClose ∷ l) c.2.parts)));
        goes_on = subst (λ (b : List ExprTree). Lang limit (k (content_marks sc (rest_marks sc (expr_marks sc m l.0) r.0) c.0) b) c.2.behind p) (append_assoc es (derived_expr l.0 ∷ rest_tree r.0) (content_tree c.0)) c.2.goes_on;
      },
    )
content_back limit n sc m x es k (TName y) w p u e h = absurd cc
content_back limit n sc m x es k (TVar at y) w p u e h = absurd cc
content_back limit n sc m x es k (TNum y) w p u e h = absurd cc
content_back limit n sc m x es k (TStr y) w p u e h = absurd cc
content_back limit n sc m x es k (TSlash at) w p u e h = absurd cc
content_back limit n sc m x es k (TSlashes at) w p u e h = absurd cc
content_back limit n sc m x es k (TSign s) w p u e h = absurd cc

-- ---- a step back, from any state

pub call_over : (limit : ℕ) (d : Axis) (x : List ℕ) (k : Step → State) (ts : List Token) (p : Found) → Lang limit (k (a_step d (tests.Named x))) ts p → Lang limit (call_or_name d x k) ts p
call_over limit d x k ts p h = (uncalled, record { behind = ts; parts = refl; goes_on = h })

pub colons_over : (limit : ℕ) (x : List ℕ) (k : Step → State) (ts : List Token) (p : Found) → Lang limit (k (a_step axes.Child (tests.Named x))) ts p → Lang limit (axis_or_name x k) ts p
colons_over limit x k ts p h = (bare, record { behind = ts; parts = refl; goes_on = h })

call_back : (limit : ℕ) (d : Axis) (x : List ℕ) (k : Step → State) (w : List Token) (p : Found) → Lang limit (sign signs.ParenClose (k (a_step d (kind_test x)))) w p → Lang limit (call_or_name d x k) (TSign signs.ParenOpen ∷ w) p
call_back limit d x k w p l = (called, put (TSign signs.ParenOpen) l)

colons_back : (limit : ℕ) (x : List ℕ) (k : Step → State) (w : List Token) (p : Found) → Lang limit (test (axis_named x) k) w p → Lang limit (axis_or_name x k) (TSign signs.Axis ∷ w) p
colons_back limit x k w p l = (colons l.0, put (TSign signs.Axis) l.1)

-- a separator, or what is behind
word_or : (limit : ℕ) (v x : List ℕ) (s after : State) (t : Result State Why) (w : List Token) (p : Found) (u : State) → cond (bytes_eq x v) (Ok s) t ≡ okay u → Lang limit u w p →
    (Lang limit s w p → Lang limit after (TName v ∷ w) p) → (t ≡ okay u → Lang limit after (TName x ∷ w) p) → Lang limit after (TName x ∷ w) p
word_or limit v x s after t w p u e h yes' no' = go (chosen (bytes_eq x v) (Ok s) t (okay u) e)
  where
    go : ((bytes_eq x v ≡ true) × (okay s ≡ okay u)) ⊎ ((bytes_eq x v ≡ false) × (t ≡ okay u)) → Lang limit after (TName x ∷ w) p
    go (inl c) = subst (λ (y : List ℕ). Lang limit after (TName y ∷ w) p) (sym (same_is x v c.0)) (yes' (along limit s u w p c.1 h))
    go (inr c) = no' c.1

pub step_back : (limit : ℕ) (s : State) (t : Token) (w : List Token) (p : Found) (u : State) → step limit s t ≡ okay u → Lang limit u w p → Lang limit s (t ∷ w) p
step_back limit (done m es) t w p u e h = absurd cc
step_back limit (sign x s) (TSign y) w p u e h =
    let c = guarded (sign_eq x y) s u Syntax e in
    record { behind = w; parts = ap (λ (z : Sign). TSign z ∷ w) (sym (sign_is x y c.0)); goes_on = along limit s u w p c.1 h }
step_back limit (sign x s) (TName y) w p u e h = absurd cc
step_back limit (sign x s) (TVar at y) w p u e h = absurd cc
step_back limit (sign x s) (TNum y) w p u e h = absurd cc
step_back limit (sign x s) (TStr y) w p u e h = absurd cc
step_back limit (sign x s) (TSlash at) w p u e h = absurd cc
step_back limit (sign x s) (TSlashes at) w p u e h = absurd cc
step_back limit (word x s) (TName y) w p u e h =
    let c = guarded (bytes_eq y x) s u Syntax e in
    record { behind = w; parts = ap (λ (z : List ℕ). TName z ∷ w) (same_is y x c.0); goes_on = along limit s u w p c.1 h }
step_back limit (word x s) (TVar at y) w p u e h = absurd cc
step_back limit (word x s) (TNum y) w p u e h = absurd cc
step_back limit (word x s) (TStr y) w p u e h = absurd cc
step_back limit (word x s) (TSlash at) w p u e h = absurd cc
step_back limit (word x s) (TSlashes at) w p u e h = absurd cc
step_back limit (word x s) (TSign y) w p u e h = absurd cc
step_back limit (end_name x s) (TName y) w p u e h =
    let c = guarded (bytes_eq y x) s u TagMismatch e in
    record { behind = w; parts = ap (λ (z : List ℕ). TName z ∷ w) (same_is y x c.0); goes_on = along limit s u w p c.1 h }
step_back limit (end_name x s) (TVar at y) w p u e h = absurd cc
step_back limit (end_name x s) (TNum y) w p u e h = absurd cc
step_back limit (end_name x s) (TStr y) w p u e h = absurd cc
step_back limit (end_name x s) (TSlash at) w p u e h = absurd cc
step_back limit (end_name x s) (TSlashes at) w p u e h = absurd cc
step_back limit (end_name x s) (TSign y) w p u e h = absurd cc
step_back limit (var k) (TVar at x) w p u e h = (at, x, record { behind = w; parts = refl; goes_on = along limit (k x) u w p e h })
step_back limit (var k) (TName y) w p u e h = absurd cc
step_back limit (var k) (TNum y) w p u e h = absurd cc
step_back limit (var k) (TStr y) w p u e h = absurd cc
step_back limit (var k) (TSlash at) w p u e h = absurd cc
step_back limit (var k) (TSlashes at) w p u e h = absurd cc
step_back limit (var k) (TSign y) w p u e h = absurd cc
step_back limit (name k) (TName x) w p u e h = (x, record { behind = w; parts = refl; goes_on = along limit (k x) u w p e h })
step_back limit (name k) (TVar at y) w p u e h = absurd cc
step_back limit (name k) (TNum y) w p u e h = absurd cc
step_back limit (name k) (TStr y) w p u e h = absurd cc
step_back limit (name k) (TSlash at) w p u e h = absurd cc
step_back limit (name k) (TSlashes at) w p u e h = absurd cc
step_back limit (name k) (TSign y) w p u e h = absurd cc
step_back limit (axis k) t w p u e h = axis_back limit k t w p u e h
step_back limit (test d k) t w p u e h = test_back limit d k t w p u e h
step_back limit (first_step k) t w p u e h = first_back limit k t w p u e h
step_back limit (source k) t w p u e h = source_back limit k t w p u e h
step_back limit (path k) t w p u e h = path_back limit k t w p u e h
step_back limit (operand sc m k) t w p u e h = operand_back limit sc m k t w p u e h
step_back limit (atom n sc m k) t w p u e h = atom_back limit n sc m k t w p u e h
step_back limit (expr n sc m k) t w p u e h = expr_back limit n sc m k t w p u e h
step_back limit (inner n sc m k) t w p u e h = inner_back limit n sc m k t w p u e h
step_back limit (tag n sc m x k) t w p u e h = tag_back limit n sc m x k t w p u e h
step_back limit (content n sc m x es k) t w p u e h = content_back limit n sc m x es k t w p u e h
step_back limit (rel k) (TSign s) w p u e h = rel_back limit k s w p u e h
step_back limit (rel k) (TName y) w p u e h = absurd cc
step_back limit (rel k) (TVar at y) w p u e h = absurd cc
step_back limit (rel k) (TNum y) w p u e h = absurd cc
step_back limit (rel k) (TStr y) w p u e h = absurd cc
step_back limit (rel k) (TSlash at) w p u e h = absurd cc
step_back limit (rel k) (TSlashes at) w p u e h = absurd cc
step_back limit (call_or_name d x k) (TSign signs.ParenOpen) w p u e h = call_back limit d x k w p (along limit (sign signs.ParenClose (k (a_step d (kind_test x)))) u w p e h)
step_back limit (call_or_name d x k) (TName y) w p u e h = call_over limit d x k (TName y ∷ w) p (step_back limit (k (a_step d (tests.Named x))) (TName y) w p u e h)
step_back limit (call_or_name d x k) (TVar at y) w p u e h = call_over limit d x k (TVar at y ∷ w) p (step_back limit (k (a_step d (tests.Named x))) (TVar at y) w p u e h)
step_back limit (call_or_name d x k) (TNum y) w p u e h = call_over limit d x k (TNum y ∷ w) p (step_back limit (k (a_step d (tests.Named x))) (TNum y) w p u e h)
step_back limit (call_or_name d x k) (TStr y) w p u e h = call_over limit d x k (TStr y ∷ w) p (step_back limit (k (a_step d (tests.Named x))) (TStr y) w p u e h)
step_back limit (call_or_name d x k) (TSlash at) w p u e h = call_over limit d x k (TSlash at ∷ w) p (step_back limit (k (a_step d (tests.Named x))) (TSlash at) w p u e h)
step_back limit (call_or_name d x k) (TSlashes at) w p u e h = call_over limit d x k (TSlashes at ∷ w) p (step_back limit (k (a_step d (tests.Named x))) (TSlashes at) w p u e h)
step_back limit (call_or_name d x k) (TSign y) w p u e h = call_over limit d x k (TSign y ∷ w) p (step_back limit (k (a_step d (tests.Named x))) (TSign y) w p u e h)
step_back limit (axis_or_name x k) (TSign signs.Axis) w p u e h = colons_back limit x k w p (along limit (test (axis_named x) k) u w p e h)
step_back limit (axis_or_name x k) (TName y) w p u e h = colons_over limit x k (TName y ∷ w) p (step_back limit (k (a_step axes.Child (tests.Named x))) (TName y) w p u e h)
step_back limit (axis_or_name x k) (TVar at y) w p u e h = colons_over limit x k (TVar at y ∷ w) p (step_back limit (k (a_step axes.Child (tests.Named x))) (TVar at y) w p u e h)
step_back limit (axis_or_name x k) (TNum y) w p u e h = colons_over limit x k (TNum y ∷ w) p (step_back limit (k (a_step axes.Child (tests.Named x))) (TNum y) w p u e h)
step_back limit (axis_or_name x k) (TStr y) w p u e h = colons_over limit x k (TStr y ∷ w) p (step_back limit (k (a_step axes.Child (tests.Named x))) (TStr y) w p u e h)
step_back limit (axis_or_name x k) (TSlash at) w p u e h = colons_over limit x k (TSlash at ∷ w) p (step_back limit (k (a_step axes.Child (tests.Named x))) (TSlash at) w p u e h)
step_back limit (axis_or_name x k) (TSlashes at) w p u e h = colons_over limit x k (TSlashes at ∷ w) p (step_back limit (k (a_step axes.Child (tests.Named x))) (TSlashes at) w p u e h)
step_back limit (axis_or_name x k) (TSign y) w p u e h = colons_over limit x k (TSign y ∷ w) p (step_back limit (k (a_step axes.Child (tests.Named x))) (TSign y) w p u e h)
step_back limit (steps t k) (TSlash at) w p u e h = more_back limit t k (TSlash at ∷ w) p (slash_back limit at (steps_behind t k) w p (along limit (axis (steps_behind t k at)) u w p e h))
step_back limit (steps t k) (TSlashes at) w p u e h = more_back limit t k (TSlashes at ∷ w) p (double_back limit at (steps_behind t k) w p (along limit (test axes.Descendant (steps_behind t k at)) u w p e h))
step_back limit (steps t k) (TName y) w p u e h = no_more_back limit t k (TName y ∷ w) p (step_back limit (k t) (TName y) w p u e h)
step_back limit (steps t k) (TVar at y) w p u e h = no_more_back limit t k (TVar at y ∷ w) p (step_back limit (k t) (TVar at y) w p u e h)
step_back limit (steps t k) (TNum y) w p u e h = no_more_back limit t k (TNum y ∷ w) p (step_back limit (k t) (TNum y) w p u e h)
step_back limit (steps t k) (TStr y) w p u e h = no_more_back limit t k (TStr y ∷ w) p (step_back limit (k t) (TStr y) w p u e h)
step_back limit (steps t k) (TSign y) w p u e h = no_more_back limit t k (TSign y ∷ w) p (step_back limit (k t) (TSign y) w p u e h)
step_back limit (rest n sc m es k) (TSign signs.Comma) w p u e h = rest_back limit n sc m es k w p (along limit (expr n sc m (more_rest n sc es k)) u w p e h)
step_back limit (rest n sc m es k) (TName y) w p u e h = no_rest_back limit n sc m es k (TName y ∷ w) p (step_back limit (k m es) (TName y) w p u e h)
step_back limit (rest n sc m es k) (TVar at y) w p u e h = no_rest_back limit n sc m es k (TVar at y ∷ w) p (step_back limit (k m es) (TVar at y) w p u e h)
step_back limit (rest n sc m es k) (TNum y) w p u e h = no_rest_back limit n sc m es k (TNum y ∷ w) p (step_back limit (k m es) (TNum y) w p u e h)
step_back limit (rest n sc m es k) (TStr y) w p u e h = no_rest_back limit n sc m es k (TStr y ∷ w) p (step_back limit (k m es) (TStr y) w p u e h)
step_back limit (rest n sc m es k) (TSlash at) w p u e h = no_rest_back limit n sc m es k (TSlash at ∷ w) p (step_back limit (k m es) (TSlash at) w p u e h)
step_back limit (rest n sc m es k) (TSlashes at) w p u e h = no_rest_back limit n sc m es k (TSlashes at ∷ w) p (step_back limit (k m es) (TSlashes at) w p u e h)
step_back limit (rest n sc m es k) (TSign y) w p u e h = no_rest_back limit n sc m es k (TSign y ∷ w) p (step_back limit (k m es) (TSign y) w p u e h)
step_back limit (clauses sc m cs k) (TSign signs.Comma) w p u e h = clauses_back limit sc m cs k w p (along limit (clause_state sc m (more_clauses sc cs k)) u w p e h)
step_back limit (clauses sc m cs k) (TName y) w p u e h = no_clause_back limit sc m cs k (TName y ∷ w) p (step_back limit (k sc m cs) (TName y) w p u e h)
step_back limit (clauses sc m cs k) (TVar at y) w p u e h = no_clause_back limit sc m cs k (TVar at y ∷ w) p (step_back limit (k sc m cs) (TVar at y) w p u e h)
step_back limit (clauses sc m cs k) (TNum y) w p u e h = no_clause_back limit sc m cs k (TNum y ∷ w) p (step_back limit (k sc m cs) (TNum y) w p u e h)
step_back limit (clauses sc m cs k) (TStr y) w p u e h = no_clause_back limit sc m cs k (TStr y ∷ w) p (step_back limit (k sc m cs) (TStr y) w p u e h)
step_back limit (clauses sc m cs k) (TSlash at) w p u e h = no_clause_back limit sc m cs k (TSlash at ∷ w) p (step_back limit (k sc m cs) (TSlash at) w p u e h)
step_back limit (clauses sc m cs k) (TSlashes at) w p u e h = no_clause_back limit sc m cs k (TSlashes at ∷ w) p (step_back limit (k sc m cs) (TSlashes at) w p u e h)
step_back limit (clauses sc m cs k) (TSign y) w p u e h = no_clause_back limit sc m cs k (TSign y ∷ w) p (step_back limit (k sc m cs) (TSign y) w p u e h)
step_back limit (ands n sc m bs k) (TName x) w p u e h = word_or limit and_ x (atom n sc m (more_ands n sc bs k)) (ands n sc m bs k) (step limit (k m bs) (TName x)) w p u e h (and_back limit n sc m bs k w p) (λ d. no_and_back limit n sc m bs k (TName x ∷ w) p (step_back limit (k m bs) (TName x) w p u d h))
step_back limit (ands n sc m bs k) (TVar at y) w p u e h = no_and_back limit n sc m bs k (TVar at y ∷ w) p (step_back limit (k m bs) (TVar at y) w p u e h)
step_back limit (ands n sc m bs k) (TNum y) w p u e h = no_and_back limit n sc m bs k (TNum y ∷ w) p (step_back limit (k m bs) (TNum y) w p u e h)
step_back limit (ands n sc m bs k) (TStr y) w p u e h = no_and_back limit n sc m bs k (TStr y ∷ w) p (step_back limit (k m bs) (TStr y) w p u e h)
step_back limit (ands n sc m bs k) (TSlash at) w p u e h = no_and_back limit n sc m bs k (TSlash at ∷ w) p (step_back limit (k m bs) (TSlash at) w p u e h)
step_back limit (ands n sc m bs k) (TSlashes at) w p u e h = no_and_back limit n sc m bs k (TSlashes at ∷ w) p (step_back limit (k m bs) (TSlashes at) w p u e h)
step_back limit (ands n sc m bs k) (TSign y) w p u e h = no_and_back limit n sc m bs k (TSign y ∷ w) p (step_back limit (k m bs) (TSign y) w p u e h)
step_back limit (ors n sc m bs k) (TName x) w p u e h = word_or limit or_ x (all_state n sc m (more_ors n sc bs k)) (ors n sc m bs k) (step limit (k m bs) (TName x)) w p u e h (or_back limit n sc m bs k w p) (λ d. no_or_back limit n sc m bs k (TName x ∷ w) p (step_back limit (k m bs) (TName x) w p u d h))
step_back limit (ors n sc m bs k) (TVar at y) w p u e h = no_or_back limit n sc m bs k (TVar at y ∷ w) p (step_back limit (k m bs) (TVar at y) w p u e h)
step_back limit (ors n sc m bs k) (TNum y) w p u e h = no_or_back limit n sc m bs k (TNum y ∷ w) p (step_back limit (k m bs) (TNum y) w p u e h)
step_back limit (ors n sc m bs k) (TStr y) w p u e h = no_or_back limit n sc m bs k (TStr y ∷ w) p (step_back limit (k m bs) (TStr y) w p u e h)
step_back limit (ors n sc m bs k) (TSlash at) w p u e h = no_or_back limit n sc m bs k (TSlash at ∷ w) p (step_back limit (k m bs) (TSlash at) w p u e h)
step_back limit (ors n sc m bs k) (TSlashes at) w p u e h = no_or_back limit n sc m bs k (TSlashes at ∷ w) p (step_back limit (k m bs) (TSlashes at) w p u e h)
step_back limit (ors n sc m bs k) (TSign y) w p u e h = no_or_back limit n sc m bs k (TSign y ∷ w) p (step_back limit (k m bs) (TSign y) w p u e h)
step_back limit (condition n sc m k) (TName x) w p u e h = word_or limit where_ x (cond_state n sc m (with_filter k)) (condition n sc m k) (step limit (k m None) (TName x)) w p u e h (where_back limit n sc m k w p) (λ d. no_where_back limit n sc m k (TName x ∷ w) p (step_back limit (k m None) (TName x) w p u d h))
step_back limit (condition n sc m k) (TVar at y) w p u e h = no_where_back limit n sc m k (TVar at y ∷ w) p (step_back limit (k m None) (TVar at y) w p u e h)
step_back limit (condition n sc m k) (TNum y) w p u e h = no_where_back limit n sc m k (TNum y ∷ w) p (step_back limit (k m None) (TNum y) w p u e h)
step_back limit (condition n sc m k) (TStr y) w p u e h = no_where_back limit n sc m k (TStr y ∷ w) p (step_back limit (k m None) (TStr y) w p u e h)
step_back limit (condition n sc m k) (TSlash at) w p u e h = no_where_back limit n sc m k (TSlash at ∷ w) p (step_back limit (k m None) (TSlash at) w p u e h)
step_back limit (condition n sc m k) (TSlashes at) w p u e h = no_where_back limit n sc m k (TSlashes at ∷ w) p (step_back limit (k m None) (TSlashes at) w p u e h)
step_back limit (condition n sc m k) (TSign y) w p u e h = no_where_back limit n sc m k (TSign y ∷ w) p (step_back limit (k m None) (TSign y) w p u e h)

some_is : (f h : Found) → (let a : Option Found = Some f in let b : Option Found = Some h in a ≡ b) → f ≡ h
some_is f h e = cc

-- nothing more is wanted
pub whole_back : (limit : ℕ) (s : State) (p : Found) → whole s ≡ Some p → Lang limit s [] p
whole_back limit (done m es) p e = (refl, some_is (a_found m es) p e)
whole_back limit (axis_or_name x k) p e = colons_over limit x k [] p (whole_back limit (k (a_step axes.Child (tests.Named x))) p e)
whole_back limit (call_or_name d x k) p e = call_over limit d x k [] p (whole_back limit (k (a_step d (tests.Named x))) p e)
whole_back limit (steps t k) p e = no_more_back limit t k [] p (whole_back limit (k t) p e)
whole_back limit (ands n sc m bs k) p e = no_and_back limit n sc m bs k [] p (whole_back limit (k m bs) p e)
whole_back limit (ors n sc m os k) p e = no_or_back limit n sc m os k [] p (whole_back limit (k m os) p e)
whole_back limit (rest n sc m es k) p e = no_rest_back limit n sc m es k [] p (whole_back limit (k m es) p e)
whole_back limit (clauses sc m cs k) p e = no_clause_back limit sc m cs k [] p (whole_back limit (k sc m cs) p e)
whole_back limit (condition n sc m k) p e = no_where_back limit n sc m k [] p (whole_back limit (k m None) p e)
whole_back limit (sign x s) p e = absurd cc
whole_back limit (word w s) p e = absurd cc
whole_back limit (end_name w s) p e = absurd cc
whole_back limit (var k) p e = absurd cc
whole_back limit (name k) p e = absurd cc
whole_back limit (axis k) p e = absurd cc
whole_back limit (test d k) p e = absurd cc
whole_back limit (first_step k) p e = absurd cc
whole_back limit (source k) p e = absurd cc
whole_back limit (path k) p e = absurd cc
whole_back limit (rel k) p e = absurd cc
whole_back limit (operand sc m k) p e = absurd cc
whole_back limit (atom n sc m k) p e = absurd cc
whole_back limit (expr n sc m k) p e = absurd cc
whole_back limit (inner n sc m k) p e = absurd cc
whole_back limit (tag n sc m x k) p e = absurd cc
whole_back limit (content n sc m x es k) p e = absurd cc
