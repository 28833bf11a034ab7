-- A query is sound exactly where no variable is unknown and no descendant step is late.
use Rattle.std.proofs.Common.{ℕ, ◌≡◌, Bool, true, false, not, ◌&&◌, cond, List, [], ◌∷◌, ◌++◌, refl, sym, ap, ◌∙◌}
use Rattle.std.specs.Prelude.{bytes_eq}
use Rattle.gcx_model.specs.Paths.{any}
use Rattle.gcx_model.specs.Variables.{is_child}
use Rattle.gcx_model.specs.Query.{QueryCondTree, ExprTree, conds_of, exprs_of}
use Rattle.gcx_model.specs.Sound.{only_last, has_step, is_path, is_ordered_path, is_side, is_literal, is_cond, are_conds, are_clauses, scope_of, is_filter, is_expr, are_exprs, is_sound}
use Rattle.xq_parse.specs.Grammar as g
use Rattle.xq_parse.specs.Grammar.{all_of, any_of, seq_of, step_tree, steps_tree, path_tree, source_tree, operand_tree, literal_tree, derived_cond, ors_tree, all_tree, ands_tree, atom_tree, clause_tree, clauses_tree, where_tree, derived_expr, inner_tree, rest_tree, tag_tree, content_tree, derivation_tree}
use Rattle.xq_parse.specs.Places.{Scope, descent, late_behind, steps_late, path_unknown, source_unknown, operand_unknown, cond_unknown, ors_unknown, all_unknown, ands_unknown, atom_unknown, clauses_unknown, clauses_scope, loop_scope, where_unknown, expr_unknown, inner_unknown, rest_unknown, tag_unknown, content_unknown, unknown_of, path_late, source_late, clauses_late, expr_late, inner_late, rest_late, tag_late, content_late, late_of}

abbrev pub none : List ℕ → Bool
none [] = true
none (x ∷ xs) = false

none_join : (a b : List ℕ) → none (a ++ b) ≡ none a && none b
none_join [] b = refl
none_join (x ∷ a) b = refl

and_true : (a : Bool) → a && true ≡ a
and_true true = refl
and_true false = refl

and_assoc : (a b c : Bool) → (a && b) && c ≡ a && (b && c)
and_assoc true b c = refl
and_assoc false b c = refl

-- two parts, each with its unknown variables and its late steps
four : (a b c d : Bool) → (a && b) && (c && d) ≡ (a && c) && (b && d)
four true true c d = refl
four true false true d = refl
four true false false d = refl
four false b c d = refl

-- two parts joined
joined : (x y : Bool) (us ls vs ks : List ℕ) → x ≡ none us && none ls → y ≡ none vs && none ks → x && y ≡ none (us ++ vs) && none (ls ++ ks)
joined x y us ls vs ks e f =
    ap (λ (a : Bool). a && y) e ∙ ap (λ (b : Bool). (none us && none ls) && b) f ∙ four (none us) (none ls) (none vs) (none ks)
    ∙ ap (λ (a : Bool). a && (none ls && none ks)) (sym (none_join us vs)) ∙ ap (λ (b : Bool). none (us ++ vs) && b) (sym (none_join ls ks))

alone : (x : Bool) (us : List ℕ) → x ≡ none us → x ≡ none us && none []
alone x us e = e ∙ sym (and_true (none us))

-- two conditions joined
both : (x y : Bool) (us vs : List ℕ) → x ≡ none us → y ≡ none vs → x && y ≡ none (us ++ vs)
both x y us vs e f = ap (λ (a : Bool). a && y) e ∙ ap (λ (b : Bool). none us && b) f ∙ sym (none_join us vs)

-- ---- paths

none_descent : (s : g.StepSyntax) (xs : List ℕ) → is_child (step_tree s).axis && none xs ≡ none (descent s ++ xs)
none_descent (g.plain at t) xs = refl
none_descent (g.child at t) xs = refl
none_descent (g.descendant at t) xs = refl
none_descent (g.double at t) xs = refl

behind_last : (s : g.StepSyntax) (ss : g.StepsSyntax) → only_last (step_tree s ∷ steps_tree ss) ≡ none (late_behind s ss)
behind_last s g.no_step = refl
behind_last s (g.more_steps u us) = ap (λ (b : Bool). is_child (step_tree s).axis && b) (behind_last u us) ∙ none_descent s (late_behind u us)

steps_last : (ss : g.StepsSyntax) → only_last (steps_tree ss) ≡ none (steps_late ss)
steps_last g.no_step = refl
steps_last (g.more_steps s ss) = behind_last s ss

cond_none : (b : Bool) (at : ℕ) → (let l : List ℕ = cond b [] (at ∷ []) in b ≡ none l)
cond_none true at = refl
cond_none false at = refl

path_is : (sc : Scope) (p : g.Path) → is_path sc (path_tree p) ≡ none (path_unknown sc p)
path_is sc (g.from_var at x ss) = cond_none (any (bytes_eq x) sc) at
path_is sc (g.from_root s ss) = refl

path_last : (p : g.Path) → only_last (path_tree p).steps ≡ none (path_late p)
path_last (g.from_var at x ss) = steps_last ss
path_last (g.from_root s ss) = behind_last s ss

ordered_is : (sc : Scope) (p : g.Path) → is_ordered_path sc (path_tree p) ≡ none (path_unknown sc p) && none (path_late p)
ordered_is sc p = ap (λ (a : Bool). a && only_last (path_tree p).steps) (path_is sc p) ∙ ap (λ (b : Bool). none (path_unknown sc p) && b) (path_last p)

source_is : (sc : Scope) (p : g.Source) → is_ordered_path sc (source_tree p) && has_step (source_tree p).steps ≡ none (source_unknown sc p) && none (source_late p)
source_is sc (g.in_var at x s ss) = and_true _ ∙ ap (λ (a : Bool). a && only_last (step_tree s ∷ steps_tree ss)) (cond_none (any (bytes_eq x) sc) at) ∙ ap (λ (b : Bool). none (source_unknown sc (g.in_var at x s ss)) && b) (behind_last s ss)
source_is sc (g.in_root s ss) = and_true _ ∙ behind_last s ss

-- ---- conditions

operand_is : (sc : Scope) (o : g.Operand) → is_side sc (operand_tree o) ≡ none (operand_unknown sc o)
operand_is sc (g.path_operand p) = path_is sc p
operand_is sc (g.literal_operand (g.text x)) = refl
operand_is sc (g.literal_operand (g.number u)) = refl

any_is : (sc : Scope) (c : QueryCondTree) (os : g.Ors) → is_cond sc (any_of (c ∷ ors_tree os)) ≡ is_cond sc c && are_conds sc (conds_of (ors_tree os))
any_is sc c g.no_or = sym (and_true (is_cond sc c))
any_is sc c (g.or_more a os) = refl

all_is : (sc : Scope) (c : QueryCondTree) (bs : g.Ands) → is_cond sc (all_of (c ∷ ands_tree bs)) ≡ is_cond sc c && are_conds sc (conds_of (ands_tree bs))
all_is sc c g.no_and = sym (and_true (is_cond sc c))
all_is sc c (g.and_more a bs) = refl

literal_side : (sc : Scope) (l : g.Literal) (b : Bool) → (is_side sc (literal_tree l) && b) && not (is_literal (literal_tree l) && false) ≡ b
literal_side sc (g.text x) b = and_true b
literal_side sc (g.number u) b = and_true b

mutual
  cond_is : (sc : Scope) (c : g.Cond) → is_cond sc (derived_cond c) ≡ none (cond_unknown sc c)
  cond_is sc (g.cond_of a os) = any_is sc (all_tree a) os ∙ both _ _ (all_unknown sc a) (ors_unknown sc os) (alls_is sc a) (ors_are sc os)

  ors_are : (sc : Scope) (os : g.Ors) → are_conds sc (conds_of (ors_tree os)) ≡ none (ors_unknown sc os)
  ors_are sc g.no_or = refl
  ors_are sc (g.or_more a os) = both _ _ (all_unknown sc a) (ors_unknown sc os) (alls_is sc a) (ors_are sc os)

  alls_is : (sc : Scope) (a : g.All) → is_cond sc (all_tree a) ≡ none (all_unknown sc a)
  alls_is sc (g.all a bs) = all_is sc (atom_tree a) bs ∙ both _ _ (atom_unknown sc a) (ands_unknown sc bs) (atom_is sc a) (ands_are sc bs)

  ands_are : (sc : Scope) (bs : g.Ands) → are_conds sc (conds_of (ands_tree bs)) ≡ none (ands_unknown sc bs)
  ands_are sc g.no_and = refl
  ands_are sc (g.and_more a bs) = both _ _ (atom_unknown sc a) (ands_unknown sc bs) (atom_is sc a) (ands_are sc bs)

  atom_is : (sc : Scope) (a : g.Atom) → is_cond sc (atom_tree a) ≡ none (atom_unknown sc a)
  atom_is sc (g.negated c) = cond_is sc c
  atom_is sc g.always = refl
  atom_is sc (g.existing p) = path_is sc p
  atom_is sc (g.grouped c) = cond_is sc c
  atom_is sc (g.compared p r o) = and_true _ ∙ both _ _ (path_unknown sc p) (operand_unknown sc o) (path_is sc p) (operand_is sc o)
  atom_is sc (g.literal_first l r p) = literal_side sc l (is_path sc (path_tree p)) ∙ path_is sc p

-- ---- loops

clauses_are : (sc : Scope) (cs : g.Clauses) → are_clauses sc (clauses_tree cs) ≡ none (clauses_unknown sc cs) && none (clauses_late cs)
clauses_are sc g.no_clause = refl
clauses_are sc (g.clause_more (g.clause at x s) cs) = joined _ _ (source_unknown sc s) (source_late s) (clauses_unknown (x ∷ sc) cs) (clauses_late cs) (source_is sc s) (clauses_are (x ∷ sc) cs)

scope_is : (sc : Scope) (cs : g.Clauses) → scope_of sc (clauses_tree cs) ≡ clauses_scope sc cs
scope_is sc g.no_clause = refl
scope_is sc (g.clause_more (g.clause at x s) cs) = scope_is (x ∷ sc) cs

filter_is : (sc : Scope) (w : g.Where) → is_filter sc (where_tree w) ≡ none (where_unknown sc w)
filter_is sc g.no_where = refl
filter_is sc (g.where_cond c) = cond_is sc c

-- ---- expressions

seq_is : (sc : Scope) (e : ExprTree) (r : g.Rest) → is_expr sc (seq_of (e ∷ rest_tree r)) ≡ is_expr sc e && are_exprs sc (exprs_of (rest_tree r))
seq_is sc e g.no_rest = sym (and_true (is_expr sc e))
seq_is sc e (g.rest_more f r) = refl

exprs_join : (sc : Scope) (es fs : List ExprTree) → are_exprs sc (exprs_of (es ++ fs)) ≡ are_exprs sc (exprs_of es) && are_exprs sc (exprs_of fs)
exprs_join sc [] fs = refl
exprs_join sc (e ∷ es) fs = ap (λ (b : Bool). is_expr sc e && b) (exprs_join sc es fs) ∙ sym (and_assoc (is_expr sc e) (are_exprs sc (exprs_of es)) (are_exprs sc (exprs_of fs)))

mutual
  expr_is : (sc : Scope) (e : g.Expr) → is_expr sc (derived_expr e) ≡ none (expr_unknown sc e) && none (expr_late e)
  expr_is sc (g.for_expr c cs w e) =
      let inside : Scope = loop_scope sc c cs in
      let there : Scope = scope_of sc (clauses_tree (g.clause_more c cs)) in
      let same : there ≡ inside = scope_is sc (g.clause_more c cs) in
      joined _ _ (clauses_unknown sc (g.clause_more c cs)) (clauses_late (g.clause_more c cs)) (where_unknown inside w ++ expr_unknown inside e) (expr_late e) (clauses_are sc (g.clause_more c cs))
      (ap (λ (s : Scope). is_filter s (where_tree w) && is_expr s (derived_expr e)) same
      ∙ joined _ _ (where_unknown inside w) [] (expr_unknown inside e) (expr_late e) (alone _ (where_unknown inside w) (filter_is inside w)) (expr_is inside e))
  expr_is sc (g.if_expr c a b) =
      joined _ _ (cond_unknown sc c) [] (expr_unknown sc a ++ expr_unknown sc b) (expr_late a ++ expr_late b) (alone _ (cond_unknown sc c) (cond_is sc c))
      (joined _ _ (expr_unknown sc a) (expr_late a) (expr_unknown sc b) (expr_late b) (expr_is sc a) (expr_is sc b))
  expr_is sc (g.elem_expr x t) = tag_is sc t
  expr_is sc (g.paren_expr i) = inner_is sc i
  expr_is sc (g.path_expr p) = ordered_is sc p

  inner_is : (sc : Scope) (i : g.Inner) → is_expr sc (inner_tree i) ≡ none (inner_unknown sc i) && none (inner_late i)
  inner_is sc g.closed = refl
  inner_is sc (g.listed e r) = seq_is sc (derived_expr e) r ∙ joined _ _ (expr_unknown sc e) (expr_late e) (rest_unknown sc r) (rest_late r) (expr_is sc e) (rest_is sc r)

  rest_is : (sc : Scope) (r : g.Rest) → are_exprs sc (exprs_of (rest_tree r)) ≡ none (rest_unknown sc r) && none (rest_late r)
  rest_is sc g.no_rest = refl
  rest_is sc (g.rest_more e r) = joined _ _ (expr_unknown sc e) (expr_late e) (rest_unknown sc r) (rest_late r) (expr_is sc e) (rest_is sc r)

  tag_is : (sc : Scope) (t : g.Tag) → are_exprs sc (exprs_of (tag_tree t)) ≡ none (tag_unknown sc t) && none (tag_late t)
  tag_is sc g.short = refl
  tag_is sc (g.long c) = content_is sc c

  content_is : (sc : Scope) (c : g.Content) → are_exprs sc (exprs_of (content_tree c)) ≡ none (content_unknown sc c) && none (content_late c)
  content_is sc g.ended = refl
  content_is sc (g.nested y t c) = joined _ _ (tag_unknown sc t) (tag_late t) (content_unknown sc c) (content_late c) (tag_is sc t) (content_is sc c)
  content_is sc (g.braced e r c) =
      ap (λ (b : Bool). is_expr sc (derived_expr e) && b) (exprs_join sc (rest_tree r) (content_tree c))
      ∙ joined _ _ (expr_unknown sc e) (expr_late e) (rest_unknown sc r ++ content_unknown sc c) (rest_late r ++ content_late c) (expr_is sc e)
      (joined _ _ (rest_unknown sc r) (rest_late r) (content_unknown sc c) (content_late c) (rest_is sc r) (content_is sc c))

pub sound_is : (d : g.Derivation) → is_sound (derivation_tree d) ≡ none (unknown_of d) && none (late_of d)
sound_is d = joined _ _ (expr_unknown [] d.first) (expr_late d.first) (rest_unknown [] d.others) (rest_late d.others) (expr_is [] d.first) (rest_is [] d.others)
