-- Each leaf of a query that a text spells is a token of the text.
use Rattle.std.proofs.Common.{ℕ, List, [], ◌∷◌, ◌++◌, sym, subst}
use Rattle.std.specs.Prelude.{length}
use Rattle.std.specs.Str.{chars, encode_utf8_all}
use Rattle.gcx_model.specs.Query.{QueryCondTree, ExprTree, conds_of, exprs_of}
use Rattle.xq_lex.specs.declared.sign.Sign.{Sign}
use Rattle.xq_lex.specs.declared.sign.Sign.TheVariants as signs
use Rattle.xq_lex.specs.declared.token.Tok.{Tok}
use Rattle.xq_lex.specs.declared.token.TokKind.{TokKind}
use Rattle.xq_lex.specs.declared.token.TokKind.TheVariants as kinds
use Rattle.xq_lex.specs.Lex.{Lexes, Reads, ReadsAll}
use Rattle.xq_parse.specs.Tokens.{Token, TName, TVar, TNum, TStr, TSlash, TSlashes, TSign, token_at, tokens_of, return_, then_, else_}
use Rattle.xq_parse.specs.Grammar as g
use Rattle.xq_parse.specs.Grammar.{all_of, any_of, seq_of, test_tokens, test_tree, step_tokens, step_tree, steps_tokens, steps_tree, path_tokens, path_tree, source_tokens, source_tree, operand_tokens, operand_tree, cond_tokens, derived_cond, ors_tokens, ors_tree, all_tokens, all_tree, ands_tokens, ands_tree, atom_tokens, atom_tree, clause_tokens, clause_tree, clauses_tokens, clauses_tree, where_tokens, where_tree, expr_tokens, derived_expr, inner_tokens, inner_tree, rest_tokens, rest_tree, tag_tokens, tag_tree, content_tokens, content_tree, derivation_tokens, derivation_tree}
use Rattle.xq_parse.specs.Spelling.{Spells}
use Rattle.xq_print.proofs.Lexical.{IsKind, LexicalTest, LexicalSteps, LexicalPath, LexicalOperand, LexicalCond, LexicalConds, LexicalClause, LexicalClauses, LexicalFilter, LexicalExpr, LexicalExprs, Lexical}

-- ---- Tokens

abbrev IsLeaf : Token → Type 0
IsLeaf (TName x) = IsKind (kinds.Name x)
IsLeaf (TVar at x) = IsKind (kinds.Var x)
IsLeaf (TNum u) = IsKind (kinds.Number u)
IsLeaf (TStr x) = IsKind (kinds.Str x)
IsLeaf (TSlash at) = Unit {0}
IsLeaf (TSlashes at) = Unit {0}
IsLeaf (TSign s) = Unit {0}

abbrev Leaves : List Token → Type 0
Leaves [] = Unit {0}
Leaves (t ∷ ts) = IsLeaf t × Leaves ts

token_leaf : (at : ℕ) (k : TokKind) → IsKind k → IsLeaf (token_at at k)
token_leaf at (kinds.Name x) h = h
token_leaf at (kinds.Var x) h = h
token_leaf at (kinds.Number u) h = h
token_leaf at (kinds.Str x) h = h
token_leaf at (kinds.Sign s) h = sign_leaf s
  where
    sign_leaf : (s : Sign) → IsLeaf (token_at at (kinds.Sign s))
    sign_leaf signs.Slash = tt
    sign_leaf signs.SlashSlash = tt
    sign_leaf s = tt

read_leaves : (total : ℕ) (text : List ℕ) (ts : List Tok) (rest : List ℕ) → ReadsAll total text ts rest → Leaves (tokens_of ts)
read_leaves total text [] rest h = tt
read_leaves total text (t ∷ ts) rest h =
    let one : Reads total text t h.0 = h.1.0 in
    let leaf : IsKind t.kind = record { form = one.form; rest = h.0; good = one.begins.good; in_range = one.in_range; is = one.kind } in
    (token_leaf t.from t.kind leaf, read_leaves total h.0 ts rest h.1.1)

split : (a b : List Token) → Leaves (a ++ b) → Leaves a × Leaves b
split [] b h = (tt, h)
split (t ∷ a) b h = let more : Leaves a × Leaves b = split a b h.1 in ((h.0, more.0), more.1)

-- ---- Paths

test_leaves : (t : g.TestSyntax) → Leaves (test_tokens t) → LexicalTest (test_tree t)
test_leaves (g.name_test x) h = h.0
test_leaves g.star_test h = tt
test_leaves g.text_test h = tt
test_leaves g.node_test h = tt

step_leaves : (s : g.StepSyntax) → Leaves (step_tokens s) → LexicalTest (step_tree s).test
step_leaves (g.plain at t) h = test_leaves t h.1
step_leaves (g.child at t) h = test_leaves t h.1.1.1
step_leaves (g.descendant at t) h = test_leaves t h.1.1.1
step_leaves (g.double at t) h = test_leaves t h.1

steps_leaves : (ss : g.StepsSyntax) → Leaves (steps_tokens ss) → LexicalSteps (steps_tree ss)
steps_leaves g.no_step h = tt
steps_leaves (g.more_steps s ss) h = let parts : Leaves (step_tokens s) × Leaves (steps_tokens ss) = split (step_tokens s) (steps_tokens ss) h in (step_leaves s parts.0, steps_leaves ss parts.1)

path_leaves : (p : g.Path) → Leaves (path_tokens p) → LexicalPath (path_tree p)
path_leaves (g.from_var at x ss) h = (h.0, steps_leaves ss h.1)
path_leaves (g.from_root s ss) h = (tt, steps_leaves (g.more_steps s ss) h)

source_leaves : (s : g.Source) → Leaves (source_tokens s) → LexicalPath (source_tree s)
source_leaves (g.in_var at x s ss) h = (h.0, steps_leaves (g.more_steps s ss) h.1)
source_leaves (g.in_root s ss) h = (tt, steps_leaves (g.more_steps s ss) h)

operand_leaves : (o : g.Operand) → Leaves (operand_tokens o) → LexicalOperand (operand_tree o)
operand_leaves (g.path_operand p) h = path_leaves p h
operand_leaves (g.literal_operand (g.text x)) h = h.0
operand_leaves (g.literal_operand (g.number u)) h = h.0

-- ---- Conditions

in_all : (cs : List QueryCondTree) → LexicalConds (conds_of cs) → LexicalCond (all_of cs)
in_all [] h = h
in_all (c ∷ []) h = h.0
in_all (c ∷ d ∷ ds) h = h

in_any : (cs : List QueryCondTree) → LexicalConds (conds_of cs) → LexicalCond (any_of cs)
in_any [] h = h
in_any (c ∷ []) h = h.0
in_any (c ∷ d ∷ ds) h = h

mutual
  cond_leaves : (c : g.Cond) → Leaves (cond_tokens c) → LexicalCond (derived_cond c)
  cond_leaves (g.cond_of a os) h =
      let parts : Leaves (all_tokens a) × Leaves (ors_tokens os) = split (all_tokens a) (ors_tokens os) h in
      in_any (all_tree a ∷ ors_tree os) (all_leaves a parts.0, ors_leaves os parts.1)

  ors_leaves : (os : g.Ors) → Leaves (ors_tokens os) → LexicalConds (conds_of (ors_tree os))
  ors_leaves g.no_or h = tt
  ors_leaves (g.or_more a os) h = let parts : Leaves (all_tokens a) × Leaves (ors_tokens os) = split (all_tokens a) (ors_tokens os) h.1 in (all_leaves a parts.0, ors_leaves os parts.1)

  all_leaves : (a : g.All) → Leaves (all_tokens a) → LexicalCond (all_tree a)
  all_leaves (g.all a bs) h =
      let parts : Leaves (atom_tokens a) × Leaves (ands_tokens bs) = split (atom_tokens a) (ands_tokens bs) h in
      in_all (atom_tree a ∷ ands_tree bs) (atom_leaves a parts.0, ands_leaves bs parts.1)

  ands_leaves : (bs : g.Ands) → Leaves (ands_tokens bs) → LexicalConds (conds_of (ands_tree bs))
  ands_leaves g.no_and h = tt
  ands_leaves (g.and_more a bs) h = let parts : Leaves (atom_tokens a) × Leaves (ands_tokens bs) = split (atom_tokens a) (ands_tokens bs) h.1 in (atom_leaves a parts.0, ands_leaves bs parts.1)

  atom_leaves : (a : g.Atom) → Leaves (atom_tokens a) → LexicalCond (atom_tree a)
  atom_leaves (g.negated c) h = cond_leaves c (split (cond_tokens c) (TSign signs.ParenClose ∷ []) h.1.1).0
  atom_leaves g.always h = tt
  atom_leaves (g.existing p) h = path_leaves p (split (path_tokens p) (TSign signs.ParenClose ∷ []) h.1.1).0
  atom_leaves (g.grouped c) h = cond_leaves c (split (cond_tokens c) (TSign signs.ParenClose ∷ []) h.1).0
  atom_leaves (g.compared p r o) h =
      let parts : Leaves (path_tokens p) × Leaves (TSign (g.rel_sign r) ∷ operand_tokens o) = split (path_tokens p) (TSign (g.rel_sign r) ∷ operand_tokens o) h in
      (path_leaves p parts.0, operand_leaves o parts.1.1)
  atom_leaves (g.literal_first (g.text x) r p) h = (h.0, path_leaves p h.1.1)
  atom_leaves (g.literal_first (g.number u) r p) h = (h.0, path_leaves p h.1.1)

-- ---- Expressions

clause_leaves : (c : g.ClauseSyntax) → Leaves (clause_tokens c) → LexicalClause (clause_tree c)
clause_leaves (g.clause at x s) h = (h.0, source_leaves s h.1.1)

clauses_leaves : (cs : g.Clauses) → Leaves (clauses_tokens cs) → LexicalClauses (clauses_tree cs)
clauses_leaves g.no_clause h = tt
clauses_leaves (g.clause_more c cs) h = let parts : Leaves (clause_tokens c) × Leaves (clauses_tokens cs) = split (clause_tokens c) (clauses_tokens cs) h.1 in (clause_leaves c parts.0, clauses_leaves cs parts.1)

where_leaves : (w : g.Where) → Leaves (where_tokens w) → LexicalFilter (where_tree w)
where_leaves g.no_where h = tt
where_leaves (g.where_cond c) h = cond_leaves c h.1

in_seq : (es : List ExprTree) → LexicalExprs (exprs_of es) → LexicalExpr (seq_of es)
in_seq [] h = tt
in_seq (e ∷ []) h = h.0
in_seq (e ∷ f ∷ fs) h = h

join_exprs : (es fs : List ExprTree) → LexicalExprs (exprs_of es) → LexicalExprs (exprs_of fs) → LexicalExprs (exprs_of (es ++ fs))
join_exprs [] fs h k = k
join_exprs (e ∷ es) fs h k = (h.0, join_exprs es fs h.1 k)

mutual
  expr_leaves : (e : g.Expr) → Leaves (expr_tokens e) → LexicalExpr (derived_expr e)
  expr_leaves (g.for_expr c cs w e) h =
      let loop : Leaves (clause_tokens c) × Leaves (clauses_tokens cs ++ (where_tokens w ++ (TName return_ ∷ expr_tokens e))) = split (clause_tokens c) (clauses_tokens cs ++ (where_tokens w ++ (TName return_ ∷ expr_tokens e))) h.1 in
      let more : Leaves (clauses_tokens cs) × Leaves (where_tokens w ++ (TName return_ ∷ expr_tokens e)) = split (clauses_tokens cs) (where_tokens w ++ (TName return_ ∷ expr_tokens e)) loop.1 in
      let body : Leaves (where_tokens w) × Leaves (TName return_ ∷ expr_tokens e) = split (where_tokens w) (TName return_ ∷ expr_tokens e) more.1 in
      ((clause_leaves c loop.0, clauses_leaves cs more.0), where_leaves w body.0, expr_leaves e body.1.1)
  expr_leaves (g.if_expr c a b) h =
      let test : Leaves (cond_tokens c) × Leaves (TSign signs.ParenClose ∷ TName then_ ∷ (expr_tokens a ++ (TName else_ ∷ expr_tokens b))) = split (cond_tokens c) (TSign signs.ParenClose ∷ TName then_ ∷ (expr_tokens a ++ (TName else_ ∷ expr_tokens b))) h.1.1 in
      let both : Leaves (expr_tokens a) × Leaves (TName else_ ∷ expr_tokens b) = split (expr_tokens a) (TName else_ ∷ expr_tokens b) test.1.1.1 in
      (cond_leaves c test.0, expr_leaves a both.0, expr_leaves b both.1.1)
  expr_leaves (g.elem_expr x t) h = (h.1.0, tag_leaves x t h.1.1)
  expr_leaves (g.paren_expr i) h = inner_leaves i h.1
  expr_leaves (g.path_expr p) h = path_leaves p h

  inner_leaves : (i : g.Inner) → Leaves (inner_tokens i) → LexicalExpr (inner_tree i)
  inner_leaves g.closed h = tt
  inner_leaves (g.listed e r) h =
      let parts : Leaves (expr_tokens e) × Leaves (rest_tokens r ++ (TSign signs.ParenClose ∷ [])) = split (expr_tokens e) (rest_tokens r ++ (TSign signs.ParenClose ∷ [])) h in
      in_seq (derived_expr e ∷ rest_tree r) (expr_leaves e parts.0, rest_leaves r (split (rest_tokens r) (TSign signs.ParenClose ∷ []) parts.1).0)

  rest_leaves : (r : g.Rest) → Leaves (rest_tokens r) → LexicalExprs (exprs_of (rest_tree r))
  rest_leaves g.no_rest h = tt
  rest_leaves (g.rest_more e r) h = let parts : Leaves (expr_tokens e) × Leaves (rest_tokens r) = split (expr_tokens e) (rest_tokens r) h.1 in (expr_leaves e parts.0, rest_leaves r parts.1)

  tag_leaves : (x : List ℕ) (t : g.Tag) → Leaves (tag_tokens x t) → LexicalExprs (exprs_of (tag_tree t))
  tag_leaves x g.short h = tt
  tag_leaves x (g.long c) h = content_leaves x c h.1

  content_leaves : (x : List ℕ) (c : g.Content) → Leaves (content_tokens x c) → LexicalExprs (exprs_of (content_tree c))
  content_leaves x g.ended h = tt
  content_leaves x (g.nested y t c) h =
      let parts : Leaves (tag_tokens y t) × Leaves (content_tokens x c) = split (tag_tokens y t) (content_tokens x c) h.1.1 in
      ((h.1.0, tag_leaves y t parts.0), content_leaves x c parts.1)
  content_leaves x (g.braced e r c) h =
      let first : Leaves (expr_tokens e) × Leaves (rest_tokens r ++ (TSign signs.BraceClose ∷ content_tokens x c)) = split (expr_tokens e) (rest_tokens r ++ (TSign signs.BraceClose ∷ content_tokens x c)) h.1 in
      let more : Leaves (rest_tokens r) × Leaves (TSign signs.BraceClose ∷ content_tokens x c) = split (rest_tokens r) (TSign signs.BraceClose ∷ content_tokens x c) first.1 in
      (expr_leaves e first.0, join_exprs (rest_tree r) (content_tree c) (rest_leaves r more.0) (content_leaves x c more.1.1))

as_list : (es : List ExprTree) → LexicalExprs (exprs_of es) → Lexical es
as_list [] h = tt
as_list (e ∷ es) h = (h.0, as_list es h.1)

query_leaves : (d : g.Derivation) → Leaves (derivation_tokens d) → Lexical (derivation_tree d)
query_leaves d h =
    let parts : Leaves (expr_tokens d.first) × Leaves (rest_tokens d.others) = split (expr_tokens d.first) (rest_tokens d.others) h in
    as_list (derivation_tree d) (expr_leaves d.first parts.0, rest_leaves d.others parts.1)

pub lexical : (text : List ℕ) (ts : List Tok) (q : List ExprTree) → Lexes text ts → Spells ts q → Lexical q
lexical text ts q l s =
    let read : Leaves (tokens_of ts) = read_leaves (length (encode_utf8_all (chars text))) (chars text) ts l.holds.rest l.holds.reads in
    subst Lexical s.tree (query_leaves s.derivation (subst Leaves (sym s.derives.spelled) read))
