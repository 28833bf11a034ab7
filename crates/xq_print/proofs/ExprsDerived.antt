-- Derivations of the pieces of expressions and queries.
use Rattle.std.proofs.Common.{ℕ, ◌≡◌, ◌+◌, List, [], ◌∷◌, ◌++◌, map, flat_map, Option, Some, None, refl, sym, ap, ◌∙◌, subst, append_assoc, append-nil}
use Rattle.gcx_base.specs.declared.steps.Step.{Step}
use Rattle.gcx_model.specs.declared.query.PathExpr.{PathExpr}
use Rattle.gcx_model.specs.declared.query.Clause.{Clause}
use Rattle.gcx_model.specs.Query as query
use Rattle.gcx_model.specs.Query.{QueryCondTree, ExprTree, ExprTrees, exprs_of}
use Rattle.xq_lex.specs.declared.sign.Sign.TheVariants as signs
use Rattle.xq_parse.specs.Tokens.{Token, TName, TVar, TSign, for_, in_, where_, return_, if_, then_, else_}
use Rattle.xq_parse.specs.Grammar as g
use Rattle.xq_parse.specs.Grammar.{a_path, a_clause, seq_of, source_tokens, source_tree, cond_tokens, clause_tokens, clause_tree, clauses_tokens, clauses_tree, where_tokens, where_tree, WhereFits, expr_tokens, derived_expr, rest_tokens, rest_tree, ExprFits, RestFits, derivation_tokens, derivation_tree}
use Rattle.xq_print.proofs.Pieces.{Piece, word, mark, blank, comma, path_pieces, step_pieces, cond_pieces, clause_pieces, filter_pieces, end_tag_pieces, expr_pieces, exprs_pieces, query_pieces}
use Rattle.xq_print.proofs.Placing.{place, later, behind, placed, in_place}
use Rattle.xq_print.proofs.Shape.{MayOpen, HasStep, AreClauses, FilterShape, SomeExprs, CondShape, ExprShape, PartsShape, LaterShape, QueryShape}
use Rattle.xq_print.proofs.PathsDerived.{Derived, Flat, StepAt, step_at, StepsAt, steps_at, PathAt, path_at}
use Rattle.xq_print.proofs.CondsDerived.{CondAt, cond_at}

-- ---- Clauses

abbrev SourceAt : List ℕ → PathExpr → Type 0
SourceAt ps p = Derived source_tokens source_tree Flat p (placed ps (path_pieces p))

source_at : (p : PathExpr) → HasStep p.steps → (ps : List ℕ) → SourceAt ps p
source_at p h ps = by_start p.start p.steps h
  where
    by_start : (v : Option (List ℕ)) (ss : List Step) → HasStep ss → SourceAt ps (a_path v ss)
    by_start v [] h = absurd h
    by_start (Some x) (s ∷ ss) h =
        let one : StepAt (later ps) s = step_at s (later ps) in
        let more : StepsAt (behind (step_pieces s) (later ps)) ss = steps_at ss (behind (step_pieces s) (later ps)) in
        record {
          derivation = g.in_var (place ps) x one.derivation more.derivation;
          fits = tt;
          tree_is = (λ i. a_path (Some x) (one.tree_is i ∷ more.tree_is i));
          spelled = ap (λ (ts : List Token). TVar (place ps) x ∷ ts) (in_place (later ps) (step_pieces s) (flat_map step_pieces ss) one.spelled more.spelled);
        }
    by_start None (s ∷ ss) h =
        let one : StepAt ps s = step_at s ps in
        let more : StepsAt (behind (step_pieces s) ps) ss = steps_at ss (behind (step_pieces s) ps) in
        record {
          derivation = g.in_root one.derivation more.derivation;
          fits = tt;
          tree_is = (λ i. a_path None (one.tree_is i ∷ more.tree_is i));
          spelled = in_place ps (step_pieces s) (flat_map step_pieces ss) one.spelled more.spelled;
        }

abbrev ClauseAt : List ℕ → Clause → Type 0
ClauseAt ps c = Derived clause_tokens clause_tree Flat c (placed ps (clause_pieces c))

clause_at : (c : Clause) → HasStep c.path.steps → (ps : List ℕ) → ClauseAt ps c
clause_at c h ps =
    let source : SourceAt (later (later ps)) c.path = source_at c.path h (later (later ps)) in
    record {
      derivation = g.clause (place ps) c.var source.derivation;
      fits = tt;
      tree_is = ap (a_clause c.var) source.tree_is;
      spelled = ap (λ (ts : List Token). TVar (place ps) c.var ∷ TName in_ ∷ ts) source.spelled;
    }

abbrev later_clauses : List Clause → List Piece
later_clauses cs = flat_map (λ q. comma ++ q) (map clause_pieces cs)

abbrev ClausesAt : List ℕ → List Clause → Type 0
ClausesAt ps cs = Derived clauses_tokens clauses_tree Flat cs (placed ps (later_clauses cs))

clauses_at : (cs : List Clause) → AreClauses cs → (ps : List ℕ) → ClausesAt ps cs
clauses_at [] h ps = record { derivation = g.no_clause; fits = tt; tree_is = refl; spelled = refl }
clauses_at (c ∷ cs) h ps =
    let one : ClauseAt (later ps) c = clause_at c h.0 (later ps) in
    let more : ClausesAt (behind (clause_pieces c) (later ps)) cs = clauses_at cs h.1 (behind (clause_pieces c) (later ps)) in
    record {
      derivation = g.clause_more one.derivation more.derivation;
      fits = tt;
      tree_is = (λ i. one.tree_is i ∷ more.tree_is i);
      spelled = ap (λ (ts : List Token). TSign signs.Comma ∷ ts) (in_place (later ps) (clause_pieces c) (later_clauses cs) one.spelled more.spelled);
    }

abbrev FilterAt : (limit n : ℕ) → List ℕ → Option QueryCondTree → Type 0
FilterAt limit n ps f = Derived where_tokens where_tree (WhereFits limit n) f (placed ps (filter_pieces f))

filter_at : (limit n : ℕ) (f : Option QueryCondTree) → FilterShape limit n f → (ps : List ℕ) → FilterAt limit n ps f
filter_at limit n None h ps = record { derivation = g.no_where; fits = tt; tree_is = refl; spelled = refl }
filter_at limit n (Some c) h ps =
    let cond : CondAt limit n (later ps) c = cond_at limit c n (later ps) h in
    record { derivation = g.where_cond cond.derivation; fits = cond.fits; tree_is = ap (λ (d : QueryCondTree). Some d) cond.tree_is; spelled = ap (λ (ts : List Token). TName where_ ∷ ts) cond.spelled }

-- ---- Expressions

abbrev ExprAt : (limit n : ℕ) → List ℕ → ExprTree → Type 0
ExprAt limit n ps e = Derived expr_tokens derived_expr (ExprFits limit n) e (placed ps (expr_pieces e))

abbrev later_parts : ExprTrees → List Piece
later_parts es = flat_map (λ q. comma ++ q) (exprs_pieces es)

abbrev RestAt : (limit n : ℕ) → List ℕ → ExprTrees → Type 0
RestAt limit n ps es = Derived rest_tokens (λ r. exprs_of (rest_tree r)) (RestFits limit n) es (placed ps (later_parts es))

many_parts : (e : ExprTree) (es : ExprTrees) (fs : List ExprTree) → SomeExprs es → exprs_of fs ≡ es → seq_of (e ∷ fs) ≡ query.Seq (query.more_exprs e es)
many_parts e es [] h i = absurd (subst SomeExprs (sym i) h)
many_parts e es (f ∷ fs) h i = ap (λ (l : ExprTrees). query.Seq (query.more_exprs e l)) i

seq_at : (limit n : ℕ) (ps : List ℕ) (e : ExprTree) (es : ExprTrees) → MayOpen limit n → SomeExprs es → ExprAt limit (n + 1) (later ps) e → RestAt limit (n + 1) (behind (expr_pieces e) (later ps)) es →
    ExprAt limit n ps (query.Seq (query.more_exprs e es))
seq_at limit n ps e es m h a r = record {
  derivation = g.paren_expr (g.listed a.derivation r.derivation);
  fits = (m, (a.fits, r.fits));
  tree_is = ap (λ (f : ExprTree). seq_of (f ∷ rest_tree r.derivation)) a.tree_is ∙ many_parts e es (rest_tree r.derivation) h r.tree_is;
  spelled =
      ap (λ (ts : List Token). TSign signs.ParenOpen ∷ ts)
      (sym (append_assoc (expr_tokens a.derivation) (rest_tokens r.derivation) (TSign signs.ParenClose ∷ []))
      ∙ in_place (later ps) (expr_pieces e ++ later_parts es) (mark signs.ParenClose ∷ []) (in_place (later ps) (expr_pieces e) (later_parts es) a.spelled r.spelled) refl);
}

abbrev within : List ℕ → List ℕ
within ps = later (later (later (later ps)))

elem_at : (limit n : ℕ) (ps x : List ℕ) (e : ExprTree) (es : ExprTrees) → MayOpen limit n → ExprAt limit (n + 1) (within ps) e → RestAt limit (n + 1) (behind (expr_pieces e) (within ps)) es →
    ExprAt limit n ps (query.Elem x (query.more_exprs e es))
elem_at limit n ps x e es m a r = record {
  derivation = g.elem_expr x (g.long (g.braced a.derivation r.derivation g.ended));
  fits = (m, (a.fits, r.fits, tt));
  tree_is = ap (λ (l : List ExprTree). query.Elem x (exprs_of (derived_expr a.derivation ∷ l))) (append-nil (rest_tree r.derivation)) ∙ (λ i. query.Elem x (query.more_exprs (a.tree_is i) (r.tree_is i)));
  spelled =
      ap (λ (ts : List Token). TSign signs.Lt ∷ TName x ∷ TSign signs.Gt ∷ TSign signs.BraceOpen ∷ ts)
      (regrouped (expr_tokens a.derivation) (rest_tokens r.derivation) (TSign signs.BraceClose ∷ []) ended
      ∙ in_place (within ps) (inner ++ (mark signs.BraceClose ∷ [])) (end_tag_pieces x)
      (in_place (within ps) inner (mark signs.BraceClose ∷ []) (in_place (within ps) (expr_pieces e) (later_parts es) a.spelled r.spelled) refl) refl);
}
  where
    inner : List Piece
    inner = expr_pieces e ++ later_parts es

    ended : List Token
    ended = TSign signs.EndTag ∷ TName x ∷ TSign signs.Gt ∷ []

    regrouped : (a r b t : List Token) → a ++ (r ++ (b ++ t)) ≡ ((a ++ r) ++ b) ++ t
    regrouped a r b t = simp append_assoc

for_at : (limit n : ℕ) (ps : List ℕ) (c : Clause) (cs : List Clause) (f : Option QueryCondTree) (e : ExprTree) → MayOpen limit n → AreClauses (c ∷ cs) → FilterShape limit (n + 1) f →
    ((qs : List ℕ) → ExprAt limit (n + 1) qs e) → ExprAt limit n ps (query.QueryFor (c ∷ cs) f e)
for_at limit n ps c cs f e m h k body_at =
    let from : List ℕ = later ps in
    let loop : List Piece = clause_pieces c ++ later_clauses cs in
    let one : ClauseAt from c = clause_at c h.0 from in
    let more : ClausesAt (behind (clause_pieces c) from) cs = clauses_at cs h.1 (behind (clause_pieces c) from) in
    let filter : FilterAt limit (n + 1) (behind loop from) f = filter_at limit (n + 1) f k (behind loop from) in
    let body : ExprAt limit (n + 1) (later (behind (filter_pieces f) (behind loop from))) e = body_at (later (behind (filter_pieces f) (behind loop from))) in
    record {
      derivation = g.for_expr one.derivation more.derivation filter.derivation body.derivation;
      fits = (m, filter.fits, body.fits);
      tree_is = (λ i. query.QueryFor (one.tree_is i ∷ more.tree_is i) (filter.tree_is i) (body.tree_is i));
      spelled =
          ap (λ (ts : List Token). TName for_ ∷ ts)
          (sym (append_assoc (clause_tokens one.derivation) (clauses_tokens more.derivation) (where_tokens filter.derivation ++ (TName return_ ∷ expr_tokens body.derivation)))
          ∙ in_place from loop (filter_pieces f ++ (blank ∷ word return_ ∷ blank ∷ expr_pieces e)) (in_place from (clause_pieces c) (later_clauses cs) one.spelled more.spelled)
          (in_place (behind loop from) (filter_pieces f) (blank ∷ word return_ ∷ blank ∷ expr_pieces e) filter.spelled (ap (λ (ts : List Token). TName return_ ∷ ts) body.spelled)));
    }

if_at : (limit n : ℕ) (ps : List ℕ) (c : QueryCondTree) (a b : ExprTree) → MayOpen limit n → CondShape limit (n + 1) c → ((qs : List ℕ) → ExprAt limit (n + 1) qs a) → ((qs : List ℕ) → ExprAt limit (n + 1) qs b) →
    ExprAt limit n ps (query.QueryIf c a b)
if_at limit n ps c a b m h at_a at_b =
    let from : List ℕ = later (later ps) in
    let cond : CondAt limit (n + 1) from c = cond_at limit c (n + 1) from h in
    let mid : List ℕ = later (later (behind (cond_pieces c) from)) in
    let this : ExprAt limit (n + 1) mid a = at_a mid in
    let other : ExprAt limit (n + 1) (later (behind (expr_pieces a) mid)) b = at_b (later (behind (expr_pieces a) mid)) in
    record {
      derivation = g.if_expr cond.derivation this.derivation other.derivation;
      fits = (m, cond.fits, this.fits, other.fits);
      tree_is = (λ i. query.QueryIf (cond.tree_is i) (this.tree_is i) (other.tree_is i));
      spelled =
          ap (λ (ts : List Token). TName if_ ∷ TSign signs.ParenOpen ∷ ts)
          (in_place from (cond_pieces c) (mark signs.ParenClose ∷ blank ∷ word then_ ∷ blank ∷ (expr_pieces a ++ (blank ∷ word else_ ∷ blank ∷ expr_pieces b))) cond.spelled
          (ap (λ (ts : List Token). TSign signs.ParenClose ∷ TName then_ ∷ ts)
          (in_place mid (expr_pieces a) (blank ∷ word else_ ∷ blank ∷ expr_pieces b) this.spelled (ap (λ (ts : List Token). TName else_ ∷ ts) other.spelled))));
    }

rest_more_at : (limit n : ℕ) (ps : List ℕ) (e : ExprTree) (es : ExprTrees) → ExprAt limit n (later ps) e → RestAt limit n (behind (expr_pieces e) (later ps)) es → RestAt limit n ps (query.more_exprs e es)
rest_more_at limit n ps e es a r = record {
  derivation = g.rest_more a.derivation r.derivation;
  fits = (a.fits, r.fits);
  tree_is = (λ i. query.more_exprs (a.tree_is i) (r.tree_is i));
  spelled = ap (λ (ts : List Token). TSign signs.Comma ∷ ts) (in_place (later ps) (expr_pieces e) (later_parts es) a.spelled r.spelled);
}

path_expr_at : (limit n : ℕ) (ps : List ℕ) (p : PathExpr) → PathAt ps p → ExprAt limit n ps (query.QueryPath p)
path_expr_at limit n ps p path = record { derivation = g.path_expr path.derivation; fits = tt; tree_is = ap query.QueryPath path.tree_is; spelled = path.spelled }

mutual
  expr_at : (limit : ℕ) (e : ExprTree) (n : ℕ) → ExprShape limit n e → (ps : List ℕ) → ExprAt limit n ps e
  expr_at limit query.Empty n h ps = record { derivation = g.paren_expr g.closed; fits = (h, tt); tree_is = refl; spelled = refl }
  expr_at limit (query.Seq query.no_expr) n h ps = absurd h.1
  expr_at limit (query.Seq (query.more_exprs e es)) n h ps =
      seq_at limit n ps e es h.0 h.1 (expr_at limit e (n + 1) h.2.0 (later ps)) (rest_at limit es (n + 1) h.2.1 (behind (expr_pieces e) (later ps)))
  expr_at limit (query.Elem x query.no_expr) n h ps = record { derivation = g.elem_expr x (g.long g.ended); fits = (h.0, tt); tree_is = refl; spelled = refl }
  expr_at limit (query.Elem x (query.more_exprs e es)) n h ps =
      elem_at limit n ps x e es h.0 (expr_at limit e (n + 1) h.1.0 (within ps)) (rest_at limit es (n + 1) h.1.1 (behind (expr_pieces e) (within ps)))
  expr_at limit (query.QueryPath p) n h ps = path_expr_at limit n ps p (path_at p h ps)
  expr_at limit (query.QueryFor [] f e) n h ps = absurd h.1
  expr_at limit (query.QueryFor (c ∷ cs) f e) n h ps = for_at limit n ps c cs f e h.0 h.1 h.2 (expr_at limit e (n + 1) h.3)
  expr_at limit (query.QueryIf c a b) n h ps = if_at limit n ps c a b h.0 h.1 (expr_at limit a (n + 1) h.2) (expr_at limit b (n + 1) h.3)

  rest_at : (limit : ℕ) (es : ExprTrees) (n : ℕ) → PartsShape limit n es → (ps : List ℕ) → RestAt limit n ps es
  rest_at limit query.no_expr n h ps = record { derivation = g.no_rest; fits = tt; tree_is = refl; spelled = refl }
  rest_at limit (query.more_exprs e es) n h ps =
      rest_more_at limit n ps e es (expr_at limit e n h.0 (later ps)) (rest_at limit es n h.1 (behind (expr_pieces e) (later ps)))

-- ---- The query

abbrev later_of : List ExprTree → List Piece
later_of es = flat_map (λ q. comma ++ q) (map expr_pieces es)

abbrev LaterAt : (limit : ℕ) → List ℕ → List ExprTree → Type 0
LaterAt limit ps es = Derived rest_tokens rest_tree (RestFits limit 0) es (placed ps (later_of es))

later_at : (limit : ℕ) (es : List ExprTree) → LaterShape limit es → (ps : List ℕ) → LaterAt limit ps es
later_at limit [] h ps = record { derivation = g.no_rest; fits = tt; tree_is = refl; spelled = refl }
later_at limit (e ∷ es) h ps =
    let one : ExprAt limit 0 (later ps) e = expr_at limit e 0 h.0 (later ps) in
    let more : LaterAt limit (behind (expr_pieces e) (later ps)) es = later_at limit es h.1 (behind (expr_pieces e) (later ps)) in
    record {
      derivation = g.rest_more one.derivation more.derivation;
      fits = (one.fits, more.fits);
      tree_is = (λ i. one.tree_is i ∷ more.tree_is i);
      spelled = ap (λ (ts : List Token). TSign signs.Comma ∷ ts) (in_place (later ps) (expr_pieces e) (later_of es) one.spelled more.spelled);
    }

abbrev pub QueryAt : (limit : ℕ) → List ℕ → List ExprTree → Type 0
QueryAt limit ps q = Derived derivation_tokens derivation_tree (λ d. ExprFits limit 0 d.first × RestFits limit 0 d.others) q (placed ps (query_pieces q))

pub query_at : (limit : ℕ) (q : List ExprTree) → QueryShape limit q → (ps : List ℕ) → QueryAt limit ps q
query_at limit [] h ps = absurd h
query_at limit (e ∷ es) h ps =
    let one : ExprAt limit 0 ps e = expr_at limit e 0 h.0 ps in
    let more : LaterAt limit (behind (expr_pieces e) ps) es = later_at limit es h.1 (behind (expr_pieces e) ps) in
    record {
      derivation = record { first = one.derivation; others = more.derivation };
      fits = (one.fits, more.fits);
      tree_is = (λ i. one.tree_is i ∷ more.tree_is i);
      spelled = in_place ps (expr_pieces e) (later_of es) one.spelled more.spelled;
    }
