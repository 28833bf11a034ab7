-- Trees that the grammar has within a nesting limit, where this many constructs are open.
use Rattle.std.proofs.Common.{ℕ, ◌≡◌, ◌+◌, ◌<◌, Bool, true, false, nat_lt, List, [], ◌∷◌, Option, Some, None, arith, ltb-true}
use Rattle.std.proofs.lemmas.Bool.Decides.{nat_tests}
use Rattle.gcx_base.specs.declared.steps.Step.{Step}
use Rattle.gcx_model.specs.declared.query.PathExpr.{PathExpr}
use Rattle.gcx_model.specs.declared.query.Clause.{Clause}
use Rattle.gcx_model.specs.declared.query.QOperand.{QOperand}
use Rattle.gcx_model.specs.declared.query.QOperand.TheVariants as operand
use Rattle.gcx_model.specs.Query as query
use Rattle.gcx_model.specs.Query.{QueryCondTree, QueryCondTrees, ExprTree, ExprTrees}
use Rattle.xq_print.specs.declared.cond.Joint.{Joint}
use Rattle.xq_print.specs.declared.cond.Joint.TheVariants.{And, Or}
use Rattle.xq_print.specs.Printed.{is_enclosed}

-- one more construct may be open
abbrev pub MayOpen : (limit n : ℕ) → Type 0
MayOpen limit n = nat_lt n limit ≡ true

-- ---- Paths

abbrev pub HasStep : List Step → Type 0
HasStep [] = ⊥
HasStep (s ∷ ss) = Unit {0}

abbrev pub IsBegun : Option (List ℕ) → List Step → Type 0
IsBegun None ss = HasStep ss
IsBegun (Some x) ss = Unit {0}

-- it begins with a variable or has a step
abbrev pub IsPath : PathExpr → Type 0
IsPath p = IsBegun p.start p.steps

abbrev pub IsSide : QOperand → Type 0
IsSide (operand.Path p) = IsPath p
IsSide (operand.Str x) = Unit {0}
IsSide (operand.Num u) = Unit {0}

abbrev pub IsPathSide : QOperand → Type 0
IsPathSide (operand.Path p) = IsPath p
IsPathSide (operand.Str x) = ⊥
IsPathSide (operand.Num u) = ⊥

-- at most one of both sides is a literal
abbrev pub AreSides : QOperand → QOperand → Type 0
AreSides (operand.Path p) o = IsPath p × IsSide o
AreSides (operand.Str x) o = IsPathSide o
AreSides (operand.Num u) o = IsPathSide o

-- ---- Conditions

abbrev pub SomeConds : QueryCondTrees → Type 0
SomeConds query.no_query_cond = ⊥
SomeConds (query.more_query_conds c cs) = Unit {0}

abbrev pub TwoConds : QueryCondTrees → Type 0
TwoConds query.no_query_cond = ⊥
TwoConds (query.more_query_conds c cs) = SomeConds cs

-- in parentheses or without
abbrev pub Around : (limit n : ℕ) → Bool → (ℕ → Type 0) → Type 0
Around limit n true P = MayOpen limit n × P (n + 1)
Around limit n false P = P n

abbrev mutual
  pub CondShape : (limit n : ℕ) → QueryCondTree → Type 0
  CondShape limit n query.QueryAlways = Unit {0}
  CondShape limit n (query.QueryExists p) = IsPath p
  CondShape limit n (query.QueryCompare l r o) = AreSides l o
  CondShape limit n (query.QueryNot c) = MayOpen limit n × CondShape limit (n + 1) c
  CondShape limit n (query.QueryAll cs) = TwoConds cs × MembersShape limit n And cs
  CondShape limit n (query.QueryAny cs) = TwoConds cs × MembersShape limit n Or cs

  pub MembersShape : (limit n : ℕ) → Joint → QueryCondTrees → Type 0
  MembersShape limit n joint query.no_query_cond = Unit {0}
  MembersShape limit n joint (query.more_query_conds c cs) = Around limit n (is_enclosed joint c) (λ m. CondShape limit m c) × MembersShape limit n joint cs

abbrev pub MemberShape : (limit n : ℕ) → Joint → QueryCondTree → Type 0
MemberShape limit n joint c = Around limit n (is_enclosed joint c) (λ m. CondShape limit m c)

-- ---- Expressions

abbrev pub AreClauses : List Clause → Type 0
AreClauses [] = Unit {0}
AreClauses (c ∷ cs) = HasStep c.path.steps × AreClauses cs

abbrev pub IsLoop : List Clause → Type 0
IsLoop [] = ⊥
IsLoop (c ∷ cs) = AreClauses (c ∷ cs)

abbrev pub FilterShape : (limit n : ℕ) → Option QueryCondTree → Type 0
FilterShape limit n None = Unit {0}
FilterShape limit n (Some c) = CondShape limit n c

abbrev pub SomeExprs : ExprTrees → Type 0
SomeExprs query.no_expr = ⊥
SomeExprs (query.more_exprs e es) = Unit {0}

abbrev pub TwoExprs : ExprTrees → Type 0
TwoExprs query.no_expr = ⊥
TwoExprs (query.more_exprs e es) = SomeExprs es

abbrev mutual
  pub ExprShape : (limit n : ℕ) → ExprTree → Type 0
  ExprShape limit n query.Empty = MayOpen limit n
  ExprShape limit n (query.Seq parts) = MayOpen limit n × TwoExprs parts × PartsShape limit (n + 1) parts
  ExprShape limit n (query.Elem name body) = MayOpen limit n × PartsShape limit (n + 1) body
  ExprShape limit n (query.QueryPath p) = IsPath p
  ExprShape limit n (query.QueryFor cs f e) = MayOpen limit n × IsLoop cs × FilterShape limit (n + 1) f × ExprShape limit (n + 1) e
  ExprShape limit n (query.QueryIf c a b) = MayOpen limit n × CondShape limit (n + 1) c × ExprShape limit (n + 1) a × ExprShape limit (n + 1) b

  pub PartsShape : (limit n : ℕ) → ExprTrees → Type 0
  PartsShape limit n query.no_expr = Unit {0}
  PartsShape limit n (query.more_exprs e es) = ExprShape limit n e × PartsShape limit n es

abbrev pub LaterShape : (limit : ℕ) → List ExprTree → Type 0
LaterShape limit [] = Unit {0}
LaterShape limit (e ∷ es) = ExprShape limit 0 e × LaterShape limit es

abbrev pub QueryShape : (limit : ℕ) → List ExprTree → Type 0
QueryShape limit [] = ⊥
QueryShape limit (e ∷ es) = LaterShape limit (e ∷ es)

-- ---- With one construct fewer open

lt_true : (a b : ℕ) → a < b → nat_lt a b ≡ true
lt_true a b h = grind (arith, nat_tests)

pub may_before : (limit n : ℕ) → MayOpen limit (n + 1) → MayOpen limit n
may_before limit n h = let below : n + 1 < limit = ltb-true (n + 1) limit h in lt_true n limit (omega arith)

around_before : (limit n : ℕ) (b : Bool) (P : ℕ → Type 0) → ((m : ℕ) → P (m + 1) → P m) → Around limit (n + 1) b P → Around limit n b P
around_before limit n true P f h = (may_before limit n h.0, f (n + 1) h.1)
around_before limit n false P f h = f n h

mutual
  pub cond_before : (limit n : ℕ) (c : QueryCondTree) → CondShape limit (n + 1) c → CondShape limit n c
  cond_before limit n query.QueryAlways h = h
  cond_before limit n (query.QueryExists p) h = h
  cond_before limit n (query.QueryCompare l r o) h = h
  cond_before limit n (query.QueryNot c) h = (may_before limit n h.0, cond_before limit (n + 1) c h.1)
  cond_before limit n (query.QueryAll cs) h = (h.0, members_before limit n And cs h.1)
  cond_before limit n (query.QueryAny cs) h = (h.0, members_before limit n Or cs h.1)

  members_before : (limit n : ℕ) (joint : Joint) (cs : QueryCondTrees) → MembersShape limit (n + 1) joint cs → MembersShape limit n joint cs
  members_before limit n joint query.no_query_cond h = h
  members_before limit n joint (query.more_query_conds c cs) h =
      (around_before limit n (is_enclosed joint c) (λ m. CondShape limit m c) (λ m. cond_before limit m c) h.0, members_before limit n joint cs h.1)

filter_before : (limit n : ℕ) (f : Option QueryCondTree) → FilterShape limit (n + 1) f → FilterShape limit n f
filter_before limit n None h = h
filter_before limit n (Some c) h = cond_before limit n c h

mutual
  pub expr_before : (limit n : ℕ) (e : ExprTree) → ExprShape limit (n + 1) e → ExprShape limit n e
  expr_before limit n query.Empty h = may_before limit n h
  expr_before limit n (query.Seq parts) h = (may_before limit n h.0, h.1, parts_before limit (n + 1) parts h.2)
  expr_before limit n (query.Elem name body) h = (may_before limit n h.0, parts_before limit (n + 1) body h.1)
  expr_before limit n (query.QueryPath p) h = h
  expr_before limit n (query.QueryFor cs f e) h = (may_before limit n h.0, h.1, filter_before limit (n + 1) f h.2, expr_before limit (n + 1) e h.3)
  expr_before limit n (query.QueryIf c a b) h = (may_before limit n h.0, cond_before limit (n + 1) c h.1, expr_before limit (n + 1) a h.2, expr_before limit (n + 1) b h.3)

  parts_before : (limit n : ℕ) (es : ExprTrees) → PartsShape limit (n + 1) es → PartsShape limit n es
  parts_before limit n query.no_expr h = h
  parts_before limit n (query.more_exprs e es) h = (expr_before limit n e h.0, parts_before limit n es h.1)
