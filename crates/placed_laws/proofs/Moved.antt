-- The core of a query is one for which the laws hold: its variables are numbered as they are read, used only inside their loops, and no branch has a loop.
use Rattle.std.proofs.Common.{◌≡◌, ℕ, suc, ◌+◌, Bool, true, false, cond, ◌||◌, List, [], ◌∷◌, ◌++◌, length, refl, sym, ◌∙◌, ap, inl, inr, add-zero, add_assoc, append_assoc, Some, None, Option}
use Rattle.std.specs.Prelude.{bytes_eq}
use Rattle.std.proofs.lemmas.List.{append-nil}
use Rattle.std.proofs.lemmas.Bool.{true≢false, or_parts}
use Rattle.gcx_base.specs.declared.steps.Step.{Step}
use Rattle.gcx_model.specs.declared.query.Clause.{Clause}
use Rattle.gcx_model.specs.declared.query.QOperand.{QOperand}
use Rattle.gcx_model.specs.declared.query.QOperand.TheVariants as operand
use Rattle.gcx_model.specs.Query as query
use Rattle.gcx_model.specs.Query.{ExprTree, ExprTrees, exprs_of}
use Rattle.gcx_model.specs.Core.{OperandTree, Path, Str, Num, CondTree, CondTrees, Always, Exists, Compare, Not, AllOf, AnyOf, no_cond, more_conds, ItemTree, Write, Copy, For, If, SignOff, BodyTree, Nil, Then}
use Rattle.gcx_model.specs.Members.{In, count}
use Rattle.gcx_model.specs.Variables.{vars, item_vars}
use Rattle.gcx_model.specs.Cores.{operand_in, cond_in, conds_in, ItemIn, BodyIn}
use Rattle.gcx_model.specs.Normal.{join, one, Names, named, start_var, normal_exists, normal_operand, normal_cond, normal_conds, has_loop, half, BranchPart, Run, Loop, begin, pieces, halved, turned_in, spread, branch, nest, normal_clauses, guarded, clause_loops, loops, all_loops, normal_expr, normal_exprs, no_names, normal}
use Rattle.placed_laws.specs.Normal.{NormalIsGood}
use Rattle.placed_laws.proofs.Bridge.{count-append, length-count}

-- The variables

pub vars-join : (a b : BodyTree) → vars (join a b) ≡ vars a ++ vars b
vars-join Nil b = refl
vars-join (Then i a) b = ap (λ z. item_vars i ++ z) (vars-join a b) ∙ sym (append_assoc (item_vars i) (vars a) (vars b))

vars-half : (c : CondTree) (first : Bool) (d : BodyTree) → item_vars (half c first d) ≡ vars d
vars-half c true d = append-nil (vars d)
vars-half c false d = refl

vars-begin : (c : CondTree) (first : Bool) (i : ItemTree) (ps : List BranchPart) → vars (halved c first (begin i ps)) ≡ item_vars i ++ vars (halved c first ps)
vars-begin c first i [] = ap (λ z. z ++ []) (vars-half c first (one i)) ∙ append_assoc (item_vars i) [] []
vars-begin c first i (Run r ∷ ps) =
    ap (λ z. z ++ vars (halved c first ps)) (vars-half c first (Then i r))
    ∙ (append_assoc (item_vars i) (vars r) (vars (halved c first ps)) ∙ ap (λ z. item_vars i ++ (z ++ vars (halved c first ps))) (sym (vars-half c first r)))
vars-begin c first i (Loop l ∷ ps) = ap (λ z. z ++ vars (halved c first (Loop l ∷ ps))) (vars-half c first (one i) ∙ append-nil (item_vars i))

vars-spread : (c : CondTree) (first : Bool) (d : BodyTree) → vars (spread c first d) ≡ vars d
vars-spread c first Nil = refl
vars-spread c first (Then (Write s) d) = vars-begin c first (Write s) (pieces (turned_in c first d)) ∙ vars-spread c first d
vars-spread c first (Then (Copy x) d) = vars-begin c first (Copy x) (pieces (turned_in c first d)) ∙ vars-spread c first d
vars-spread c first (Then (If k a b) d) = vars-begin c first (If k a b) (pieces (turned_in c first d)) ∙ ap (λ z. (vars a ++ vars b) ++ z) (vars-spread c first d)
vars-spread c first (Then (SignOff o) d) = vars-begin c first (SignOff o) (pieces (turned_in c first d)) ∙ vars-spread c first d
vars-spread c first (Then (For x y s e) d) =
    ap (λ z. x ∷ z) (ap (λ z. z ++ vars (spread c first d)) (go (has_loop e) (vars-spread c first e)) ∙ ap (λ z. vars e ++ z) (vars-spread c first d))
  where
    go : (l : Bool) → vars (spread c first e) ≡ vars e → vars (cond l (spread c first e) (one (half c first e))) ≡ vars e
    go true h = h
    go false h = append-nil (item_vars (half c first e)) ∙ vars-half c first e

pub vars-branch : (c : CondTree) (a b : BodyTree) → vars (branch c a b) ≡ vars a ++ vars b
vars-branch c a b = go (has_loop a || has_loop b)
  where
    go : (l : Bool) → vars (cond l (join (spread c true a) (spread c false b)) (one (If c a b))) ≡ vars a ++ vars b
    go true = vars-join (spread c true a) (spread c false b) ∙ (ap (λ z. z ++ vars (spread c false b)) (vars-spread c true a) ∙ ap (λ z. vars a ++ z) (vars-spread c false b))
    go false = append-nil (vars a ++ vars b)

vars-nest : (y : ℕ) (ss : List Step) (k : ℕ) (inner : ℕ → BodyTree) (vs : List ℕ) → ((z : ℕ) → vars (inner z) ≡ vs) → vars (nest y ss k inner) ≡ count k (length ss) ++ vs
vars-nest y [] k inner vs h = h y
vars-nest y (s ∷ ss) k inner vs h = ap (λ z. k ∷ z) (append-nil (vars (nest k ss (suc k) inner)) ∙ vars-nest k ss (suc k) inner vs h)

vars-clauses : (cs : List Clause) (names : Names) (k : ℕ) (inner : Names → ℕ → BodyTree) (vs : List ℕ) → ((ns : Names) → vars (inner ns (k + clause_loops cs)) ≡ vs) → vars (normal_clauses cs names k inner) ≡ count k (clause_loops cs) ++ vs
vars-clauses [] names k inner vs h = ap (λ (j : ℕ). vars (inner names j)) (sym (add-zero k)) ∙ h names
vars-clauses (c ∷ cs) names k inner vs h =
    let n : ℕ = length c.path.steps in
    vars-nest (start_var names c.path.start) c.path.steps k (λ y. normal_clauses cs (named names c.var y) (k + n) inner) (count (k + n) (clause_loops cs) ++ vs)
    (λ z. vars-clauses cs (named names c.var z) (k + n) inner vs (λ ns. ap (λ (j : ℕ). vars (inner ns j)) (add_assoc k n (clause_loops cs)) ∙ h ns))
    ∙ (sym (append_assoc (count k n) (count (k + n) (clause_loops cs)) vs) ∙ ap (λ z. z ++ vs) (sym (count-append k n (clause_loops cs))))

vars-filtered : (f : Option query.QueryCondTree) (names : Names) (d : BodyTree) → vars (guarded f names d) ≡ vars d
vars-filtered None names d = refl
vars-filtered (Some c) names d = vars-branch (normal_cond c names) d Nil ∙ append-nil (vars d)

mutual
  pub vars-expr : (e : ExprTree) (names : Names) (k : ℕ) → vars (normal_expr e names k) ≡ count k (loops e)
  vars-expr query.Empty names k = refl
  vars-expr (query.Seq es) names k = vars-exprs es names k
  vars-expr (query.Elem name es) names k = vars-join (normal_exprs es names k) (one (Write _)) ∙ (append-nil (vars (normal_exprs es names k)) ∙ vars-exprs es names k)
  vars-expr (query.QueryPath path) names k = vars-nest (start_var names path.start) path.steps k (λ y. one (Copy y)) [] (λ z. refl) ∙ append-nil _
  vars-expr (query.QueryFor cs f e) names k =
      vars-clauses cs names k (λ inner j. guarded f inner (normal_expr e inner j)) (count (k + clause_loops cs) (loops e)) (λ ns. vars-filtered f ns (normal_expr e ns (k + clause_loops cs)) ∙ vars-expr e ns (k + clause_loops cs))
      ∙ sym (count-append k (clause_loops cs) (loops e))
  vars-expr (query.QueryIf c a b) names k =
      vars-branch (normal_cond c names) (normal_expr a names k) (normal_expr b names (k + loops a))
      ∙ (ap (λ z. z ++ vars (normal_expr b names (k + loops a))) (vars-expr a names k) ∙ (ap (λ z. count k (loops a) ++ z) (vars-expr b names (k + loops a)) ∙ sym (count-append k (loops a) (loops b))))

  pub vars-exprs : (es : ExprTrees) (names : Names) (k : ℕ) → vars (normal_exprs es names k) ≡ count k (all_loops es)
  vars-exprs query.no_expr names k = refl
  vars-exprs (query.more_exprs e es) names k =
      vars-join (normal_expr e names k) (normal_exprs es names (k + loops e))
      ∙ (ap (λ z. z ++ vars (normal_exprs es names (k + loops e))) (vars-expr e names k) ∙ (ap (λ z. count k (loops e) ++ z) (vars-exprs es names (k + loops e)) ∙ sym (count-append k (loops e) (all_loops es))))

-- What is used where

abbrev Within : List ℕ → List ℕ → Type 0
Within L M = (v : ℕ) → In v L → In v M

operand_more : (L M : List ℕ) → Within L M → (o : OperandTree) → operand_in L o → operand_in M o
operand_more L M h (Path x steps) i = h x i
operand_more L M h (Str b) i = tt
operand_more L M h (Num l) i = tt

mutual
  pub cond_more : (L M : List ℕ) → Within L M → (c : CondTree) → cond_in L c → cond_in M c
  cond_more L M h Always i = tt
  cond_more L M h (Exists x steps) i = h x i
  cond_more L M h (Compare l rel r) i = (operand_more L M h l i.0, operand_more L M h r i.1)
  cond_more L M h (Not c) i = cond_more L M h c i
  cond_more L M h (AllOf cs) i = conds_more L M h cs i
  cond_more L M h (AnyOf cs) i = conds_more L M h cs i

  conds_more : (L M : List ℕ) → Within L M → (cs : CondTrees) → conds_in L cs → conds_in M cs
  conds_more L M h no_cond i = tt
  conds_more L M h (more_conds c cs) i = (cond_more L M h c i.0, conds_more L M h cs i.1)

-- without loops
no_loop_in : (L : List ℕ) (d : BodyTree) → has_loop d ≡ false → BodyIn true L d → BodyIn false L d
no_loop_in L Nil h q = tt
no_loop_in L (Then (Write s) d) h q = (tt, no_loop_in L d h q.1)
no_loop_in L (Then (Copy x) d) h q = (q.0, no_loop_in L d h q.1)
no_loop_in L (Then (For x y s e) d) h q = absurd (true≢false h)
no_loop_in L (Then (If c a b) d) h q = (q.0, no_loop_in L d h q.1)
no_loop_in L (Then (SignOff o) d) h q = absurd q.0

pub join_in : (b : Bool) (L : List ℕ) (a d : BodyTree) → BodyIn b L a → BodyIn b L d → BodyIn b L (join a d)
join_in b L Nil d h k = k
join_in b L (Then i a) d h k = (h.0, join_in b L a d h.1 k)

half_in : (L : List ℕ) (c : CondTree) (first : Bool) (d : BodyTree) → cond_in L c → BodyIn false L d → ItemIn true L (half c first d)
half_in L c true d i q = (i, q, tt)
half_in L c false d i q = (i, tt, q)

begin_in : (L : List ℕ) (c : CondTree) (first : Bool) (i : ItemTree) (ps : List BranchPart) → cond_in L c → ItemIn false L i → BodyIn true L (halved c first ps) → BodyIn true L (halved c first (begin i ps))
begin_in L c first i [] u q k = (half_in L c first (one i) u (q, tt), tt)
begin_in L c true i (Run r ∷ ps) u q k = ((u, (q, k.0.1), tt), k.1)
begin_in L c false i (Run r ∷ ps) u q k = ((u, tt, (q, k.0.2)), k.1)
begin_in L c first i (Loop l ∷ ps) u q k = (half_in L c first (one i) u (q, tt), k)

spread_in : (L : List ℕ) (c : CondTree) (first : Bool) (d : BodyTree) → cond_in L c → BodyIn true L d → BodyIn true L (spread c first d)
spread_in L c first Nil i k = tt
spread_in L c first (Then (Write s) d) i k = begin_in L c first (Write s) (pieces (turned_in c first d)) i tt (spread_in L c first d i k.1)
spread_in L c first (Then (Copy x) d) i k = begin_in L c first (Copy x) (pieces (turned_in c first d)) i k.0 (spread_in L c first d i k.1)
spread_in L c first (Then (If j a b) d) i k = begin_in L c first (If j a b) (pieces (turned_in c first d)) i k.0 (spread_in L c first d i k.1)
spread_in L c first (Then (SignOff o) d) i k = absurd k.0
spread_in L c first (Then (For x y s e) d) i k =
    let j : cond_in (x ∷ L) c = cond_more L (x ∷ L) (λ v m. inr m) c i in
    ((refl, k.0.1, go (has_loop e) refl j (spread_in (x ∷ L) c first e j k.0.2)), spread_in L c first d i k.1)
  where
    go : (l : Bool) → has_loop e ≡ l → cond_in (x ∷ L) c → BodyIn true (x ∷ L) (spread c first e) → BodyIn true (x ∷ L) (cond l (spread c first e) (one (half c first e)))
    go true h j m = m
    go false h j m = (half_in (x ∷ L) c first e j (no_loop_in (x ∷ L) e h k.0.2), tt)

branch_in : (L : List ℕ) (c : CondTree) (a b : BodyTree) → cond_in L c → BodyIn true L a → BodyIn true L b → BodyIn true L (branch c a b)
branch_in L c a b i p q = go (has_loop a || has_loop b) refl
  where
    go : (l : Bool) → (has_loop a || has_loop b) ≡ l → BodyIn true L (cond l (join (spread c true a) (spread c false b)) (one (If c a b)))
    go true h = join_in true L (spread c true a) (spread c false b) (spread_in L c true a i p) (spread_in L c false b i q)
    go false h = let r = or_parts (has_loop a) (has_loop b) h in ((i, no_loop_in L a r.0 p, no_loop_in L b r.1 q), tt)

-- the names and variable 0 are in scope
abbrev Scoped : Names → List ℕ → Type 0
Scoped names L = In 0 L × ((x : List ℕ) → In (names x) L)

scoped_named : (names : Names) (L M : List ℕ) (x : List ℕ) (z : ℕ) → Scoped names L → Within L M → In z M → Scoped (named names x z) M
scoped_named names L M x z s h i = (h 0 s.0, λ y. go y (bytes_eq x y))
  where
    go : (y : List ℕ) (b : Bool) → In (cond b z (names y)) M
    go y true = i
    go y false = h (names y) (s.1 y)

start_in : (names : Names) (L : List ℕ) (st : Option (List ℕ)) → Scoped names L → In (start_var names st) L
start_in names L None s = s.0
start_in names L (Some x) s = s.1 x

operand_scoped : (o : QOperand) (names : Names) (L : List ℕ) → Scoped names L → operand_in L (normal_operand o names)
operand_scoped (operand.Path path) names L s = start_in names L path.start s
operand_scoped (operand.Str b) names L s = tt
operand_scoped (operand.Num l) names L s = tt

exists_scoped : (x : ℕ) (steps : List Step) (L : List ℕ) → In x L → cond_in L (normal_exists x steps)
exists_scoped x [] L i = tt
exists_scoped x (t ∷ rest) L i = i

mutual
  pub cond_scoped : (c : query.QueryCondTree) (names : Names) (L : List ℕ) → Scoped names L → cond_in L (normal_cond c names)
  cond_scoped query.QueryAlways names L s = tt
  cond_scoped (query.QueryExists path) names L s = exists_scoped (start_var names path.start) path.steps L (start_in names L path.start s)
  cond_scoped (query.QueryCompare l rel r) names L s = (operand_scoped l names L s, operand_scoped r names L s)
  cond_scoped (query.QueryNot c) names L s = cond_scoped c names L s
  cond_scoped (query.QueryAll cs) names L s = conds_scoped cs names L s
  cond_scoped (query.QueryAny cs) names L s = conds_scoped cs names L s

  conds_scoped : (cs : query.QueryCondTrees) (names : Names) (L : List ℕ) → Scoped names L → conds_in L (normal_conds cs names)
  conds_scoped query.no_query_cond names L s = tt
  conds_scoped (query.more_query_conds c cs) names L s = (cond_scoped c names L s, conds_scoped cs names L s)

nest_in : (y : ℕ) (ss : List Step) (k : ℕ) (inner : ℕ → BodyTree) (L : List ℕ) → In y L → ((z : ℕ) (M : List ℕ) → In z M → Within L M → BodyIn true M (inner z)) → BodyIn true L (nest y ss k inner)
nest_in y [] k inner L i h = h y L i (λ v j. j)
nest_in y (s ∷ ss) k inner L i h = ((refl, i, nest_in k ss (suc k) inner (k ∷ L) (inl refl) (λ z M j g. h z M j (λ v m. g v (inr m)))), tt)

clauses_in : (cs : List Clause) (names : Names) (k : ℕ) (inner : Names → ℕ → BodyTree) (L : List ℕ) → Scoped names L → ((ns : Names) (j : ℕ) (M : List ℕ) → Scoped ns M → BodyIn true M (inner ns j)) → BodyIn true L (normal_clauses cs names k inner)
clauses_in [] names k inner L s h = h names k L s
clauses_in (c ∷ cs) names k inner L s h =
    nest_in (start_var names c.path.start) c.path.steps k (λ y. normal_clauses cs (named names c.var y) (k + length c.path.steps) inner) L (start_in names L c.path.start s)
    (λ z M i g. clauses_in cs (named names c.var z) (k + length c.path.steps) inner M (scoped_named names L M c.var z s g i) h)

filtered_in : (f : Option query.QueryCondTree) (names : Names) (d : BodyTree) (L : List ℕ) → Scoped names L → BodyIn true L d → BodyIn true L (guarded f names d)
filtered_in None names d L s q = q
filtered_in (Some c) names d L s q = branch_in L (normal_cond c names) d Nil (cond_scoped c names L s) q tt

mutual
  expr_in : (e : ExprTree) (names : Names) (k : ℕ) (L : List ℕ) → Scoped names L → BodyIn true L (normal_expr e names k)
  expr_in query.Empty names k L s = tt
  expr_in (query.Seq es) names k L s = exprs_in es names k L s
  expr_in (query.Elem name es) names k L s = (tt, join_in true L (normal_exprs es names k) (one (Write _)) (exprs_in es names k L s) (tt, tt))
  expr_in (query.QueryPath path) names k L s = nest_in (start_var names path.start) path.steps k (λ y. one (Copy y)) L (start_in names L path.start s) (λ z M i g. (i, tt))
  expr_in (query.QueryFor cs f e) names k L s = clauses_in cs names k (λ inner j. guarded f inner (normal_expr e inner j)) L s (λ ns j M t. filtered_in f ns (normal_expr e ns j) M t (expr_in e ns j M t))
  expr_in (query.QueryIf c a b) names k L s = branch_in L (normal_cond c names) (normal_expr a names k) (normal_expr b names (k + loops a)) (cond_scoped c names L s) (expr_in a names k L s) (expr_in b names (k + loops a) L s)

  exprs_in : (es : ExprTrees) (names : Names) (k : ℕ) (L : List ℕ) → Scoped names L → BodyIn true L (normal_exprs es names k)
  exprs_in query.no_expr names k L s = tt
  exprs_in (query.more_exprs e es) names k L s = join_in true L (normal_expr e names k) (normal_exprs es names (k + loops e)) (expr_in e names k L s) (exprs_in es names (k + loops e) L s)

pub normal_good : NormalIsGood
normal_good q =
    let n : vars (normal q) ≡ count 1 (all_loops (exprs_of q)) = vars-exprs (exprs_of q) no_names 1 in
    record {
      numbered = n ∙ ap (count 1) (sym (length-count 1 (all_loops (exprs_of q))) ∙ sym (ap length n));
      inside = exprs_in (exprs_of q) no_names 1 (0 ∷ []) (inl refl, λ x. inl refl);
    }
