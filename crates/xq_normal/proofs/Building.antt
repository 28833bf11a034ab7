-- Lists of members, part by part.
use Rattle.std.proofs.Common.{◌≡◌, ℕ, zero, suc, ◌+◌, ◌-◌, ◌≤◌, Bool, cond, List, [], ◌∷◌, ◌++◌, length, map, refl, sym, ◌∙◌, ap, arith, append_assoc, Option}
use Rattle.std.specs.Prelude.{codes, bytes_eq}
use Rattle.std.proofs.Math.Path.{fun_ext}
use Rattle.std.proofs.lemmas.List.{map-append}
use Rattle.gcx_base.specs.declared.steps.Step.{Step}
use Rattle.gcx_model.specs.declared.query.Clause.{Clause}
use Rattle.gcx_model.specs.declared.query.QCond.{QCond}
use Rattle.gcx_model.specs.declared.cond.Cond.{Cond}
use Rattle.gcx_model.specs.Query as query
use Rattle.gcx_model.specs.Query.{ExprTree, cond_tree, conds_of, exprs_of}
use Rattle.gcx_model.specs.Core.{CondTree, more_conds, Copy, For, If, VarRowTree, BodyTree}
use Rattle.gcx_model.specs.CondView.{core_cond_tree, core_conds_of}
use Rattle.gcx_model.specs.declared.plan.VarRow.{VarRow}
use Rattle.gcx_model.specs.PlanView.{var_row_tree}
use Rattle.gcx_model.specs.Variables.{item_var_rows, var_rows}
use Rattle.gcx_model.specs.Normal.{Names, named, join, one, start_var, normal_cond, normal_conds, nest, loops, all_loops}
use Rattle.xq_print.specs.Printed.{joined}
use Rattle.xq_print.proofs.Joining.{IsJoined, all_joined}
use Rattle.xq_normal.specs.declared.scope.Binding.{Binding}
use Rattle.xq_normal.specs.ConditionText.{cond_text, cond_texts}
use Rattle.xq_normal.specs.Raw.{innermost, raw_expr, raw_exprs, raw_turns}
use Rattle.xq_normal.specs.Scopes.{bound_in, names_of}
use Rattle.xq_normal.proofs.Behind.{join-nil, join_assoc}

-- ---- Conditions

abbrev pub cond_in : Names → QCond → CondTree
cond_in names c = normal_cond (cond_tree c) names

pub conds_in : (names : Names) (cs : List QCond) → core_conds_of (map (cond_in names) cs) ≡ normal_conds (conds_of (map cond_tree cs)) names
conds_in names [] = refl
conds_in names (c ∷ cs) = ap (λ ds. more_conds (cond_in names c) ds) (conds_in names cs)

abbrev pub member_text : Cond → List ℕ
member_text c = cond_text (core_cond_tree c)

members_are : (cs : List Cond) → cond_texts (core_conds_of (map core_cond_tree cs)) ≡ map member_text cs
members_are [] = refl
members_are (c ∷ cs) = ap (λ ts. member_text c ∷ ts) (members_are cs)

pub members_done : (old out : List ℕ) (cs : List Cond) (ts : List CondTree) (i : ℕ) (later : Bool) → IsJoined Cond member_text (codes ", ") old cs i out later → length cs ≤ i →
    map core_cond_tree cs ≡ ts → out ≡ old ++ joined (codes ", ") (cond_texts (core_conds_of ts))
members_done old out cs ts i later j h e =
    all_joined member_text (codes ", ") old cs i out later j h
    ∙ ap (λ us. old ++ joined (codes ", ") us) (sym (members_are cs) ∙ ap (λ us. cond_texts (core_conds_of us)) e)

-- ---- Scopes

bound_in-push : (v : ℕ) (y : List ℕ) (bs : List Binding) (b : Binding) → bound_in v y (bs ++ b ∷ []) ≡ cond (bytes_eq b.name.now y) b.var.0 (bound_in v y bs)
bound_in-push v y [] b = refl
bound_in-push v y (c ∷ bs) b = bound_in-push (cond (bytes_eq c.name.now y) c.var.0 v) y bs b

pub names_of-push : (bs pushed : List Binding) (b : Binding) → pushed ≡ bs ++ b ∷ [] → names_of pushed ≡ named (names_of bs) b.name.now b.var.0
names_of-push bs pushed b e = ap names_of e ∙ fun_ext (λ y. bound_in-push 0 y bs b)

-- ---- Loops

innermost_on : (y k n : ℕ) → innermost k n (suc k) ≡ innermost y (suc n) k
innermost_on y k zero = omega arith
innermost_on y k (suc n) = omega arith

-- what stands inside has the innermost variable
pub nest_last : (y : ℕ) (ss : List Step) (k : ℕ) (inner : ℕ → BodyTree) → nest y ss k inner ≡ nest y ss k (λ z. inner (innermost y (length ss) k))
nest_last y [] k inner = refl
nest_last y (s ∷ ss) k inner =
    ap (λ d. one (For k y s d)) (nest_last k ss (suc k) inner ∙ ap (λ v. nest k ss (suc k) (λ z. inner v)) (innermost_on y k (length ss)))

-- an output path
pub path_put : (from y : ℕ) (ss steps : List Step) (k v : ℕ) (copy loops : BodyTree) → from ≡ y → ss ≡ steps → copy ≡ one (Copy v) → v ≡ innermost from (length ss) k → loops ≡ nest from ss k (λ z. copy) → loops ≡ nest y steps k (λ z. one (Copy z))
path_put from y ss steps k v copy loops e f c i p =
    p
    ∙ (ap (λ d. nest from ss k (λ z. d)) (c ∙ ap (λ w. one (Copy w)) i)
    ∙ (sym (nest_last from ss k (λ z. one (Copy z)))
    ∙ (ap (λ x. nest x ss k (λ z. one (Copy z))) e ∙ ap (λ ts. nest y ts k (λ z. one (Copy z))) f)))

-- a clause more
pub turns_put : (c : Clause) (cs all : List Clause) (f : Option query.QueryCondTree) (e : ExprTree) (names inside : Names) (k v next from : ℕ) (ss : List Step) (out inner loops now : BodyTree) → all ≡ c ∷ cs
    → from ≡ start_var names c.path.start → ss ≡ c.path.steps → v ≡ innermost from (length ss) k → inside ≡ named names c.var v → next ≡ k + length ss
    → inner ≡ raw_turns cs f e inside next → loops ≡ nest from ss k (λ z. inner) → now ≡ join out loops → now ≡ join out (raw_turns all f e names k)
turns_put c cs all f e names inside k v next from ss out inner loops now a s t i n j r l p =
    p ∙ ap (λ d. join out d)
    (l
    ∙ (ap (λ d. nest from ss k (λ z. d))
    (r ∙ (ap (λ m. raw_turns cs f e inside m) j ∙ (ap (λ ns. raw_turns cs f e ns (k + length ss)) n ∙ ap (λ w. raw_turns cs f e (named names c.var w) (k + length ss)) i)))
    ∙ (sym (nest_last from ss k (λ z. raw_turns cs f e (named names c.var z) (k + length ss)))
    ∙ (ap (λ x. nest x ss k (λ z. raw_turns cs f e (named names c.var z) (k + length ss))) s
    ∙ (ap (λ us. nest (start_var names c.path.start) us k (λ z. raw_turns cs f e (named names c.var z) (k + length us))) t
    ∙ ap (λ ds. raw_turns ds f e names k) (sym a))))))

-- one part more
pub raw_exprs-push : (es : List ExprTree) (e : ExprTree) (names : Names) (k : ℕ) → raw_exprs (exprs_of (es ++ e ∷ [])) names k ≡ join (raw_exprs (exprs_of es) names k) (raw_expr e names (k + all_loops (exprs_of es)))
raw_exprs-push [] e names k = join-nil (raw_expr e names k) ∙ ap (λ j. raw_expr e names j) (let h : k ≡ k + 0 = omega arith in h)
raw_exprs-push (x ∷ es) e names k =
    ap (λ d. join (raw_expr x names k) d) (raw_exprs-push es e names (k + loops x) ∙ ap (λ j. join (raw_exprs (exprs_of es) names (k + loops x)) (raw_expr e names j)) (let h : k + loops x + all_loops (exprs_of es) ≡ k + (loops x + all_loops (exprs_of es)) = omega arith in h))
    ∙ sym (join_assoc (raw_expr x names k) (raw_exprs (exprs_of es) names (k + loops x)) _)

-- ---- Rows

pub loop_rows : (old pushed now : List VarRow) (row : VarRow) (x : ℕ) (s : Step) (d : BodyTree) → pushed ≡ old ++ row ∷ [] → row.step ≡ s → map var_row_tree now ≡ map var_row_tree pushed ++ var_rows d
    → map var_row_tree now ≡ map var_row_tree old ++ item_var_rows (For x row.parent.0 s d)
loop_rows old pushed now row x s d p e put =
    put
    ∙ (ap (λ rs. rs ++ var_rows d) (ap (map var_row_tree) p ∙ map-append var_row_tree old (row ∷ []))
    ∙ (append_assoc (map var_row_tree old) (var_row_tree row ∷ []) (var_rows d)
    ∙ ap (λ (u : Step). map var_row_tree old ++ record { parent = row.parent.0; step = u } ∷ var_rows d) e))

pub branch_rows : (old first now : List VarRowTree) (c : CondTree) (a b : BodyTree) → first ≡ old ++ var_rows a → now ≡ first ++ var_rows b → now ≡ old ++ item_var_rows (If c a b)
branch_rows old first now c a b e f = f ∙ (ap (λ rs. rs ++ var_rows b) e ∙ append_assoc old (var_rows a) (var_rows b))
