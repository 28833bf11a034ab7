-- The own roles by the numbers of their variables.
use Rattle.std.proofs.Common.{ℕ, zero, suc, ◌≡◌, ◌+◌, ◌<◌, ◌==◌, Bool, true, false, cond, ◌&&◌, List, [], ◌∷◌, ◌++◌, map, length, take, get_or, refl, sym, ap, ◌∙◌, subst, arith}
use Rattle.std.proofs.lemmas.List.{map_more, length-map, length-take}
use Rattle.std.proofs.lemmas.Bool.{eq-eqb, ne_eqb}
use Rattle.gcx_model.specs.declared.plan.RoleRow.{RoleRow}
use Rattle.gcx_model.specs.Core.{OperandTree, Path, Str, Num, CondTree, CondTrees, Always, Exists, Compare, Not, AllOf, AnyOf, no_cond, more_conds, ItemTree, Write, Copy, For, If, SignOff, BodyTree, Nil, Then, RoleRowTree}
use Rattle.gcx_model.specs.Cores.{Good}
use Rattle.gcx_model.specs.PlanView.{role_row_tree}
use Rattle.gcx_model.specs.Roles.{operand_rows, cond_rows, conds_rows, item_rows, rows, roles_of}
use Rattle.gcx_model.specs.Placed.{is_own_kind, own_number}
use Rattle.gcx_model.specs.Variables.{vars, item_vars}
use Rattle.var_tree.proofs.Tables.{Counts, counts}
use Rattle.proj_tree.specs.Own.{own_list}

-- the variables of the roles Own
abbrev pub own_vars : List RoleRowTree → List ℕ
own_vars [] = []
own_vars (r ∷ rs) = cond (is_own_kind r.kind) (r.var ∷ own_vars rs) (own_vars rs)

by_kind : (b : Bool) (x : ℕ) (xs ys : List ℕ) → cond b (x ∷ (xs ++ ys)) (xs ++ ys) ≡ cond b (x ∷ xs) xs ++ ys
by_kind true x xs ys = refl
by_kind false x xs ys = refl

own_vars_more : (rs qs : List RoleRowTree) → own_vars (rs ++ qs) ≡ own_vars rs ++ own_vars qs
own_vars_more [] qs = refl
own_vars_more (r ∷ rs) qs = ap (λ (xs : List ℕ). cond (is_own_kind r.kind) (r.var ∷ xs) xs) (own_vars_more rs qs) ∙ by_kind (is_own_kind r.kind) r.var (own_vars rs) (own_vars qs)

operand_none : (o : OperandTree) → own_vars (operand_rows o) ≡ []
operand_none (Path x steps) = refl
operand_none (Str b) = refl
operand_none (Num l) = refl

mutual
  cond_none : (c : CondTree) → own_vars (cond_rows c) ≡ []
  cond_none Always = refl
  cond_none (Exists x steps) = refl
  cond_none (Compare l rel r) = own_vars_more (operand_rows l) (operand_rows r) ∙ (λ i. operand_none l i ++ operand_none r i)
  cond_none (Not c) = cond_none c
  cond_none (AllOf cs) = conds_none cs
  cond_none (AnyOf cs) = conds_none cs

  conds_none : (cs : CondTrees) → own_vars (conds_rows cs) ≡ []
  conds_none no_cond = refl
  conds_none (more_conds c cs) = own_vars_more (cond_rows c) (conds_rows cs) ∙ (λ i. cond_none c i ++ conds_none cs i)

mutual
  item_own : (i : ItemTree) → own_vars (item_rows i) ≡ item_vars i
  item_own (Write b) = refl
  item_own (Copy x) = refl
  item_own (For x y s d) = ap (λ (xs : List ℕ). x ∷ xs) (body_own d)
  item_own (If c a b) =
      own_vars_more (cond_rows c) (rows a ++ rows b) ∙ ((λ i. cond_none c i ++ own_vars (rows a ++ rows b)) ∙ (own_vars_more (rows a) (rows b) ∙ (λ i. body_own a i ++ body_own b i)))
  item_own (SignOff o) = refl

  body_own : (d : BodyTree) → own_vars (rows d) ≡ vars d
  body_own Nil = refl
  body_own (Then i d) = own_vars_more (item_rows i) (rows d) ∙ (λ k. item_own i k ++ body_own d k)

pub roles_own : (core : BodyTree) → own_vars (roles_of core) ≡ 0 ∷ vars core
roles_own core = ap (λ (xs : List ℕ). 0 ∷ xs) (body_own core)

pub counted_own : (core : BodyTree) → Good core → Counts 0 (own_vars (roles_of core))
counted_own core g = subst (λ (xs : List ℕ). Counts 0 xs) (sym (roles_own core)) (refl, counts 1 (vars core) g.numbered)

longer : (b : Bool) (k x : ℕ) (xs ys : List ℕ) → length xs ≡ length ys → length (cond b (k ∷ xs) xs) ≡ length (cond b (x ∷ ys) ys)
longer true k x xs ys e = ap suc e
longer false k x xs ys e = e

same_length : (k : ℕ) (rs : List RoleRowTree) → length (own_list k rs) ≡ length (own_vars rs)
same_length k [] = refl
same_length k (r ∷ rs) = longer (is_own_kind r.kind) k r.var (own_list (suc k) rs) (own_vars rs) (same_length (suc k) rs)

own_at : (rs : List RoleRowTree) (j k i x d : ℕ) → Counts j (own_vars rs) → x ≡ j + i → i < length (own_vars rs) → get_or (own_list k rs) i d ≡ own_number x k rs
own_at [] j k i x d c e h = absurd (omega arith)
own_at (r ∷ rs) j k i x d c e h = go (is_own_kind r.kind) i c e h (own_at rs)
  where
    go : (b : Bool) (i : ℕ) → Counts j (cond b (r.var ∷ own_vars rs) (own_vars rs)) → x ≡ j + i → i < length (cond b (r.var ∷ own_vars rs) (own_vars rs)) →
        ((j k i x d : ℕ) → Counts j (own_vars rs) → x ≡ j + i → i < length (own_vars rs) → get_or (own_list k rs) i d ≡ own_number x k rs) →
        get_or (cond b (k ∷ own_list (suc k) rs) (own_list (suc k) rs)) i d ≡ cond (b && (r.var == x)) k (own_number x (suc k) rs)
    go true zero c e h f = ap (λ (b : Bool). cond b k (own_number x (suc k) rs)) (sym (eq-eqb r.var x (let g : r.var ≡ j = c.0 in omega arith)))
    go true (suc i) c e h f =
        f (suc j) (suc k) i x d c.1 (omega arith) (omega arith)
        ∙ ap (λ (b : Bool). cond b k (own_number x (suc k) rs)) (sym (ne_eqb r.var x (λ w. let g : r.var ≡ j = c.0 in omega arith)))
    go false i c e h f = f j (suc k) i x d c e h

-- the own role of a variable
pub own_is : (core : BodyTree) → Good core → (x d : ℕ) → x < suc (length (vars core)) → get_or (own_list 0 (roles_of core)) x d ≡ own_number x 0 (roles_of core)
own_is core g x d h = own_at (roles_of core) 0 0 x x d (counted_own core g) (omega arith) (let e : length (own_vars (roles_of core)) ≡ suc (length (vars core)) = ap length (roles_own core) in omega arith)

pub own_length : (core : BodyTree) → length (own_list 0 (roles_of core)) ≡ suc (length (vars core))
own_length core = same_length 0 (roles_of core) ∙ ap length (roles_own core)

pub own_end : (k : ℕ) (rs : List RoleRowTree) (r : RoleRowTree) → own_list k (rs ++ r ∷ []) ≡ own_list k rs ++ cond (is_own_kind r.kind) ((k + length rs) ∷ []) []
own_end k [] r = ap (λ (n : ℕ). cond (is_own_kind r.kind) (n ∷ []) []) (omega arith)
own_end k (q ∷ rs) r = ap (λ (xs : List ℕ). cond (is_own_kind q.kind) (k ∷ xs) xs) (own_end (suc k) rs r ∙ ap (λ (n : ℕ). own_list (suc k) rs ++ cond (is_own_kind r.kind) (n ∷ []) []) (omega arith)) ∙ by_kind (is_own_kind q.kind) k (own_list (suc k) rs) (cond (is_own_kind r.kind) ((k + length (q ∷ rs)) ∷ []) [])

pub own_more : (old now : List ℕ) (xs : List RoleRow) (i role : ℕ) (x : RoleRow) → i < length xs → x ≡ get_or xs i x → role ≡ i → old ≡ own_list 0 (map role_row_tree (take i xs)) →
    now ≡ old ++ cond (is_own_kind (role_row_tree x).kind) (role ∷ []) [] → now ≡ own_list 0 (map role_row_tree (take (i + 1) xs))
own_more old now xs i role x h e r b n =
    n ∙ ((λ k. b k ++ cond (is_own_kind (role_row_tree x).kind) (number k ∷ []) [])
    ∙ (sym (own_end 0 (map role_row_tree (take i xs)) (role_row_tree x))
    ∙ ap (own_list 0) (sym (map_more role_row_tree xs i x h ∙ ap (λ (y : RoleRow). map role_row_tree (take i xs) ++ role_row_tree y ∷ []) (sym e)))))
  where
    number : role ≡ 0 + length (map role_row_tree (take i xs))
    number = r ∙ omega (arith, length-map (take i xs) role_row_tree, length-take i xs)
