-- What the tables tell of the variables is what the variable tree tells of them.
use Rattle.std.proofs.Common.{ℕ, zero, suc, ◌≡◌, ◌+◌, ◌<◌, ◌≤◌, Bool, true, false, cond, List, [], ◌∷◌, ◌++◌, map, length, get_or, refl, sym, ap, ◌∙◌, subst, arith}
use Rattle.std.proofs.lemmas.List.{map-append, length-map}
use Rattle.gcx_base.specs.declared.steps.Step.{Step}
use Rattle.gcx_model.specs.Core.{ItemTree, Write, Copy, For, If, SignOff, BodyTree, Nil, Then, RoleRowTree}
use Rattle.gcx_model.specs.declared.plan.VarRow.{VarRow}
use Rattle.gcx_model.specs.Cores.{Good}
use Rattle.gcx_model.specs.PlanView.{var_row_tree}
use Rattle.gcx_model.specs.Placed.{own_number, statement, statements, offs_of}
use Rattle.gcx_model.specs.Roles.{roles_of}
use Rattle.gcx_model.specs.Variables.{Var, var0, is_straight, item_vars, vars, var_tree, var_rows, fsa_list, straight_in, straight_list}
use Rattle.var_tree.specs.Loops.{Loop, item_loops, loops}
use Rattle.var_tree.proofs.Tables.{Counts, counts, look, look_map}
use Rattle.var_tree.proofs.Growing.{grown, loop_var, number, table, tree_is, each_var}
use Rattle.proj_tree.specs.Own.{own_list}
use Rattle.proj_tree.proofs.Falls.{row_of, rows_are}
use Rattle.proj_tree.proofs.Owned.{own_is}
use Rattle.signoff_place.specs.Spread.{Tables, base_at, stated, all_stated}
use Rattle.signoff_place.proofs.Rels.{rel_of, rel_known}

abbrev base_of : Var → ℕ
base_of v = v.base

-- ---- The fsa of each variable is one of them, or variable 0.

abbrev AllBelow : ℕ → List ℕ → Type 0
AllBelow n [] = Unit {0}
AllBelow n (x ∷ xs) = (x < n) × AllBelow n xs

counts_below : (k n : ℕ) (xs : List ℕ) → Counts k xs → k + length xs ≤ n → AllBelow n xs
counts_below k n [] c h = tt
counts_below k n (x ∷ xs) c h = (let e : x ≡ k = c.0 in omega arith, counts_below (suc k) n xs c.1 (omega arith))

abbrev BasesBelow : ℕ → List Var → Type 0
BasesBelow n [] = Unit {0}
BasesBelow n (v ∷ T) = (v.base < n) × BasesBelow n T

bases_more : (n : ℕ) (T : List Var) (v : Var) → BasesBelow n T → v.base < n → BasesBelow n (T ++ v ∷ [])
bases_more n [] v b h = (h, tt)
bases_more n (w ∷ T) v b h = (b.0, bases_more n T v b.1 h)

below_at : (n : ℕ) (T : List Var) (y : ℕ) → 0 < n → BasesBelow n T → (look var0 T y).base < n
below_at n T zero p b = p
below_at n [] (suc k) p b = p
below_at n (v ∷ T) (suc zero) p b = b.0
below_at n (v ∷ T) (suc (suc k)) p b = below_at n T (suc k) p b.1

below_by : (c : Bool) (n x y : ℕ) → x < n → y < n → cond c x y < n
below_by true n x y h g = h
below_by false n x y h g = g

abbrev number_of : Loop → ℕ
number_of l = l.var

mutual
  item_numbers : (i : ItemTree) (u : ℕ) → map number_of (item_loops i u) ≡ item_vars i
  item_numbers (Write b) u = refl
  item_numbers (Copy x) u = refl
  item_numbers (For x y s d) u = ap (λ (xs : List ℕ). x ∷ xs) (numbers d x)
  item_numbers (If c a b) u = map-append number_of (loops a u) (loops b u) ∙ (λ i. numbers a u i ++ numbers b u i)
  item_numbers (SignOff o) u = refl

  numbers : (d : BodyTree) (u : ℕ) → map number_of (loops d u) ≡ vars d
  numbers Nil u = refl
  numbers (Then i d) u = map-append number_of (item_loops i u) (loops d u) ∙ (λ k. item_numbers i u k ++ numbers d u k)

grown_below : (n : ℕ) (T : List Var) (ls : List Loop) → 0 < n → BasesBelow n T → AllBelow n (map number_of ls) → BasesBelow n (grown T ls)
grown_below n T [] p b a = b
grown_below n T (l ∷ ls) p b a =
    grown_below n (T ++ loop_var l (look var0 T l.parent) ∷ []) ls p
    (bases_more n T (loop_var l (look var0 T l.parent)) b (below_by (is_straight l.outer l.parent l.step (look var0 T l.parent)) n l.var (look var0 T l.parent).base a.0 (below_at n T l.parent p b))) a.1

pub base_below : (core : BodyTree) → Good core → (x : ℕ) → (var_tree core x).base < suc (length (vars core))
base_below core g x =
    subst (λ (F : ℕ → Var). (F x).base < suc (length (vars core))) (sym (tree_is core g))
    (below_at (suc (length (vars core))) (table core) x (omega arith)
    (grown_below (suc (length (vars core))) [] (loops core 0) (omega arith) tt
    (subst (λ (xs : List ℕ). AllBelow (suc (length (vars core))) xs) (sym (numbers core 0)) (counts_below 1 (suc (length (vars core))) (vars core) (counts 1 (vars core) g.numbered) (omega arith)))))

-- ---- What the tables tell

-- the tables of a core
pub record AreOf (core : BodyTree) (t : Tables) : Type 0 where
  pub own : t.own ≡ own_list 0 (roles_of core)
  pub fsa : t.fsa ≡ fsa_list core
  pub rels : t.rels ≡ [] ∷ map rel_of (table core)

base_look : (bs : List ℕ) (x : ℕ) → base_at bs x ≡ look 0 bs x
base_look bs zero = refl
base_look bs (suc k) = refl

base_known : (core : BodyTree) → Good core → (fsa : List ℕ) → fsa ≡ fsa_list core → (x : ℕ) → base_at fsa x ≡ (var_tree core x).base
base_known core g fsa e x =
    ap (λ (bs : List ℕ). base_at bs x) (e ∙ each_var base_of core g)
    ∙ (base_look (map base_of (table core)) x ∙ (look_map base_of var0 (table core) x ∙ ap (λ (F : ℕ → Var). (F x).base) (sym (tree_is core g))))

pub rows_number : (core : BodyTree) → length (var_rows core) ≡ length (vars core)
rows_number core = ap length (rows_are core 0) ∙ (length-map (loops core 0) row_of ∙ number core 0)

pub within_rows : (core : BodyTree) → Good core → (fsa : List ℕ) → fsa ≡ fsa_list core → (rows same : List VarRow) → same ≡ rows → map var_row_tree rows ≡ var_rows core → (x : ℕ) → base_at fsa x < length same + 1
within_rows core g fsa e rows same s r x =
    let below : (var_tree core x).base < suc (length (vars core)) = base_below core g x in
    omega (arith, base_known core g fsa e x, ap length s, ap length r, length-map rows var_row_tree, rows_number core)

pub straight_rows : (core : BodyTree) (flags : List Bool) (rows same : List VarRow) → flags ≡ straight_list core → same ≡ rows → map var_row_tree rows ≡ var_rows core → length flags ≡ length same
straight_rows core flags rows same f s r = omega (arith, ap length f, length-map (vars core) (straight_in core), ap length s, ap length r, length-map rows var_row_tree, rows_number core)

stated_known : (core : BodyTree) → Good core → (t : Tables) → AreOf core t → (k : ℕ) (r : RoleRowTree) → stated t k r ≡ statement (var_tree core) (roles_of core) k r
stated_known core g t a k r =
    (λ i. record { base = base_known core g t.fsa a.fsa r.var i; own = own i; role = k; rel = rel i; tail = r.tail; kind = r.kind })
  where
    own : get_or t.own (base_at t.fsa r.var) k ≡ own_number (var_tree core r.var).base 0 (roles_of core)
    own =
        (λ i. get_or (a.own i) (base_known core g t.fsa a.fsa r.var i) k)
        ∙ own_is core g (var_tree core r.var).base k (base_below core g r.var)

    rel : get_or t.rels r.var [] ≡ (var_tree core r.var).rel
    rel = ap (λ (rs : List (List Step)). get_or rs r.var []) a.rels ∙ (rel_known (table core) r.var ∙ ap (λ (F : ℕ → Var). (F r.var).rel) (sym (tree_is core g)))

all_known : (core : BodyTree) → Good core → (t : Tables) → AreOf core t → (k : ℕ) (rs : List RoleRowTree) → all_stated t k rs ≡ statements (var_tree core) (roles_of core) k rs
all_known core g t a k [] = refl
all_known core g t a k (r ∷ rs) = (λ i. stated_known core g t a k r i ∷ all_known core g t a (suc k) rs i)

pub offs_known : (core : BodyTree) → Good core → (t : Tables) → AreOf core t → all_stated t 0 (roles_of core) ≡ offs_of core
offs_known core g t a = all_known core g t a 0 (roles_of core)
