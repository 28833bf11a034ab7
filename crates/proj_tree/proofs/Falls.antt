-- The counts of descendant steps are those of the variables' paths.
use Rattle.std.proofs.Common.{ℕ, zero, suc, ◌≡◌, ◌+◌, ◌<◌, ◌≤◌, min, Bool, true, false, ◌||◌, List, [], ◌∷◌, ◌++◌, map, length, take, get_or, refl, sym, ap, ◌∙◌, arith, add-one}
use Rattle.std.specs.Prelude.{nat_lt, Some, None, if◌then◌else◌}
use Rattle.std.proofs.lemmas.List.{map-append, map_more, length-map}
use Rattle.std.proofs.lemmas.Bool.{ltb-true, ltb-false, lt-ltb, le-ltb, or_left, or_right}
use Rattle.gcx_base.specs.declared.steps.Step.{Step}
use Rattle.gcx_model.specs.Core.{ItemTree, Write, Copy, For, If, SignOff, BodyTree, Nil, Then, VarRowTree, RoleRowTree}
use Rattle.gcx_model.specs.Cores.{Good}
use Rattle.gcx_model.specs.Paths.{any}
use Rattle.gcx_model.specs.Roles.{roles_of}
use Rattle.gcx_model.specs.Variables.{Var, var0, var_rows, item_var_rows, path_in}
use Rattle.gcx_model.specs.declared.plan.RoleRow.{RoleRow}
use Rattle.gcx_model.specs.declared.plan.VarRow.{VarRow}
use Rattle.gcx_model.specs.PlanView.{role_row_tree, var_row_tree}
use Rattle.var_tree.specs.Loops.{Loop, loops, item_loops}
use Rattle.var_tree.proofs.Tables.{look, look_map}
use Rattle.var_tree.proofs.Growing.{grown, loop_var, table, tree_is}
use Rattle.proj_tree.specs.Depths.{fall, descendants, is_deep, roles_refusal, capped, with_rows}
use Rattle.gcx_model.specs.declared.fault.QueryFault.TheVariants.{TooLarge}
use Rattle.gcx_model.specs.declared.fault.What.TheVariants.{Roles, Descendants}

-- ---- Sums that stand still

pub cap_more : (most a f : ℕ) → min (min a most + f) most ≡ min (a + f) most
cap_more most a f = omega arith

cap_below : (most n m : ℕ) → n < most → nat_lt n (min m most) ≡ nat_lt n m
cap_below most n m h = go (nat_lt n m) refl
  where
    go : (b : Bool) → nat_lt n m ≡ b → nat_lt n (min m most) ≡ b
    go true e = let g : n < m = ltb-true n m e in lt-ltb n (min m most) (omega arith)
    go false e = let g : m ≤ n = ltb-false n m e in le-ltb n (min m most) (omega arith)

pub below_cap : (n m : ℕ) → n < 4294967295 → nat_lt n (capped m) ≡ nat_lt n m
below_cap n m h = cap_below 4294967295 n m h

cap_first : (most n d t : ℕ) → n < most → nat_lt n (min d most + t) ≡ nat_lt n (d + t)
cap_first most n d t h = go (nat_lt n (d + t)) refl
  where
    go : (b : Bool) → nat_lt n (d + t) ≡ b → nat_lt n (min d most + t) ≡ b
    go true e = let g : n < d + t = ltb-true n (d + t) e in lt-ltb n (min d most + t) (omega arith)
    go false e = let g : d + t ≤ n = ltb-false n (d + t) e in le-ltb n (min d most + t) (omega arith)

-- ---- Steps

pub descendants_more : (a b : List Step) → descendants (a ++ b) ≡ descendants a + descendants b
descendants_more [] b = omega arith
descendants_more (s ∷ a) b = omega (arith, descendants_more a b)

one_step : (s : Step) → descendants (s ∷ []) ≡ fall s
one_step s = omega arith

steps_taken : (xs : List Step) (i : ℕ) (x : Step) → i < length xs → x ≡ get_or xs i x → descendants (take (i + 1) xs) ≡ descendants (take i xs) + fall x
steps_taken xs i x h e = ap (λ (n : ℕ). descendants (take n xs)) (add-one i) ∙ go xs i h e
  where
    go : (ys : List Step) (j : ℕ) → j < length ys → x ≡ get_or ys j x → descendants (take (suc j) ys) ≡ descendants (take j ys) + fall x
    go [] j h e = absurd (omega arith)
    go (y ∷ ys) zero h e = ap (λ (z : Step). fall z + 0) (sym e) ∙ omega arith
    go (y ∷ ys) (suc j) h e = omega (arith, go ys j (omega arith) e)

pub fall_more : (most start before now f : ℕ) (xs : List Step) (i : ℕ) (x : Step) → i < length xs → x ≡ get_or xs i x → before ≡ min (start + descendants (take i xs)) most → f ≡ fall x →
    now ≡ min (before + f) most → now ≡ min (start + descendants (take (i + 1) xs)) most
fall_more most start before now f xs i x h e b g n =
    n ∙ ((λ k. min (b k + g k) most) ∙ (cap_more most (start + descendants (take i xs)) (fall x) ∙ ap (λ (m : ℕ). min m most) (let t = steps_taken xs i x h e in omega arith)))

-- ---- Rows

pub rows_end : (depths : List ℕ) (rs : List VarRowTree) (r : VarRowTree) → with_rows depths (rs ++ r ∷ []) ≡ with_rows depths rs ++ capped (get_or (with_rows depths rs) r.parent 0 + fall r.step) ∷ []
rows_end depths [] r = refl
rows_end depths (q ∷ rs) r = rows_end (depths ++ capped (get_or depths q.parent 0 + fall q.step) ∷ []) rs r

pub rows_more : (start before now : List ℕ) (xs : List VarRow) (i d : ℕ) (x : VarRow) → i < length xs → x ≡ get_or xs i x → before ≡ with_rows start (map var_row_tree (take i xs)) →
    d ≡ capped (get_or before x.parent.0 0 + fall x.step) → now ≡ before ++ d ∷ [] → now ≡ with_rows start (map var_row_tree (take (i + 1) xs))
rows_more start before now xs i d x h e b g n =
    n ∙ (ap (λ (z : ℕ). before ++ z ∷ []) g ∙ ((λ k. b k ++ capped (get_or (b k) x.parent.0 0 + fall x.step) ∷ [])
    ∙ (sym (rows_end start (map var_row_tree (take i xs)) (var_row_tree x))
    ∙ ap (with_rows start) (sym (map_more var_row_tree xs i x h ∙ ap (λ (y : VarRow). map var_row_tree (take i xs) ++ var_row_tree y ∷ []) (sym e))))))

abbrev pub row_of : Loop → VarRowTree
row_of l = record { parent = l.parent; step = l.step }

mutual
  item_rows_are : (i : ItemTree) (u : ℕ) → item_var_rows i ≡ map row_of (item_loops i u)
  item_rows_are (Write b) u = refl
  item_rows_are (Copy x) u = refl
  item_rows_are (For x y s d) u = ap (λ rs. record { parent = y; step = s } ∷ rs) (rows_are d x)
  item_rows_are (If c a b) u = (λ i. rows_are a u i ++ rows_are b u i) ∙ sym (map-append row_of (loops a u) (loops b u))
  item_rows_are (SignOff o) u = refl

  pub rows_are : (d : BodyTree) (u : ℕ) → var_rows d ≡ map row_of (loops d u)
  rows_are Nil u = refl
  rows_are (Then i d) u = (λ k. item_rows_are i u k ++ rows_are d u k) ∙ sym (map-append row_of (item_loops i u) (loops d u))

-- the count of a variable
abbrev pub depth_of : Var → ℕ
depth_of v = capped (descendants v.path)

from_zero : {X : Type 0} (f : X → ℕ) (d : X) (T : List X) (z x : ℕ) → z ≡ f d → get_or (z ∷ map f T) x z ≡ f (look d T x)
from_zero f d T z zero e = e
from_zero f d T z (suc k) e = ap (λ (w : ℕ). get_or (map f T) k w) e ∙ look_map f d T (suc k)

pub depth_known : (T : List Var) (x : ℕ) → get_or (0 ∷ map depth_of T) x 0 ≡ depth_of (look var0 T x)
depth_known T x = from_zero depth_of var0 T 0 x refl

depth_next : (l : Loop) (p : Var) → capped (depth_of p + fall l.step) ≡ depth_of (loop_var l p)
depth_next l p = cap_more 4294967295 (descendants p.path) (fall l.step) ∙ ap capped (sym (descendants_more p.path (l.step ∷ []) ∙ ap (λ (n : ℕ). descendants p.path + n) (one_step l.step)))

grown_depths : (T : List Var) (ls : List Loop) → with_rows (0 ∷ map depth_of T) (map row_of ls) ≡ 0 ∷ map depth_of (grown T ls)
grown_depths T [] = refl
grown_depths T (l ∷ ls) =
    ap (λ (ds : List ℕ). with_rows (0 ∷ ds) (map row_of ls))
    (ap (λ (n : ℕ). map depth_of T ++ capped (n + fall l.step) ∷ []) (depth_known T l.parent)
    ∙ (ap (λ (n : ℕ). map depth_of T ++ n ∷ []) (depth_next l (look var0 T l.parent)) ∙ sym (map-append depth_of T (loop_var l (look var0 T l.parent) ∷ []))))
    ∙ grown_depths (T ++ loop_var l (look var0 T l.parent) ∷ []) ls

pub depths_are : (core : BodyTree) → with_rows (0 ∷ []) (var_rows core) ≡ 0 ∷ map depth_of (table core)
depths_are core = ap (with_rows (0 ∷ [])) (rows_are core 0) ∙ grown_depths [] (loops core 0)

-- whether a role is deep, where the counts are known
abbrev pub seems_deep : List ℕ → RoleRowTree → Bool
seems_deep known r = nat_lt 6 (get_or known r.var 0 + descendants r.tail)

pub deep_known : (core : BodyTree) → Good core → (known : List ℕ) → known ≡ with_rows (0 ∷ []) (var_rows core) → (r : RoleRowTree) → seems_deep known r ≡ is_deep core r
deep_known core g known e r =
    ap (λ (ds : List ℕ). nat_lt 6 (get_or ds r.var 0 + descendants r.tail)) (e ∙ depths_are core)
    ∙ (ap (λ (n : ℕ). nat_lt 6 (n + descendants r.tail)) (depth_known (table core) r.var ∙ ap (λ (F : ℕ → Var). depth_of (F r.var)) (sym (tree_is core g)))
    ∙ (cap_first 4294967295 6 (descendants (path_in core r.var)) (descendants r.tail) (omega arith) ∙ ap (nat_lt 6) (sym (descendants_more (path_in core r.var) r.tail))))

-- ---- Roles

pub any_same : {X : Type 0} (p q : X → Bool) → ((x : X) → p x ≡ q x) → (xs : List X) → any p xs ≡ any q xs
any_same p q h [] = refl
any_same p q h (x ∷ xs) = (λ i. h x i || any_same p q h xs i)

pub some_at : (p : RoleRowTree → Bool) (xs : List RoleRow) (i : ℕ) (x : RoleRow) → i < length xs → x ≡ get_or xs i x → p (role_row_tree x) ≡ true → any p (map role_row_tree xs) ≡ true
some_at p [] i x h e f = absurd (omega arith)
some_at p (y ∷ ys) zero x h e f = or_left (p (role_row_tree y)) (any p (map role_row_tree ys)) (ap (λ (z : RoleRow). p (role_row_tree z)) (sym e) ∙ f)
some_at p (y ∷ ys) (suc i) x h e f = or_right (p (role_row_tree y)) (any p (map role_row_tree ys)) (some_at p ys i x (omega arith) e f)

-- ---- What a core is refused for

pub few_roles : (core : BodyTree) (xs ys : List RoleRow) → ys ≡ xs → map role_row_tree xs ≡ roles_of core → length ys ≤ 2000 → length (roles_of core) ≤ 2000
few_roles core xs ys e f h = omega (arith, ap length e, ap length f, length-map xs role_row_tree, h)

pub deep_roles : (core : BodyTree) (xs ys : List RoleRow) (deep answer : Bool) → ys ≡ xs → map role_row_tree xs ≡ roles_of core → deep ≡ any (is_deep core) (map role_row_tree ys) → deep ≡ answer → any (is_deep core) (roles_of core) ≡ answer
deep_roles core xs ys deep answer e f g h = ap (any (is_deep core)) (sym f ∙ ap (map role_row_tree) (sym e)) ∙ (sym g ∙ h)

pub none_passed : (core : BodyTree) → length (roles_of core) ≤ 2000 → any (is_deep core) (roles_of core) ≡ false → roles_refusal core ≡ None
none_passed core few shallow =
    let e : nat_lt 2000 (length (roles_of core)) ≡ false = le-ltb 2000 (length (roles_of core)) few in
    ap (λ b. if b then Some (TooLarge Roles 2000) else (if any (is_deep core) (roles_of core) then Some (TooLarge Descendants 6) else None)) e
    ∙ ap (λ b. if b then Some (TooLarge Descendants 6) else None) shallow
