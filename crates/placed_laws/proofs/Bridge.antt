-- The definitions on a core's plan are those on its reading.
use Rattle.std.proofs.Common.{◌≡◌, ℕ, zero, suc, ◌+◌, ◌<◌, ◌≤◌, Bool, true, false, not, ◌&&◌, ◌||◌, List, [], ◌∷◌, ◌++◌, length, map, refl, sym, ◌∙◌, ap, subst, inl, inr, arith, add-zero, Some}
use Rattle.std.specs.Prelude.{slice_index_or}
use Rattle.std.proofs.lemmas.List.{map-append, length-append}
use Rattle.std.proofs.lemmas.Bool.{false≢true}
use Rattle.gcx_base.specs.declared.steps.Step.{Step}
use Rattle.gcx_model.specs.Tree.{Node, serial_of, within, Tree, is_open_at}
use Rattle.gcx_model.specs.Paths.{any, all, matches, head}
use Rattle.gcx_model.specs.Core.{Write, Copy, For, If, SignOff, BodyTree, Nil, Then, OffTree, VarRowTree, RoleRowTree, PlanTree}
use Rattle.gcx_model.specs.Run.{Action}
use Rattle.gcx_model.specs.Variables.{Var, var0, var_tree, vars, var_rows}
use Rattle.gcx_model.specs.Roles.{roles_of}
use Rattle.gcx_model.specs.Cores.{BodyIn, Good}
use Rattle.gcx_model.specs.Placed.{row_at, statement, statements, offs_of, plan_of}
use Rattle.gcx_model.specs.Members.{In, count}
use Rattle.gcx_model.specs.Held.{paths_from, path_of, statement_of, gives, given, all_signed, on_off, taken, live, is_live, is_held, held, reaches, signed}
use Rattle.base_laws.proofs.Numbers.{count_high}
use Rattle.tree_laws.proofs.Reading as old
use Rattle.tree_laws.proofs.Reading.{reading}
use Rattle.tree_laws.proofs.Lists.{filter_same}
use Rattle.placed_laws.proofs.CorePlans.{At_row, Fits, good_fits, good_zero, away_body}
use Rattle.placed_laws.proofs.Placed.{one_statement}

-- lists of paths

at_below : (f : ℕ → List Step) (j n y : ℕ) → y < n → slice_index_or (map f (count j n)) y [] ≡ f (j + y)
at_below f j zero y l = absurd (omega arith)
at_below f j (suc n) zero l = ap f (sym (add-zero j))
at_below f j (suc n) (suc y) l = let e : suc j + y ≡ j + suc y = omega arith in at_below f (suc j) n y (omega arith) ∙ ap f e

at_all : (f : ℕ → List Step) (j n y : ℕ) → ((z : ℕ) → n ≤ z → f (j + z) ≡ []) → slice_index_or (map f (count j n)) y [] ≡ f (j + y)
at_all f j zero y h = sym (h y (omega arith))
at_all f j (suc n) zero h = ap f (sym (add-zero j))
at_all f j (suc n) (suc y) h =
    let e : suc j + y ≡ j + suc y = omega arith in
    at_all f (suc j) n y (λ z l. let g : suc j + z ≡ j + suc z = omega arith in ap f g ∙ h (suc z) (omega arith)) ∙ ap f e

pub count_push : (j n : ℕ) → count j (suc n) ≡ count j n ++ (j + n) ∷ []
count_push j zero = ap (λ z. z ∷ []) (sym (add-zero j))
count_push j (suc n) = let e : suc j + n ≡ j + suc n = omega arith in ap (λ z. j ∷ z) (count_push (suc j) n ∙ ap (λ (z : ℕ). count (suc j) n ++ z ∷ []) e)

pub count-append : (j n m : ℕ) → count j (n + m) ≡ count j n ++ count (j + n) m
count-append j zero m = rw add-zero (let e : 0 + m ≡ m = omega arith in rw e refl)
count-append j (suc n) m =
    let e : suc n + m ≡ suc (n + m) = omega arith in
    let g : suc j + n ≡ j + suc n = omega arith in
    rw e (ap (λ z. j ∷ z) (count-append (suc j) n m ∙ ap (λ (z : ℕ). count (suc j) n ++ count z m) g))

pub length-count : (j n : ℕ) → length (count j n) ≡ n
length-count j zero = refl
length-count j (suc n) = ap suc (length-count (suc j) n)

pub split_count : (xs ys : List ℕ) (k : ℕ) → xs ++ ys ≡ count k (length (xs ++ ys)) → (xs ≡ count k (length xs)) × (ys ≡ count (k + length xs) (length ys))
split_count [] ys k e = (refl, rw add-zero e)
split_count (x ∷ xs) ys k e =
    let h : x ≡ k = cc in
    let t : xs ++ ys ≡ count (suc k) (length (xs ++ ys)) = cc in
    let r = split_count xs ys (suc k) t in
    let g : suc k + length xs ≡ k + suc (length xs) = omega arith in
    (ap (λ (z : ℕ). z ∷ xs) h ∙ ap (λ z. k ∷ z) r.0, r.1 ∙ ap (λ (z : ℕ). count z (length ys)) g)

paths_from-append : (ps : List (List Step)) (a b : List VarRowTree) → paths_from ps (a ++ b) ≡ paths_from (paths_from ps a) b
paths_from-append ps [] b = refl
paths_from-append ps (r ∷ a) b = paths_from-append (ps ++ (slice_index_or ps r.parent [] ++ r.step ∷ []) ∷ []) a b

-- a branch has no loops
pub none_in : (L : List ℕ) (d : BodyTree) → BodyIn false L d → (var_rows d ≡ []) × (vars d ≡ [])
none_in L Nil q = (refl, refl)
none_in L (Then (Write s) d) q = none_in L d q.1
none_in L (Then (Copy x) d) q = none_in L d q.1
none_in L (Then (For x y s e) d) q = absurd (false≢true q.0.0)
none_in L (Then (If c a b) d) q =
    let ra = none_in L a q.0.1 in
    let rb = none_in L b q.0.2 in
    let r = none_in L d q.1 in
    (rw (ra.0, rb.0) r.0, rw (ra.1, rb.1) r.1)
none_in L (Then (SignOff o) d) q = absurd q.0

module _ (F : ℕ → Var) where
  -- the paths of the variables below k
  abbrev upto : ℕ → List (List Step)
  upto k = map (λ z. (F z).path) (count 0 k)

  upto_push : (k : ℕ) → upto (suc k) ≡ upto k ++ (F k).path ∷ []
  upto_push k = let e : 0 + k ≡ k = omega arith in ap (map (λ z. (F z).path)) (count_push 0 k) ∙ (map-append (λ z. (F z).path) (count 0 k) ((0 + k) ∷ []) ∙ ap (λ (z : ℕ). upto k ++ (F z).path ∷ []) e)

  paths_are : (d : BodyTree) (u k : ℕ) (b : Bool) (L : List ℕ) → BodyIn b L d → Fits F u d → vars d ≡ count k (length (vars d)) → ((z : ℕ) → In z L → z < k) → paths_from (upto k) (var_rows d) ≡ upto (k + length (vars d))
  paths_are Nil u k b L q f n l = ap upto (sym (add-zero k))
  paths_are (Then (Write s) d) u k b L q f n l = paths_are d u k b L q.1 f.1 n l
  paths_are (Then (Copy x) d) u k b L q f n l = paths_are d u k b L q.1 f.1 n l
  paths_are (Then (SignOff o) d) u k b L q f n l = absurd q.0
  paths_are (Then (If c a e) d) u k b L q f n l =
      let ra = none_in L a q.0.1 in
      let re = none_in L e q.0.2 in
      let v : vars a ++ vars e ≡ [] = rw (ra.1, re.1) refl in
      let w : vars (Then (If c a e) d) ≡ vars d = ap (λ z. z ++ vars d) v in
      let r : var_rows (Then (If c a e) d) ≡ var_rows d = rw (ra.0, re.0) refl in
      ap (paths_from (upto k)) r ∙ (paths_are d u k b L q.1 f.1 (sym w ∙ (n ∙ ap (λ z. count k (length z)) w)) l ∙ ap (λ z. upto (k + length z)) (sym w))
  paths_are (Then (For x y s e) d) u k b L q f n l =
      let h : x ≡ k = cc in
      let t : vars e ++ vars d ≡ count (suc k) (length (vars e ++ vars d)) = cc in
      let sp = split_count (vars e) (vars d) (suc k) t in
      let path : slice_index_or (upto k) y [] ++ s ∷ [] ≡ (F k).path =
      ap (λ z. z ++ s ∷ []) (at_below (λ z. (F z).path) 0 k y (l y q.0.1) ∙ ap (λ (z : ℕ). (F z).path) (let g : 0 + y ≡ y = omega arith in g)) ∙ (sym (ap (λ (v : Var). v.path) f.0.0) ∙ ap (λ (z : ℕ). (F z).path) h) in
      let m : ℕ = length (vars e) in
      let first : upto k ++ (slice_index_or (upto k) y [] ++ s ∷ []) ∷ [] ≡ upto (suc k) = ap (λ z. upto k ++ z ∷ []) path ∙ sym (upto_push k) in
      let len : suc k + m + length (vars d) ≡ k + suc (length (vars e ++ vars d)) = rw length-append (omega arith) in
      ap (λ z. paths_from z (var_rows e ++ var_rows d)) first
      ∙ (paths_from-append (upto (suc k)) (var_rows e) (var_rows d)
      ∙ (ap (λ z. paths_from z (var_rows d)) (paths_are e x (suc k) b (x ∷ L) q.0.2 f.0.1 sp.0 (λ z i. elim i [ inl g ↦ omega arith | inr j ↦ (let g = l z j in omega arith) ]))
      ∙ (paths_are d u (suc k + m) b L q.1 f.1 sp.1 (λ z j. let g = l z j in omega arith)
      ∙ ap upto len)))

module _ (core : BodyTree) (good : Good core) where
  abbrev V : ℕ → Var
  V = var_tree core

  abbrev plan : PlanTree
  plan = plan_of core

  -- Path(x), by the rows of the variables
  pub path_is : (x : ℕ) → path_of plan x ≡ (V x).path
  path_is x =
      let n : ℕ = length (vars core) in
      let start : [] ∷ [] ≡ upto V 1 = ap (λ (z : Var). z.path ∷ []) (sym (good_zero core good)) in
      let ps : paths_from ([] ∷ []) (var_rows core) ≡ upto V (1 + n) = ap (λ z. paths_from z (var_rows core)) start ∙ paths_are V core 0 1 true (0 ∷ []) good.inside (good_fits core good) good.numbered (λ z i. elim i [ inl e ↦ omega arith | inr j ↦ absurd j ]) in
      let zero_add : 0 + x ≡ x = omega arith in
      let beyond : (z : ℕ) → 1 + n ≤ z → (V (0 + z)).path ≡ [] = λ z l.
      let e : 0 + z ≡ z = omega arith in
      ap (λ (y : ℕ). (V y).path) e ∙ ap (λ (v : Var). v.path) (away_body core 0 (λ y. var0) z (λ i. let h = count_high 1 n z (subst (λ (y : List ℕ). In z y) good.numbered i) in omega arith)) in
      ap (λ z. slice_index_or z x []) ps ∙ (at_all (λ z. (V z).path) 0 (1 + n) x beyond ∙ ap (λ (z : ℕ). (V z).path) zero_add)

  at_statements : (k : ℕ) (rs : List RoleRowTree) (r : ℕ) (row : RoleRowTree) → row_at rs r ≡ Some row → At_row row (statement V (roles_of core) (k + r) row) rs (statements V (roles_of core) k rs) × In (statement V (roles_of core) (k + r) row) (statements V (roles_of core) k rs)
  at_statements k [] r row e = absurd (cc)
  at_statements k (q ∷ rs) zero row e =
      let h : q ≡ row = cc in
      let g : statement V (roles_of core) k q ≡ statement V (roles_of core) (k + 0) row = ap (λ (z : RoleRowTree). statement V (roles_of core) k z) h ∙ ap (λ (z : ℕ). statement V (roles_of core) z row) (sym (add-zero k)) in
      (inl (h, g), inl g)
  at_statements k (q ∷ rs) (suc r) row e =
      let h = at_statements (suc k) rs r row e in
      let g : suc k + r ≡ k + suc r = omega arith in
      (inr (subst (λ (z : ℕ). At_row row (statement V (roles_of core) z row) rs (statements V (roles_of core) (suc k) rs)) g h.0), inr (subst (λ (z : ℕ). In (statement V (roles_of core) z row) (statements V (roles_of core) (suc k) rs)) g h.1))

  -- the role's row and statement stand at one place
  pub row_places : (r : ℕ) (row : RoleRowTree) → row_at (roles_of core) r ≡ Some row → At_row row (statement V (roles_of core) r row) (roles_of core) (offs_of core) × In (statement V (roles_of core) r row) (offs_of core)
  row_places r row e =
      let g : 0 + r ≡ r = omega arith in
      subst (λ (z : ℕ). At_row row (statement V (roles_of core) z row) (roles_of core) (offs_of core) × In (statement V (roles_of core) z row) (offs_of core)) g (at_statements 0 (roles_of core) r row e)

  -- the plan's statement for a role
  pub statement_is : (r : ℕ) (row : RoleRowTree) → row_at (roles_of core) r ≡ Some row → statement_of plan r ≡ Some (statement V (roles_of core) r row)
  statement_is r row e = ap head (one_statement core good (statement V (roles_of core) r row) (row_places r row e).1)

  module _ (P : Tree) (A : List Action) (n : Node) where
    pub given_is : (r : ℕ) (row : RoleRowTree) → row_at (roles_of core) r ≡ Some row → given plan P n r ≡ old.given (reading core) P n row
    given_is r row e = rw e (ap (λ z. gives P 0 z row.tail row.kind n) (path_is row.var))

    pub taken_is : (r : ℕ) (row : RoleRowTree) → row_at (roles_of core) r ≡ Some row → taken plan P A n r ≡ old.taken (reading core) P A n row (statement V (roles_of core) r row)
    taken_is r row e =
        let o : OffTree = statement V (roles_of core) r row in
        ap (λ z. z && on_off (all_signed (path_of plan) P A n) (statement_of plan r)) (given_is r row e)
        ∙ (ap (λ z. old.given (reading core) P n row && on_off (all_signed (path_of plan) P A n) z) (statement_is r row e)
        ∙ ap (λ z. old.given (reading core) P n row && all (λ m. not (reaches P o m n) || signed A o m) (matches P 0 z)) (path_is o.base))

    pub live_is : (r : ℕ) (row : RoleRowTree) → row_at (roles_of core) r ≡ Some row → live plan P A n r ≡ (old.given (reading core) P n row && not (old.taken (reading core) P A n row (statement V (roles_of core) r row)))
    live_is r row e = ap (λ z. z && not (taken plan P A n r)) (given_is r row e) ∙ ap (λ z. old.given (reading core) P n row && not z) (taken_is r row e)

    some_is : (k : ℕ) (rs : List RoleRowTree) → ((j : ℕ) → row_at rs j ≡ row_at (roles_of core) (k + j)) → any (live plan P A n) (count k (length rs)) ≡ old.live_some (reading core) P A n rs (statements V (roles_of core) k rs)
    some_is k [] h = refl
    some_is k (q ∷ rs) h =
        let e : row_at (roles_of core) k ≡ Some q = ap (row_at (roles_of core)) (sym (add-zero k)) ∙ sym (h 0) in
        let rest : (j : ℕ) → row_at rs j ≡ row_at (roles_of core) (suc k + j) = λ j. let g : k + suc j ≡ suc k + j = omega arith in h (suc j) ∙ ap (row_at (roles_of core)) g in
        ap (λ z. z || any (live plan P A n) (count (suc k) (length rs))) (live_is k q e) ∙ ap (λ z. (old.given (reading core) P n q && not (old.taken (reading core) P A n q (statement V (roles_of core) k q))) || z) (some_is (suc k) rs rest)

    pub is_live_is : is_live plan P A n ≡ old.is_live (reading core) P A n
    is_live_is = some_is 0 (roles_of core) (λ j. let g : j ≡ 0 + j = omega arith in ap (row_at (roles_of core)) g)

  any_same : {X : Type 0} (p q : X → Bool) (xs : List X) → ((x : X) → p x ≡ q x) → any p xs ≡ any q xs
  any_same p q [] h = refl
  any_same p q (x ∷ xs) h = ap (λ z. z || any p xs) (h x) ∙ ap (λ z. q x || z) (any_same p q xs h)

  pub is_held_is : (P : Tree) (A : List Action) (n : Node) → is_held plan P A n ≡ old.is_held (reading core) P A n
  is_held_is P A n = ap (λ z. is_open_at P.at (serial_of n) || z) (any_same (λ (m : Node). within (serial_of n) m && is_live plan P A m) (λ (m : Node). within (serial_of n) m && old.is_live (reading core) P A m) P.nodes (λ m. ap (λ z. within (serial_of n) m && z) (is_live_is P A m)))

  pub held_is : (P : Tree) (A : List Action) → held plan P A ≡ old.held (reading core) P A
  held_is P A = filter_same (is_held plan P A) (old.is_held (reading core) P A) P.nodes (λ m i. is_held_is P A m)
