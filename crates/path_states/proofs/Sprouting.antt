-- The tree of the variables, and those of the tails.
use Rattle.std.proofs.Common.{◌≡◌, ℕ, zero, suc, ◌+◌, ◌<◌, ◌≤◌, List, [], ◌∷◌, ◌++◌, length, take, get_or, refl, sym, ◌∙◌, ap, subst, inl, inr, ◌⊎◌, arith, append_assoc, Some, false}
use Rattle.std.specs.Prelude.{slice_get, map, ◌↔◌}
use Rattle.std.proofs.Math.ListN.{get_or-append}
use Rattle.std.proofs.Math.Seq.{get_or-append_seam}
use Rattle.std.proofs.lemmas.List.{length-append, append-nil, take_more}
use Rattle.std.proofs.lemmas.Option.{slice_get_within}
use Rattle.gcx_base.specs.declared.kind.Kind.TheVariants.{Text}
use Rattle.gcx_base.specs.declared.steps.Step.{Step}
use Rattle.gcx_model.specs.Core.{Own, First, Whole, VarRowTree, RoleRowTree, PlanTree}
use Rattle.gcx_model.specs.Held.{paths_from, path_of}
use Rattle.gcx_model.specs.ItemView.{role_kind}
use Rattle.gcx_base.specs.Tests.{passes}
use Rattle.gcx_model.specs.Placed.{row_at}
use Rattle.gcx_model.specs.PlanView.{var_row_tree}
use Rattle.gcx_model.specs.declared.plan.VarRow.{VarRow}
use Rattle.tree_laws.proofs.Lists.{In}
use Rattle.path_states.specs.PathTree.{IsWay, IsPathTree, kind_with, tail_with}
use Rattle.gcx_base.specs.declared.steps.Axis.TheVariants.{Child, Descendant}
use Rattle.path_states.specs.Growing.{Told, Below, Ends, Contexts, told_by, IsTold, IsFresh, path_at, Growing, Reached, Ended}
use Rattle.path_states.specs.declared.paths.PathState.{PathState}
use Rattle.path_states.specs.declared.paths.PathTree.{PathTree}
use Rattle.path_states.specs.declared.paths.Way.{Way}
use Rattle.path_states.proofs.Growing.{at_longer, at_seam}

-- the path state of variable 0 alone
pub growing_top : (s : PathState) (step : Step) → IsFresh s 0 step → Growing (s ∷ []) ([] ∷ []) []
growing_top s step f = record {
  same = refl;
  some = omega arith;
  top = refl;
  step = λ c z e pos. (let l = slice_get_within (s ∷ []) c z e in absurd (omega arith));
  tells = tells;
  known = λ r w e. absurd (cc);
}
  where
    not_told : (k : Told) (p y : ℕ) → IsTold (s ∷ []) [] k p y → ⊥
    not_told (Below axis) p y b = let l = slice_get_within (s ∷ []) y b.state b.at in let h = b.behind in absurd (omega arith)
    not_told (Ends kind) p y b = let e = b.at in absurd (cc)
    not_told Contexts p y b = let e = b.at in absurd (cc)

    tells : (k : Told) (p : ℕ) (z : PathState) (y : ℕ) → slice_get (s ∷ []) p ≡ Some z → In y (told_by k z) ↔ IsTold (s ∷ []) [] k p y
    tells k zero z y e = let d : s ≡ z = cc in ((λ i. absurd (subst (λ (w : List ℕ). In y w) (ap (told_by k) (sym d) ∙ f.none k) i)), (λ b. absurd (not_told k 0 y b)))
    tells k (suc p) z y e = absurd (cc)

-- one variable more
pub paths_more : (paths : List (List Step)) (rows : List VarRowTree) (row : VarRowTree) → paths_from paths (rows ++ row ∷ []) ≡ paths_from paths rows ++ (path_at (paths_from paths rows) row.parent ++ row.step ∷ []) ∷ []
paths_more paths [] row = refl
paths_more paths (r ∷ rows) row = paths_more (paths ++ (path_at paths r.parent ++ r.step ∷ []) ∷ []) rows row

pub map_append : {X Y : Type 0} (f : X → Y) (xs ys : List X) → map f (xs ++ ys) ≡ map f xs ++ map f ys
map_append f [] ys = refl
map_append f (x ∷ xs) ys = ap (λ zs. f x ∷ zs) (map_append f xs ys)

-- the first ones of a list, one more
pub first_more : {X Y : Type 0} (f : X → Y) (xs : List X) (i : ℕ) (x : X) → i < length xs → x ≡ get_or xs i x → map f (take (i + 1) xs) ≡ map f (take i xs) ++ f x ∷ []
first_more f xs i x l e = ap (map f) (take_more xs i x l) ∙ (map_append f (take i xs) (get_or xs i x ∷ []) ∙ ap (λ z. map f (take i xs) ++ f z ∷ []) (sym e))

pub first_length : {X Y : Type 0} (f : X → Y) (xs : List X) (i : ℕ) → i ≤ length xs → length (map f (take i xs)) ≡ i
first_length f xs zero l = refl
first_length f [] (suc i) l = absurd (omega arith)
first_length f (x ∷ xs) (suc i) l = let m : i ≤ length xs = omega arith in ap suc (first_length f xs i m)

pub var_more : (tree next : List PathState) (vars : List VarRow) (i : ℕ) (x : VarRow) (count parent : ℕ) (paths : List (List Step)) (ways : List Way) → i < length vars → x ≡ get_or vars i x
    → Growing tree (paths_from paths (map var_row_tree (take i vars))) ways
    → count ≡ length tree → (0 < count → parent < count)
    → ((paths : List (List Step)) → length paths ≡ count → path_at paths 0 ≡ [] → path_at paths parent ≡ path_at paths x.parent.0)
    → ((paths : List (List Step)) (ways : List Way) → parent < length tree → Growing tree paths ways → Growing next (paths ++ (path_at paths parent ++ x.step ∷ []) ∷ []) ways)
    → Growing next (paths_from paths (map var_row_tree (take (i + 1) vars))) ways
var_more tree next vars i x count parent paths ways l e g n low is put =
    let P : List (List Step) = paths_from paths (map var_row_tree (take i vars)) in
    let some = g.some in
    let pos : 0 < count = omega arith in
    let below = low pos in
    let h = put P ways (omega arith) g in
    let a : path_at P parent ≡ path_at P x.parent.0 = is P (g.same ∙ sym n) g.top in
    let b : paths_from paths (map var_row_tree (take (i + 1) vars)) ≡ P ++ (path_at P x.parent.0 ++ x.step ∷ []) ∷ [] = ap (paths_from paths) (first_more var_row_tree vars i x l e) ∙ paths_more paths (map var_row_tree (take i vars)) (var_row_tree x) in
    subst (λ (z : List (List Step)). Growing next z ways) (sym b) (subst (λ (z : List Step). Growing next (P ++ (z ++ x.step ∷ []) ∷ []) ways) a h)

-- the start of a tail
pub reach_start : (tree : List PathState) (paths : List (List Step)) (ways : List Way) (var : ℕ) → var < length tree → Growing tree paths ways → Reached tree paths ways var (path_at paths var ++ [])
reach_start tree paths ways var l g = record {
  more = [];
  growing = subst (λ (z : List (List Step)). Growing tree z ways) (sym (append-nil paths)) g;
  within = l;
  is = ap (λ (z : List (List Step)). path_at z var) (append-nil paths) ∙ sym (append-nil (path_at paths var));
}

-- one step more
pub reach_more : (tree next : List PathState) (paths : List (List Step)) (ways : List Way) (end number : ℕ) (path : List Step) (step : Step) → Reached tree paths ways end path
    → ((paths : List (List Step)) (ways : List Way) → end < length tree → Growing tree paths ways → Growing next (paths ++ (path_at paths end ++ step ∷ []) ∷ []) ways)
    → number ≡ length tree → Reached next paths ways number (path ++ step ∷ [])
reach_more tree next paths ways end number path step r put n =
    let P : List (List Step) = paths ++ r.more in
    let X : List Step = path_at P end ++ step ∷ [] in
    let h : Growing next (P ++ X ∷ []) ways = put P ways r.within r.growing in
    let a : P ++ X ∷ [] ≡ paths ++ (r.more ++ X ∷ []) = append_assoc paths r.more (X ∷ []) in
    let same = r.growing.same in
    let next_same = h.same in
    let long = length-append P (X ∷ []) in
    let at : length P ≡ number = r.growing.same ∙ sym n in
    let seam : path_at (P ++ X ∷ []) number ≡ X = subst (λ (z : ℕ). path_at (P ++ X ∷ []) z ≡ X) at (get_or-append_seam P X [] []) in
    record {
      more = r.more ++ X ∷ [];
      growing = subst (λ (z : List (List Step)). Growing next z ways) a h;
      within = omega arith;
      is = ap (λ (z : List (List Step)). path_at z number) (sym a) ∙ (seam ∙ ap (λ (z : List Step). z ++ step ∷ []) r.is);
    }

-- the tail's steps so far, one more
pub tail_more : (tree next : List PathState) (paths : List (List Step)) (ways : List Way) (end number : ℕ) (path tail : List Step) (i : ℕ) (x : Step) → i < length tail → x ≡ get_or tail i x → Reached tree paths ways end (path ++ take i tail)
    → ((paths : List (List Step)) (ways : List Way) → end < length tree → Growing tree paths ways → Growing next (paths ++ (path_at paths end ++ x ∷ []) ∷ []) ways)
    → number ≡ length tree → Reached next paths ways number (path ++ take (i + 1) tail)
tail_more tree next paths ways end number path tail i x l e r put n =
    let a : (path ++ take i tail) ++ x ∷ [] ≡ path ++ take (i + 1) tail = append_assoc path (take i tail) (x ∷ []) ∙ ap (λ (z : List Step). path ++ z) (ap (λ (z : Step). take i tail ++ z ∷ []) e ∙ sym (take_more tail i x l)) in
    subst (λ (z : List Step). Reached next paths ways number z) a (reach_more tree next paths ways end number (path ++ take i tail) x r put n)

-- the roles

row_more : (rows : List RoleRowTree) (row : RoleRowTree) (k : ℕ) (x : RoleRowTree) → row_at (rows ++ row ∷ []) k ≡ Some x → (row_at rows k ≡ Some x) ⊎ ((k ≡ length rows) × (row ≡ x))
row_more [] row zero x e = let f : row ≡ x = cc in inr (refl, f)
row_more [] row (suc k) x e = absurd (cc)
row_more (r ∷ rows) row zero x e = inl e
row_more (r ∷ rows) row (suc k) x e = elim (row_more rows row k x e) [ inl f ↦ inl f | inr q ↦ inr (ap suc q.0, q.1) ]

way_longer : (plan : PlanTree) (paths more : List (List Step)) (count next : ℕ) (w : Way) (row : RoleRowTree) → length paths ≡ count → count ≤ next → IsWay plan (path_at paths) count w row → IsWay plan (path_at (paths ++ more)) next w row
way_longer plan paths more count next w row n l is =
    let a = is.var_known in
    let b = is.end_known in
    record {
      kind = is.kind;
      var = get_or-append paths more [] w.var (omega arith) ∙ is.var;
      var_known = omega arith;
      end = get_or-append paths more [] w.end (omega arith) ∙ is.end;
      end_known = omega arith;
      steps = is.steps;
    }

pub ended_start : (plan : PlanTree) (tree : List PathState) → Growing tree (paths_from ([] ∷ []) plan.vars) [] → Ended plan tree [] []
ended_start plan tree g = record {
  more = [];
  growing = subst (λ (z : List (List Step)). Growing tree z []) (sym (append-nil (paths_from ([] ∷ []) plan.vars))) g;
  count = refl;
  each = λ r row e. absurd (cc);
}

module _ (plan : PlanTree) (tree mid next : List PathState) (ways : List Way) (rows : List RoleRowTree) (row : RoleRowTree) (way : Way) (var role : ℕ) (e : Ended plan tree ways rows)
    (kind : role_kind way.kind ≡ kind_with row.kind row.tail) (var_is : way.var ≡ var) (steps : way.steps ≡ length (tail_with row.kind row.tail))
    (reach : (paths : List (List Step)) (ways : List Way) → var < length tree → Growing tree paths ways → Reached mid paths ways way.end (path_at paths var ++ tail_with row.kind row.tail))
    (noted : (paths : List (List Step)) (ways : List Way) → length ways ≡ role → way.end < length mid → way.var < length mid → Growing mid paths ways → Growing next paths (ways ++ way ∷ []))
    (role_is : role ≡ length rows) (known : var < length (paths_from ([] ∷ []) plan.vars)) (known_is : path_at (paths_from ([] ∷ []) plan.vars) var ≡ path_of plan row.var) where
  abbrev base : List (List Step)
  base = paths_from ([] ∷ []) plan.vars

  abbrev before : List (List Step)
  before = base ++ e.more

  var_low : var < length tree
  var_low = let s = e.growing.same in let l = length-append base e.more in omega arith

  abbrev r : Reached mid before ways way.end (path_at before var ++ tail_with row.kind row.tail)
  r = reach before ways var_low e.growing

  mid_long : length mid ≡ length before + length (Reached.more r)
  mid_long = let s = r.growing.same in let l = length-append before r.more in omega arith

  var_mid : way.var < length mid
  var_mid = let m = mid_long in let v = var_low in let s = e.growing.same in omega arith

  grown : Growing next (before ++ Reached.more r) (ways ++ way ∷ [])
  grown = noted (before ++ r.more) ways (e.count ∙ sym role_is) r.within var_mid r.growing

  next_long : length next ≡ length mid
  next_long = sym grown.same ∙ r.growing.same

  new_way : IsWay plan (path_at (before ++ Reached.more r)) (length next) way row
  new_way = record {
    kind = kind;
    var = ap (path_at (before ++ r.more)) var_is ∙ (get_or-append before r.more [] var (let s = e.growing.same in let v = var_low in omega arith) ∙ (get_or-append base e.more [] var known ∙ known_is));
    var_known = (let m = var_mid in let n = next_long in omega arith);
    end = r.is ∙ ap (λ (z : List Step). z ++ tail_with row.kind row.tail) (get_or-append base e.more [] var known ∙ known_is);
    end_known = (let m = r.within in let n = next_long in omega arith);
    steps = steps;
  }

  assoc : before ++ Reached.more r ≡ base ++ (e.more ++ Reached.more r)
  assoc = append_assoc base e.more r.more

  pub ended_more : Ended plan next (ways ++ way ∷ []) (rows ++ row ∷ [])
  ended_more = record {
    more = e.more ++ r.more;
    growing = subst (λ (z : List (List Step)). Growing next z (ways ++ way ∷ [])) assoc grown;
    count = (let a = length-append ways (way ∷ []) in let b = length-append rows (row ∷ []) in let c = e.count in omega arith);
    each = λ k x f. subst (λ (z : List (List Step)). (w : Way) × (slice_get (ways ++ way ∷ []) k ≡ Some w) × IsWay plan (path_at z) (length next) w x) assoc (elim (row_more rows row k x f) [
      | inl g ↦ (
          let o = e.each k x g in
          let s = e.growing.same in
          let m = mid_long in
          let n = next_long in
          (o.0, at_longer ways (way ∷ []) k o.0 o.1, way_longer plan before r.more (length tree) (length next) o.0 x e.growing.same (omega arith) o.2))
      | inr q ↦ (way, subst (λ (z : ℕ). slice_get (ways ++ way ∷ []) z ≡ Some way) (e.count ∙ sym q.0) (at_seam ways way), subst (λ (z : RoleRowTree). IsWay plan (path_at (before ++ r.more)) (length next) way z) q.1 new_way)
    ]);
  }

-- at the end
pub are_states : (plan : PlanTree) (t : PathTree) → Ended plan t.states.items t.ways.items plan.roles
    → (t.texts ≡ false → (c : ℕ) (s : PathState) (b : List ℕ) → slice_get t.states.items c ≡ Some s → 0 < c → passes s.step.test (Text b) ≡ false) → IsPathTree plan t
are_states plan t e texts = record {
  path = path_at (paths_from ([] ∷ []) plan.vars ++ e.more);
  top = e.growing.top;
  some = e.growing.some;
  step = e.growing.step;
  linked = λ p s f. record {
    child_edges = λ c. e.growing.tells (Below Child) p s c f;
    descendant_edges = λ c. e.growing.tells (Below Descendant) p s c f;
    own = λ r. e.growing.tells (Ends Own) p s r f;
    whole = λ r. e.growing.tells (Ends Whole) p s r f;
    first = λ r. e.growing.tells (Ends First) p s r f;
    context = λ r. e.growing.tells Contexts p s r f;
  };
  ways = e.each;
  roles = e.count;
  texts = texts;
}
