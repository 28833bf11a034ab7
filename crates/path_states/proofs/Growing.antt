-- The path tree grows by a path state, and by the way of a role.
use Rattle.std.proofs.Common.{◌≡◌, ℕ, zero, suc, ◌<◌, ◌≤◌, List, [], ◌∷◌, ◌++◌, length, take, set, refl, sym, ◌∙◌, ap, subst, inl, inr, ◌⊎◌, arith, Some}
use Rattle.std.specs.Prelude.{slice_get, ◌↔◌}
use Rattle.std.proofs.Math.ListN.{get_or-append, length-set}
use Rattle.std.proofs.lemmas.List.{length-append}
use Rattle.std.proofs.Math.Seq.{get_or-append_seam, take-append_seam}
use Rattle.std.proofs.lemmas.Option.{slice_get_within}
use Rattle.gcx_base.specs.declared.steps.Axis.{Axis}
use Rattle.gcx_base.specs.declared.steps.Axis.TheVariants.{Child, Descendant}
use Rattle.gcx_base.specs.declared.steps.Step.{Step}
use Rattle.gcx_model.specs.Core.{Own, First, Whole}
use Rattle.gcx_model.specs.ItemView.{role_kind}
use Rattle.tree_laws.proofs.Lists.{In}
use Rattle.path_states.specs.Lists.{Gains}
use Rattle.path_states.specs.PathTree.{IsBelow}
use Rattle.path_states.specs.Growing.{Told, Below, Ends, Contexts, told_by, IsTold, IsFresh, TellsMore, Was, TellMore, path_at, Growing}
use Rattle.path_states.specs.declared.paths.PathState.{PathState}
use Rattle.path_states.specs.declared.paths.Way.{Way}
use Rattle.path_states.proofs.Gaining.{gains_none, gains_push, gains_as, gains_two}
use Rattle.path_states.proofs.Looking.{one_at, some_at}

-- places of a longer list

pub at_front : {X : Type 0} (xs ys : List X) (i : ℕ) → i < length xs → slice_get (xs ++ ys) i ≡ slice_get xs i
at_front [] ys i l = absurd (omega arith)
at_front (x ∷ xs) ys zero l = refl
at_front (x ∷ xs) ys (suc i) l = let m : i < length xs = omega arith in at_front xs ys i m

pub at_seam : {X : Type 0} (xs : List X) (y : X) → slice_get (xs ++ y ∷ []) (length xs) ≡ Some y
at_seam [] y = refl
at_seam (x ∷ xs) y = at_seam xs y

pub at_longer : {X : Type 0} (xs ys : List X) (i : ℕ) (x : X) → slice_get xs i ≡ Some x → slice_get (xs ++ ys) i ≡ Some x
at_longer xs ys i x e = at_front xs ys i (slice_get_within xs i x e) ∙ e

-- what stands there is old or the new one
pub at_more : {X : Type 0} (xs : List X) (y : X) (i : ℕ) (x : X) → slice_get (xs ++ y ∷ []) i ≡ Some x → (slice_get xs i ≡ Some x) ⊎ ((i ≡ length xs) × (y ≡ x))
at_more [] y zero x e = let f : y ≡ x = cc in inr (refl, f)
at_more [] y (suc i) x e = absurd (cc)
at_more (z ∷ xs) y zero x e = inl e
at_more (z ∷ xs) y (suc i) x e = elim (at_more xs y i x e) [ inl f ↦ inl f | inr q ↦ inr (ap suc q.0, q.1) ]

at_set_same : {X : Type 0} (xs : List X) (i : ℕ) (x : X) → i < length xs → slice_get (set xs i x) i ≡ Some x
at_set_same [] i x l = absurd (omega arith)
at_set_same (y ∷ xs) zero x l = refl
at_set_same (y ∷ xs) (suc i) x l = let m : i < length xs = omega arith in at_set_same xs i x m

at_set_other : {X : Type 0} (xs : List X) (i j : ℕ) (x : X) → (i ≡ j → ⊥) → slice_get (set xs i x) j ≡ slice_get xs j
at_set_other [] i j x n = refl
at_set_other (y ∷ xs) zero zero x n = absurd (n refl)
at_set_other (y ∷ xs) zero (suc j) x n = refl
at_set_other (y ∷ xs) (suc i) zero x n = refl
at_set_other (y ∷ xs) (suc i) (suc j) x n = at_set_other xs i j x (λ e. n (ap suc e))

pub same_or : (i j : ℕ) → (i ≡ j) ⊎ (i ≡ j → ⊥)
same_or zero zero = inl refl
same_or zero (suc j) = inr (λ e. absurd (omega arith))
same_or (suc i) zero = inr (λ e. absurd (omega arith))
same_or (suc i) (suc j) = elim (same_or i j) [ inl e ↦ inl (ap suc e) | inr n ↦ inr (λ e. n (omega arith)) ]

-- one path state tells more

was_same : (told : Told) (p number : ℕ) (before : List PathState) (q : ℕ) (s : PathState) → slice_get before q ≡ Some s → (p ≡ q → ⊥) → Was told p number before q s
was_same told p number before q s e n = record { was = s; at = e; parent = refl; step = refl; gains = λ k. gains_none (told_by k s) (λ y. (p ≡ q) × (told ≡ k) × (number ≡ y)) (λ y h. n h.0) }

was_more : (told : Told) (p number : ℕ) (before : List PathState) (x s : PathState) → slice_get before p ≡ Some x → TellsMore told number x s → Was told p number before p s
was_more told p number before x s e t = record {
  was = x;
  at = e;
  parent = t.parent;
  step = t.step;
  gains = λ k. gains_as (told_by k x) (told_by k s) (λ y. (told ≡ k) × (number ≡ y)) (λ y. (p ≡ p) × (told ≡ k) × (number ≡ y)) (λ y h. (refl, h.0, h.1)) (λ y h. (h.1, h.2)) (t.gains k);
}

pub tell_at : (told : Told) (p number : ℕ) (before now : List PathState) (x s : PathState) → now ≡ set before p s → p < length before → slice_get before p ≡ Some x → TellsMore told number x s → TellMore told p number before now
tell_at told p number before now x s e l at t = record {
  same = ap length e ∙ length-set before p s;
  each = λ q z f. go q z (subst (λ (w : List PathState). slice_get w q ≡ Some z) e f) (same_or p q);
}
  where
    go : (q : ℕ) (z : PathState) → slice_get (set before p s) q ≡ Some z → (p ≡ q) ⊎ (p ≡ q → ⊥) → Was told p number before q z
    go q z f (inl d) =
        let g : slice_get (set before p s) p ≡ Some z = subst (λ (w : ℕ). slice_get (set before p s) w ≡ Some z) (sym d) f in
        subst (λ (w : ℕ). Was told p number before w z) d (subst (λ (w : PathState). Was told p number before p w) (one_at (set before p s) p s z (at_set_same before p s l) g) (was_more told p number before x s at t))
    go q z f (inr n) = was_same told p number before q z (sym (at_set_other before p q s n) ∙ f) n

pub tell_none : (told : Told) (p number : ℕ) (before : List PathState) → length before ≤ p → TellMore told p number before before
tell_none told p number before l = record {
  same = refl;
  each = λ q z f. (let m = slice_get_within before q z f in was_same told p number before q z f (λ e. absurd (omega arith)));
}

-- one path state more

below_longer : (before mid : List PathState) (told : Told) (p number : ℕ) → TellMore told p number before mid → (axis : Axis) (q y : ℕ) → IsBelow before axis q y → IsBelow mid axis q y
below_longer before mid told p number t axis q y b =
    let z = some_at mid y (let l = slice_get_within before y b.state b.at in let e = t.same in omega arith) in
    let w = t.each y z.0 z.1 in
    let e = one_at before y w.was b.state w.at b.at in
    record {
      state = z.0;
      at = z.1;
      behind = b.behind;
      parent = w.parent ∙ (ap (λ (s : PathState). s.parent) e ∙ b.parent);
      same = ap (λ (s : Step). s.axis) w.step ∙ (ap (λ (s : PathState). s.step.axis) e ∙ b.same);
    }

below_before : (before mid : List PathState) (told : Told) (p number : ℕ) → TellMore told p number before mid → (axis : Axis) (q y : ℕ) → IsBelow mid axis q y → IsBelow before axis q y
below_before before mid told p number t axis q y b =
    let w = t.each y b.state b.at in
    record { state = w.was; at = w.at; behind = b.behind; parent = sym w.parent ∙ b.parent; same = ap (λ (s : Step). s.axis) (sym w.step) ∙ b.same }

module _ (tree mid : List PathState) (paths : List (List Step)) (ways : List Way) (p : ℕ) (step : Step) (fresh : PathState) (g : Growing tree paths ways) (low : p < length tree) (t : TellMore (Below step.axis) p (length tree) tree mid) (f : IsFresh fresh p step) where
  abbrev spots_now : List PathState
  spots_now = mid ++ fresh ∷ []

  abbrev path : List Step
  path = path_at paths p ++ step ∷ []

  abbrev New : Told → ℕ → ℕ → Type 0
  New k q y = (p ≡ q) × (Below step.axis ≡ k) × (length tree ≡ y)

  old_path : (c : ℕ) → c < length tree → path_at (paths ++ path ∷ []) c ≡ path_at paths c
  old_path c l = let e = g.same in get_or-append paths (path ∷ []) [] c (omega arith)

  new_path : path_at (paths ++ path ∷ []) (length tree) ≡ path
  new_path = subst (λ (z : ℕ). path_at (paths ++ path ∷ []) z ≡ path) g.same (get_or-append_seam paths path [] [])

  step_now : (c : ℕ) (s : PathState) → slice_get spots_now c ≡ Some s → 0 < c → (s.parent < c) × (path_at (paths ++ path ∷ []) c ≡ path_at (paths ++ path ∷ []) s.parent ++ s.step ∷ [])
  step_now c s e pos = elim (at_more mid fresh c s e) [
    | inl d ↦ (
        let w = t.each c s d in
        let h = g.step c w.was w.at pos in
        let l : c < length tree = slice_get_within tree c w.was w.at in
        let pe = w.parent in
        let below = h.0 in
        let under : s.parent < c = omega arith in
        let a : path_at (paths ++ path ∷ []) c ≡ path_at paths w.was.parent ++ w.was.step ∷ [] = old_path c l ∙ h.1 in
        let b : path_at paths w.was.parent ≡ path_at (paths ++ path ∷ []) s.parent = ap (path_at paths) (sym w.parent) ∙ sym (old_path s.parent (omega arith)) in
        (under, a ∙ (ap (λ (z : List Step). z ++ w.was.step ∷ []) b ∙ ap (λ (z : Step). path_at (paths ++ path ∷ []) s.parent ++ z ∷ []) (sym w.step))))
    | inr q ↦ (
        let at_c : length tree ≡ c = sym t.same ∙ sym q.0 in
        let parent_p : p ≡ s.parent = sym f.parent_is ∙ ap (λ (z : PathState). z.parent) q.1 in
        let step_s : step ≡ s.step = sym f.step_is ∙ ap (λ (z : PathState). z.step) q.1 in (
          omega arith,
          subst (λ (z : ℕ). path_at (paths ++ path ∷ []) z ≡ path) at_c new_path
              ∙ (ap (λ (z : List Step). z ++ step ∷ []) (sym (old_path p low) ∙ ap (path_at (paths ++ path ∷ [])) parent_p)
              ∙ ap (λ (z : Step). path_at (paths ++ path ∷ []) s.parent ++ z ∷ []) step_s),
        ))
  ]

  told_from : (k : Told) (q y : ℕ) → IsTold spots_now ways k q y → IsTold tree ways k q y ⊎ New k q y
  told_from (Below axis) q y b = elim (at_more mid fresh y b.state b.at) [
    | inl e ↦ inl (below_before tree mid (Below step.axis) p (length tree) t axis q y (record { state = b.state; at = e; behind = b.behind; parent = b.parent; same = b.same }))
    | inr h ↦ inr (
      sym f.parent_is ∙ (ap (λ (z : PathState). z.parent) h.1 ∙ b.parent),
      ap Below (ap (λ (z : Step). z.axis) (sym f.step_is) ∙ (ap (λ (z : PathState). z.step.axis) h.1 ∙ b.same)),
      sym t.same ∙ sym h.0,
    )
  ]
  told_from (Ends kind) q y b = inl b
  told_from Contexts q y b = inl b

  told_to : (k : Told) (q y : ℕ) → IsTold tree ways k q y ⊎ New k q y → IsTold spots_now ways k q y
  told_to (Below axis) q y (inl b) =
      let c = below_longer tree mid (Below step.axis) p (length tree) t axis q y b in
      record { state = c.state; at = at_longer mid (fresh ∷ []) y c.state c.at; behind = c.behind; parent = c.parent; same = c.same }
  told_to (Below axis) q y (inr h) =
      let e : length mid ≡ y = t.same ∙ h.2 in
      let some = g.some in
      let n = h.2 in
      let d = h.1 in
      record {
        state = fresh;
        at = subst (λ (z : ℕ). slice_get spots_now z ≡ Some fresh) e (at_seam mid fresh);
        behind = omega arith;
        parent = f.parent_is ∙ h.0;
        same = ap (λ (z : Step). z.axis) f.step_is ∙ (cc);
      }
  told_to (Ends kind) q y (inl b) = b
  told_to (Ends kind) q y (inr h) = let e = h.1 in absurd (cc)
  told_to Contexts q y (inl b) = b
  told_to Contexts q y (inr h) = let e = h.1 in absurd (cc)

  none_below : (k : Told) (y : ℕ) → IsTold spots_now ways k (length tree) y → ⊥
  none_below (Below axis) y b = elim (at_more mid fresh y b.state b.at) [
    | inl e ↦ (
        let w = t.each y b.state e in
        let h = (g.step y w.was w.at b.behind).0 in
        let l = slice_get_within tree y w.was w.at in
        let d = w.parent in
        let d2 = b.parent in
        absurd (omega arith))
    | inr h ↦ (
        let d : p ≡ length tree = sym f.parent_is ∙ (ap (λ (z : PathState). z.parent) h.1 ∙ b.parent) in
        absurd (omega arith))
  ]
  none_below (Ends kind) y b = let l = (g.known y b.way b.at).0 in let e = b.end in absurd (omega arith)
  none_below Contexts y b = let l = (g.known y b.way b.at).1 in let e = b.var in absurd (omega arith)

  tells_now : (k : Told) (q : ℕ) (s : PathState) (y : ℕ) → slice_get spots_now q ≡ Some s → In y (told_by k s) ↔ IsTold spots_now ways k q y
  tells_now k q s y e = elim (at_more mid fresh q s e) [
    | inl d ↦ (
        let w = t.each q s d in
        let h = g.tells k q w.was y w.at in (
          (λ i. told_to k q y (elim ((Gains.has (w.gains k) y).0 i) [ inl j ↦ inl (h.0 j) | inr n ↦ inr n ])),
          (λ b. (Gains.has (w.gains k) y).1 (elim (told_from k q y b) [ inl c ↦ inl (h.1 c) | inr n ↦ inr n ])),
        ))
    | inr h ↦ (
        let at_q : q ≡ length tree = h.0 ∙ t.same in
        let none : told_by k s ≡ [] = ap (told_by k) (sym h.1) ∙ f.none k in (
          (λ i. absurd (subst (λ (z : List ℕ). In y z) none i)),
          (λ b. absurd (none_below k y (subst (λ (z : ℕ). IsTold spots_now ways k z y) at_q b))),
        ))
  ]

  long : length spots_now ≡ suc (length tree)
  long = let e = length-append mid (fresh ∷ []) in let d = t.same in omega arith

  pub more_spot : Growing spots_now (paths ++ path ∷ []) ways
  more_spot = record {
    same = (let e = length-append paths (path ∷ []) in let l = long in let s = g.same in omega arith);
    some = (let l = long in omega arith);
    top = old_path 0 g.some ∙ g.top;
    step = step_now;
    tells = tells_now;
    known = λ r w e. (let h = g.known r w e in let l = long in let a = h.0 in let b = h.1 in (omega arith, omega arith));
  }

-- the way of one role more

-- what a path state tells of the new role
abbrev IsNew : Way → ℕ → Told → (q y : ℕ) → Type 0
IsNew way r (Below axis) q y = ⊥
IsNew way r (Ends kind) q y = (way.end ≡ q) × (role_kind way.kind ≡ kind) × (r ≡ y)
IsNew way r Contexts q y = (way.var ≡ q) × (role_kind way.kind ≡ First) × (r ≡ y)

record Became (way : Way) (r : ℕ) (before : List PathState) (q : ℕ) (now : PathState) : Type 0 where
  was : PathState
  at : slice_get before q ≡ Some was
  parent : now.parent ≡ was.parent
  step : now.step ≡ was.step
  gains : (k : Told) → Gains (told_by k was) (told_by k now) (IsNew way r k q)

became_end : (way : Way) (r : ℕ) (before : List PathState) (q : ℕ) (now : PathState) → (role_kind way.kind ≡ First → ⊥) → Was (Ends (role_kind way.kind)) way.end r before q now → Became way r before q now
became_end way r before q now n w = record {
  was = w.was;
  at = w.at;
  parent = w.parent;
  step = w.step;
  gains = λ k. gains_as (told_by k w.was) (told_by k now) (λ y. (way.end ≡ q) × (Ends (role_kind way.kind) ≡ k) × (r ≡ y)) (IsNew way r k q) (to k) (from k) (w.gains k);
}
  where
    to : (k : Told) (y : ℕ) → (way.end ≡ q) × (Ends (role_kind way.kind) ≡ k) × (r ≡ y) → IsNew way r k q y
    to (Below axis) y h = let e = h.1 in absurd (cc)
    to (Ends kind) y h = let e = h.1 in (h.0, cc, h.2)
    to Contexts y h = let e = h.1 in absurd (cc)

    from : (k : Told) (y : ℕ) → IsNew way r k q y → (way.end ≡ q) × (Ends (role_kind way.kind) ≡ k) × (r ≡ y)
    from (Below axis) y h = absurd h
    from (Ends kind) y h = (h.0, ap Ends h.1, h.2)
    from Contexts y h = absurd (n h.1)

became_first : (way : Way) (r : ℕ) (before mid : List PathState) (q : ℕ) (now : PathState) → role_kind way.kind ≡ First → (w : Was Contexts way.var r mid q now) → Was (Ends (role_kind way.kind)) way.end r before q (Was.was w) → Became way r before q now
became_first way r before mid q now is w v = record {
  was = v.was;
  at = v.at;
  parent = w.parent ∙ v.parent;
  step = w.step ∙ v.step;
  gains = λ k. gains_as (told_by k v.was) (told_by k now) (λ y. ((way.end ≡ q) × (Ends (role_kind way.kind) ≡ k) × (r ≡ y)) ⊎ ((way.var ≡ q) × (Contexts ≡ k) × (r ≡ y))) (IsNew way r k q) (to k) (from k)
      (gains_two (told_by k v.was) (told_by k w.was) (told_by k now) (λ y. (way.end ≡ q) × (Ends (role_kind way.kind) ≡ k) × (r ≡ y)) (λ y. (way.var ≡ q) × (Contexts ≡ k) × (r ≡ y)) (v.gains k) (w.gains k));
}
  where
    to : (k : Told) (y : ℕ) → ((way.end ≡ q) × (Ends (role_kind way.kind) ≡ k) × (r ≡ y)) ⊎ ((way.var ≡ q) × (Contexts ≡ k) × (r ≡ y)) → IsNew way r k q y
    to (Below axis) y (inl h) = let e = h.1 in absurd (cc)
    to (Below axis) y (inr h) = let e = h.1 in absurd (cc)
    to (Ends kind) y (inl h) = let e = h.1 in (h.0, cc, h.2)
    to (Ends kind) y (inr h) = let e = h.1 in absurd (cc)
    to Contexts y (inl h) = let e = h.1 in absurd (cc)
    to Contexts y (inr h) = (h.0, is, h.2)

    from : (k : Told) (y : ℕ) → IsNew way r k q y → ((way.end ≡ q) × (Ends (role_kind way.kind) ≡ k) × (r ≡ y)) ⊎ ((way.var ≡ q) × (Contexts ≡ k) × (r ≡ y))
    from (Below axis) y h = absurd h
    from (Ends kind) y h = inl (h.0, ap Ends h.1, h.2)
    from Contexts y h = inr (h.0, refl, h.2)

module _ (tree now : List PathState) (paths : List (List Step)) (ways : List Way) (way : Way) (r : ℕ) (g : Growing tree paths ways) (same : length now ≡ length tree) (each : (q : ℕ) (s : PathState) → slice_get now q ≡ Some s → Became way r tree q s)
    (last : length ways ≡ r) (end_low : way.end < length tree) (var_low : way.var < length tree) where
  abbrev all : List Way
  all = ways ++ way ∷ []

  way_from : (k : Told) (q y : ℕ) → IsTold now all k q y → IsTold tree ways k q y ⊎ IsNew way r k q y
  way_from (Below axis) q y b =
      let w = each y b.state b.at in
      inl (record { state = w.was; at = w.at; behind = b.behind; parent = sym w.parent ∙ b.parent; same = ap (λ (s : Step). s.axis) (sym w.step) ∙ b.same })
  way_from (Ends kind) q y b = elim (at_more ways way y b.way b.at) [
    | inl e ↦ inl (record { way = b.way; at = e; end = b.end; same = b.same })
    | inr h ↦ inr (ap (λ (w : Way). w.end) h.1 ∙ b.end, ap (λ (w : Way). role_kind w.kind) h.1 ∙ b.same, sym last ∙ sym h.0)
  ]
  way_from Contexts q y b = elim (at_more ways way y b.way b.at) [
    | inl e ↦ inl (record { way = b.way; at = e; var = b.var; same = b.same })
    | inr h ↦ inr (ap (λ (w : Way). w.var) h.1 ∙ b.var, ap (λ (w : Way). role_kind w.kind) h.1 ∙ b.same, sym last ∙ sym h.0)
  ]

  seam : (y : ℕ) → r ≡ y → slice_get all y ≡ Some way
  seam y e = subst (λ (z : ℕ). slice_get all z ≡ Some way) (last ∙ e) (at_seam ways way)

  way_to : (k : Told) (q y : ℕ) → IsTold tree ways k q y ⊎ IsNew way r k q y → IsTold now all k q y
  way_to (Below axis) q y (inl b) =
      let z = some_at now y (let l = slice_get_within tree y b.state b.at in omega arith) in
      let w = each y z.0 z.1 in
      let e = one_at tree y w.was b.state w.at b.at in
      record { state = z.0; at = z.1; behind = b.behind; parent = w.parent ∙ (ap (λ (s : PathState). s.parent) e ∙ b.parent); same = ap (λ (s : Step). s.axis) w.step ∙ (ap (λ (s : PathState). s.step.axis) e ∙ b.same) }
  way_to (Below axis) q y (inr h) = absurd h
  way_to (Ends kind) q y (inl b) = record { way = b.way; at = at_longer ways (way ∷ []) y b.way b.at; end = b.end; same = b.same }
  way_to (Ends kind) q y (inr h) = record { way = way; at = seam y h.2; end = h.0; same = h.1 }
  way_to Contexts q y (inl b) = record { way = b.way; at = at_longer ways (way ∷ []) y b.way b.at; var = b.var; same = b.same }
  way_to Contexts q y (inr h) = record { way = way; at = seam y h.2; var = h.0; same = h.1 }

  more_way : Growing now paths all
  more_way = record {
    same = g.same ∙ sym same;
    some = (let s = g.some in omega arith);
    top = g.top;
    step = λ c s e pos. (
        let w = each c s e in
        let h = g.step c w.was w.at pos in
        let d = w.parent in
        let l = h.0 in
        (omega arith, h.1 ∙ (ap (λ (z : ℕ). path_at paths z ++ w.was.step ∷ []) (sym w.parent) ∙ ap (λ (z : Step). path_at paths s.parent ++ z ∷ []) (sym w.step))));
    tells = λ k q s y e. (
        let w = each q s e in
        let h = g.tells k q w.was y w.at in (
          (λ i. way_to k q y (elim ((Gains.has (w.gains k) y).0 i) [ inl j ↦ inl (h.0 j) | inr n ↦ inr n ])),
          (λ b. (Gains.has (w.gains k) y).1 (elim (way_from k q y b) [ inl c ↦ inl (h.1 c) | inr n ↦ inr n ])),
        ));
    known = λ k w e. elim (at_more ways way k w e) [
      | inl d ↦ (let h = g.known k w d in let a = h.0 in let b = h.1 in (omega arith, omega arith))
      | inr h ↦ (let a = ap (λ (z : Way). z.end) h.1 in let b = ap (λ (z : Way). z.var) h.1 in (omega arith, omega arith))
    ];
  }

pub more_end : (tree now : List PathState) (paths : List (List Step)) (ways : List Way) (way : Way) (r : ℕ) → (role_kind way.kind ≡ First → ⊥) → TellMore (Ends (role_kind way.kind)) way.end r tree now
    → length ways ≡ r → way.end < length tree → way.var < length tree → Growing tree paths ways → Growing now paths (ways ++ way ∷ [])
more_end tree now paths ways way r n t last a b g = more_way tree now paths ways way r g t.same (λ q s e. became_end way r tree q s n (t.each q s e)) last a b

pub more_first : (tree mid now : List PathState) (paths : List (List Step)) (ways : List Way) (way : Way) (r : ℕ) → role_kind way.kind ≡ First → TellMore (Ends (role_kind way.kind)) way.end r tree mid → TellMore Contexts way.var r mid now
    → length ways ≡ r → way.end < length tree → way.var < length tree → Growing tree paths ways → Growing now paths (ways ++ way ∷ [])
more_first tree mid now paths ways way r is t u last a b g = more_way tree now paths ways way r g (u.same ∙ t.same)
    (λ q s e. let w = u.each q s e in became_first way r tree mid q s is w (t.each q w.was w.at)) last a b

-- the lists of one path state

pub list_same : (told k : Told) (number : ℕ) (xs : List ℕ) → (told ≡ k → ⊥) → Gains xs xs (λ y. (told ≡ k) × (number ≡ y))
list_same told k number xs n = gains_none xs (λ y. (told ≡ k) × (number ≡ y)) (λ y h. n h.0)

pub list_push : (told : Told) (number : ℕ) (xs ys : List ℕ) → ys ≡ xs ++ number ∷ [] → Gains xs ys (λ y. (told ≡ told) × (number ≡ y))
list_push told number xs ys e = gains_push xs ys number (λ y. (told ≡ told) × (number ≡ y)) e (refl, refl) (λ y h. h.1)

-- a path state tells more where its lists do
pub lists_more : (this told : Told) (number : ℕ) (s t : PathState) → told ≡ this → t.parent ≡ s.parent → t.step ≡ s.step
    → Gains s.child_edges.items t.child_edges.items (λ y. (told ≡ Below Child) × (number ≡ y))
    → Gains s.descendant_edges.items t.descendant_edges.items (λ y. (told ≡ Below Descendant) × (number ≡ y))
    → Gains s.own.items t.own.items (λ y. (told ≡ Ends Own) × (number ≡ y))
    → Gains s.whole.items t.whole.items (λ y. (told ≡ Ends Whole) × (number ≡ y))
    → Gains s.first.items t.first.items (λ y. (told ≡ Ends First) × (number ≡ y))
    → Gains s.context.items t.context.items (λ y. (told ≡ Contexts) × (number ≡ y))
    → TellsMore this number s t
lists_more this told number s t e p st child_edges descendant_edges own whole first context = subst (λ (z : Told). TellsMore z number s t) e (record { parent = p; step = st; gains = go })
  where
    go : (k : Told) → Gains (told_by k s) (told_by k t) (λ y. (told ≡ k) × (number ≡ y))
    go (Below Child) = child_edges
    go (Below Descendant) = descendant_edges
    go (Ends Own) = own
    go (Ends First) = first
    go (Ends Whole) = whole
    go Contexts = context

pub put_spot : (tree mid next : List PathState) (p number : ℕ) (copied step : Step) (fresh : PathState) → number ≡ length tree → copied ≡ step → TellMore (Below copied.axis) p number tree mid → IsFresh fresh p copied → next ≡ mid ++ fresh ∷ []
    → (paths : List (List Step)) (ways : List Way) → p < length tree → Growing tree paths ways → Growing next (paths ++ (path_at paths p ++ step ∷ []) ∷ []) ways
put_spot tree mid next p number copied step fresh e d t f n paths ways l g =
    let u = subst (λ (z : ℕ). TellMore (Below copied.axis) p z tree mid) e t in
    let h = more_spot tree mid paths ways p copied fresh g l u f in
    subst (λ (z : List PathState). Growing z (paths ++ (path_at paths p ++ step ∷ []) ∷ []) ways) (sym n)
    (subst (λ (z : Step). Growing (mid ++ fresh ∷ []) (paths ++ (path_at paths p ++ z ∷ []) ∷ []) ways) d h)

-- a slice written back into its vector
pub take_written : {X : Type 0} (n : ℕ) (xs ys : List X) → length xs ≡ n → take n (xs ++ ys) ≡ xs
take_written n xs ys e = subst (λ (k : ℕ). take k (xs ++ ys) ≡ xs) e (take-append_seam xs ys)

pub written_back : {X : Type 0} (n : ℕ) (xs ys zs us : List X) → length xs ≡ n → zs ≡ take n (xs ++ ys) ++ us → zs ≡ xs ++ us
written_back n xs ys zs us e z = z ∙ ap (λ w. w ++ us) (take_written n xs ys e)
