-- The variables that loops bind at a point, each once, and that a plan's run isn't over without an action.
use Rattle.std.proofs.Common.{◌≡◌, ℕ, zero, suc, ◌<◌, ◌≤◌, Bool, true, false, List, [], ◌∷◌, ◌++◌, length, take, refl, sym, ◌∙◌, ap, subst, inl, inr, ◌⊎◌, arith, append_assoc}
use Rattle.std.proofs.lemmas.List.{append-nil}
use Rattle.std.proofs.lemmas.Bool.{true≢false, false≢true}
use Rattle.gcx_model.specs.Tree.{Node, Root, serial_of, Tree, opening}
use Rattle.gcx_model.specs.Members.{In, Once}
use Rattle.gcx_model.specs.Core.{ItemTree, For, SignOff, BodyTree, Nil, Then, OffTree, PlanTree}
use Rattle.gcx_model.specs.Truth.{Env}
use Rattle.gcx_model.specs.Run.{Action, Offed, Out, idle, seq, seq_if, run_item, run, env0}
use Rattle.gcx_model.specs.Variables.{Var, var_tree, item_vars, vars}
use Rattle.gcx_model.specs.Roles.{own_row, roles_of}
use Rattle.gcx_model.specs.Cores.{Good}
use Rattle.gcx_model.specs.Placed.{at_end, place, statement, offs_of, placed_body, Placed}
use Rattle.gcx_model.specs.Held.{held}
use Rattle.gcx_model.specs.Growth.{Leads, stays, more}
use Rattle.gcx_model.specs.Needs.{Needs}
use Rattle.gcx_model.specs.Points.{actions, so_far, here, fed, CoreState, Frame, Rest, LoopRound, CopyPart, to_come, IsPoint, Begins, PastItem, InLoop, InYes, InNo, InCopy, PointAt, Bound_in}
use Rattle.tree_laws.proofs.Lists.{In-left, In-right}
use Rattle.tree_laws.proofs.Fed.{root_from}
use Rattle.placed_laws.proofs.PointForms.{seq-idle}
use Rattle.placed_laws.proofs.CorePlans.{Once-left, Once-right, good_once, good_not_zero, good_zero, in_end}
use Rattle.placed_laws.proofs.Waits.{Has}
use Rattle.placed_laws.proofs.Frames.{Has-end}
use Rattle.move_laws.proofs.Moving.{opening_point}
use Rattle.move_laws.proofs.Keeping.{reached_grows}
use Rattle.placed_laws.proofs.FromPlans.{placed_once}
use Rattle.placed_laws.proofs.RunForms.{point_law, resume_law}
use Rattle.placed_laws.proofs.PointNeeds.{need_law}
use Rattle.placed_laws.proofs.Unique.{vars_without}
use Rattle.run_laws.specs.Bindings.{IsFree, LoopVariableFree, RoundVariableFree, PlanActs}

-- Variables

-- the variables of the rounds
abbrev binders : List Frame → List ℕ
binders [] = []
binders (Rest d env ∷ fs) = binders fs
binders (LoopRound x y s e env n ∷ fs) = x ∷ binders fs
binders (CopyPart x env k ∷ fs) = binders fs

bound_binder : (z : ℕ) (m : Node) (fs : List Frame) → Bound_in z m fs → (z ≡ 0) ⊎ In z (binders fs)
bound_binder z m [] b = inl b.0
bound_binder z m (Rest d env ∷ fs) b = bound_binder z m fs b
bound_binder z m (CopyPart x env k ∷ fs) b = bound_binder z m fs b
bound_binder z m (LoopRound x y s e env n ∷ fs) (inl b) = inr (inl b.0)
bound_binder z m (LoopRound x y s e env n ∷ fs) (inr b) = elim (bound_binder z m fs b) [ inl e ↦ inl e | inr i ↦ inr (inr i) ]

-- it is one of these variables, and no round below has it
abbrev Free : List ℕ → ℕ → List Frame → Type 0
Free V x below = In x V × (In x (binders below) → ⊥)

abbrev Free_frame : List ℕ → Frame → List Frame → Type 0
Free_frame V (Rest d env) below = (z : ℕ) → In z (vars d) → Free V z below
Free_frame V (LoopRound x y s e env n) below = Free V x below
Free_frame V (CopyPart x env k) below = Unit {0}

abbrev All_free : List ℕ → List Frame → Type 0
All_free V [] = Unit {0}
All_free V (f ∷ fs) = Free_frame V f fs × All_free V fs

module _ (P : Tree) (V : List ℕ) where
  all_free : (d : BodyTree) (env : Env) (before : List Action) (fs gs : List Frame) → IsPoint P d env before fs → Once (vars d) → ((z : ℕ) → In z (vars d) → Free V z gs) → All_free V gs → All_free V (fs ++ gs)
  all_free d env before fs gs Begins o h g = (h, g)
  all_free d env before fs gs (PastItem {i = i} {d = rest} {before = before'} e st) o h g =
      all_free rest env before' fs gs st (Once-right (item_vars i) (vars rest) o) (λ z k. h z (In-right z (item_vars i) (vars rest) k)) g
  all_free d env before fs gs (InLoop {x = x} {y = y} {s = s} {e = e} {d = rest} {before = before'} {fs = fs'} pre n post m dn st) o h g =
      let once : Once (x ∷ vars e) = Once-left (x ∷ vars e) (vars rest) o in
      let in_rest : (z : ℕ) → In z (vars rest) → Free V z gs = λ z k. h z (In-right z (x ∷ vars e) (vars rest) k) in
      let below : List Frame = LoopRound x y s e env n ∷ (Rest rest env ∷ gs) in
      let in_body : (z : ℕ) → In z (vars e) → Free V z below = λ z k.
      let f = h z (In-left z (x ∷ vars e) (vars rest) (inr k)) in
      (f.0, λ b. elim b [ inl q ↦ once.0 (subst (λ (a : ℕ). In a (vars e)) (sym q) k) | inr c ↦ f.1 c ]) in
      subst (λ (z : List Frame). All_free V z) (sym (append_assoc fs' (LoopRound x y s e env n ∷ (Rest rest env ∷ [])) gs))
      (all_free e _ before' fs' below st once.1 in_body (h x (inl refl), (in_rest, g)))
  all_free d env before fs gs (InYes {c = c} {a = a} {b = b} {d = rest} {fs = fs'} e st) o h g =
      subst (λ (z : List Frame). All_free V z) (sym (append_assoc fs' (Rest rest env ∷ []) gs))
      (all_free a env before fs' (Rest rest env ∷ gs) st (Once-left (vars a) (vars b) (Once-left (vars a ++ vars b) (vars rest) o))
      (λ z k. h z (In-left z (vars a ++ vars b) (vars rest) (In-left z (vars a) (vars b) k)))
      ((λ z k. h z (In-right z (vars a ++ vars b) (vars rest) k)), g))
  all_free d env before fs gs (InNo {c = c} {a = a} {b = b} {d = rest} {fs = fs'} e st) o h g =
      subst (λ (z : List Frame). All_free V z) (sym (append_assoc fs' (Rest rest env ∷ []) gs))
      (all_free b env before fs' (Rest rest env ∷ gs) st (Once-right (vars a) (vars b) (Once-left (vars a ++ vars b) (vars rest) o))
      (λ z k. h z (In-left z (vars a ++ vars b) (vars rest) (In-right z (vars a) (vars b) k)))
      ((λ z k. h z (In-right z (vars a ++ vars b) (vars rest) k)), g))
  all_free d env before fs gs (InCopy {x = x} {d = rest} before' rest' e) o h g = (tt, ((λ z k. h z k), g))

  free_at : (top : List Frame) (f : Frame) (below : List Frame) → All_free V (top ++ f ∷ below) → Free_frame V f below
  free_at [] f below h = h.0
  free_at (g ∷ top) f below h = free_at top f below h.1

module _ (core : BodyTree) (good : Good core) (plan : PlanTree) (pl : Placed core plan) where
  same_vars : vars core ≡ vars plan.body
  same_vars = ap vars (sym pl.is_core) ∙ vars_without plan.body

  free_frame : (P : Tree) (k : ℕ) (top below : List Frame) (f : Frame) → PointAt plan P k (top ++ f ∷ below) → Free_frame (vars plan.body) f below
  free_frame P k top below f st =
      let V : List ℕ = vars plan.body in
      let fs : List Frame = top ++ f ∷ below in
      let all : All_free V (fs ++ []) = all_free P V plan.body env0 (so_far plan P k) fs [] st (subst (λ (z : List ℕ). Once z) same_vars (good_once core good)) (λ z i. (i, λ b. b)) tt in
      free_at P V top f below (subst (λ (z : List Frame). All_free V z) (append-nil fs) all)

  is_free : (x : ℕ) (below : List Frame) → Free (vars plan.body) x below → IsFree x below
  is_free x below h = (not_zero, λ z m b e. elim (bound_binder z m below b) [ inl q ↦ not_zero (sym e ∙ q) | inr i ↦ h.1 (subst (λ (a : ℕ). In a (binders below)) e i) ])
    where
      not_zero : x ≡ 0 → ⊥
      not_zero e = good_not_zero core good (subst (λ (z : List ℕ). In 0 z) (sym same_vars) (subst (λ (a : ℕ). In a (vars plan.body)) e h.0))

pub loop_variable_free : LoopVariableFree
loop_variable_free core good plan pl P k top below x y s e d env st = is_free core good plan pl x below (free_frame core good plan pl P k top below (Rest (Then (For x y s e) d) env) st x (inl refl))

pub round_variable_free : RoundVariableFree
round_variable_free core good plan pl P k top below x y s e env n st = is_free core good plan pl x below (free_frame core good plan pl P k top below (LoopRound x y s e env n) st)

-- Actions

not_idle : (a b : Out) → seq a b ≡ idle true → (a ≡ idle true) × (b ≡ idle true)
not_idle a b e = go a a.done refl e
  where
    empty_left : (xs ys : List Action) → xs ++ ys ≡ [] → xs ≡ []
    empty_left [] ys h = refl
    empty_left (x ∷ xs) ys h = absurd (cc)

    go : (a : Out) (d : Bool) → a.done ≡ d → seq_if d a b ≡ idle true → (a ≡ idle true) × (b ≡ idle true)
    go a true f h =
        let l = empty_left a.acts b.acts (ap (λ (o : Out). o.acts) h) in
        let r : b.acts ≡ [] = sym (ap (λ (z : List Action). z ++ b.acts) l) ∙ ap (λ (o : Out). o.acts) h in (
          ap (λ (z : List Action). record { acts = z; done = a.done }) l ∙ ap (λ z. record { acts = []; done = z }) f,
          ap (λ (z : List Action). record { acts = z; done = b.done }) r ∙ ap (λ z. record { acts = []; done = z }) (ap (λ (o : Out). o.done) h),
        )
    go a false f h = absurd (false≢true (sym f ∙ ap (λ (o : Out). o.done) h))

pub filled : (x : Action) (xs : List Action) → x ∷ xs ≡ [] → ⊥
filled x xs e = absurd (cc)

pub some_acts : (o : OffTree) (d : BodyTree) (env : Env) (P : Tree) → Has o d → run d env P ≡ idle true → ⊥
some_acts o Nil env P h e = h
some_acts o (Then i d) env P (inl q) e =
    let a : run_item (SignOff o) env P ≡ idle true = ap (λ (z : ItemTree). run_item z env P) (sym q) ∙ (not_idle (run_item i env P) (run d env P) e).0 in
    filled (Offed o (serial_of (env o.base))) [] (ap (λ (z : Out). z.acts) a)
some_acts o (Then i d) env P (inr h) e = some_acts o d env P h (not_idle (run_item i env P) (run d env P) e).1

plan_acts_own : (core : BodyTree) → Good core → (P : Tree) → run (placed_body core) env0 P ≡ idle true → ⊥
plan_acts_own core good P e =
    let F : ℕ → Var = var_tree core in
    let o : OffTree = statement F (roles_of core) 0 (own_row 0) in
    let base : o.base ≡ 0 = ap (λ (v : Var). v.base) (good_zero core good) in
    some_acts o (placed_body core) env0 P (Has-end o (place (at_end (offs_of core)) core) (at_end (offs_of core) 0) (in_end (offs_of core) 0 o (inl refl) base)) e

-- the document node is needed while the frames aren't over
root_needed : (P : Tree) (top fs : List Frame) → (to_come P (top ++ fs) ≡ idle true → ⊥) → Needs P top fs Root
root_needed P top [] h = ((λ e. h (ap (to_come P) (append-nil top) ∙ e)), refl)
root_needed P top (f ∷ fs) h = inr (root_needed P (top ++ f ∷ []) fs (λ e. h (ap (to_come P) (sym (append_assoc top (f ∷ []) fs)) ∙ e)))

begun : (plan : PlanTree) (P : Tree) → Leads opening P → CoreState plan P 0
begun plan P stays = here
begun plan P (more l g) = fed (begun plan _ l) g

module _ (core : BodyTree) (good : Good core) (plan : PlanTree) (pl : Placed core plan) (P : Tree) where
  acts_some : run plan.body env0 P ≡ idle true → ⊥
  acts_some e = plan_acts_own core good P (ap (λ (z : PlanTree). run z.body env0 P) (sym ((placed_once core good).1 plan pl)) ∙ e)

  root_held : (k : ℕ) → CoreState plan P k → (fs : List Frame) → PointAt plan P k fs → (to_come P fs ≡ idle true → ⊥) → In Root (held plan P (so_far plan P k))
  root_held k r fs st h = need_law core good plan pl P k r fs st Root (root_from P (reached_grows plan opening P 0 k r).0) (root_needed P [] fs h)

  held_whole : (k : ℕ) → CoreState plan P k → PointAt plan P k (Rest plan.body env0 ∷ []) → In Root (held plan P (so_far plan P k))
  held_whole k r st = root_held k r (Rest plan.body env0 ∷ []) st (λ e. acts_some (sym (seq-idle (run plan.body env0 P)) ∙ e))

  short : (k : ℕ) (xs : List Action) → length (take k xs) ≤ k
  short zero xs = omega arith
  short (suc k) [] = omega arith
  short (suc k) (x ∷ xs) = let h = short k xs in omega arith

  held_going : (k : ℕ) → CoreState plan P k → (k < length (actions plan P)) ⊎ ((run plan.body env0 P).done ≡ false) → In Root (held plan P (so_far plan P k))
  held_going k r going =
      let pt = point_law plan P k in
      let res = resume_law plan P (reached_grows plan opening P 0 k r).0 k pt.0 pt.1 in
      root_held k r pt.0 pt.1 (λ e. elim going [
        | inl l ↦ (let n : actions plan P ≡ so_far plan P k = res.0 ∙ (ap (λ (o : Out). so_far plan P k ++ o.acts) e ∙ append-nil (so_far plan P k)) in let m = ap length n in let q = short k (actions plan P) in absurd (omega arith))
        | inr f ↦ true≢false (sym (ap (λ (o : Out). o.done) e) ∙ (sym res.1 ∙ f))
      ])

pub plan_acts : PlanActs
plan_acts core good plan pl P = (
  acts_some core good plan pl P,
  (λ l. held_whole core good plan pl P 0 (begun plan P l) (opening_point plan P)),
  (λ k r. ((λ going. held_going core good plan pl P k r going), (λ st. held_whole core good plan pl P k r st))),
)
