-- Behind a token that opens or closes a node at which no role is live, no action comes: at all that a point needs a role is live, so what it waits for isn't there yet.
use Rattle.std.proofs.Common.{◌≡◌, ℕ, ◌≤◌, Bool, true, false, not, List, [], ◌∷◌, ◌++◌, length, refl, sym, ◌∙◌, ap, subst, inl, inr, ◌⊎◌, arith, Some, Option, ltb}
use Rattle.std.specs.List.{filter}
use Rattle.std.proofs.Math.Seq.{take-length}
use Rattle.std.proofs.lemmas.List.{append-nil, length-append}
use Rattle.std.proofs.lemmas.List.Elements.{filter-append}
use Rattle.std.proofs.lemmas.Bool.{and_parts, lt-ltb, le-ltb}
use Rattle.gcx_base.specs.declared.steps.Step.{Step}
use Rattle.gcx_model.specs.Tree.{Node, serial_of, Tree, TreeToken, End, opening, grow, grow_at, is_open_at}
use Rattle.gcx_model.specs.Paths.{hits, matches}
use Rattle.gcx_model.specs.Members.{In, count}
use Rattle.gcx_model.specs.Nodes.{Grown}
use Rattle.gcx_model.specs.Core.{If, For, BodyTree, Nil, Then, RoleRowTree, PlanTree}
use Rattle.gcx_model.specs.Roles.{cond_rows}
use Rattle.gcx_model.specs.Truth.{Env, truth}
use Rattle.gcx_model.specs.Run.{Action, Out, seq, copy, run, env0}
use Rattle.gcx_model.specs.Cores.{Good}
use Rattle.gcx_model.specs.Placed.{Placed, plan_of}
use Rattle.gcx_model.specs.Held.{path_of, given, live, is_live, roles_given, roles_live, taken}
use Rattle.gcx_model.specs.Growth.{Leads, stays, more, may_come}
use Rattle.gcx_model.specs.Needs.{Needs}
use Rattle.gcx_model.specs.Points.{actions, so_far, CoreState, fed, Frame, Rest, LoopRound, CopyPart, later, behind, to_come, IsPoint, PointAt}
use Rattle.move_laws.specs.Moves.{NoneLeft}
use Rattle.gcx_model.specs.Past.{Opens}
use Rattle.base_laws.proofs.Members.{filter_all}
use Rattle.move_laws.specs.Quiet.{by_opening, by_closing, QuietToken}
use Rattle.tree_laws.proofs.Lists.{In-left, In-append, In-filter, In-kept, any_in, filter_none}
use Rattle.tree_laws.proofs.Matches.{Numbered-same, Numbered-high, Matches-in, added, grow_nodes}
use Rattle.placed_laws.proofs.Pruned.{pruned}
use Rattle.placed_laws.proofs.Need.{needs_live}
use Rattle.placed_laws.proofs.CoreStates as states
use Rattle.tree_laws.proofs.Fed.{tree, grown, root_in, grown_from, root_from}
use Rattle.placed_laws.proofs.Bridge.{is_live_is}
use Rattle.placed_laws.proofs.Evaluator as over
use Rattle.tree_laws.proofs.Growing.{grows, fed_all}
use Rattle.move_laws.proofs.CopyFrames.{copy_enough}
use Rattle.placed_laws.proofs.FromPlans.{from_state}
use Rattle.placed_laws.proofs.RunForms.{prefix_law}
use Rattle.placed_laws.proofs.DemandStates.{demand_is_reached}
use Rattle.placed_laws.proofs.PointNeeds.{bound_law}
use Rattle.placed_laws.proofs.Bindings.{copy_bound_law}
use Rattle.move_laws.proofs.Keeping.{truth_kept, copy_kept, matches_kept, later_kept, so_far_stays, point_stays}
use Rattle.move_laws.proofs.Moving.{none_left, branch_waits, loop_waits, round_waits}
use Rattle.move_laws.proofs.Blocked.{IsBlocked, AtBranch, AtLoop, AtRound, AtCopy, blocked}
use Rattle.placed_laws.proofs.Reopened.{open_as, truth_same, copy_same, added_serial, added_one, open_kept, others_kept, end_nodes}

-- At what a point needs a role is live.
live_need : (core : BodyTree) → Good core → (plan : PlanTree) → Placed core plan → (P : Tree) (k : ℕ) → CoreState plan P k → (fs : List Frame) → PointAt plan P k fs
    → (m : Node) → In m P.nodes → Needs P [] fs m → is_live plan P (so_far plan P k) m ≡ true
live_need core good plan pl P k r = from_state core good (λ plan P k. (fs : List Frame) → PointAt plan P k fs → (m : Node) → In m P.nodes → Needs P [] fs m → is_live plan P (so_far plan P k) m ≡ true)
    (λ ts k fs st m i h.
    is_live_is core good (tree ts) (so_far (plan_of core) (tree ts) k) m ∙ needs_live (tree ts) (grown ts) (root_in ts) core good (states.so_far core (tree ts) k) fs st m i h) plan pl P k r

-- a live role is one that is given, and a live one
some_role : (plan : PlanTree) (P : Tree) (A : List Action) (m : Node) → is_live plan P A m ≡ true → (r : ℕ) × In r (roles_live plan P A m) × In r (roles_given plan P m)
some_role plan P A m h =
    let r = any_in (live plan P A m) (count 0 (length plan.roles)) h in
    (r.0, In-kept (live plan P A m) r.0 (count 0 (length plan.roles)) r.1 r.2, In-kept (given plan P m) r.0 (count 0 (length plan.roles)) r.1 (and_parts (given plan P m r.0) (not (taken plan P A m r.0)) r.2).0)

none_there : {X : Type 0} (x : X) (xs : List X) → xs ≡ [] → In x xs → ⊥
none_there x xs e i = subst (λ (z : List _). In x z) e i

-- the parent's node of a round is one of the tree
parent_in : (core : BodyTree) → Good core → (plan : PlanTree) → Placed core plan → (P : Tree) (k : ℕ) → CoreState plan P k → (top below : List Frame) (x y : ℕ) (s : Step) (e : BodyTree) (env : Env) (n : Node)
    → PointAt plan P k (top ++ LoopRound x y s e env n ∷ below) → In (env y) P.nodes
parent_in core good plan pl P k r top below x y s e env n = from_state core good (λ plan P k. PointAt plan P k (top ++ LoopRound x y s e env n ∷ below) → In (env y) P.nodes)
    (λ ts k st. (over.below_hit core good ts k top below (LoopRound x y s e env n) st y (env y) (over.parent_bound core good ts k top below x y s e env n st)).0) plan pl P k r

module _ (core : BodyTree) (good : Good core) (plan : PlanTree) (pl : Placed core plan) (P : Tree) (l : Leads opening P) (t : TreeToken) (may : may_come t P ≡ true) where
  abbrev Q : Tree
  Q = grow t P

  -- how many actions the run has
  abbrev k : ℕ
  k = length (actions plan P)

  grows_to : Leads P Q
  grows_to = more stays (grows t P may)

  grown_Q : Leads opening Q
  grown_Q = more l (grows t P may)

  state : CoreState plan P k
  state = let h = fed_all opening P l in subst (λ (z : Tree). CoreState plan z (length (actions plan z))) (sym h.2) (demand_is_reached plan h.0 h.1).0

  state_Q : CoreState plan Q k
  state_Q = fed state (grows t P may)

  all_taken : so_far plan P k ≡ actions plan P
  all_taken = take-length (actions plan P)

  same_actions : so_far plan Q k ≡ actions plan P
  same_actions = so_far_stays plan P Q k l grows_to (omega arith) ∙ all_taken

  on : (fs : List Frame) → PointAt plan P k fs → PointAt plan Q k fs
  on fs st = point_stays plan P Q k l grows_to (omega arith) fs st

  -- the nodes that were there
  abbrev old : Node → Bool
  old m = ltb (serial_of m) (length P.nodes)

  is_old : (m : Node) → In m P.nodes → old m ≡ true
  is_old m i = let h = Numbered-high 0 P.nodes (grown_from P l).numbered m i in lt-ltb (serial_of m) (length P.nodes) (omega arith)

  is_new : (m : Node) → In m (added t P) → old m ≡ false
  is_new m i = let h = added_serial P.at t P m i in le-ltb (serial_of m) (length P.nodes) (omega arith)

  old_nodes : filter old Q.nodes ≡ P.nodes
  old_nodes =
      ap (filter old) (grow_nodes t P) ∙ (filter-append old P.nodes (added t P)
      ∙ (ap (λ z. z ++ filter old (added t P)) (filter_all old P.nodes is_old)
      ∙ (ap (λ z. P.nodes ++ z) (filter_none old (added t P) is_new) ∙ append-nil P.nodes)))

  pruned_is : pruned old Q ≡ open_as P Q.at
  pruned_is = ap (λ (z : List Node). record { nodes = z; at = Q.at }) old_nodes

  old_or_new : (m : Node) → In m Q.nodes → In m P.nodes ⊎ In m (added t P)
  old_or_new m i = In-append m P.nodes (added t P) (subst (λ (z : List Node). In m z) (grow_nodes t P) i)

  -- what a point needs behind the token was there, and what it needed before it is open where it was
  abbrev NeedsOld : Type 0
  NeedsOld = (fs : List Frame) → PointAt plan Q k fs → (m : Node) → In m Q.nodes → Needs Q [] fs m → old m ≡ true

  abbrev NeedsSame : Type 0
  NeedsSame = (fs : List Frame) → PointAt plan P k fs → (m : Node) → In m P.nodes → Needs P [] fs m → is_open_at Q.at (serial_of m) ≡ is_open_at P.at (serial_of m)

  module _ (olds : NeedsOld) (same : NeedsSame) where
    matches_same : (n : ℕ) (path : List Step) → ((m : Node) → In m (matches Q n path) → old m ≡ true) → matches Q n path ≡ matches P n path
    matches_same n path h = sym (matches_kept Q old n path h) ∙ ap (filter (hits n path)) old_nodes

    still : (fs : List Frame) → PointAt plan P k fs → IsBlocked P fs → NoneLeft plan Q k false
    still fs st (AtBranch c a b d env below e u) =
        let gs : List Frame = Rest (Then (If c a b) d) env ∷ below in
        let st' : PointAt plan P k gs = subst (λ (z : List Frame). PointAt plan P k z) e st in
        let bound : (r : RoleRowTree) → In r (cond_rows c) → In (env r.var) P.nodes =
        λ r i. (Matches-in P 0 (path_of plan r.var) (env r.var) (bound_law core good plan pl P k state [] below (If c a b) d env st' r.var (r, i, refl)).1).0 in
        let kept : truth c env (pruned old Q) ≡ truth c env Q = truth_kept Q (grown_from Q grown_Q) old c env (λ m i h. olds gs (on gs st') m i (inl (inl h))) in
        let moved : truth c env (open_as P Q.at) ≡ truth c env P = truth_same P Q.at c env (λ r i. same gs st' (env r.var) (bound r i) (inl (inr (r, i, refl)))) (λ m i h. same gs st' m i (inl (inl h))) in
        branch_waits plan Q k c a b d env below (record { grown = grown_Q; point = on gs st' }) (sym kept ∙ (ap (truth c env) pruned_is ∙ (moved ∙ u)))
    still fs st (AtLoop x y s e d env below f m o) =
        let gs : List Frame = Rest (Then (For x y s e) d) env ∷ below in
        let st' : PointAt plan P k gs = subst (λ (z : List Frame). PointAt plan P k z) f st in
        let inside : In (env y) P.nodes = (Matches-in P 0 (path_of plan y) (env y) (bound_law core good plan pl P k state [] below (For x y s e) d env st' y refl).1).0 in
        let ms = matches_same (serial_of (env y)) (s ∷ []) (λ j i. olds gs (on gs st') j (Matches-in Q (serial_of (env y)) (s ∷ []) j i).0 (inl (inr i))) in
        loop_waits plan Q k x y s e d env below (record { grown = grown_Q; point = on gs st' }) (ms ∙ m) (ap not (same gs st' (env y) inside (inl (inl refl))) ∙ o)
    still fs st (AtRound v x y s e env n below f m o) =
        let gs : List Frame = Rest Nil v ∷ LoopRound x y s e env n ∷ below in
        let st' : PointAt plan P k gs = subst (λ (z : List Frame). PointAt plan P k z) f st in
        let inside : In (env y) P.nodes = parent_in core good plan pl P k state (Rest Nil v ∷ []) below x y s e env n st' in
        let path : List Step = s ∷ [] in
        let ms : later n (matches Q (serial_of (env y)) path) ≡ later n (matches P (serial_of (env y)) path) =
        sym (later_kept Q old (serial_of (env y)) path n (λ j i. olds gs (on gs st') j (later_in n (serial_of (env y)) path j i) (inr (inl (inl (inr i))))))
        ∙ ap (λ z. later n (filter (hits (serial_of (env y)) path) z)) old_nodes in
        round_waits plan Q k v x y s e env n below (record { grown = grown_Q; point = on gs st' }) (ms ∙ m) (ap not (same gs st' (env y) inside (inr (inl (inr refl)))) ∙ o)
      where
        later_in : (n : Node) (j : ℕ) (path : List Step) (m : Node) → In m (later n (matches Q j path)) → In m Q.nodes
        later_in n j path m i = (Matches-in Q j path m (In-filter (λ (z : Node). ltb (serial_of n) (serial_of z)) m (matches Q j path) i).0).0
    still fs st (AtCopy x env made below e o) =
        let gs : List Frame = CopyPart x env made ∷ below in
        let st' : PointAt plan P k gs = subst (λ (z : List Frame). PointAt plan P k z) e st in
        let w : Grown P = grown_from P l in
        let inside : In (env x) P.nodes = (copy_bound_law core good plan pl P k state [] below x env made st').0 in
        let inside_Q : In (env x) Q.nodes = subst (λ (z : List Node). In (env x) z) (sym (grow_nodes t P)) (In-left (env x) P.nodes (added t P) inside) in
        let most : ℕ = length Q.nodes in
        let longer : length P.nodes ≤ most = let g = ap length (grow_nodes t P) ∙ length-append P.nodes (added t P) in omega arith in
        let kept : copy most (pruned old Q) (env x) ≡ copy most Q (env x) = copy_kept Q (grown_from Q grown_Q) old (env x) inside_Q (λ m i h. olds gs (on gs st') m i (inl h)) most in
        let moved : copy most (open_as P Q.at) (env x) ≡ copy most P (env x) = copy_same P Q.at w most (env x) inside (λ m i h. same gs st' m i (inl h)) in
        let enough : copy most P (env x) ≡ copy (length P.nodes) P (env x) = copy_enough P w most (length P.nodes) (env x) inside (omega arith) (omega arith) in
        let c : copy most Q (env x) ≡ copy (length P.nodes) P (env x) = sym kept ∙ (ap (λ z. copy most z (env x)) pruned_is ∙ (moved ∙ enough)) in
        none_left plan Q k gs (record { grown = grown_Q; point = on gs st' }) false (ap (λ z. seq (behind made z) (to_come Q below)) c ∙ ap (λ z. seq z (to_come Q below)) o)

    abbrev Unmoved : Type 0
    Unmoved = (actions plan Q ≡ actions plan P) × ((run plan.body env0 Q).done ≡ (run plan.body env0 P).done)

    unmoved : Unmoved
    unmoved = go (run plan.body env0 P).done refl
      where
        go : (b : Bool) → (run plan.body env0 P).done ≡ b → Unmoved
        go true e = let h = (prefix_law P Q l grows_to plan.body env0 (λ x. root_from P l)).1 e in (ap (λ (z : Out). z.acts) h, ap (λ (z : Out). z.done) h)
        go false e =
            let b = blocked P (grown_from P l) plan.body env0 e in
            let st : PointAt plan P k b.0 = subst (λ (z : List Action). IsPoint P plan.body env0 z b.0) (sym all_taken) b.1 in
            let n = still b.0 st b.2 in
            (sym n.all ∙ same_actions, n.is_done ∙ sym e)

  opened_quiet : (n : Node) → Opens P t n → (roles_given plan Q n ≡ []) ⊎ (roles_live plan Q (actions plan P) n ≡ []) → (actions plan Q ≡ actions plan P) × ((run plan.body env0 Q).done ≡ (run plan.body env0 P).done)
  opened_quiet n h g = unmoved olds same
    where
      new : In n (added t P)
      new = elim (old_or_new n h.0) [ inl i ↦ absurd (h.1 i) | inr i ↦ i ]

      olds : NeedsOld
      olds fs st m i q = elim (old_or_new m i) [
        | inl j ↦ is_old m j
        | inr j ↦ (
            let r = some_role plan Q (so_far plan Q k) m (live_need core good plan pl Q k state_Q fs st m i q) in
            let is : m ≡ n = added_one P.at t P m n j new in
            absurd (elim g [
              | inl none ↦ none_there r.0 (roles_given plan Q n) none (subst (λ (z : Node). In r.0 (roles_given plan Q z)) is r.2)
              | inr none ↦ none_there r.0 (roles_live plan Q (actions plan P) n) none (subst (λ (z : Node). In r.0 (roles_live plan Q (actions plan P) z)) is (subst (λ (z : List Action). In r.0 (roles_live plan Q z m)) same_actions r.1))
            ]))
      ]

      same : NeedsSame
      same fs st m i q = let b = Numbered-high 0 P.nodes (grown_from P l).numbered m i in open_kept P.at t P n new (serial_of m) (omega arith)

  closed_quiet : (p : Node) → t ≡ End → P.at ≡ Some p → roles_live plan P (actions plan P) p ≡ [] → (actions plan Q ≡ actions plan P) × ((run plan.body env0 Q).done ≡ (run plan.body env0 P).done)
  closed_quiet p e at g = unmoved olds same
    where
      none_new : added t P ≡ []
      none_new = ap (λ (z : TreeToken). added z P) e ∙ end_nodes P.at P

      olds : NeedsOld
      olds fs st m i q = elim (old_or_new m i) [
        | inl j ↦ is_old m j
        | inr j ↦ absurd (none_there m (added t P) none_new j)
      ]

      same : NeedsSame
      same fs st m i q = go (λ f.
          let w : Grown P = grown_from P l in
          let is : m ≡ p = Numbered-same 0 P.nodes w.numbered m p i (w.at_in p at) (sym f) in
          let r = some_role plan P (so_far plan P k) m (live_need core good plan pl P k state fs st m i q) in
          none_there r.0 (roles_live plan P (actions plan P) p) g (subst (λ (z : Node). In r.0 (roles_live plan P (actions plan P) z)) is (subst (λ (z : List Action). In r.0 (roles_live plan P z m)) all_taken r.1)))
        where
          go : (serial_of p ≡ serial_of m → ⊥) → is_open_at Q.at (serial_of m) ≡ is_open_at P.at (serial_of m)
          go n =
              ap (λ (z : TreeToken). is_open_at (grow z P).at (serial_of m)) e
              ∙ (ap (λ (z : Option Node). is_open_at (grow_at z End P).at (serial_of m)) at
              ∙ (others_kept p P (serial_of m) n ∙ ap (λ (z : Option Node). is_open_at z (serial_of m)) (sym at)))

pub quiet_token : QuietToken
quiet_token core good plan pl P l t may (by_opening n h g) = opened_quiet core good plan pl P l t may n h g
quiet_token core good plan pl P l t may (by_closing p e at g) = closed_quiet core good plan pl P l t may p e at g
