-- The balance law, the once law, and what stays taken and gone, of placed plans.
use Rattle.std.proofs.Common.{◌≡◌, ℕ, ◌≤◌, true, false, List, [], refl, sym, ◌∙◌, ap, subst, Some, None, Option}
use Rattle.std.specs.List.{filter}
use Rattle.std.proofs.lemmas.Bool.{and_parts, false≢true}
use Rattle.gcx_base.specs.declared.steps.Step.{Step}
use Rattle.gcx_model.specs.Tree.{Node, serial_of, Tree, TreeToken, grow_all}
use Rattle.gcx_model.specs.Paths.{matches}
use Rattle.gcx_model.specs.Members.{In, Once}
use Rattle.gcx_model.specs.Core.{BodyTree, OffTree, RoleRowTree, PlanTree}
use Rattle.gcx_model.specs.Run.{Action, Offed}
use Rattle.gcx_model.specs.Variables.{var_tree}
use Rattle.gcx_model.specs.Roles.{roles_of}
use Rattle.gcx_model.specs.Cores.{Good}
use Rattle.gcx_model.specs.Placed.{row_at, offs_in, statement, plan_of}
use Rattle.gcx_model.specs.Held.{path_of, on_row, given_row, given, taken, held, is_held}
use Rattle.gcx_model.specs.Points.{actions, so_far, ReachedFrom}
use Rattle.tree_laws.specs.Growth.{AllClosed}
use Rattle.placed_laws.specs.Balance.{BalanceLaw, EmptyAtEnd, is_taking, OnceLaw, OffsAtMatches, TakenStays, GoneStays}
use Rattle.tree_laws.proofs.Fed.{tree, grown, from_tokens}
use Rattle.placed_laws.proofs.CoreStates.{once, once_at, taken_stays, balanced, empty_at_end, so_far_stays}
use Rattle.tree_laws.proofs.Growing.{fed_all}
use Rattle.placed_laws.proofs.Bridge.{path_is, given_is, taken_is, held_is, row_places}
use Rattle.placed_laws.proofs.Unique.{placed, in_plan}
use Rattle.placed_laws.proofs.RunForms.{reached_leads}
use Rattle.placed_laws.proofs.FromPlans.{from_plan, from_state}
use Rattle.tree_laws.proofs.Reading as old
use Rattle.tree_laws.proofs.Reading.{Reading, reading}
use Rattle.tree_laws.proofs.Lists.{In-filter, In-kept}
use Rattle.placed_laws.proofs.Lasting.{held_acted, held_back_all}

balanced_at : (core : BodyTree) (good : Good core) (ts : List TreeToken) → AllClosed (tree ts) → (n : Node) (r : ℕ) → taken (plan_of core) (tree ts) (actions (plan_of core) (tree ts)) n r ≡ given (plan_of core) (tree ts) n r
balanced_at core good ts c n r = go (row_at (roles_of core) r) refl
  where
    A : List Action
    A = actions (plan_of core) (tree ts)

    go : (row : Option RoleRowTree) → row_at (roles_of core) r ≡ row → taken (plan_of core) (tree ts) (actions (plan_of core) (tree ts)) n r ≡ given (plan_of core) (tree ts) n r
    go None e = let f : given (plan_of core) (tree ts) n r ≡ false = ap (on_row (given_row (path_of (plan_of core)) (tree ts) n)) e in rw f refl
    go (Some row) e =
        taken_is core good (tree ts) (actions (plan_of core) (tree ts)) n r row e
        ∙ (balanced core good ts c n row (statement (var_tree core) (roles_of core) r row) (row_places core good r row e).0
        ∙ sym (given_is core good (tree ts) (actions (plan_of core) (tree ts)) n r row e))

pub balance_law : BalanceLaw
balance_law core good plan pl P l c n r =
    from_plan core good (λ plan. taken plan P (actions plan P) n r ≡ given plan P n r)
    (from_tokens (λ P. AllClosed P → taken (plan_of core) P (actions (plan_of core) P) n r ≡ given (plan_of core) P n r) (λ ts c. balanced_at core good ts c n r) P l c) plan pl

pub empty_law : EmptyAtEnd
empty_law core good plan pl P l c =
    from_plan core good (λ plan. held plan P (actions plan P) ≡ [])
    (from_tokens (λ P. AllClosed P → held (plan_of core) P (actions (plan_of core) P) ≡ []) (λ ts c. held_is core good (tree ts) (actions (plan_of core) (tree ts)) ∙ empty_at_end core good ts c) P l c) plan pl

pub once_law : OnceLaw
once_law core good plan pl P k r = from_state core good (λ plan P k. Once (filter is_taking (so_far plan P k))) (λ ts k. once core good ts k) plan pl P k r

abbrev OffsAt : PlanTree → Tree → ℕ → Type 0
OffsAt plan P k = (s : OffTree) (m : ℕ) → In (Offed s m) (so_far plan P k) → In s (offs_in plan.body) × ((n : Node) × In n (matches P 0 (path_of plan s.base)) × (serial_of n ≡ m))

pub offs_at_matches : OffsAtMatches
offs_at_matches core good plan pl P k r = from_state core good OffsAt (λ ts k s m i.
    let h = once_at core good ts k s m i in
    (in_plan core good (plan_of core) (placed core good) s h.0, (h.1.0, subst (λ (z : List Step). In h.1.0 (matches (tree ts) 0 z)) (sym (path_is core good s.base)) h.1.1, h.1.2))) plan pl P k r

stays_at : (core : BodyTree) (good : Good core) (ts us : List TreeToken) (k j : ℕ) → k ≤ j → (n : Node) (r : ℕ) → In n (tree ts).nodes → taken (plan_of core) (tree ts) (so_far (plan_of core) (tree ts) k) n r ≡ true
    → taken (plan_of core) (grow_all us (tree ts)) (so_far (plan_of core) (grow_all us (tree ts)) j) n r ≡ true
stays_at core good ts us k j l n r i h = go (row_at (roles_of core) r) refl
  where
    go : (row : Option RoleRowTree) → row_at (roles_of core) r ≡ row → taken (plan_of core) (grow_all us (tree ts)) (so_far (plan_of core) (grow_all us (tree ts)) j) n r ≡ true
    go None e =
        let f : given (plan_of core) (tree ts) n r ≡ false = ap (on_row (given_row (path_of (plan_of core)) (tree ts) n)) e in
        absurd (false≢true (sym f ∙ (and_parts (given (plan_of core) (tree ts) n r) _ h).0))
    go (Some row) e =
        let P : Tree = tree ts in
        let Q : Tree = grow_all us (tree ts) in
        taken_is core good Q (so_far (plan_of core) Q j) n r row e
        ∙ taken_stays core ts us k j l n row (statement (var_tree core) (roles_of core) r row) i (sym (taken_is core good P (so_far (plan_of core) P k) n r row e) ∙ h)

abbrev StaysTaken : PlanTree → Tree → ℕ → Type 0
StaysTaken plan P k = (Q : Tree) (j : ℕ) → ReachedFrom plan P k Q j → (n : Node) (r : ℕ) → In n P.nodes → taken plan P (so_far plan P k) n r ≡ true → taken plan Q (so_far plan Q j) n r ≡ true

pub taken_law : TakenStays
taken_law core good plan pl P k r = from_state core good StaysTaken (λ ts k Q j g n r i h.
    let q = reached_leads (plan_of core) (tree ts) k Q j g in
    let u = fed_all (tree ts) Q q.0 in
    subst (λ (z : Tree). taken (plan_of core) z (so_far (plan_of core) z j) n r ≡ true) (sym u.2) (stays_at core good ts u.0 k j q.1 n r i h)) plan pl P k r

abbrev Gone : PlanTree → Tree → ℕ → Type 0
Gone plan P k = (Q : Tree) (j : ℕ) → ReachedFrom plan P k Q j → (n : Node) → In n P.nodes → In n (held plan Q (so_far plan Q j)) → In n (held plan P (so_far plan P k))

pub gone_stays : GoneStays
gone_stays core good plan pl P k r = from_state core good Gone (λ ts k Q j g n i h.
    let p : Reading = reading core in
    let q = reached_leads (plan_of core) (tree ts) k Q j g in
    let u = fed_all (tree ts) Q q.0 in
    let R : Tree = grow_all u.0 (tree ts) in
    let A : List Action = so_far (plan_of core) (tree ts) k in
    let B : List Action = so_far (plan_of core) R j in
    let h' : In n (held (plan_of core) R B) = subst (λ (z : Tree). In n (held (plan_of core) z (so_far (plan_of core) z j))) u.2 h in
    let e : old.is_held p R B n ≡ true = (In-filter (old.is_held p R B) n R.nodes (subst (λ (z : List Node). In n z) (held_is core good R B) h')).1 in
    let f : old.is_held p R A n ≡ true = held_acted p R A B n (so_far_stays core ts u.0 k j q.1) e in
    let b : old.is_held p (tree ts) A n ≡ true = held_back_all u.0 p (tree ts) (grown ts) A n i f in
    subst (λ (z : List Node). In n z) (sym (held_is core good (tree ts) A)) (In-kept (old.is_held p (tree ts) A) n (tree ts).nodes i b)) plan pl P k r
