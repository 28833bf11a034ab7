-- What is the same over fewer nodes, and what stays while tokens come.
use Rattle.std.proofs.Common.{◌≡◌, ℕ, zero, suc, ◌<◌, ◌≤◌, Bool, true, List, [], ◌∷◌, ◌++◌, length, refl, sym, ◌∙◌, ap, subst, arith, Some, ltb}
use Rattle.std.specs.Prelude.{take}
use Rattle.std.specs.List.{filter}
use Rattle.std.proofs.lemmas.List.{append-nil, length-append}
use Rattle.gcx_base.specs.declared.steps.Step.{Step}
use Rattle.gcx_model.specs.Tree.{Node, serial_of, Tree, TreeToken, opening, grow, grow_all, is_closed}
use Rattle.gcx_model.specs.Paths.{hits, matches, head, value}
use Rattle.gcx_model.specs.Core.{PlanTree}
use Rattle.gcx_model.specs.Run.{Action, Out, run, env0}
use Rattle.gcx_model.specs.Growth.{Leads, stays, more}
use Rattle.gcx_model.specs.Points.{actions, so_far, here, fed, acted, later, IsPoint}
use Rattle.base_laws.proofs.Members.{filter_all}
use Rattle.move_laws.specs.Kept.{TruthKept, CopyKept, MatchesKept, LaterKept, FirstKept, ClosedStays, ReachedGrows, TakenAreThere, SoFarStays, PointStays}
use Rattle.placed_laws.proofs.Prefix.{Before, Same, More}
use Rattle.placed_laws.proofs.Whole.{run_grows_all}
use Rattle.tree_laws.proofs.Lists.{In}
use Rattle.tree_laws.proofs.Matches.{Grown, Grown-grow, Numbered-high}
use Rattle.tree_laws.proofs.Freeze.{stays_closed, Matches-closed, value_closed}
use Rattle.tree_laws.proofs.Held.{filter_comm}
use Rattle.placed_laws.proofs.Pruned as pruned
use Rattle.placed_laws.proofs.Waits.{stands_all, root_bound}
use Rattle.tree_laws.proofs.Fed.{nodes_stay, grown_from, root_from}
use Rattle.tree_laws.proofs.Growing.{fed_all}
use Rattle.placed_laws.proofs.RunForms.{reached_leads}

-- over fewer nodes

pub truth_kept : TruthKept
truth_kept P w keep c env h = pruned.truth_kept P w keep c env h

pub copy_kept : CopyKept
copy_kept P w keep n i h most = pruned.copy_kept P w keep most n i h

pub matches_kept : MatchesKept
matches_kept P keep n path h = filter_comm (hits n path) keep P.nodes ∙ filter_all keep (matches P n path) h

pub later_kept : LaterKept
later_kept P keep n path present h =
    ap (later present) (filter_comm (hits n path) keep P.nodes)
    ∙ (filter_comm (λ m. ltb (serial_of present) (serial_of m)) keep (matches P n path)
    ∙ filter_all keep (later present (matches P n path)) h)

head_kept : (keep : Node → Bool) (ms : List Node) → ((m : Node) → head ms ≡ Some m → keep m ≡ true) → head (filter keep ms) ≡ head ms
head_kept keep [] h = refl
head_kept keep (m ∷ ms) h = rw (h m refl) refl

pub first_kept : FirstKept
first_kept P keep n path h = ap head (filter_comm (hits n path) keep P.nodes) ∙ head_kept keep (matches P n path) h

-- while tokens come

-- what a closed node keeps
abbrev Keeps : Tree → Tree → Node → Type 0
Keeps P Q n = (is_closed Q n ≡ true) × ((path : List Step) → matches Q (serial_of n) path ≡ matches P (serial_of n) path) × (value Q n ≡ value P n)

closed_all : (ts : List TreeToken) (P : Tree) → Grown P → (n : Node) → In n P.nodes → is_closed P n ≡ true → Keeps P (grow_all ts P) n
closed_all [] P w n i c = (c, (λ path. refl), refl)
closed_all (t ∷ ts) P w n i c =
    let l : serial_of n < length P.nodes = let r = Numbered-high 0 P.nodes w.numbered n i in omega arith in
    let r = closed_all ts (grow t P) (Grown-grow t P w) n (nodes_stay (t ∷ []) P n i) (stays_closed t P n l c) in
    (r.0, (λ path. r.1 path ∙ Matches-closed t P n path l c), r.2 ∙ value_closed t P n l c)

pub closed_stays : ClosedStays
closed_stays P Q l m n i c =
    let h = fed_all P Q m in
    subst (λ (z : Tree). Keeps P z n) (sym h.2) (closed_all h.0 P (grown_from P l) n i c)

actions_grow : (plan : PlanTree) (P Q : Tree) → Leads opening P → Leads P Q → (rest : List Action) × (actions plan Q ≡ actions plan P ++ rest)
actions_grow plan P Q l m =
    let h = fed_all P Q m in
    let w : Grown P = grown_from P l in
    subst (λ (z : Tree). (rest : List Action) × (actions plan z ≡ actions plan P ++ rest)) (sym h.2) (go (grow_all h.0 P) (run_grows_all h.0 P w plan.body env0 (root_bound P w (root_from P l))))
  where
    go : (Q : Tree) → Before (run plan.body env0 P) (run plan.body env0 Q) → (rest : List Action) × (actions plan Q ≡ actions plan P ++ rest)
    go Q (Same e) = ([], ap (λ (z : Out). z.acts) (sym e) ∙ sym (append-nil (actions plan P)))
    go Q (More f r e) = (r, e)

pub reached_grows : ReachedGrows
reached_grows plan P Q k j h = reached_leads plan P k Q j h

pub taken_are_there : TakenAreThere
taken_are_there plan P k here = omega arith
taken_are_there plan Q k (fed {P = P} {Q = Q'} h g) =
    let i = taken_are_there plan P k h in
    let r = actions_grow plan P Q' (reached_leads plan opening 0 P k h).0 (more stays g) in
    let e = ap length r.1 ∙ length-append (actions plan P) r.0 in
    omega arith
taken_are_there plan P k (acted h l) = omega (arith, l)

take_front : {X : Type 0} (k : ℕ) (xs ys : List X) → k ≤ length xs → take k (xs ++ ys) ≡ take k xs
take_front zero xs ys l = refl
take_front (suc k) [] ys l = absurd (omega arith)
take_front (suc k) (x ∷ xs) ys l = ap (λ z. x ∷ z) (take_front k xs ys (omega arith))

pub so_far_stays : SoFarStays
so_far_stays plan P Q k l m b = let r = actions_grow plan P Q l m in ap (take k) r.1 ∙ take_front k (actions plan P) r.0 b

pub point_stays : PointStays
point_stays plan P Q k l m b fs st =
    let h = fed_all P Q m in
    let w : Grown P = grown_from P l in
    let st' : IsPoint Q plan.body env0 (so_far plan P k) fs = subst (λ (z : Tree). IsPoint z plan.body env0 (so_far plan P k) fs) (sym h.2) (stands_all h.0 P w plan.body env0 (so_far plan P k) fs (root_bound P w (root_from P l)) st) in
    subst (λ (z : List Action). IsPoint Q plan.body env0 z fs) (sym (so_far_stays plan P Q k l m b)) st'
