-- The peak and the numbers of held nodes.
use Rattle.std.proofs.Common.{◌≡◌, ℕ, ◌+◌, ◌-◌, ◌≤◌, max, true, List, [], ◌∷◌, ◌++◌, length, drop, ◌∙◌, ap, arith, append_assoc, Some, None, Option}
use Rattle.std.proofs.lemmas.List.{append-nil, length-append, length-drop, take-append-drop}
use Rattle.std.proofs.lemmas.Bool.{and_parts}
use Rattle.gcx_model.specs.Tree.{Node, Tree, TreeToken, Start, Chars, End, opening, grow, grow_all}
use Rattle.gcx_model.specs.Core.{BodyTree, PlanTree}
use Rattle.gcx_model.specs.Run.{Action, env0}
use Rattle.gcx_model.specs.Cores.{Good}
use Rattle.gcx_model.specs.Placed.{Placed}
use Rattle.gcx_model.specs.Held.{is_held, held}
use Rattle.gcx_model.specs.Growth.{Leads, stays, more, may_come, may_all}
use Rattle.gcx_model.specs.Points.{actions, so_far}
use Rattle.gcx_model.specs.Demand.{peak_from, peak_of}
use Rattle.base_laws.proofs.Lists.{filter_few}
use Rattle.tree_laws.proofs.Matches.{added, added_at, grow_nodes}
use Rattle.tree_laws.proofs.Growing.{grows, leads}
use Rattle.placed_laws.proofs.HeldChanges.{held_by_feed, held_by_act}
use Rattle.placed_laws.proofs.RunForms.{prefix_law}
use Rattle.tree_laws.proofs.Fed.{root_from}
use Rattle.run_laws.specs.Peaks.{PeakStep, HeldCounts, PeakWithin}

-- The peak

abbrev held_on : PlanTree → Tree → (before : List TreeToken) (t : TreeToken) → List Node
held_on plan P before t = held plan (grow t (grow_all before P)) (actions plan (grow_all before P))

step_from : (plan : PlanTree) (ts : List TreeToken) (t : TreeToken) (P : Tree) → peak_from plan (ts ++ t ∷ []) P ≡ max (peak_from plan ts P) (length (held_on plan P ts t))
step_from plan [] t P = omega arith
step_from plan (u ∷ ts) t P = let h = step_from plan ts t (grow u P) in omega arith

longer_from : (plan : PlanTree) (ts us : List TreeToken) (P : Tree) → peak_from plan ts P ≤ peak_from plan (ts ++ us) P
longer_from plan [] us P = omega arith
longer_from plan (t ∷ ts) us P = let h = longer_from plan ts us (grow t P) in omega arith

pub peak_step : PeakStep
peak_step plan ts = ((λ t. let h = step_from plan ts t opening in omega arith), (λ us. let h = longer_from plan ts us opening in omega arith))

-- Held nodes

one_added : (at : Option Node) (t : TreeToken) (P : Tree) → length (added_at at t P) ≤ 1
one_added None t P = omega arith
one_added (Some p) (Start name) P = omega arith
one_added (Some p) (Chars b) P = omega arith
one_added (Some p) End P = omega arith

one_more : (P : Tree) (t : TreeToken) → length (grow t P).nodes ≤ length P.nodes + 1
one_more P t = let h = ap length (grow_nodes t P) ∙ length-append P.nodes (added t P) in let k = one_added P.at t P in omega arith

module _ (core : BodyTree) (good : Good core) (plan : PlanTree) (pl : Placed core plan) where
  behind_token : (P : Tree) (A : List Action) → Leads opening P → (t : TreeToken) → length (held plan (grow t P) A) ≤ length (held plan P A) + (length (grow t P).nodes - length P.nodes)
  behind_token P A l t =
      let new : List Node = drop (length P.nodes) (grow t P).nodes in
      let e = ap length (held_by_feed core good plan pl P l t A) in
      let f = filter_few (is_held plan (grow t P) A) (held plan P A ++ new) in
      let g = length-append (held plan P A) new in
      let h = length-drop (length P.nodes) (grow t P).nodes in
      omega arith

  behind_act : (P : Tree) (A : List Action) (a : Action) → length (held plan P (A ++ a ∷ [])) ≤ length (held plan P A)
  behind_act P A a = let e = ap length (held_by_act core good plan pl P A a) in let f = filter_few (is_held plan P (A ++ a ∷ [])) (held plan P A) in omega arith

  behind_acts : (P : Tree) (B A : List Action) → length (held plan P (A ++ B)) ≤ length (held plan P A)
  behind_acts P [] A = let e = ap (λ (z : List Action). length (held plan P z)) (append-nil A) in omega arith
  behind_acts P (b ∷ B) A =
      let e = ap (λ (z : List Action). length (held plan P z)) (append_assoc A (b ∷ []) B) in
      let h = behind_acts P B (A ++ b ∷ []) in
      let k = behind_act P A b in
      omega arith

  behind_tokens : (us : List TreeToken) (P : Tree) (A : List Action) → Leads opening P → may_all us P ≡ true → length (held plan (grow_all us P) A) ≤ length (held plan P A) + length us
  behind_tokens [] P A l m = omega arith
  behind_tokens (u ∷ us) P A l m =
      let a = and_parts (may_come u P) (may_all us (grow u P)) m in
      let h = behind_tokens us (grow u P) A (more l (grows u P a.0)) a.1 in
      let k = behind_token P A l u in
      let n = one_more P u in
      omega arith

  -- behind all actions no more are held than the peak
  all_taken : (ts : List TreeToken) (P : Tree) → Leads opening P → may_all ts P ≡ true
      → length (held plan (grow_all ts P) (actions plan (grow_all ts P))) ≤ max (length (held plan P (actions plan P))) (peak_from plan ts P)
  all_taken [] P l m = omega arith
  all_taken (t ∷ ts) P l m =
      let a = and_parts (may_come t P) (may_all ts (grow t P)) m in
      let g = grows t P a.0 in
      let h = all_taken ts (grow t P) (more l g) a.1 in
      let q = (prefix_law P (grow t P) l (more stays g) plan.body env0 (λ x. root_from P l)).0 in
      let e = ap (λ (z : List Action). length (held plan (grow t P) z)) q.1 in
      let k = behind_acts (grow t P) q.0 (actions plan P) in
      omega arith

  late : (P : Tree) (t : TreeToken) (k : ℕ) → length (held plan (grow t P) (actions plan P)) ≤ length (held plan (grow t P) (so_far plan P k))
  late P t k =
      let e = ap (λ (z : List Action). length (held plan (grow t P) z)) (take-append-drop k (actions plan P)) in
      let h = behind_acts (grow t P) (drop k (actions plan P)) (so_far plan P k) in
      omega arith

  most : (ts us : List TreeToken) → may_all ts opening ≡ true → may_all us (grow_all ts opening) ≡ true
      → length (held plan (grow_all us (grow_all ts opening)) (actions plan (grow_all ts opening))) ≤ peak_of plan (ts ++ us) + (length us - 1)
  most ts [] m n =
      let h = all_taken ts opening stays m in
      let k = behind_acts opening (actions plan opening) [] in
      let e = ap (peak_of plan) (append-nil ts) in
      omega arith
  most ts (u ∷ us) m n =
      let P : Tree = grow_all ts opening in
      let A : List Action = actions plan P in
      let a = and_parts (may_come u P) (may_all us (grow u P)) n in
      let h = behind_tokens us (grow u P) A (more (leads ts opening m) (grows u P a.0)) a.1 in
      let k = (peak_step plan ts).0 u in
      let l = (peak_step plan (ts ++ u ∷ [])).1 us in
      let e = ap (peak_of plan) (append_assoc ts (u ∷ []) us) in
      omega arith

pub held_counts : HeldCounts
held_counts core good plan pl P A = (filter_few (is_held plan P A) P.nodes, (λ l t. behind_token core good plan pl P A l t), (λ t. one_more P t), (λ B. behind_acts core good plan pl P B A))

pub peak_within : PeakWithin
peak_within core good plan pl ts m = (
  (λ t k. let h = late core good plan pl (grow_all ts opening) t k in let e = (peak_step plan ts).0 t in omega arith),
  (λ us n. most core good plan pl ts us m n),
)
