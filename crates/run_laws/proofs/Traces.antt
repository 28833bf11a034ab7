-- The demand run by its events.
use Rattle.std.proofs.Common.{◌≡◌, ℕ, zero, suc, ◌+◌, ◌<◌, ◌≤◌, true, List, [], ◌∷◌, ◌++◌, length, map, refl, sym, ◌∙◌, ap, subst, inl, inr, ◌⊎◌, arith, append_assoc, Some, None, Option}
use Rattle.std.specs.Prelude.{take, drop}
use Rattle.std.proofs.Math.Seq.{take-length, drop-length, drop-append_seam}
use Rattle.std.proofs.lemmas.List.{length-append}
use Rattle.std.proofs.lemmas.Bool.{and_parts, cases_lt}
use Rattle.std.proofs.lemmas.Option.{same_Some}
use Rattle.gcx_base.specs.declared.kind.Kind.TheVariants.{Element, Text}
use Rattle.gcx_model.specs.Tree.{Node, Root, Under, serial_of, kind_of, Tree, TreeToken, Start, Chars, End, opening, grow, grow_at, grow_all}
use Rattle.gcx_model.specs.Members.{In}
use Rattle.gcx_model.specs.Nodes.{Rising, Numbered, Grown}
use Rattle.gcx_model.specs.Core.{PlanTree}
use Rattle.gcx_model.specs.Run.{Action, env0}
use Rattle.gcx_model.specs.Held.{roles_given, is_held, held, departed}
use Rattle.gcx_model.specs.Growth.{Grow, opened, added, closed, ended, Leads, stays, more, may_come, may_all}
use Rattle.gcx_model.specs.Points.{actions, so_far, here, fed, acted, CoreState}
use Rattle.gcx_model.specs.Demand.{Line, Opened, Closed, Left, line_kind, action_line, left, act_lines, feed_line, demand, peak_from, peak_of}
use Rattle.run_laws.specs.Trace.{Event, FeedEvent, ActEvent, tree_before, taken_before, tree_behind, taken_behind, DemandRun, acts, feeds, ends, OneDemandRun, EventsAreReached, IsLine, AreLeaving, Tell, TraceByEvents, OneTelling, held_at, PeakIsGreatest}
use Rattle.tree_laws.proofs.Lists.{In-left, In-right, In-append, In-filter}
use Rattle.tree_laws.proofs.Matches.{Numbered-low, Numbered-high, Grown-grow, added as added_nodes, grow_nodes}
use Rattle.tree_laws.proofs.Growing.{grows}
use Rattle.tree_laws.proofs.Departures.{rising_filter, falling_same, departed_are_gone}
use Rattle.tree_laws.proofs.Fed.{grown_from, root_from}
use Rattle.tree_laws.proofs.Order.{Rising-append}
use Rattle.placed_laws.proofs.RunForms.{prefix_law}

-- lists cut at a place

-- the element with the number k
abbrev Nth : {X : Type 0} → ℕ → List X → Type 0
Nth {X} k xs = (a : X) × (xs ≡ take k xs ++ a ∷ drop (suc k) xs) × (take (suc k) xs ≡ take k xs ++ a ∷ []) × (drop k xs ≡ a ∷ drop (suc k) xs) × (length (take k xs) ≡ k)

nth : {X : Type 0} (k : ℕ) (xs : List X) → k < length xs → Nth k xs
nth k [] l = absurd (omega arith)
nth zero (x ∷ xs) l = (x, refl, refl, refl, refl)
nth (suc k) (x ∷ xs) l = let r = nth k xs (omega arith) in (r.0, ap (λ z. x ∷ z) r.1, ap (λ z. x ∷ z) r.2, r.3, ap suc r.4)

take_front : {X : Type 0} (xs ys : List X) → take (length xs) (xs ++ ys) ≡ xs
take_front [] ys = refl
take_front (x ∷ xs) ys = ap (λ z. x ∷ z) (take_front xs ys)

-- nodes

rising_numbered : (k : ℕ) (xs : List Node) → Numbered k xs → Rising xs
rising_numbered k [] h = tt
rising_numbered k (x ∷ xs) h = ((λ y i. let f = Numbered-low (suc k) xs h.1 y i in omega arith), rising_numbered (suc k) xs h.1)

pub numbered_rest : (k : ℕ) (xs ys : List Node) → Numbered k (xs ++ ys) → Numbered (k + length xs) ys
numbered_rest k [] ys h = let e : k + 0 ≡ k = omega arith in subst (λ (z : ℕ). Numbered z ys) (sym e) h
numbered_rest k (x ∷ xs) ys h = let e : suc k + length xs ≡ k + suc (length xs) = omega arith in subst (λ (z : ℕ). Numbered z ys) e (numbered_rest (suc k) xs ys h.1)

-- where a token may come some node is open
open_node : (P Q : Tree) → Grow P Q → (p : Node) × (P.at ≡ Some p)
open_node P Q (opened p name named at h n a) = (p, at)
open_node P Q (added p s k b at h g n a) = (Under p s k, at)
open_node P Q (closed p s k at n a) = (Under p s k, at)
open_node P Q (ended at h n a) = (Root, at)

module _ (plan : PlanTree) where
  -- all that is taken stays taken while a token comes
  longer : (P : Tree) → Leads opening P → (t : TreeToken) → Grow P (grow t P) → (rest : List Action) × (actions plan (grow t P) ≡ actions plan P ++ rest)
  longer P l t g = (prefix_law P (grow t P) l (more stays g) plan.body env0 (λ x. root_from P l)).0

  -- the events

  abbrev Run_from : Tree → ℕ → List TreeToken → Type 0
  Run_from P k ts = (es : List Event) × DemandRun plan P k ts es

  acts_up : (P : Tree) (ts : List TreeToken) (n k : ℕ) → k + n ≡ length (actions plan P) → ((j : ℕ) → j ≡ length (actions plan P) → Run_from P j ts) → Run_from P k ts
  acts_up P ts zero k e h = h k (omega arith)
  acts_up P ts (suc n) k e h = let r = acts_up P ts n (suc k) (omega arith) h in (ActEvent P k ∷ r.0, acts (omega arith) r.1)

  run_from : (ts : List TreeToken) (P : Tree) → Leads opening P → may_all ts P ≡ true → (j : ℕ) → j ≡ length (actions plan P) → Run_from P j ts
  run_from [] P l m j e = ([], ends e)
  run_from (t ∷ ts) P l m j e =
      let a = and_parts (may_come t P) (may_all ts (grow t P)) m in
      let g = grows t P a.0 in
      let q = longer P l t g in
      let n : j + length q.0 ≡ length (actions plan (grow t P)) = ap (λ (z : ℕ). z + length q.0) e ∙ (sym (length-append (actions plan P) q.0) ∙ ap length (sym q.1)) in
      let r = acts_up (grow t P) ts (length q.0) j n (run_from ts (grow t P) (more l g) a.1) in
      (FeedEvent t P j ∷ r.0, feeds e r.1)

  same_run : (P : Tree) (k : ℕ) (ts : List TreeToken) (es fs : List Event) → DemandRun plan P k ts es → DemandRun plan P k ts fs → fs ≡ es
  same_run P k ts es fs (acts {es = es'} l h) (acts {es = fs'} l' h') = ap (λ z. ActEvent P k ∷ z) (same_run P (suc k) ts es' fs' h h')
  same_run P k ts es fs (acts l h) (feeds e h') = absurd (omega arith)
  same_run P k ts es fs (acts l h) (ends e) = absurd (omega arith)
  same_run P k ts es fs (feeds e h) (acts l h') = absurd (omega arith)
  same_run P k ts es fs (feeds {t = t} {ts = us} {es = es'} e h) (feeds {es = fs'} e' h') = ap (λ z. FeedEvent t P k ∷ z) (same_run (grow t P) k us es' fs' h h')
  same_run P k ts es fs (ends e) (acts l h) = absurd (omega arith)
  same_run P k ts es fs (ends e) (ends e') = refl

  reached : (P : Tree) (k : ℕ) (ts : List TreeToken) (es : List Event) → DemandRun plan P k ts es → may_all ts P ≡ true → CoreState plan P k
      → (e : Event) → In e es → CoreState plan (tree_before e) (taken_before e) × CoreState plan (tree_behind e) (taken_behind e)
  reached P k ts es (acts l h) m r e (inl f) = subst (λ (z : Event). CoreState plan (tree_before z) (taken_before z) × CoreState plan (tree_behind z) (taken_behind z)) f (r, acted r l)
  reached P k ts es (acts {es = es'} l h) m r e (inr i) = reached P (suc k) ts es' h m (acted r l) e i
  reached P k ts es (feeds {t = t} {ts = us} {es = es'} q h) m r e i =
      let a = and_parts (may_come t P) (may_all us (grow t P)) m in
      let r' : CoreState plan (grow t P) k = fed r (grows t P a.0) in
      elim i [
        | inl f ↦ subst (λ (z : Event). CoreState plan (tree_before z) (taken_before z) × CoreState plan (tree_behind z) (taken_behind z)) f (r, r')
        | inr j ↦ reached (grow t P) k us es' h a.1 r' e j
      ]
  reached P k ts es (ends q) m r e i = absurd i

  -- the lines

  line_at : (at : Option Node) (p : Node) (t : TreeToken) (P : Tree) (k : ℕ) → P.at ≡ at → at ≡ Some p → (l : Line) × (feed_line plan t at P (grow_at at t P) ≡ l ∷ [])
      × (((n : Node) × ((grow_at at t P).nodes ≡ P.nodes ++ n ∷ []) × (l ≡ Opened (serial_of n) (line_kind (kind_of n)) (roles_given plan (grow_at at t P) n)))
      ⊎ (((grow_at at t P).nodes ≡ P.nodes) × ((q : Node) × (P.at ≡ Some q) × (l ≡ Closed (serial_of q)))))
  line_at None p t P k e f = absurd (cc)
  line_at (Some q) p (Start name) P k e f = (_, refl, inl (Under q (length P.nodes) (Element name), refl, refl))
  line_at (Some q) p (Chars b) P k e f = (_, refl, inl (Under q (length P.nodes) (Text b), refl, refl))
  line_at (Some Root) p End P k e f = (_, refl, inr (refl, (Root, e, refl)))
  line_at (Some (Under q s j)) p End P k e f = (_, refl, inr (refl, (Under q s j, e, refl)))

  abbrev Own_line : TreeToken → Tree → ℕ → Type 0
  Own_line t P k = (l : Line) × (feed_line plan t P.at P (grow t P) ≡ l ∷ []) × IsLine plan (FeedEvent t P k) l

  own_line : (t : TreeToken) (P : Tree) (k : ℕ) → Grow P (grow t P) → Own_line t P k
  own_line t P k g = let o = open_node P (grow t P) g in line_at P.at o.0 t P k refl o.1

  held_in : (P : Tree) (A : List Action) (n : Node) → In n (held plan P A) → In n P.nodes
  held_in P A n i = (In-filter (is_held plan P A) n P.nodes i).0

  leaving_by_act : (P : Tree) → Grown P → (k : ℕ) → AreLeaving plan (ActEvent P k) (departed (held plan P (so_far plan P k)) (held plan P (so_far plan P (suc k))))
  leaving_by_act P w k =
      let A : List Action = so_far plan P k in
      let B : List Action = so_far plan P (suc k) in
      let d = departed_are_gone P w (held plan P A) (held plan P B) (rising_filter (is_held plan P A) P.nodes (rising_numbered 0 P.nodes w.numbered)) (held_in P A) (held_in P B) in
      record {
        falling = d.0;
        each = λ s. (
          (λ i. let g = (d.1 s).0 i in (g.0, g.1, (inl g.2.0, g.2.1))),
          (λ h. (d.1 s).1 (h.0, h.1, (elim h.2.0 [ inl i ↦ i | inr i ↦ absurd (i.1 i.0) ], h.2.1))),
        );
      }

  leaving_by_feed : (t : TreeToken) (P : Tree) → Grown P → (k : ℕ) → so_far plan P k ≡ so_far plan (grow t P) k
      → AreLeaving plan (FeedEvent t P k) (departed (held plan P (so_far plan P k) ++ drop (length P.nodes) (grow t P).nodes) (held plan (grow t P) (so_far plan (grow t P) k)))
  leaving_by_feed t P w k e =
      let Q : Tree = grow t P in
      let v : Grown Q = Grown-grow t P w in
      let A : List Action = so_far plan P k in
      let B : List Action = so_far plan Q k in
      let new : List Node = added_nodes t P in
      let cut : drop (length P.nodes) Q.nodes ≡ new = ap (drop (length P.nodes)) (grow_nodes t P) ∙ drop-append_seam P.nodes new in
      let of_new : Numbered (0 + length P.nodes) new = numbered_rest 0 P.nodes new (subst (λ (z : List Node). Numbered 0 z) (grow_nodes t P) v.numbered) in
      let old_in : (n : Node) → In n P.nodes → In n Q.nodes = λ n i. subst (λ (z : List Node). In n z) (sym (grow_nodes t P)) (In-left n P.nodes new i) in
      let new_in : (n : Node) → In n new → In n Q.nodes = λ n i. subst (λ (z : List Node). In n z) (sym (grow_nodes t P)) (In-right n P.nodes new i) in
      let above : (a b : Node) → In a P.nodes → In b new → serial_of a < serial_of b = λ a b i j.
      let f = Numbered-high 0 P.nodes w.numbered a i in let g = Numbered-low (0 + length P.nodes) new of_new b j in omega arith in
      let there : List Node = held plan P A ++ new in
      let there_in : (n : Node) → In n there → In n Q.nodes = λ n i. elim (In-append n (held plan P A) new i) [ inl j ↦ old_in n (held_in P A n j) | inr j ↦ new_in n j ] in
      let rising : Rising there = Rising-append (held plan P A) new (rising_filter (is_held plan P A) P.nodes (rising_numbered 0 P.nodes w.numbered)) (rising_numbered (0 + length P.nodes) new of_new) (λ a b i j. above a b (held_in P A a i) j) in
      let d = departed_are_gone Q v there (held plan Q B) rising there_in (held_in Q B) in
      let not_old : (n : Node) → In n new → In n P.nodes → ⊥ = λ n i j. let f = above n n j i in absurd (omega arith) in
      let result : AreLeaving plan (FeedEvent t P k) (departed there (held plan Q B)) = record {
        falling = d.0;
        each = λ s. (
          (λ i. let g = (d.1 s).0 i in (g.0, g.1, (elim (In-append g.0 (held plan P A) new g.2.0) [ inl j ↦ inl j | inr j ↦ inr (new_in g.0 j, not_old g.0 j) ], g.2.1))),
          (λ h. (d.1 s).1 (
            h.0,
            h.1,
            (
              elim h.2.0 [
                | inl i ↦ In-left h.0 (held plan P A) new i
                | inr i ↦ elim (In-append h.0 P.nodes new (subst (λ (z : List Node). In h.0 z) (grow_nodes t P) i.0)) [ inl j ↦ absurd (i.1 j) | inr j ↦ In-right h.0 (held plan P A) new j ]
              ],
              h.2.1,
            ),
          )),
        );
      } in
      subst (λ (z : List Node). AreLeaving plan (FeedEvent t P k) (departed (held plan P A ++ z) (held plan Q B))) (sym cut) result

  told : (P : Tree) (k : ℕ) (ts : List TreeToken) (es : List Event) → DemandRun plan P k ts es → may_all ts P ≡ true → Leads opening P
      → Tell plan es (act_lines plan P (so_far plan P k) (drop k (actions plan P)) ++ demand plan ts P)
  told P k ts es (acts {es = es'} l h) m o =
      let r = nth k (actions plan P) l in
      let A : List Action = so_far plan P k in
      let B : List Action = so_far plan P (suc k) in
      let D : List Line = demand plan ts P in
      let rest : List Line = act_lines plan P B (drop (suc k) (actions plan P)) ++ D in
      let here_lines : act_lines plan P A (r.0 ∷ drop (suc k) (actions plan P)) ≡ action_line r.0 ∷ (left (held plan P A) (held plan P B) ++ act_lines plan P B (drop (suc k) (actions plan P))) =
      ap (λ z. action_line r.0 ∷ (left (held plan P A) (held plan P z) ++ act_lines plan P z (drop (suc k) (actions plan P)))) (sym r.2) in (
        action_line r.0,
        departed (held plan P A) (held plan P B),
        rest,
        (A, drop (suc k) (actions plan P), r.0, r.1, r.4, refl),
        leaving_by_act P (grown_from P o) k,
        told P (suc k) ts es' h m o,
        ap (λ z. act_lines plan P A z ++ D) r.3 ∙ (ap (λ z. z ++ D) here_lines ∙ ap (λ z. action_line r.0 ∷ z) (append_assoc (left (held plan P A) (held plan P B)) (act_lines plan P B (drop (suc k) (actions plan P))) D)),
      )
  told P k ts es (feeds {t = t} {ts = us} {es = es'} e h) m o =
      let a = and_parts (may_come t P) (may_all us (grow t P)) m in
      let g = grows t P a.0 in
      let Q : Tree = grow t P in
      let A : List Action = actions plan P in
      let q = longer P o t g in
      let all : so_far plan P k ≡ A = ap (λ (z : ℕ). take z A) e ∙ take-length A in
      let none : drop k A ≡ [] = ap (λ (z : ℕ). drop z A) e ∙ drop-length A in
      let same : so_far plan Q k ≡ A = ap (take k) q.1 ∙ (ap (λ (z : ℕ). take z (A ++ q.0)) e ∙ take_front A q.0) in
      let own = own_line t P k g in
      let gone : List ℕ = departed (held plan P A ++ drop (length P.nodes) Q.nodes) (held plan Q A) in
      let D : List Line = demand plan us Q in
      let rest : List Line = act_lines plan Q A (drop k (actions plan Q)) ++ D in
      let leaving : AreLeaving plan (FeedEvent t P k) gone =
      subst (λ (z : List Action). AreLeaving plan (FeedEvent t P k) (departed (held plan P A ++ drop (length P.nodes) Q.nodes) (held plan Q z))) same
      (subst (λ (z : List Action). AreLeaving plan (FeedEvent t P k) (departed (held plan P z ++ drop (length P.nodes) Q.nodes) (held plan Q (so_far plan Q k)))) all (leaving_by_feed t P (grown_from P o) k (all ∙ sym same))) in
      let ih : Tell plan es' rest = subst (λ (z : List Action). Tell plan es' (act_lines plan Q z (drop k (actions plan Q)) ++ D)) same (told Q k us es' h a.1 (more o g)) in
      let acts_behind : List Line = act_lines plan Q A (drop k (actions plan Q)) in
      let cut : drop (length A) (actions plan Q) ≡ drop k (actions plan Q) = ap (λ (z : ℕ). drop z (actions plan Q)) (sym e) in (
        own.0,
        gone,
        rest,
        own.2,
        leaving,
        ih,
        ap (λ z. act_lines plan P (so_far plan P k) z ++ demand plan (t ∷ us) P) none
            ∙ (ap (λ z. (feed_line plan t P.at P Q ++ (map Left gone ++ act_lines plan Q A z)) ++ D) cut
            ∙ (ap (λ z. (z ++ (map Left gone ++ acts_behind)) ++ D) own.1
            ∙ ap (λ z. own.0 ∷ z) (append_assoc (map Left gone) acts_behind D))),
      )
  told P k ts es (ends e) m o = ap (λ z. act_lines plan P (so_far plan P k) z ++ []) (ap (λ (z : ℕ). drop z (actions plan P)) e ∙ drop-length (actions plan P))

pub one_demand_run : OneDemandRun
one_demand_run plan ts m =
    let n : 0 + length (actions plan opening) ≡ length (actions plan opening) = omega arith in
    let r = acts_up plan opening ts (length (actions plan opening)) 0 n (run_from plan ts opening stays m) in
    (r.0, r.1, λ fs h. same_run plan opening 0 ts r.0 fs r.1 h)

pub events_are_reached : EventsAreReached
events_are_reached plan ts m es h = reached plan opening 0 ts es h m here

pub trace_by_events : TraceByEvents
trace_by_events plan ts m es h = (act_lines plan opening [] (actions plan opening) ++ demand plan ts opening, told plan opening 0 ts es h m stays, refl)

-- one telling

last_same : (xs : List Node) (a b : Node) → xs ++ a ∷ [] ≡ xs ++ b ∷ [] → a ≡ b
last_same [] a b e = cc
last_same (x ∷ xs) a b e = let f : xs ++ a ∷ [] ≡ xs ++ b ∷ [] = cc in last_same xs a b f

not_longer : (xs : List Node) (a : Node) → xs ++ a ∷ [] ≡ xs → ⊥
not_longer xs a e = let f = ap length e in let g = length-append xs (a ∷ []) in absurd (omega arith)

middle_same : (xs ys us vs : List Action) (a b : Action) → length xs ≡ length us → xs ++ a ∷ ys ≡ us ++ b ∷ vs → a ≡ b
middle_same [] ys [] vs a b l e = cc
middle_same [] ys (u ∷ us) vs a b l e = absurd (omega arith)
middle_same (x ∷ xs) ys [] vs a b l e = absurd (omega arith)
middle_same (x ∷ xs) ys (u ∷ us) vs a b l e = let f : xs ++ a ∷ ys ≡ us ++ b ∷ vs = cc in middle_same xs ys us vs a b (omega arith) f

line_same : (plan : PlanTree) (e : Event) (l m : Line) → IsLine plan e l → IsLine plan e m → l ≡ m
line_same plan (FeedEvent t P k) l m (inl h) (inl g) =
    let n : h.0 ≡ g.0 = last_same P.nodes h.0 g.0 (sym h.1 ∙ g.1) in
    h.2 ∙ (ap (λ (z : Node). Opened (serial_of z) (line_kind (kind_of z)) (roles_given plan (grow t P) z)) n ∙ sym g.2)
line_same plan (FeedEvent t P k) l m (inl h) (inr g) = absurd (not_longer P.nodes h.0 (sym h.1 ∙ g.0))
line_same plan (FeedEvent t P k) l m (inr h) (inl g) = absurd (not_longer P.nodes g.0 (sym g.1 ∙ h.0))
line_same plan (FeedEvent t P k) l m (inr h) (inr g) = h.1.2 ∙ (ap (λ (z : Node). Closed (serial_of z)) (same_Some _ _ (sym h.1.1 ∙ g.1.1)) ∙ sym g.1.2)
line_same plan (ActEvent P k) l m h g = h.5 ∙ (ap action_line (middle_same h.0 h.1 g.0 g.1 h.2 g.2 (h.4 ∙ sym g.4) (sym h.3 ∙ g.3)) ∙ sym g.5)

pub one_telling : OneTelling
one_telling plan [] ls ms h k = h ∙ sym k
one_telling plan (e ∷ es) ls ms h k =
    let l : h.0 ≡ k.0 = line_same plan e h.0 k.0 h.3 k.3 in
    let d : AreLeaving plan e h.1 = h.4 in
    let f : AreLeaving plan e k.1 = k.4 in
    let s : h.1 ≡ k.1 = falling_same h.1 k.1 d.falling f.falling (λ s i. (f.each s).1 ((d.each s).0 i)) (λ s i. (d.each s).1 ((f.each s).0 i)) in
    let r : h.2 ≡ k.2 = one_telling plan es h.2 k.2 h.5 k.5 in
    h.6 ∙ (ap (λ (z : Line). z ∷ (map Left h.1 ++ h.2)) l ∙ (ap (λ (z : List ℕ). k.0 ∷ (map Left z ++ h.2)) s ∙ (ap (λ (z : List Line). k.0 ∷ (map Left k.1 ++ z)) r ∙ sym k.6)))

-- the peak

abbrev held_on : PlanTree → Tree → (before : List TreeToken) (t : TreeToken) → List Node
held_on plan P before t = held plan (grow t (grow_all before P)) (actions plan (grow_all before P))

not_passed : (plan : PlanTree) (before after : List TreeToken) (t : TreeToken) (P : Tree) → length (held_on plan P before t) ≤ peak_from plan (before ++ t ∷ after) P
not_passed plan [] after t P = omega arith
not_passed plan (b ∷ before) after t P = let h = not_passed plan before after t (grow b P) in omega arith

abbrev Attained : PlanTree → List TreeToken → Tree → Type 0
Attained plan ts P = (before after : List TreeToken) × (t : TreeToken) × (ts ≡ before ++ t ∷ after) × (length (held_on plan P before t) ≡ peak_from plan ts P)

attained : (plan : PlanTree) (ts : List TreeToken) (P : Tree) → (peak_from plan ts P ≡ 0) ⊎ Attained plan ts P
attained plan [] P = inl refl
attained plan (t ∷ ts) P = go (attained plan ts (grow t P))
  where
    a : ℕ
    a = length (held plan (grow t P) (actions plan P))

    here_first : peak_from plan ts (grow t P) ≤ a → Attained plan (t ∷ ts) P
    here_first l = ([], ts, t, refl, omega arith)

    go : (peak_from plan ts (grow t P) ≡ 0) ⊎ Attained plan ts (grow t P) → (peak_from plan (t ∷ ts) P ≡ 0) ⊎ Attained plan (t ∷ ts) P
    go (inl e) = inr (here_first (omega arith))
    go (inr r) = elim (cases_lt a (peak_from plan ts (grow t P))) [
      | inl l ↦ (let e = r.4 in inr (t ∷ r.0, r.1, r.2, ap (λ z. t ∷ z) r.3, omega arith))
      | inr l ↦ inr (here_first l)
    ]

pub peak_is_greatest : PeakIsGreatest
peak_is_greatest plan ts = (reached_peak (attained plan ts opening), omega arith, λ before after t e. subst (λ (z : List TreeToken). length (held_at plan before t) ≤ peak_of plan z) (sym e) (let h = not_passed plan before after t opening in omega arith))
  where
    start : ℕ
    start = length (held plan opening [])

    reached_peak : (peak_from plan ts opening ≡ 0) ⊎ Attained plan ts opening → (start ≡ peak_of plan ts) ⊎ ((before after : List TreeToken) × (t : TreeToken) × (ts ≡ before ++ t ∷ after) × (length (held_at plan before t) ≡ peak_of plan ts))
    reached_peak (inl e) = inl (omega arith)
    reached_peak (inr r) = elim (cases_lt start (peak_from plan ts opening)) [
      | inl l ↦ (let e = r.4 in inr (r.0, r.1, r.2, r.3, omega arith))
      | inr l ↦ inl (omega arith)
    ]
