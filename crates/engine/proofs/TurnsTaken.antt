-- One turn more of the two actors.
use Rattle.std.proofs.Common.{◌≡◌, ℕ, zero, suc, ◌+◌, ◌<◌, ◌≤◌, ◌^◌, Bool, true, false, cond, List, [], ◌∷◌, ◌++◌, length, take, drop, map, refl, sym, ◌∙◌, ap, subst, arith, append_assoc, ltb}
use Rattle.std.specs.Prelude.{flat_map}
use Rattle.std.proofs.lemmas.List.{append-nil, take-append-drop, length-drop}
use Rattle.std.proofs.lemmas.Bool.{and_parts, lt-ltb, ltb-true}
use Rattle.std.proofs.lemmas.Grind.{flat_map-append}
use Rattle.gcx_model.specs.Tree.{Tree, TreeToken as Said, opening, grow, grow_all}
use Rattle.gcx_model.specs.Core.{PlanTree}
use Rattle.gcx_model.specs.Run.{bytes_of}
use Rattle.gcx_model.specs.Held.{sum_given}
use Rattle.gcx_model.specs.Growth.{Leads, more, stays, may_come, may_all}
use Rattle.gcx_model.specs.Points.{actions, so_far, CoreState}
use Rattle.gcx_model.specs.Turning.{Turn, Feed, Act, Turned, tree_fed, turn, turned, one_up_to}
use Rattle.tree_laws.proofs.Growing.{grow_all-append, grows, leads}
use Rattle.move_laws.proofs.Keeping.{taken_are_there}
use Rattle.run_laws.proofs.TurnsReached.{one_turn_more, turns_reach}
use Rattle.doc_reader.specs.Standing.{said_of}
use Rattle.buf_tree.specs.View.{capped}
use Rattle.engine.specs.declared.turns.Course.{Course}
use Rattle.run_part.specs.Actors.{past_at, ComesWithin, Goes, all_of, bytes_at, StandAt}
use Rattle.engine.specs.Turns.{Reaches, Tells, TurnsOn}
use Rattle.engine.specs.declared.turns.Reached.{Reached}
use Rattle.run_part.specs.Fronts.{may_parts}
use Rattle.run_part.proofs.Acting.{there}
use Rattle.run_part.proofs.Writing.{bytes_stay, goes_fed, goes_none, goes_on}
use Rattle.run_part.proofs.RowsHeld.{rows_count}
use Rattle.engine.proofs.Reporting.{given_exact, taken_exact}

cons_parts : {X : Type 0} (k : ℕ) (xs : List X) (x : X) (rest : List X) → drop k xs ≡ x ∷ rest → (k < length xs) × (take (suc k) xs ≡ take k xs ++ x ∷ []) × (drop (suc k) xs ≡ rest)
cons_parts zero [] x rest e = absurd (cc)
cons_parts zero (y ∷ xs) x rest e = let h : y ≡ x = cc in let r : xs ≡ rest = cc in (omega arith, ap (λ z. z ∷ []) h, r)
cons_parts (suc k) [] x rest e = absurd (cc)
cons_parts (suc k) (y ∷ xs) x rest e = let h = cons_parts k xs x rest e in let l = h.0 in (omega arith, ap (λ z. y ∷ z) h.1, h.2)

one_more : (k n : ℕ) → k < n → one_up_to k n ≡ suc k
one_more k n l = ap (λ z. cond z (suc k) k) (lt-ltb k n l)

none_more : (k n : ℕ) → n ≤ k → one_up_to k n ≡ k
none_more k n l = go (ltb k n) refl
  where
    go : (b : Bool) → ltb k n ≡ b → cond b (suc k) k ≡ k
    go true e = let h = ltb-true k n e in absurd (omega arith)
    go false e = refl

module _ {N C : Type 0} (stands : C → Tree → Type 0) (plan : PlanTree) (ts : List Said) (s : Turned) (a : Course N C) (h : Reaches stands plan ts s a) where
  abbrev P : Tree
  P = tree_fed ts s

  -- the next token may be fed
  module _ (t : Said) (rest : List Said) (e : drop s.fed ts ≡ t ∷ rest) where
    parts : ts ≡ take s.fed ts ++ t ∷ rest
    parts = sym (take-append-drop s.fed ts) ∙ ap (λ (z : List Said). take s.fed ts ++ z) e

    pub token_comes : ComesWithin t P
    token_comes =
        let m = may_parts (take s.fed ts) (t ∷ rest) opening (ap (λ (z : List Said). may_all z opening) (sym parts) ∙ h.may) in
        let w = h.within (take s.fed ts) (t ∷ rest) parts in
        record { may = (and_parts (may_come t P) (may_all rest (grow t P)) m.1).0; nodes = w.0; depth = w.1 }

    pub fed_is : turn plan ts Feed s ≡ record { fed = suc s.fed; acted = s.acted }
    fed_is = ap (λ z. record { fed = z; acted = s.acted }) (one_more s.fed (length ts) (cons_parts s.fed ts t rest e).0)

    pub tree_next : tree_fed ts (record { fed = suc s.fed; acted = s.acted }) ≡ grow t P
    tree_next = ap (λ (z : List Said). grow_all z opening) (cons_parts s.fed ts t rest e).1 ∙ grow_all-append (take s.fed ts) (t ∷ []) opening

    -- and was fed
    pub fed_reaches : (d : Course N C) → StandAt stands plan d.actors (grow t P) s.acted → map said_of d.tokens.items ≡ rest → d.fed ≡ a.fed + 1 → d.acted ≡ a.acted
        → d.actors.counts.given ≡ capped (sum_given plan (grow t P)) → Reaches stands plan ts (turn plan ts Feed s) d
    fed_reaches d actors left f k g =
        let c = cons_parts s.fed ts t rest e in
        let l = c.0 in
        let f0 = h.fed_is in
        subst (λ (z : Turned). Reaches stands plan ts z d) (sym fed_is) (record {
          may = h.may;
          within = h.within;
          actors = subst (λ (T : Tree). StandAt stands plan d.actors T s.acted) (sym tree_next) actors;
          there = omega arith;
          left = left ∙ sym c.2;
          fed_is = omega arith;
          acted_is = k ∙ h.acted_is;
          given_is = g ∙ ap (λ (T : Tree). capped (sum_given plan T)) (sym tree_next);
        })

  -- no token is left
  pub none_left : drop s.fed ts ≡ [] → turn plan ts Feed s ≡ s
  none_left e = let n = ap length e in let l = length-drop s.fed ts in ap (λ z. record { fed = z; acted = s.acted }) (none_more s.fed (length ts) (omega arith))

  -- a Feed writes nothing
  pub feed_goes : (w : List ℕ) → Goes plan P s.acted (tree_fed ts (turn plan ts Feed s)) s.acted w w
  feed_goes w = by_left (drop s.fed ts) refl
    where
      stands_there : s.acted ≤ all_of plan P
      stands_there = there plan (stands a.actors.machine.conds) a.actors.projector a.actors.machine.position a.actors.buffer P s.acted h.actors

      grown : Leads opening P
      grown = h.actors.beside.buffer.is_past.grown

      by_left : (xs : List Said) → drop s.fed ts ≡ xs → Goes plan P s.acted (tree_fed ts (turn plan ts Feed s)) s.acted w w
      by_left [] e = subst (λ (z : Turned). Goes plan P s.acted (tree_fed ts z) s.acted w w) (sym (none_left e)) (goes_none plan P s.acted w)
      by_left (t ∷ rest) e =
          subst (λ (z : Turned). Goes plan P s.acted (tree_fed ts z) s.acted w w) (sym (fed_is t rest e))
          (subst (λ (T : Tree). Goes plan P s.acted T s.acted w w) (sym (tree_next t rest e)) (goes_fed plan P (grow t P) s.acted w grown (more stays (grows t P (token_comes t rest e).may)) stands_there))

  -- an action more
  pub acted_reaches : (d : Course N C) → StandAt stands plan d.actors P (suc s.acted) → s.acted < all_of plan P → d.tokens ≡ a.tokens → d.fed ≡ a.fed → d.acted ≡ a.acted + 1 → d.actors.counts.given ≡ a.actors.counts.given
      → (u v : List ℕ) → Goes plan P s.acted P (suc s.acted) u v → TurnsOn stands plan ts s Act d u v
  acted_reaches d actors l tokens f k g u v goes =
      let is : turn plan ts Act s ≡ record { fed = s.fed; acted = suc s.acted } = ap (λ z. record { fed = s.fed; acted = z }) (one_more s.acted (length (actions plan P)) l) in
      let k0 = h.acted_is in
      let r : Reaches stands plan ts (record { fed = s.fed; acted = suc s.acted }) d = record {
        may = h.may;
        within = h.within;
        actors = actors;
        there = h.there;
        left = ap (λ z. map said_of z.items) tokens ∙ h.left;
        fed_is = f ∙ h.fed_is;
        acted_is = omega arith;
        given_is = g ∙ h.given_is;
      } in
      let p : TurnsAt (turn plan ts Act s) = subst TurnsAt (sym is) (r, goes) in
      record { reaches = p.0; goes = p.1 }
    where
      TurnsAt : Turned → Type 0
      TurnsAt z = Reaches stands plan ts z d × Goes plan P s.acted (tree_fed ts z) z.acted u v

  -- no action is left
  pub still_reaches : (d : Course N C) → StandAt stands plan d.actors P s.acted → s.acted ≡ all_of plan P → d.tokens ≡ a.tokens → d.fed ≡ a.fed → d.acted ≡ a.acted → d.actors.counts.given ≡ a.actors.counts.given
      → (u v : List ℕ) → v ≡ u → TurnsOn stands plan ts s Act d u v
  still_reaches d actors l tokens f k g u v same =
      let is : turn plan ts Act s ≡ s = ap (λ z. record { fed = s.fed; acted = z }) (none_more s.acted (length (actions plan P)) (omega arith)) in
      let r : Reaches stands plan ts s d = record {
        may = h.may;
        within = h.within;
        actors = actors;
        there = h.there;
        left = ap (λ z. map said_of z.items) tokens ∙ h.left;
        fed_is = f ∙ h.fed_is;
        acted_is = k ∙ h.acted_is;
        given_is = g ∙ h.given_is;
      } in
      let p : TurnsAt (turn plan ts Act s) = subst TurnsAt (sym is) (r, subst (λ (z : List ℕ). Goes plan P s.acted P s.acted u z) (sym same) (goes_none plan P s.acted u)) in
      record { reaches = p.0; goes = p.1 }
    where
      TurnsAt : Turned → Type 0
      TurnsAt z = Reaches stands plan ts z d × Goes plan P s.acted (tree_fed ts z) z.acted u v

  -- the numbers
  pub tells : length plan.roles < 2 ^ 64 → (r : Reached) → r.fed ≡ a.fed → r.acted ≡ a.acted → r.held ≡ length a.actors.buffer.rows → r.nodes ≡ a.actors.buffer.nodes → r.given ≡ a.actors.counts.given → r.taken ≡ a.actors.buffer.taken → Tells plan ts s r
  tells roles r f k held_is nodes g t =
      let few : length P.nodes ≤ 2 ^ 40 + 1 = (h.within (take s.fed ts) (drop s.fed ts) (sym (take-append-drop s.fed ts))).0 in
      record {
        fed_is = f ∙ h.fed_is;
        acted_is = k ∙ h.acted_is;
        held_is = held_is ∙ rows_count a.actors.buffer (past_at plan P s.acted h.actors.fed) h.actors.beside.buffer;
        nodes_is = nodes ∙ h.actors.beside.buffer.nodes;
        given_is = g ∙ (h.given_is ∙ given_exact plan P roles few);
        taken_is = t ∙ (h.actors.beside.taken ∙ taken_exact plan P roles few (so_far plan P s.acted));
      }

-- ---- some turns, one after the other

-- what the first turns reached
pub record TurnedTo {N C : Type 0} (stands : C → Tree → Type 0) (plan : PlanTree) (ts : List Said) (turns : List Turn) (a : Course N C) (before after : List ℕ) : Type 0 where
  pub reaches : Reaches stands plan ts (turned plan ts turns) a
  pub goes : Goes plan opening 0 (tree_fed ts (turned plan ts turns)) (turned plan ts turns).acted before after

pub turned_on : {N C : Type 0} (stands : C → Tree → Type 0) (plan : PlanTree) (ts : List Said) (turns : List Turn) (t : Turn) (a d : Course N C) (u v w : List ℕ) → TurnedTo stands plan ts turns a u v
    → TurnsOn stands plan ts (turned plan ts turns) t d v w → TurnedTo stands plan ts (turns ++ t ∷ []) d u w
turned_on stands plan ts turns t a d u v w h o =
    let e : turn plan ts t (turned plan ts turns) ≡ turned plan ts (turns ++ t ∷ []) = sym (one_turn_more plan ts turns t) in
    let g = goes_on plan opening 0 (tree_fed ts (turned plan ts turns)) (turned plan ts turns).acted (tree_fed ts (turn plan ts t (turned plan ts turns))) (turn plan ts t (turned plan ts turns)).acted u v w h.goes o.goes in
    record {
      reaches = subst (λ (z : Turned). Reaches stands plan ts z d) e o.reaches;
      goes = subst (λ (z : Turned). Goes plan opening 0 (tree_fed ts z) z.acted u w) e g;
    }

-- what all turns write begins with what the first ones write

take_more : {X : Type 0} (xs : List X) (k : ℕ) → (rest : List X) × (take (suc k) xs ≡ take k xs ++ rest)
take_more [] zero = ([], refl)
take_more [] (suc k) = ([], refl)
take_more (x ∷ xs) zero = (x ∷ [], refl)
take_more (x ∷ xs) (suc k) = let h = take_more xs k in (h.0, ap (λ z. x ∷ z) h.1)

module _ (plan : PlanTree) (ts : List Said) (may : may_all ts opening ≡ true) where
  -- the tree with one token more
  next_leads : (k : ℕ) → Leads opening (grow_all (take k ts) opening) × Leads (grow_all (take k ts) opening) (grow_all (take (suc k) ts) opening)
  next_leads k =
      let m = take_more ts k in
      let w : take (suc k) ts ++ drop (suc k) ts ≡ ts = take-append-drop (suc k) ts in
      let e : ts ≡ (take k ts ++ m.0) ++ drop (suc k) ts = sym w ∙ ap (λ (z : List Said). z ++ drop (suc k) ts) m.1 in
      let p = (may_parts (take k ts ++ m.0) (drop (suc k) ts) opening (ap (λ (z : List Said). may_all z opening) (sym e) ∙ may)).0 in
      let q = may_parts (take k ts) m.0 opening p in
      (leads (take k ts) opening q.0, subst (λ (T : Tree). Leads (grow_all (take k ts) opening) T) (sym (ap (λ (z : List Said). grow_all z opening) m.1 ∙ grow_all-append (take k ts) m.0 opening)) (leads m.0 (grow_all (take k ts) opening) q.1))

  turn_front : (t : Turn) (s : Turned) → CoreState plan (tree_fed ts s) s.acted → (rest : List ℕ) × (bytes_at plan (tree_fed ts (turn plan ts t s)) (turn plan ts t s).acted ≡ bytes_at plan (tree_fed ts s) s.acted ++ rest)
  turn_front Feed s c = ([], go (ltb s.fed (length ts)) ∙ sym (append-nil (bytes_at plan (tree_fed ts s) s.acted)))
    where
      go : (b : Bool) → bytes_at plan (grow_all (take (cond b (suc s.fed) s.fed) ts) opening) s.acted ≡ bytes_at plan (tree_fed ts s) s.acted
      go true = let l = next_leads s.fed in bytes_stay plan (tree_fed ts s) (grow_all (take (suc s.fed) ts) opening) s.acted l.0 l.1 (taken_are_there plan (tree_fed ts s) s.acted c)
      go false = refl
  turn_front Act s c = go (ltb s.acted (length (actions plan (tree_fed ts s))))
    where
      go : (b : Bool) → (rest : List ℕ) × (bytes_at plan (tree_fed ts s) (cond b (suc s.acted) s.acted) ≡ bytes_at plan (tree_fed ts s) s.acted ++ rest)
      go true = let m = take_more (actions plan (tree_fed ts s)) s.acted in (flat_map bytes_of m.0, ap (flat_map bytes_of) m.1 ∙ flat_map-append bytes_of (so_far plan (tree_fed ts s) s.acted) m.0)
      go false = ([], sym (append-nil (bytes_at plan (tree_fed ts s) s.acted)))

  abbrev at_turns : List Turn → List ℕ
  at_turns us = bytes_at plan (tree_fed ts (turned plan ts us)) (turned plan ts us).acted

  turns_front : (turns others : List Turn) → (rest : List ℕ) × (at_turns (turns ++ others) ≡ at_turns turns ++ rest)
  turns_front turns [] = ([], ap at_turns (append-nil turns) ∙ sym (append-nil (at_turns turns)))
  turns_front turns (t ∷ others) =
      let h = turns_front (turns ++ t ∷ []) others in
      let o = turn_front t (turned plan ts turns) (turns_reach plan ts turns may).0 in
      let e : at_turns (turns ++ t ∷ []) ≡ at_turns turns ++ o.0 = ap (λ (z : Turned). bytes_at plan (tree_fed ts z) z.acted) (one_turn_more plan ts turns t) ∙ o.1 in
      (o.0 ++ h.0, ap at_turns (sym (append_assoc turns (t ∷ []) others)) ∙ (h.1 ∙ (ap (λ (z : List ℕ). z ++ h.0) e ∙ append_assoc (at_turns turns) o.0 h.0)))

  -- what goes from the start is what is written so far
  from_opening : (P : Tree) (k : ℕ) (u v : List ℕ) → Goes plan opening 0 P k u v → v ≡ u ++ bytes_at plan P k
  from_opening P k u v g = g.grew ∙ ap (λ (z : List ℕ). u ++ z) (sym g.written)

  pub turned_written : (turns : List Turn) (u v : List ℕ) → Goes plan opening 0 (tree_fed ts (turned plan ts turns)) (turned plan ts turns).acted u v → v ≡ u ++ at_turns turns
  turned_written turns u v g = from_opening (tree_fed ts (turned plan ts turns)) (turned plan ts turns).acted u v g

  pub turned_front : (turns others : List Turn) (u v : List ℕ) → Goes plan opening 0 (tree_fed ts (turned plan ts turns)) (turned plan ts turns).acted u v
      → (part : List ℕ) × (rest : List ℕ) × (at_turns (turns ++ others) ≡ part ++ rest) × (v ≡ u ++ part)
  turned_front turns others u v g = let h = turns_front turns others in (at_turns turns, h.0, h.1, turned_written turns u v g)
