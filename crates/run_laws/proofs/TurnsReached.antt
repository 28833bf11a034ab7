-- Turns of the two actors and core states.
use Rattle.std.proofs.Common.{◌≡◌, ℕ, zero, suc, ◌<◌, ◌≤◌, Bool, true, false, cond, ◌+◌, List, [], ◌∷◌, ◌++◌, length, refl, sym, ◌∙◌, ap, subst, arith, append_assoc, ltb}
use Rattle.std.specs.Prelude.{take}
use Rattle.std.proofs.lemmas.List.{append-nil, length-append}
use Rattle.std.proofs.lemmas.Bool.{and_parts, and_from, lt-ltb, ltb-true}
use Rattle.gcx_model.specs.Tree.{Tree, TreeToken, opening, grow, grow_all}
use Rattle.gcx_model.specs.Core.{PlanTree}
use Rattle.gcx_model.specs.Growth.{Grow, may_come, may_all}
use Rattle.gcx_model.specs.Points.{actions, here, fed, acted, CoreState}
use Rattle.gcx_model.specs.Turning.{Turn, Feed, Act, Turned, tree_fed, turn, turned_from, turned}
use Rattle.run_laws.specs.Turning.{TurnsReach, TurnsReachAll, OneTurnMore}
use Rattle.tree_laws.proofs.Growing.{grows, grow_all-append, may_all-append, fed_from}

more_turns : (plan : PlanTree) (ts : List TreeToken) (s : Turned) (us vs : List Turn) → turned_from plan ts s (us ++ vs) ≡ turned_from plan ts (turned_from plan ts s us) vs
more_turns plan ts s [] vs = refl
more_turns plan ts s (u ∷ us) vs = more_turns plan ts (turn plan ts u s) us vs

pub one_turn_more : OneTurnMore
one_turn_more plan ts turns t = more_turns plan ts (record { fed = 0; acted = 0 }) turns (t ∷ [])

-- the next token
next_token : (ts : List TreeToken) (k : ℕ) (P : Tree) → may_all ts P ≡ true → k < length ts → Grow (grow_all (take k ts) P) (grow_all (take (suc k) ts) P)
next_token [] k P m l = absurd (omega arith)
next_token (t ∷ ts) zero P m l = grows t P (and_parts (may_come t P) (may_all ts (grow t P)) m).0
next_token (t ∷ ts) (suc k) P m l = next_token ts k (grow t P) (and_parts (may_come t P) (may_all ts (grow t P)) m).1 (omega arith)

abbrev Reaches : PlanTree → List TreeToken → Turned → Type 0
Reaches plan ts s = CoreState plan (tree_fed ts s) s.acted × (s.fed ≤ length ts)

reach_turn : (plan : PlanTree) (ts : List TreeToken) → may_all ts opening ≡ true → (t : Turn) (s : Turned) → Reaches plan ts s → Reaches plan ts (turn plan ts t s)
reach_turn plan ts m Feed s h = go (ltb s.fed (length ts)) refl
  where
    go : (b : Bool) → ltb s.fed (length ts) ≡ b → Reaches plan ts (record { fed = cond b (suc s.fed) s.fed; acted = s.acted })
    go true e = let l = ltb-true s.fed (length ts) e in (fed h.0 (next_token ts s.fed opening m l), omega arith)
    go false e = h
reach_turn plan ts m Act s h = go (ltb s.acted (length (actions plan (tree_fed ts s)))) refl
  where
    go : (b : Bool) → ltb s.acted (length (actions plan (tree_fed ts s))) ≡ b → Reaches plan ts (record { fed = s.fed; acted = cond b (suc s.acted) s.acted })
    go true e = (acted h.0 (ltb-true s.acted (length (actions plan (tree_fed ts s))) e), h.1)
    go false e = h

reach_all : (plan : PlanTree) (ts : List TreeToken) → may_all ts opening ≡ true → (turns : List Turn) (s : Turned) → Reaches plan ts s → Reaches plan ts (turned_from plan ts s turns)
reach_all plan ts m [] s h = h
reach_all plan ts m (t ∷ turns) s h = reach_all plan ts m turns (turn plan ts t s) (reach_turn plan ts m t s h)

pub turns_reach : TurnsReach
turns_reach plan ts turns m = reach_all plan ts m turns (record { fed = 0; acted = 0 }) (here, omega arith)

-- turns that reach a state over these tokens, and over any more
pub record Found (plan : PlanTree) (P : Tree) (k : ℕ) : Type 0 where
  pub tokens : List TreeToken
  pub turns : List Turn
  pub may : may_all tokens opening ≡ true
  pub tree : grow_all tokens opening ≡ P
  pub reached : (us : List TreeToken) → turned plan (tokens ++ us) turns ≡ record { fed = length tokens; acted = k }

take_length : {X : Type 0} (xs ys : List X) → take (length xs) (xs ++ ys) ≡ xs
take_length [] ys = refl
take_length (x ∷ xs) ys = ap (λ z. x ∷ z) (take_length xs ys)

found : (plan : PlanTree) (P : Tree) (k : ℕ) → CoreState plan P k → Found plan P k
found plan P k here = record { tokens = []; turns = []; may = refl; tree = refl; reached = λ us. refl }
found plan Q k (fed {P = P} {Q = Q'} h g) =
    let r = found plan P k h in
    let t = fed_from P Q' g in
    let m : may_come t.0 (grow_all r.tokens opening) ≡ true = subst (λ (z : Tree). may_come t.0 z ≡ true) (sym r.tree) t.1 in
    record {
      tokens = r.tokens ++ t.0 ∷ [];
      turns = r.turns ++ Feed ∷ [];
      may = may_all-append r.tokens (t.0 ∷ []) opening r.may (and_from _ _ m refl);
      tree = grow_all-append r.tokens (t.0 ∷ []) opening ∙ (ap (grow t.0) r.tree ∙ sym t.2);
      reached = λ us.
          let ts : List TreeToken = (r.tokens ++ t.0 ∷ []) ++ us in
          let before : turned plan ts r.turns ≡ record { fed = length r.tokens; acted = k } =
          ap (λ z. turned plan z r.turns) (append_assoc r.tokens (t.0 ∷ []) us) ∙ r.reached (t.0 ∷ us) in
          let n : length ts ≡ length (r.tokens ++ t.0 ∷ []) + length us = length-append (r.tokens ++ t.0 ∷ []) us in
          let n' : length (r.tokens ++ t.0 ∷ []) ≡ length r.tokens + 1 = length-append r.tokens (t.0 ∷ []) in
          let b : ltb (length r.tokens) (length ts) ≡ true = lt-ltb (length r.tokens) (length ts) (omega arith) in
          let s : suc (length r.tokens) ≡ length (r.tokens ++ t.0 ∷ []) = omega arith in
          one_turn_more plan ts r.turns Feed
          ∙ (ap (turn plan ts Feed) before
          ∙ (ap (λ z. record { fed = cond z (suc (length r.tokens)) (length r.tokens); acted = k }) b
          ∙ ap (λ z. record { fed = z; acted = k }) s));
    }
found plan P k (acted {k = j} h l) =
    let r = found plan P j h in
    record {
      tokens = r.tokens;
      turns = r.turns ++ Act ∷ [];
      may = r.may;
      tree = r.tree;
      reached = λ us.
          let ts : List TreeToken = r.tokens ++ us in
          let tree_is : grow_all (take (length r.tokens) ts) opening ≡ P = ap (λ z. grow_all z opening) (take_length r.tokens us) ∙ r.tree in
          let b : ltb j (length (actions plan (grow_all (take (length r.tokens) ts) opening))) ≡ true =
          subst (λ (z : Tree). ltb j (length (actions plan z)) ≡ true) (sym tree_is) (lt-ltb j (length (actions plan P)) l) in
          one_turn_more plan ts r.turns Act
          ∙ (ap (turn plan ts Act) (r.reached us)
          ∙ ap (λ z. record { fed = length r.tokens; acted = cond z (suc j) j }) b);
    }

pub turns_reach_all : TurnsReachAll
turns_reach_all plan P k h =
    let r = found plan P k h in
    let e : turned plan r.tokens r.turns ≡ record { fed = length r.tokens; acted = k } = ap (λ z. turned plan z r.turns) (sym (append-nil r.tokens)) ∙ r.reached [] in (
      r.tokens,
      r.turns,
      r.may,
      ap (tree_fed r.tokens) e ∙ (ap (λ z. grow_all z opening) (ap (take (length r.tokens)) (sym (append-nil r.tokens)) ∙ take_length r.tokens []) ∙ r.tree),
      ap (λ (z : Turned). z.acted) e,
    )
