-- The demand run goes through core states.
use Rattle.std.proofs.Common.{◌≡◌, ℕ, zero, suc, ◌+◌, ◌≤◌, true, List, [], ◌∷◌, ◌++◌, length, refl, sym, ◌∙◌, ap, subst, arith, add-zero}
use Rattle.std.specs.Prelude.{take}
use Rattle.std.proofs.lemmas.List.{length-append}
use Rattle.std.proofs.lemmas.Bool.{and_parts}
use Rattle.gcx_model.specs.Tree.{Tree, TreeToken, opening, grow, grow_all}
use Rattle.gcx_model.specs.Core.{PlanTree}
use Rattle.gcx_model.specs.Run.{Action, Out, run, env0}
use Rattle.gcx_model.specs.Growth.{may_come, may_all}
use Rattle.gcx_model.specs.Points.{actions, here, fed, acted, CoreState}
use Rattle.placed_laws.specs.Runs.{DemandIsReached}
use Rattle.placed_laws.proofs.Prefix.{Before, Same, More}
use Rattle.placed_laws.proofs.Whole.{prefix}
use Rattle.tree_laws.proofs.Fed.{tree}
use Rattle.tree_laws.proofs.Growing.{grows, grow_all-append}

grow_last : (ts : List TreeToken) (t : TreeToken) → grow t (tree ts) ≡ tree (ts ++ t ∷ [])
grow_last ts t = sym (grow_all-append ts (t ∷ []) opening)

front : (a b : Out) → Before a b → (rest : List Action) × (b.acts ≡ a.acts ++ rest)
front a b (Same e) = ([], ap (λ (z : Out). z.acts) (sym e) ∙ sym (no_more a.acts))
  where
    no_more : (xs : List Action) → xs ++ [] ≡ xs
    no_more [] = refl
    no_more (x ∷ xs) = ap (λ z. x ∷ z) (no_more xs)
front a b (More f r e) = (r, e)

take_front : (xs ys : List Action) → take (length xs) (xs ++ ys) ≡ xs
take_front [] ys = take_none ys
  where
    take_none : (ys : List Action) → take 0 ys ≡ []
    take_none ys = refl
take_front (x ∷ xs) ys = ap (λ z. x ∷ z) (take_front xs ys)

module _ (plan : PlanTree) where
  abbrev long : Tree → ℕ
  long P = length (actions plan P)

  -- some more actions
  act_on : (P : Tree) (k n : ℕ) → k + n ≤ long P → CoreState plan P k → CoreState plan P (k + n)
  act_on P k zero l r = subst (λ (z : ℕ). CoreState plan P z) (sym (add-zero k)) r
  act_on P k (suc n) l r = let e : suc k + n ≡ k + suc n = omega arith in subst (λ (z : ℕ). CoreState plan P z) e (act_on P (suc k) n (omega arith) (acted r (omega arith)))

  longer : (ts : List TreeToken) (t : TreeToken) → (rest : List Action) × (actions plan (grow t (tree ts)) ≡ actions plan (tree ts) ++ rest)
  longer ts t = front (run plan.body env0 (tree ts)) (run plan.body env0 (grow t (tree ts))) (prefix ts (t ∷ []) plan.body)

  reached_on : (ts : List TreeToken) (t : TreeToken) → may_come t (tree ts) ≡ true → CoreState plan (tree ts) (long (tree ts)) → CoreState plan (grow t (tree ts)) (long (grow t (tree ts)))
  reached_on ts t m r =
      let h = longer ts t in
      let l : long (grow t (tree ts)) ≡ long (tree ts) + length h.0 = ap length h.1 ∙ length-append (actions plan (tree ts)) h.0 in
      subst (λ (z : ℕ). CoreState plan (grow t (tree ts)) z) (sym l) (act_on (grow t (tree ts)) (long (tree ts)) (length h.0) (omega arith) (fed r (grows t (tree ts) m)))

  reached_from : (ts us : List TreeToken) → may_all us (tree ts) ≡ true → CoreState plan (tree ts) (long (tree ts)) → CoreState plan (grow_all us (tree ts)) (long (grow_all us (tree ts)))
  reached_from ts [] m r = r
  reached_from ts (t ∷ us) m r =
      let a = and_parts (may_come t (tree ts)) (may_all us (grow t (tree ts))) m in
      let e : grow t (tree ts) ≡ tree (ts ++ t ∷ []) = grow_last ts t in
      let q : CoreState plan (tree (ts ++ t ∷ [])) (long (tree (ts ++ t ∷ []))) = subst (λ (z : Tree). CoreState plan z (long z)) e (reached_on ts t a.0 r) in
      subst (λ (z : Tree). CoreState plan (grow_all us z) (long (grow_all us z))) (sym e) (reached_from (ts ++ t ∷ []) us (subst (λ (z : Tree). may_all us z ≡ true) e a.1) q)

pub demand_is_reached : DemandIsReached
demand_is_reached plan ts m =
    let start : CoreState plan opening (long plan opening) = let e : 0 + long plan opening ≡ long plan opening = omega arith in subst (λ (z : ℕ). CoreState plan opening z) e (act_on plan opening 0 (long plan opening) (omega arith) here) in
    let all : CoreState plan (tree ts) (long plan (tree ts)) = reached_from plan [] ts m start in
    (all, λ t h. (fed all (grows t (tree ts) h), (let q = longer plan ts t in ap (take (long plan (tree ts))) q.1 ∙ take_front (actions plan (tree ts)) q.0)))
