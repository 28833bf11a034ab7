-- Which pasts there are.
use Rattle.std.proofs.Common.{◌≡◌, ℕ, ◌+◌, ◌≤◌, List, [], ◌∷◌, ◌++◌, length, sym, ◌∙◌, ap, subst, inl, inr, arith}
use Rattle.std.proofs.lemmas.List.{length-append, length-take-le}
use Rattle.gcx_model.specs.Tree.{Node, serial_of, Tree, opening}
use Rattle.gcx_model.specs.Paths.{matches}
use Rattle.gcx_model.specs.Members.{In}
use Rattle.gcx_model.specs.Core.{OffTree, PlanTree}
use Rattle.gcx_model.specs.Run.{Action, Wrote, Offed, env0}
use Rattle.gcx_model.specs.Placed.{offs_in}
use Rattle.gcx_model.specs.Held.{path_of}
use Rattle.gcx_model.specs.Growth.{Leads, stays, more}
use Rattle.gcx_model.specs.Points.{actions, here, fed, acted, CoreState}
use Rattle.past_laws.specs.Pasts.{CoreStatePast, PastOpens, PastFeeds, PastActs}
use Rattle.tree_laws.proofs.Lists.{In-left, In-append}
use Rattle.tree_laws.proofs.Matches.{Matches-grow}
use Rattle.tree_laws.proofs.Growing.{grows}
use Rattle.placed_laws.proofs.RunForms.{prefix_law, reached_leads}
use Rattle.tree_laws.proofs.Fed.{root_from}
use Rattle.placed_laws.proofs.Balances.{offs_at_matches}

-- of the actions of a run no more than there are are taken
taken_within : (plan : PlanTree) (P : Tree) (k : ℕ) → CoreState plan P k → k ≤ length (actions plan P)
taken_within plan P k here = omega arith
taken_within plan P k (fed {P = Q} h g) =
    let i = taken_within plan Q k h in
    let l : Leads opening Q = (reached_leads plan opening 0 Q k h).0 in
    let r = (prefix_law Q P l (more stays g) plan.body env0 (λ x. root_from Q l)).0 in
    let n : length (actions plan P) ≡ length (actions plan Q) + length r.0 = ap length r.1 ∙ length-append (actions plan Q) r.0 in
    omega arith
taken_within plan P k (acted {k = j} h l) = omega arith

pub core_state_past : CoreStatePast
core_state_past core good plan pl P k r j l = record {
  core = core;
  good = good;
  placed = pl;
  grown = (reached_leads plan opening 0 P k r).0;
  stated = offs_at_matches core good plan pl P k r;
  within = let n = length-take-le k (actions plan P) (taken_within plan P k r) in omega arith;
}

pub past_opens : PastOpens
past_opens core good plan pl = record { core = core; good = good; placed = pl; grown = stays; stated = λ o m i. absurd i; within = omega arith }

pub past_feeds : PastFeeds
past_feeds past h t m = record {
  core = h.core;
  good = h.good;
  placed = h.placed;
  grown = more h.grown (grows t past.tree m);
  stated = λ o b i.
      let q = h.stated o b i in
      (q.0, (q.1.0, subst (λ (z : List Node). In q.1.0 z) (sym (Matches-grow t past.tree 0 (path_of past.plan o.base))) (In-left q.1.0 (matches past.tree 0 (path_of past.plan o.base)) _ q.1.1), q.1.2));
  within = omega arith;
}

pub offed_same : (a b : OffTree) (i j : ℕ) → Offed a i ≡ Offed b j → (a ≡ b) × (i ≡ j)
offed_same a b i j e = (cc, cc)

pub past_acts : PastActs
past_acts past h = (
  (λ b. record {
    core = h.core;
    good = h.good;
    placed = h.placed;
    grown = h.grown;
    stated = λ o m i. elim (In-append (Offed o m) past.acts (Wrote b ∷ []) i) [ inl j ↦ h.stated o m j | inr j ↦ elim j [ inl e ↦ absurd (cc) | inr k ↦ absurd k ] ];
    within = longer (Wrote b);
  }),
  (λ s n i j. record {
    core = h.core;
    good = h.good;
    placed = h.placed;
    grown = h.grown;
    stated = λ o m k. elim (In-append (Offed o m) past.acts (Offed s (serial_of n) ∷ []) k) [
      | inl a ↦ h.stated o m a
      | inr a ↦ elim a [
        | inl e ↦ (let q = offed_same s o (serial_of n) m e in
            subst (λ (z : OffTree). In z (offs_in past.plan.body) × ((x : Node) × In x (matches past.tree 0 (path_of past.plan z.base)) × (serial_of x ≡ m))) q.0 (i, (n, j, q.1)))
        | inr b ↦ absurd b
      ]
    ];
    within = longer (Offed s (serial_of n));
  }),
)
  where
    longer : (a : Action) → past.fed ≤ length (past.acts ++ a ∷ [])
    longer a = let l = length-append past.acts (a ∷ []) in let w = h.within in omega arith
