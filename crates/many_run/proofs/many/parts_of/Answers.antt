use Rattle.std.proofs.Common.{◌≡◌, ◌∷◌, ◌++◌, ◌+◌, ◌≤◌, List, [], get_or, length, take, rules, sym, ap, subst, arith}
use Rattle.std.proofs.lemmas.List.{take_all, take_more}
use Rattle.std.specs.FinMap as map_of
use Rattle.std.specs.Vec.Iter.{into_iter_items}
use Rattle.gcx_model.specs.Tree.{opening}
use Rattle.gcx_model.specs.declared.plan.Plan.{Plan}
use Rattle.many_run.specs.Each.{OfEach}
use Rattle.many_run.specs.Parts.{BeginsParts}
use Rattle.many_run.proofs.Making.{each_first, each_rest, parts_more, parts_none}
use Rattle.many_run.proofs.Walking.{there_is}
use Rattle.many_run.proofs.many.parts_of.Goals as goal

pub plans-init : goal.plans-init
plans-init g c = record {
  begins = parts_none g.C.Conds.stands c.new-parts.result.items (search rules);
  stores = search rules;
  truths = search rules;
  stores_len = search rules;
  truths_len = search rules;
  empty = let same : into_iter_items c.into_iter-stores.result ≡ c.args.nodes.items = search rules in subst (λ (z : List g.row.N.Denot). OfEach (λ n. g.N.NodeStore.rows n ≡ map_of.empty) z) (sym same) c.requires.empty;
  conds = let same : into_iter_items c.into_iter-truths.result ≡ c.args.conds.items = search rules in subst (λ (z : List g.row.C.Denot). OfEach (λ k. g.C.Conds.stands k opening) z) (sym same) c.requires.conds;
}

-- as many stores and conditions are left as plans
pub unreachable-requires : goal.unreachable-requires
unreachable-requires g c =
    let n = c.plans.invariant.stores in
    let l = c.plans.invariant.stores_len in
    let none = c.in_default.ensures.cases.0 in
    let few = c.plans-test.true in
    omega (arith, n, l, none, few)

pub unreachable-requires-in_default-next : goal.unreachable-requires-in_default-next
unreachable-requires-in_default-next g c =
    let n = c.plans.invariant.truths in
    let l = c.plans.invariant.truths_len in
    let none = c.in_default-next.ensures.cases.0 in
    let few = c.plans-test.true in
    omega (arith, n, l, none, few)

pub new-requires-clause-placed : goal.new-requires-clause-placed
new-requires-clause-placed g c = c.requires.placed c.plans.plan-index c.plan-item.result (there_is c.args.plans.now c.plans.plan-index c.plan-item.result c.plans-test.true (search rules))

pub new-requires-clause-empty : goal.new-requires-clause-empty
new-requires-clause-empty g c = each_first (λ n. g.N.NodeStore.rows n ≡ map_of.empty) (into_iter_items c.plans.stores) c.in-Some.nodes _ c.in-Some.ensures.cases.0 c.plans.invariant.empty

pub new-requires-clause-conds : goal.new-requires-clause-conds
new-requires-clause-conds g c = each_first (λ k. g.C.Conds.stands k opening) (into_iter_items c.plans.truths) c.in-Some-next.conds _ c.in-Some-next.ensures.cases.0 c.plans.invariant.conds

pub plans-preserved : goal.plans-preserved
plans-preserved g c =
    let inv = c.plans.invariant in
    let k = c.plans.plan-index in
    let plans = c.args.plans.now in
    let plan = c.plan-item.result in
    let same : get_or plans k plan ≡ plan = search rules in
    let more : take (k + 1) plans ≡ take k plans ++ plan ∷ [] = subst (λ (z : Plan). take (k + 1) plans ≡ take k plans ++ z ∷ []) same (take_more plans k plan c.plans-test.true) in
    let pushed : c.push.new.self.items ≡ c.plans.parts.items ++ c.in_ok-new.field-0 ∷ [] = search rules in
    let next = parts_more g.C.Conds.stands (take k plans) plan c.plans.parts.items c.push.new.self.items c.in_ok-new.field-0 inv.begins pushed c.in_ok-new.ensures.made.plan_is c.in_ok-new.ensures.stands c.in_ok-new.ensures.written in
    let s = ap length c.in-Some.ensures.cases.0 in
    let t = ap length c.in-Some-next.ensures.cases.0 in
    let s_len = c.in-Some.ensures.cases.1 in
    let t_len = c.in-Some-next.ensures.cases.1 in
    let n = inv.stores in
    let m = inv.truths in
    let n_len = inv.stores_len in
    let m_len = inv.truths_len in
    record {
      begins = subst (λ (z : List Plan). BeginsParts g.C.Conds.stands z c.push.new.self.items) (sym more) next;
      stores = omega (arith, n, s);
      truths = omega (arith, m, t);
      stores_len = omega (arith, n_len, s, s_len);
      truths_len = omega (arith, m_len, t, t_len);
      empty = each_rest (λ x. g.N.NodeStore.rows x ≡ map_of.empty) (into_iter_items c.plans.stores) c.in-Some.nodes _ c.in-Some.ensures.cases.0 inv.empty;
      conds = each_rest (λ x. g.C.Conds.stands x opening) (into_iter_items c.plans.truths) c.in-Some-next.conds _ c.in-Some-next.ensures.cases.0 inv.conds;
    }

pub returns : goal.returns
returns g c =
    let past : length c.args.plans.now ≤ c.plans.plan-index = search rules in
    subst (λ (z : List Plan). BeginsParts g.C.Conds.stands z c.plans.parts.items) (take_all c.plans.plan-index c.args.plans.now past) c.plans.invariant.begins
