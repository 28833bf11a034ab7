use Rattle.std.proofs.Common.{◌≡◌, ◌∙◌, ◌∷◌, ◌++◌, ◌+◌, ◌≤◌, [], get_or, length, take, ap, rules, arith}
use Rattle.std.proofs.lemmas.List.{length_push, take_all, take_more}
use Rattle.gcx_model.specs.Tree.{opening}
use Rattle.join_index.specs.Index.{IsIndex}
use Rattle.many_run.proofs.Lists.{each_push}
use Rattle.gcx_cmd.proofs.Manies.{each_none}
use Rattle.gcx_cmd.proofs.many.conditions.Goals as goal

pub plans-init : goal.plans-init
plans-init c = record { count = ap length c.new-conds.ensures.items; stand = each_none (λ k. IsIndex k opening) c.new-conds.result.items c.new-conds.ensures.items }

pub plans-preserved : goal.plans-preserved
plans-preserved c =
    let k = c.plans.plan-index in
    let plans = c.args.plans.now in
    let pushed : c.push.new.self.items ≡ c.plans.conds.items ++ c.in_ok-new.field-0 ∷ [] = search rules in
    let e = ap length pushed in
    let f = length_push c.plans.conds.items c.in_ok-new.field-0 in
    let g = c.plans.invariant.count in
    let more = ap length (take_more plans k c.plan-item.result c.plans-test.true) in
    let one = length_push (take k plans) (get_or plans k c.plan-item.result) in
    record {
      count = omega arith;
      stand = each_push (λ x. IsIndex x opening) c.plans.conds.items c.push.new.self.items c.in_ok-new.field-0 c.plans.invariant.stand pushed (c.in_ok-new.ensures.fresh opening);
    }

pub returns-clause-count : goal.returns-clause-count
returns-clause-count c =
    let past : length c.args.plans.now ≤ c.plans.plan-index = search rules in
    c.plans.invariant.count ∙ ap length (take_all c.plans.plan-index c.args.plans.now past)

pub returns-clause-stand : goal.returns-clause-stand
returns-clause-stand c = c.plans.invariant.stand
