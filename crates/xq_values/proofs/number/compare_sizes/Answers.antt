use Rattle.std.proofs.Common.{rules, ◌≡◌, ◌≤◌, ◌-◌, ◌*◌, ◌^◌, ◌++◌, length, ap, ◌∙◌, arith, take, drop}
use Rattle.std.specs.Ordering.{nat_cmp, ordering_then}
use Rattle.std.specs.Cmp.{nat_cmp_is}
use Rattle.std.specs.declared.cmp.Ordering.TheVariants.{Greater}
use Rattle.gcx_model.specs.Values.{digits_from}
use Rattle.xq_values.proofs.Digits.{at_18_places}
use Rattle.xq_values.proofs.number.compare_sizes.Goals as goal

pub returns-in-Some : goal.returns-in-Some
returns-in-Some c =
    let size : c.in-Some.size ≡ digits_from 0 (c.args.whole.now ++ take c.min.result c.args.fraction.now) * 10 ^ (18 - length (take c.min.result c.args.fraction.now)) = search rules in
    let rest : c.split_at.result.1.now ≡ drop c.min.result c.args.fraction.now = search rules in
    c.then.ensures
    ∙ (λ i. ordering_then (c.cmp.ensures i) (c.compare_to_zero.ensures i))
    ∙ (λ i. ordering_then (nat_cmp (size i) c.args.units) (nat_cmp (digits_from 0 (rest i)) 0))
    ∙ at_18_places c.args.whole.now c.args.fraction.now c.min.result c.args.units c.min.ensures c.requires

pub returns-in-None : goal.returns-in-None
returns-in-None c =
    let large : 2 ^ 128 ≤ digits_from 0 (c.args.whole.now ++ take c.min.result c.args.fraction.now) * 10 ^ (18 - length (take c.min.result c.args.fraction.now)) = search rules in
    ap (λ o. ordering_then o (nat_cmp (digits_from 0 (drop c.min.result c.args.fraction.now)) 0)) (nat_cmp_is _ c.args.units Greater (omega (arith, large)))
    ∙ at_18_places c.args.whole.now c.args.fraction.now c.min.result c.args.units c.min.ensures c.requires
