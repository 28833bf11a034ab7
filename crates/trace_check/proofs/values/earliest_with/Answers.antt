use Rattle.std.proofs.Common.{ℕ, ◌+◌, Option, map, drop, ◌∙◌, ap, arith}
use Rattle.std.proofs.lemmas.List.{length-map}
use Rattle.gcx_model.specs.Values.{compare}
use Rattle.time_laws.specs.Times.{sooner, earliest_with}
use Rattle.trace_check.specs.Settling.{timed_in}
use Rattle.trace_check.proofs.Sooner.{timed_at, with_more}
use Rattle.trace_check.proofs.values.earliest_with.Goals as goal

pub loop-right-preserved : goal.loop-right-preserved
loop-right-preserved c =
    let rel = compare c.args.rel in
    let left = timed_in c.args.left.now in
    let others = c.args.others.now in
    let k = c.loop-right.right-index in
    let v = c.right-item.result in
    ap (λ (f : Option ℕ). sooner f (earliest_with rel left (drop (k + 1) (map timed_in others)))) c.sooner_of-first.ensures
    ∙ with_more rel left (map timed_in others) k (timed_in v) c.loop-right.first (sooner c.args.found (earliest_with rel left (map timed_in others)))
    (omega (arith, length-map others timed_in)) (timed_at others k v (omega arith) c.right-item.is) c.loop-right.invariant
