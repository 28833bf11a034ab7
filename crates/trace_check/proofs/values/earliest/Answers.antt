use Rattle.std.proofs.Common.{ℕ, ◌+◌, Option, map, drop, ◌∙◌, ap, arith}
use Rattle.std.proofs.lemmas.List.{length-map}
use Rattle.gcx_model.specs.Values.{compare}
use Rattle.time_laws.specs.Times.{sooner, earliest}
use Rattle.trace_check.specs.Settling.{timed_in}
use Rattle.trace_check.proofs.Sooner.{lefts_more, timed_at}
use Rattle.trace_check.proofs.values.earliest.Goals as goal

pub loop-left-preserved : goal.loop-left-preserved
loop-left-preserved c =
    let rel = compare c.args.rel in
    let lefts = c.args.lefts.now in
    let rights = map timed_in c.args.rights.now in
    let k = c.loop-left.left-index in
    let v = c.left-item.result in
    ap (λ (f : Option ℕ). sooner f (earliest rel (drop (k + 1) (map timed_in lefts)) rights)) c.earliest_with-found.ensures
    ∙ lefts_more rel (map timed_in lefts) rights k (timed_in v) c.loop-left.found (earliest rel (map timed_in lefts) rights)
    (omega (arith, length-map lefts timed_in)) (timed_at lefts k v (omega arith) c.left-item.is) c.loop-left.invariant
