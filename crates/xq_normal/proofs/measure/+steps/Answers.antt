use Rattle.std.proofs.Common.{map, ap, arith, drop, ◌∙◌}
use Rattle.std.proofs.lemmas.List.{drop_all}
use Rattle.gcx_model.specs.CondView.{core_cond_tree, core_conds_of}
use Rattle.xq_normal.specs.Shapes.{capped}
use Rattle.xq_normal.specs.Sums.{conds_steps}
use Rattle.xq_normal.proofs.Counts.{counted}
use Rattle.xq_normal.proofs.measure.+steps.Goals as goal

pub member_steps-returns : goal.member_steps-returns
member_steps-returns t c =
    counted c.loop-cond.count (conds_steps (core_conds_of (map core_cond_tree (drop c.loop-cond.cond-index c.items-cond-items.result.now)))) (conds_steps (core_conds_of (map core_cond_tree c.items-cond-items.result.now))) c.loop-cond.invariant.fits
    (ap (λ es. conds_steps (core_conds_of (map core_cond_tree es))) (drop_all c.loop-cond.cond-index c.items-cond-items.result.now (omega arith))) c.loop-cond.invariant.adds
    ∙ ap (λ ts. capped (conds_steps (core_conds_of ts))) c.items-cond-items.ensures.trees
