use Rattle.std.proofs.Common.{◌≡◌, ◌+◌, ◌<◌, ◌^◌, drop, map}
use Rattle.gcx_model.specs.CondView.{core_cond_tree, core_conds_of}
use Rattle.xq_normal.specs.Shapes.{capped}
use Rattle.xq_normal.specs.Sums.{conds_steps}
use Rattle.xq_normal.proofs.measure.+steps.Given as goal

abbrev pub invariant-member_steps-loop-cond : goal.invariant-member_steps-loop-cond
invariant-member_steps-loop-cond l = record {
  adds : capped (l.count + conds_steps (core_conds_of (map core_cond_tree (drop l.cond-index l.cond-items)))) ≡ capped (conds_steps (core_conds_of (map core_cond_tree l.cond-items)));
  fits : l.count < 2 ^ 64;
}
