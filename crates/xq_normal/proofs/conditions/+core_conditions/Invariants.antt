use Rattle.std.proofs.Common.{◌≡◌, take, map}
use Rattle.gcx_model.specs.CondView.{core_cond_trees}
use Rattle.xq_normal.specs.Scopes.{names_of}
use Rattle.xq_normal.proofs.Building.{cond_in}
use Rattle.xq_normal.proofs.conditions.+core_conditions.Given as goal

abbrev pub invariant-core_conds-loop-cond : goal.invariant-core_conds-loop-cond
invariant-core_conds-loop-cond l = core_cond_trees l.members ≡ map (cond_in (names_of l.scope)) (take l.cond-index l.cond-items)
