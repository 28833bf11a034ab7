use Rattle.std.proofs.Common.{◌≡◌, take}
use Rattle.std.specs.Prelude.{map}
use Rattle.gcx_model.specs.Query.{cond_tree, cond_trees}
use Rattle.gcx_model.proofs.query.+copy_conditions.Given as goal

abbrev pub invariant-QConds::copy-loop-cond : goal.invariant-QConds::copy-loop-cond
invariant-QConds::copy-loop-cond l = cond_trees l.copied ≡ map cond_tree (take l.cond-index l.cond-items)
