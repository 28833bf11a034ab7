use Rattle.std.proofs.Common.{◌≡◌, take}
use Rattle.std.specs.Prelude.{map}
use Rattle.gcx_model.specs.CondView.{core_cond_tree, core_cond_trees}
use Rattle.gcx_model.proofs.cond.+copy_core_conditions.Given as goal

abbrev pub invariant-CondList::copy-loop-cond : goal.invariant-CondList::copy-loop-cond
invariant-CondList::copy-loop-cond l = core_cond_trees l.copied ≡ map core_cond_tree (take l.cond-index l.cond-items)
