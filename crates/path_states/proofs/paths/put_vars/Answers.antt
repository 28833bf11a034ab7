use Rattle.std.proofs.Common.{◌∙◌, map, List, subst}
use Rattle.std.proofs.lemmas.List.{take_all}
use Rattle.gcx_model.specs.Held.{paths_from}
use Rattle.gcx_model.specs.PlanView.{var_row_tree}
use Rattle.gcx_model.specs.declared.plan.VarRow.{VarRow}
use Rattle.path_states.specs.Growing.{Growing}
use Rattle.path_states.proofs.Sprouting.{var_more}
use Rattle.path_states.proofs.paths.put_vars.Goals as goal

pub loop-row-preserved : goal.loop-row-preserved
loop-row-preserved c = λ paths ways g. var_more c.loop-row.tree.items c.put.new.tree.items c.args.vars.now c.loop-row.row-index c.row-item.result c.len.result c.known-parent.result paths ways c.loop-row-test.true c.row-item.is
    (c.loop-row.invariant paths ways g) (c.len.ensures ∙ c.loop-row.tree.ok.0) c.known-parent.ensures.within c.known-parent.ensures.is c.in_ok-put.ensures.grows

pub returns : goal.returns
returns c = λ paths ways g. subst (λ (z : List VarRow). Growing c.loop-row.tree.items (paths_from paths (map var_row_tree z)) ways) (take_all c.loop-row.row-index c.args.vars.now c.loop-row-test.false) (c.loop-row.invariant paths ways g)
