use Rattle.std.proofs.Common.{◌∙◌, ◌&&◌, ap, true, Bool, List}
use Rattle.std.specs.Prelude.{slice_index_or}
use Rattle.gcx_model.specs.declared.plan.VarRow.{VarRow}
use Rattle.gcx_model.specs.Variables.{is_child}
use Rattle.buf_tree.proofs.Tables.{alone_next, alone_all}
use Rattle.buf_tree.proofs.spread.alone_variables.Goals as goal

pub loop-row-preserved : goal.loop-row-preserved
loop-row-preserved c =
    alone_next c.args.rows.now c.loop-row.row-index c.row-item.result _ _ _ c.loop-row-test.true c.loop-row.invariant
    (c.is_next_alone-all_child.ensures
    ∙ ap (λ (bs : List Bool). slice_index_or bs c.row-item.result.parent.0 true && is_child c.row-item.result.step.axis) c.deref.ensures.value
    ∙ ap (λ (r : VarRow). slice_index_or c.loop-row.alone.items r.parent.0 true && is_child r.step.axis) c.row-item.is)
    c.in_ok-push-2.ensures.items

pub returns : goal.returns
returns c = alone_all c.args.rows.now c.loop-row.row-index _ c.loop-row-test.false c.loop-row.invariant
