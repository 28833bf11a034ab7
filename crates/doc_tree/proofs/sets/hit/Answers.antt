use Rattle.std.proofs.Common.{◌∙◌}
use Rattle.doc_tree.proofs.Numbers.{hits_more}
use Rattle.doc_tree.proofs.sets.hit.Goals as goal

pub loop-step-preserved : goal.loop-step-preserved
loop-step-preserved c = c.in_ok-set-2.ensures _ (c.deref.ensures.value ∙ c.loop-step.invariant) ∙ hits_more c.args.rows.now _ c.args.steps.now c.loop-step.step-index c.step-item.result c.loop-step-test.true c.step-item.is
