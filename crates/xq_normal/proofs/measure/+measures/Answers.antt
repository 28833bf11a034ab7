use Rattle.std.proofs.Common.{ℕ, ◌+◌, take, ap, sym, ◌∙◌}
use Rattle.gcx_model.specs.CondView.{core_cond_tree}
use Rattle.gcx_model.specs.ItemView.{body_tree, item_tree}
use Rattle.gcx_model.proofs.Folds.{fold_For, fold_If}
use Rattle.xq_normal.specs.Raw.{moved, moved_item}
use Rattle.xq_normal.specs.Shapes.{branch_copies, capped, code_shape, shape_of}
use Rattle.xq_normal.specs.Sums.{cond_bytes, cond_steps, condition_bytes, condition_steps}
use Rattle.xq_normal.proofs.Behind.{body_in}
use Rattle.xq_normal.proofs.Shapes.{branch_is, loop_sums, branch_sums, more_sums, more_shape}
use Rattle.xq_normal.proofs.measure.+measures.Goals as goal

pub measure-loop-item-preserved : goal.measure-loop-item-preserved
measure-loop-item-preserved t c = record {
  steps = λ n e.
      c.in_ok-next.ensures.steps (n + condition_steps (moved (body_in (take c.loop-item.item-index c.items-item-items.result.now)))) (c.loop-item.invariant.steps n e)
      ∙ ap capped (more_sums cond_steps c.items-item-items.result.now c.loop-item.item-index c.item-item.result n c.loop-item-test.true c.item-item.is);
  bytes = λ n e.
      c.in_ok-next.ensures.bytes (n + condition_bytes (moved (body_in (take c.loop-item.item-index c.items-item-items.result.now)))) (c.loop-item.invariant.bytes n e)
      ∙ ap capped (more_sums cond_bytes c.items-item-items.result.now c.loop-item.item-index c.item-item.result n c.loop-item-test.true c.item-item.is);
  shape =
      c.beside-shape.ensures (shape_of (moved (body_in (take c.loop-item.item-index c.items-item-items.result.now)))) (shape_of (moved_item (item_tree c.item-item.result))) c.loop-item.invariant.shape c.in_ok-next.ensures.shape
      ∙ ap code_shape (more_shape c.items-item-items.result.now c.loop-item.item-index c.item-item.result c.loop-item-test.true c.item-item.is);
}

pub measure_item-returns-in_ok-shape-in-For-clause-steps : goal.measure_item-returns-in_ok-shape-in-For-clause-steps
measure_item-returns-in_ok-shape-in-For-clause-steps t c = λ n e.
    c.in_ok-shape-in-For.ensures.steps n e ∙ ap (λ (k : ℕ). capped (n + k)) (loop_sums cond_steps c.in-For.var.0 c.in-For.from.0 c.in-For.step (body_tree c.in-For.body)
    ∙ ap (λ i. condition_steps (moved_item i)) (sym (ap item_tree c.in-For.is ∙ fold_For c.in-For.var c.in-For.from c.in-For.step c.in-For.body)))

pub measure_item-returns-in_ok-shape-in-For-clause-bytes : goal.measure_item-returns-in_ok-shape-in-For-clause-bytes
measure_item-returns-in_ok-shape-in-For-clause-bytes t c = λ n e.
    c.in_ok-shape-in-For.ensures.bytes n e ∙ ap (λ (k : ℕ). capped (n + k)) (loop_sums cond_bytes c.in-For.var.0 c.in-For.from.0 c.in-For.step (body_tree c.in-For.body)
    ∙ ap (λ i. condition_bytes (moved_item i)) (sym (ap item_tree c.in-For.is ∙ fold_For c.in-For.var c.in-For.from c.in-For.step c.in-For.body)))

pub measure_item-returns-in_ok-shape-in-For-clause-shape : goal.measure_item-returns-in_ok-shape-in-For-clause-shape
measure_item-returns-in_ok-shape-in-For-clause-shape t c =
    c.inside_loop.ensures (shape_of (moved (body_tree c.in-For.body))) c.in_ok-shape-in-For.ensures.shape
    ∙ ap (λ i. code_shape (shape_of (moved_item i))) (sym (ap item_tree c.in-For.is ∙ fold_For c.in-For.var c.in-For.from c.in-For.step c.in-For.body))

pub measure_item-returns-in_ok-add-in-If-clause-steps : goal.measure_item-returns-in_ok-add-in-If-clause-steps
measure_item-returns-in_ok-add-in-If-clause-steps t c = λ n e.
    c.in_ok-add-in-If.ensures.steps (n + condition_steps (moved (body_tree c.in-If.then)) + condition_steps (moved (body_tree c.in-If.other)))
    (branch_copies (shape_of (moved (body_tree c.in-If.then))) (shape_of (moved (body_tree c.in-If.other))))
    (c.in_ok-second-in-If.ensures.steps (n + condition_steps (moved (body_tree c.in-If.then))) (c.in_ok-first-in-If.ensures.steps n e))
    (c.branch_copies.ensures (shape_of (moved (body_tree c.in-If.then))) (shape_of (moved (body_tree c.in-If.other))) c.in_ok-first-in-If.ensures.shape c.in_ok-second-in-If.ensures.shape)
    ∙ ap capped (branch_sums cond_steps (core_cond_tree c.in-If.cond) (body_tree c.in-If.then) (body_tree c.in-If.other) n
    ∙ ap (λ i. n + condition_steps (moved_item i)) (sym (ap item_tree c.in-If.is ∙ fold_If c.in-If.cond c.in-If.then c.in-If.other)))

pub measure_item-returns-in_ok-add-in-If-clause-bytes : goal.measure_item-returns-in_ok-add-in-If-clause-bytes
measure_item-returns-in_ok-add-in-If-clause-bytes t c = λ n e.
    c.in_ok-add-in-If.ensures.bytes (n + condition_bytes (moved (body_tree c.in-If.then)) + condition_bytes (moved (body_tree c.in-If.other)))
    (branch_copies (shape_of (moved (body_tree c.in-If.then))) (shape_of (moved (body_tree c.in-If.other))))
    (c.in_ok-second-in-If.ensures.bytes (n + condition_bytes (moved (body_tree c.in-If.then))) (c.in_ok-first-in-If.ensures.bytes n e))
    (c.branch_copies.ensures (shape_of (moved (body_tree c.in-If.then))) (shape_of (moved (body_tree c.in-If.other))) c.in_ok-first-in-If.ensures.shape c.in_ok-second-in-If.ensures.shape)
    ∙ ap capped (branch_sums cond_bytes (core_cond_tree c.in-If.cond) (body_tree c.in-If.then) (body_tree c.in-If.other) n
    ∙ ap (λ i. n + condition_bytes (moved_item i)) (sym (ap item_tree c.in-If.is ∙ fold_If c.in-If.cond c.in-If.then c.in-If.other)))

pub measure_item-returns-in_ok-add-in-If-clause-shape : goal.measure_item-returns-in_ok-add-in-If-clause-shape
measure_item-returns-in_ok-add-in-If-clause-shape t c =
    c.branched.ensures (shape_of (moved (body_tree c.in-If.then))) (shape_of (moved (body_tree c.in-If.other))) c.in_ok-first-in-If.ensures.shape c.in_ok-second-in-If.ensures.shape
    ∙ ap code_shape (sym (branch_is (core_cond_tree c.in-If.cond) (moved (body_tree c.in-If.then)) (moved (body_tree c.in-If.other)))
    ∙ ap (λ i. shape_of (moved_item i)) (sym (ap item_tree c.in-If.is ∙ fold_If c.in-If.cond c.in-If.then c.in-If.other)))
