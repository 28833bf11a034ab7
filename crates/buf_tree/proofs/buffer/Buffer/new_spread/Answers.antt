use Rattle.std.proofs.Common.{refl, ◌∙◌, ap, Some}
use Rattle.gcx_model.specs.PlanView.{plan_tree}
use Rattle.buf_tree.specs.View.{View}
use Rattle.buf_tree.proofs.Starting.{stands_started, started_rows}
use Rattle.buf_tree.proofs.buffer.Buffer.new_spread.Goals as goal

-- the store has the one row: what is kept is what is seen where no role is spread
pub invariant_of-buffer : goal.invariant_of-buffer
invariant_of-buffer g c =
    let alone = ap (λ (v : View). v.kept) c.buffer.view_is ∙ c.in_ok-buffer.ensures.kept ∙ c.in_ok-buffer.ensures.started.row.1 in
    (c.buffer.invariant.0, (started_rows (Some c.in_ok-spread.spread) _ _ _ alone).1)

pub returns-clause-started : goal.returns-clause-started
returns-clause-started g c =
    let was = c.in_ok-buffer.ensures.started in
    let alone = ap (λ (v : View). v.kept) c.buffer.view_is ∙ c.in_ok-buffer.ensures.kept ∙ c.in_ok-buffer.ensures.started.row.1 in
    record {
      row = (was.row.0, (started_rows (Some c.in_ok-spread.spread) _ _ _ alone).0);
      gone = ap (λ (v : View). v.gone) c.buffer.view_is ∙ was.gone;
      waiting = ap (λ (v : View). v.waiting) c.buffer.view_is ∙ was.waiting;
      nodes = ap (λ (v : View). v.nodes) c.buffer.view_is ∙ was.nodes;
      taken = ap (λ (v : View). v.taken) c.buffer.view_is ∙ was.taken;
    }

pub returns-clause-spread : goal.returns-clause-spread
returns-clause-spread g c = (c.in_ok-spread.spread, refl, c.in_ok-spread.ensures)

pub returns-clause-stands : goal.returns-clause-stands
returns-clause-stands g c =
    let r = c.requires.placed in
    let alone = ap (λ (v : View). v.kept) c.buffer.view_is ∙ c.in_ok-buffer.ensures.kept ∙ c.in_ok-buffer.ensures.started.row.1 in
    stands_started r.0 r.1 (plan_tree c.args.plan.now) r.2 _ c.args.given _ (returns-clause-started g c) alone c.requires.given c.in_ok-spread.ensures
