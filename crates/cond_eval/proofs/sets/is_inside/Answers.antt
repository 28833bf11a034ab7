use Rattle.std.proofs.Common.{sym, subst, arith}
use Rattle.std.proofs.lemmas.Bool.{leb-true, leb-false}
use Rattle.buf_tree.specs.Shape.{Shape}
use Rattle.cond_eval.proofs.Below.{climb_on, climb_out, climb_end}
use Rattle.cond_eval.proofs.Cursors.{num_here, parent_less, used_row}
use Rattle.cond_eval.proofs.Stored.{tells_stored}
use Rattle.cond_eval.proofs.sets.is_inside.Goals as goal

pub up-smaller : goal.up-smaller
up-smaller g c = parent_less _ _ c.up.invariant.shape _ _ c.up.at.in_use (sym c.in-Some.ensures.place)

pub up-preserved : goal.up-preserved
up-preserved g c = record {
  shape = subst (λ st. Shape (g.N.NodeStore.rows st) c.args.buffer.now.kept) (sym c.in-Some.ensures.store) c.up.invariant.shape;
  climb = climb_on _ _ c.up.invariant.shape c.args.member c.args.last c.args.top _ _ c.up.invariant.climb
      (λ d i e. let n = num_here _ _ c.up.invariant.shape _ _ c.serial.result.0 c.payload.ensures c.serial.ensures d i e in let t = c.up-test.true in omega arith) (sym c.in-Some.ensures.place);
}

pub returns-in-None : goal.returns-in-None
returns-in-None g c =
    tells_stored c.args.buffer.now.kept c.args.buffer.now.rows c.at-at.ensures.alike c.args.member c.args.last c.args.top _
    (climb_out _ _ c.up.invariant.shape c.args.member c.args.last c.args.top _
    (λ d i e. let n = num_here _ _ c.up.invariant.shape _ _ c.serial.result.0 c.payload.ensures c.serial.ensures d i e in let t = c.up-test.true in omega arith)
    (sym c.in-None.ensures.place) _ c.up.invariant.climb)

pub returns : goal.returns
returns g c =
    tells_stored c.args.buffer.now.kept c.args.buffer.now.rows c.at-at.ensures.alike c.args.member c.args.last c.args.top _
    (climb_end _ _ c.up.invariant.shape c.args.member c.args.last c.args.top _ c.serial-2.result.0 c.up.invariant.climb (num_here _ _ c.up.invariant.shape _ _ c.serial-2.result.0 c.payload-2.ensures c.serial-2.ensures)
    (let d = used_row _ _ c.up.invariant.shape _ c.up.at.in_use in
    let n = num_here _ _ c.up.invariant.shape _ _ c.serial.result.0 c.payload.ensures c.serial.ensures d.cell d.among d.place in
    let o = num_here _ _ c.up.invariant.shape _ _ c.serial-2.result.0 c.payload-2.ensures c.serial-2.ensures d.cell d.among d.place in
    let t = c.up-test.false in
    omega arith)
    _ (leb-true _ _) (leb-false _ _))
