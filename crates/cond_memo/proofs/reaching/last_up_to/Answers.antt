use Rattle.std.proofs.Common.{◌≡◌, sym, ◌∙◌, ap, arith}
use Rattle.std.specs.FinMap.{get}
use Rattle.node_store.specs.Rows.{prev_of, last_of, children_in}
use Rattle.cond_memo.proofs.Descending.{back_start, back_on, back_found, prev_less}
use Rattle.cond_eval.proofs.Cursors.{num_here, if_some, same_shape, used_row}
use Rattle.cond_memo.proofs.reaching.last_up_to.Goals as goal

pub back-init : goal.back-init
back-init g c = record {
  store = c.last-at.ensures.store;
  back = λ d i e. back_start _ _ c.requires.shape c.args.serial.0 d i _ (ap (λ q. last_of (children_in (get (g.N.NodeStore.rows c.args.row.store.now) q))) e ∙ sym c.last-at.ensures.place);
}

pub returns-then-serial : goal.returns-then-serial
returns-then-serial g c = λ d i e.
    let st = rw c.in-Some.is at c.back.invariant.store in (
      st,
      back_found _ _ c.requires.shape c.args.serial.0 d _ (rw c.in-Some.is at (c.back.invariant.back d i e))
          (λ x j f. let n = num_here _ _ (same_shape _ _ _ (ap g.N.NodeStore.rows st) c.requires.shape) _ _ c.serial.result.0 c.payload.ensures c.serial.ensures x j f in let t = c.if-serial.true in omega arith),
    )

pub back-smaller : goal.back-smaller
back-smaller g c =
    let st = rw c.in-Some.is at c.back.invariant.store in
    let u = used_row _ _ c.requires.shape _ c.args.row.in_use in
    rw c.in-Some.is (prev_less _ _ c.requires.shape c.args.serial.0 u.cell _ (rw c.in-Some.is at (c.back.invariant.back u.cell u.among u.place)) _ (ap (λ m. prev_of m c.in-Some.here.place.0) (sym (ap g.N.NodeStore.rows st)) ∙ sym c.prev-at.ensures.place))

pub back-preserved : goal.back-preserved
back-preserved g c =
    let st = rw c.in-Some.is at c.back.invariant.store in
    record {
      store = if_some c.prev-at.result (λ a. a.store.now ≡ c.in-Some.here.store.now) (λ a. a.store.now ≡ c.args.row.store.now) (λ a h. h ∙ st) c.prev-at.ensures.store;
      back = λ d i e. back_on _ _ c.requires.shape c.args.serial.0 d _ i (rw c.in-Some.is at (c.back.invariant.back d i e))
          (λ x j f. let n = num_here _ _ (same_shape _ _ _ (ap g.N.NodeStore.rows st) c.requires.shape) _ _ c.serial.result.0 c.payload.ensures c.serial.ensures x j f in let t = c.if-serial.false in omega arith) _
          (ap (λ m. prev_of m c.in-Some.here.place.0) (sym (ap g.N.NodeStore.rows st)) ∙ sym c.prev-at.ensures.place);
    }

pub returns : goal.returns
returns g c = λ d i e. rw c.in_default.is at (c.back.invariant.back d i e)
