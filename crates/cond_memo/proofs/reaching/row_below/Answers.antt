use Rattle.std.proofs.Common.{◌≡◌, sym, ◌∙◌, ap, arith}
use Rattle.cond_memo.proofs.Descending.{down_less, down_step, child_known, row_found}
use Rattle.cond_eval.proofs.Cursors.{num_here, if_some, same_shape}
use Rattle.cond_memo.proofs.reaching.row_below.Goals as goal

pub returns-then-serial : goal.returns-then-serial
returns-then-serial g c =
    let st = rw c.in-Some.is at c.down.invariant.store in (
      st,
      row_found _ _ (ap g.N.NodeStore.rows st) c.requires.shape (λ q. q) (λ q. q ≡ q) c.args.row.place.0 _ c.args.serial.0 c.in-Some.here.in_use
          (λ x j f. let n = num_here _ _ (same_shape _ _ _ (ap g.N.NodeStore.rows st) c.requires.shape) _ _ c.serial.result.0 c.payload.ensures c.serial.ensures x j f in let t = c.if-serial.true in omega arith),
    )

pub down-smaller : goal.down-smaller
down-smaller g c =
    let st = rw c.in-Some.is at c.down.invariant.store in
    rw c.in-Some.is (down_less _ _ (ap g.N.NodeStore.rows st) c.requires.shape (λ a. a.place.0) (λ a. a.store.now ≡ c.in-Some.here.store.now) c.args.row.place.0 _ c.args.serial.0 c.in-Some.here.in_use c.last_up_to-at.result c.last_up_to-at.ensures)

pub down-preserved : goal.down-preserved
down-preserved g c =
    let st = rw c.in-Some.is at c.down.invariant.store in
    record {
      store = if_some c.last_up_to-at.result (λ a. a.store.now ≡ c.in-Some.here.store.now) (λ a. a.store.now ≡ c.args.row.store.now) (λ a h. h ∙ st)
          (child_known _ _ (ap g.N.NodeStore.rows st) c.requires.shape (λ a. a.place.0) (λ a. a.store.now ≡ c.in-Some.here.store.now) c.args.row.place.0 _ c.args.serial.0 c.in-Some.here.in_use c.last_up_to-at.result c.last_up_to-at.ensures);
      down = down_step _ _ (ap g.N.NodeStore.rows st) c.requires.shape (λ a. a.place.0) (λ a. a.store.now ≡ c.in-Some.here.store.now) c.args.row.place.0 _ c.args.serial.0 c.in-Some.here.in_use c.last_up_to-at.result c.last_up_to-at.ensures
          (rw c.in-Some.is at c.down.invariant.down)
          (λ x j f h. let n = num_here _ _ (same_shape _ _ _ (ap g.N.NodeStore.rows st) c.requires.shape) _ _ c.serial.result.0 c.payload.ensures c.serial.ensures x j f in c.if-serial.false (sym n ∙ h));
    }
