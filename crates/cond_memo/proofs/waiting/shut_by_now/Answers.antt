use Rattle.buf_tree.proofs.KeptReading.{seen_stand_apart}
use Rattle.cond_eval.proofs.Cursors.{shaped}
use Rattle.cond_memo.proofs.MarkRows.{has_serial, has_used, still_out, still_open, is_shut}
use Rattle.cond_memo.proofs.waiting.shut_by_now.Goals as goal

pub row_below-requires : goal.row_below-requires
row_below-requires g c = record { shape = shaped (g.N.NodeStore.rows c.at.result.store.now) c.args.buffer.now.kept c.at.ensures.store }

pub returns-in_err-row : goal.returns-in_err-row
returns-in_err-row g c =
    rw c.from_residual-in_err-row.ensures (still_out (g.N.NodeStore.rows c.at.result.store.now) c.args.buffer.now.kept c.args.buffer.now.rows c.at.ensures.store c.at.ensures.alike c.at.result.place c.args.node c.at.ensures.place c.args.waiting c.in_ok-serial.serial c.in_ok-serial.was c.in_err-row.ensures)

pub is_closed-requires : goal.is_closed-requires
is_closed-requires g c =
    has_used c.args.buffer.now.rows c.in_ok-serial.serial.0 c.in_ok-row.row.place.0
    (has_serial (g.N.NodeStore.rows c.at.result.store.now) c.args.buffer.now.kept c.args.buffer.now.rows c.at.ensures.store c.at.ensures.alike c.in_ok-serial.serial.0 c.in_ok-row.row.place.0 c.in_ok-row.ensures.1)

pub returns : goal.returns
returns g c =
    let h = has_serial (g.N.NodeStore.rows c.at.result.store.now) c.args.buffer.now.kept c.args.buffer.now.rows c.at.ensures.store c.at.ensures.alike c.in_ok-serial.serial.0 c.in_ok-row.row.place.0 c.in_ok-row.ensures.1 in
    is_shut c.args.buffer.now.rows (seen_stand_apart (g.N.NodeStore.rows c.at.result.store.now) c.args.buffer.now.kept c.args.buffer.now.rows c.at.ensures.store c.at.ensures.alike) c.args.waiting c.in_ok-serial.serial c.in_ok-row.row.place.0 c.in_ok-serial.was h c.is_closed.result (c.is_closed.ensures h.cell h.among h.place) c.if-not-is_closed.false

pub returns-then-not-is_closed : goal.returns-then-not-is_closed
returns-then-not-is_closed g c =
    let h = has_serial (g.N.NodeStore.rows c.at.result.store.now) c.args.buffer.now.kept c.args.buffer.now.rows c.at.ensures.store c.at.ensures.alike c.in_ok-serial.serial.0 c.in_ok-row.row.place.0 c.in_ok-row.ensures.1 in
    still_open c.args.buffer.now.rows c.args.waiting c.in_ok-serial.serial c.in_ok-row.row.place.0 c.in_ok-serial.was h c.is_closed.result (c.is_closed.ensures h.cell h.among h.place) c.if-not-is_closed.true c.args.node.0
