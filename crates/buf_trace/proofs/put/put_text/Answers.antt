use Rattle.buf_trace.proofs.Lines.{opened_held}
use Rattle.buf_trace.proofs.put.put_text.Goals as goal

pub returns-in_ok-put_kind-in-Opened-clause-held : goal.returns-in_ok-put_kind-in-Opened-clause-held
returns-in_ok-put_kind-in-Opened-clause-held c =
    let node = c.in-Opened in
    opened_held c.put_roles.result c.args.line.now node.serial node.kind node.given c.items.result.now node.is c.put_signed.ensures.fits c.in_ok-put_kind-in-Opened.ensures.held c.items.ensures.rising c.items.ensures.same c.put_roles.ensures.held
