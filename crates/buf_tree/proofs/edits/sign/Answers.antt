use Rattle.std.proofs.Common.{◌∙◌}
use Rattle.buf_tree.proofs.Keeping.{row_again, on_err}
use Rattle.buf_tree.proofs.edits.sign.Goals as goal

pub returns-in_err-sign-clause-err : goal.returns-in_err-sign-clause-err
returns-in_err-sign-clause-err g c =
    on_err c.from_residual.result (g.met.N.NodeStore.written c.args.nodes.now c.args.place.0 _ c.requires
    ∙ row_again _ _ _ _ c.payload_mut-row.ensures.value c.in_err-sign.ensures.err)
