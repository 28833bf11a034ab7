use Rattle.std.proofs.Common.{◌∙◌, ap}
use Rattle.buf_tree.specs.View.{View}
use Rattle.buf_tree.proofs.SeenReading.{used_seen, waits_seen}
use Rattle.buf_tree.proofs.buffer.Buffer.is_due.Goals as goal

pub has_role-is_live-requires-clause-there : goal.has_role-is_live-requires-clause-there
has_role-is_live-requires-clause-there g c = used_seen _ c.self.invariant.0.shape _ _ (ap (λ (v : View). v.rows) c.self.view_is) _ c.requires

pub payload-requires : goal.payload-requires
payload-requires g c = used_seen _ c.self.invariant.0.shape _ _ (ap (λ (v : View). v.rows) c.self.view_is) _ c.requires

pub returns : goal.returns
returns g c d i e =
    c.waits.ensures
    ∙ waits_seen _ c.self.invariant.0.shape _ _ (ap (λ (v : View). v.rows) c.self.view_is) c.args.off.now _ d i e _ c.payload.ensures _ c.has_role-is_live.ensures
