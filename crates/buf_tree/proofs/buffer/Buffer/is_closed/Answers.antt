use Rattle.std.proofs.Common.{◌∙◌, ap}
use Rattle.buf_tree.specs.View.{View}
use Rattle.buf_tree.proofs.SeenReading.{used_seen, open_seen}
use Rattle.buf_tree.proofs.buffer.Buffer.is_closed.Goals as goal

pub payload-requires : goal.payload-requires
payload-requires g c = used_seen _ c.self.invariant.0.shape _ _ (ap (λ (v : View). v.rows) c.self.view_is) _ c.requires

pub returns : goal.returns
returns g c d i e = c.is_closed.ensures ∙ open_seen _ c.self.invariant.0.shape _ _ (ap (λ (v : View). v.rows) c.self.view_is) _ d i e _ c.payload.ensures
