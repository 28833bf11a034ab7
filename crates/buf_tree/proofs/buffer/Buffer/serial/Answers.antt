use Rattle.std.proofs.Common.{◌∙◌, ap, sym}
use Rattle.buf_tree.specs.View.{View}
use Rattle.buf_tree.proofs.SeenReading.{used_seen, serial_seen, num_seen}
use Rattle.buf_tree.proofs.buffer.Buffer.serial.Goals as goal

pub payload-requires : goal.payload-requires
payload-requires g c = used_seen _ c.self.invariant.0.shape _ _ (ap (λ (v : View). v.rows) c.self.view_is) _ c.requires

pub returns-clause-serial : goal.returns-clause-serial
returns-clause-serial g c = c.serial.ensures ∙ serial_seen _ c.self.invariant.0.shape _ _ (ap (λ (v : View). v.rows) c.self.view_is) _ c.requires _ c.payload.ensures

pub returns-clause-row : goal.returns-clause-row
returns-clause-row g c d i e = num_seen _ c.self.invariant.0.shape _ _ (ap (λ (v : View). v.rows) c.self.view_is) _ d i e _ c.payload.ensures ∙ sym c.serial.ensures
