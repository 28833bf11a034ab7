use Rattle.std.proofs.Common.{sym, ◌∙◌, ap}
use Rattle.std.specs.Prelude.{length}
use Rattle.buf_tree.specs.View.{View}
use Rattle.buf_tree.proofs.SeenReading.{as_many}
use Rattle.buf_tree.proofs.Spreading.{upward}
use Rattle.buf_tree.proofs.buffer.Buffer.held.Goals as goal

pub returns : goal.returns
returns g c = sym c.self.invariant.0.held ∙ as_many c.self.inside.spread _ (upward _ c.self.invariant.0.shape.rising c.self.invariant.0.shape.up) ∙ ap (λ (v : View). length v.rows) c.self.view_is
