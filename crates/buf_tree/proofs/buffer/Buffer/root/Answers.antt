use Rattle.std.proofs.Common.{◌∙◌, ap}
use Rattle.buf_tree.specs.View.{View}
use Rattle.buf_tree.proofs.SeenReading.{root_seen}
use Rattle.buf_tree.proofs.buffer.Buffer.root.Goals as goal

pub returns : goal.returns
returns g c = c.root.ensures.value ∙ root_seen _ c.self.invariant.0.shape _ _ (ap (λ (v : View). v.rows) c.self.view_is) _ c.root.ensures.tree
