use Rattle.std.proofs.Common.{◌∙◌, ap}
use Rattle.buf_tree.specs.View.{View}
use Rattle.buf_tree.proofs.buffer.Buffer.most.Goals as goal

pub returns : goal.returns
returns g c = c.most.ensures.value ∙ ap (λ (v : View). v.most) c.self.view_is
