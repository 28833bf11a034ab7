use Rattle.std.proofs.Common.{ap, subst}
use Rattle.buf_tree.specs.Spread.{SameButRoles}
use Rattle.buf_tree.specs.View.{View}
use Rattle.buf_tree.proofs.SeenReading.{used_seen, alike}
use Rattle.buf_tree.proofs.Spreading.{upward}
use Rattle.buf_tree.proofs.buffer.Buffer.at.Goals as goal

pub new-requires : goal.new-requires
new-requires g c = used_seen _ c.self.invariant.0.shape _ _ (ap (λ (v : View). v.rows) c.self.view_is) _ c.requires

pub returns-clause-alike : goal.returns-clause-alike
returns-clause-alike g c = subst (λ (v : View). SameButRoles v.kept v.rows) c.self.view_is (alike c.self.inside.spread _ (upward _ c.self.invariant.0.shape.rising c.self.invariant.0.shape.up))
