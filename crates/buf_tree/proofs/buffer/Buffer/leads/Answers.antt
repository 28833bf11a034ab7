use Rattle.std.proofs.Common.{ap, subst, List}
use Rattle.buf_tree.specs.Shape.{Cell}
use Rattle.buf_tree.specs.View.{View}
use Rattle.buf_tree.specs.Ways.{LeadsBy}
use Rattle.buf_tree.proofs.SeenReading.{used_seen, leads_seen}
use Rattle.buf_tree.proofs.Spreading.{upward}
use Rattle.buf_tree.proofs.buffer.Buffer.leads.Goals as goal

pub leads-requires-clause-there : goal.leads-requires-clause-there
leads-requires-clause-there g c = used_seen _ c.self.invariant.0.shape _ _ (ap (λ (v : View). v.rows) c.self.view_is) _ c.requires

pub returns : goal.returns
returns g c = subst (λ (xs : List Cell). LeadsBy xs c.args.from.0 c.args.steps.now c.args.place.0 c.leads.result) (ap (λ (v : View). v.rows) c.self.view_is)
    (leads_seen c.self.inside.spread _ (upward _ c.self.invariant.0.shape.rising c.self.invariant.0.shape.up) _ _ _ _ c.leads.ensures.leads)
