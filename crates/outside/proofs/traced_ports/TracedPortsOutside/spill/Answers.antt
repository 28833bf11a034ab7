use Rattle.outside.specs.Ports.{ports_same}
use Rattle.outside.proofs.traced_ports.TracedPortsOutside.spill.Goals as goal

pub returns-then-len-self-clause-writes : goal.returns-then-len-self-clause-writes
returns-then-len-self-clause-writes g c = let doc = c.args.self.now.doc in ports_same (g.D.Source.keeps doc doc) (g.met.D.Source.keeps_same doc) _ _ _ _
