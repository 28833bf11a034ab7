use Rattle.std.proofs.Common.{ap}
use Rattle.outside.specs.Ports.{ports_same}
use Rattle.outside.proofs.Spilling.{drop_spills, drop_writes, put_spills, put_writes}
use Rattle.outside.proofs.ports.PortsOutside.spill.Goals as goal

pub returns-then-self-clause-spilled : goal.returns-then-self-clause-spilled
returns-then-self-clause-spilled g c =
    drop_spills c.args.place c.args.self.now.failed (g.O.Sink.seen c.args.self.now.out.sink) (g.O.Sink.seen c.drop_all.new.self.sink) c.args.self.now.out.dropped.bytes c.drop_all.new.self.dropped.bytes
    c.args.waiting.now.items c.drop_all.new.waiting.items c.requires c.if-self.true (ap g.O.Sink.seen c.drop_all.ensures.sink) c.drop_all.ensures.dropped c.drop_all.ensures.empty

pub returns-then-self-clause-writes : goal.returns-then-self-clause-writes
returns-then-self-clause-writes g c =
    let doc = c.args.self.now.doc in
    drop_writes (g.D.Source.keeps doc doc) (g.met.D.Source.keeps_same doc) (g.D.Source.seen doc) c.args.self.now.most c.args.self.now.failed (g.O.Sink.seen c.args.self.now.out.sink)
    (g.O.Sink.seen c.drop_all.new.self.sink) c.args.self.now.out.dropped.bytes c.drop_all.new.self.dropped.bytes c.args.waiting.now.items c.if-self.true (ap g.O.Sink.seen c.drop_all.ensures.sink)
    c.drop_all.ensures.dropped

pub returns-then-len-self-clause-writes : goal.returns-then-len-self-clause-writes
returns-then-len-self-clause-writes g c = let doc = c.args.self.now.doc in ports_same (g.D.Source.keeps doc doc) (g.met.D.Source.keeps_same doc) _ _ _ _

pub returns-clause-spilled : goal.returns-clause-spilled
returns-clause-spilled g c =
    put_spills c.args.place c.args.self.now.failed c.put-self.result (g.O.Sink.seen c.args.self.now.out.sink) (g.O.Sink.seen c.put-self.new.self.sink) c.args.self.now.out.dropped.bytes
    c.put-self.new.self.dropped.bytes c.args.waiting.now.items c.put-self.new.waiting.items c.requires c.if-self.false c.put-self.ensures.puts c.put-self.ensures.empty

pub returns-clause-writes : goal.returns-clause-writes
returns-clause-writes g c =
    let doc = c.args.self.now.doc in
    put_writes (g.D.Source.keeps doc doc) (g.met.D.Source.keeps_same doc) (g.D.Source.seen doc) c.args.self.now.most c.args.self.now.failed c.put-self.result (g.O.Sink.seen c.args.self.now.out.sink)
    (g.O.Sink.seen c.put-self.new.self.sink) c.args.self.now.out.dropped.bytes c.put-self.new.self.dropped.bytes c.args.waiting.now.items c.if-self.false c.put-self.ensures.puts
