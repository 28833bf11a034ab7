use Rattle.std.proofs.Common.{ap}
use Rattle.outside.proofs.TwoPlaces.{err_dropped, err_dropped_writes}
use Rattle.outside.proofs.traced_ports.TracedPorts.drop_err.Goals as goal

pub returns-clause-spilled : goal.returns-clause-spilled
returns-clause-spilled g c =
    err_dropped c.args.self.now.broken (g.E.Sink.seen c.args.self.now.err.sink) (g.E.Sink.seen c.drop_all.new.self.sink) (g.O.Sink.seen c.args.self.now.out.sink)
    c.args.self.now.err.dropped.bytes c.drop_all.new.self.dropped.bytes c.args.self.now.out.dropped.bytes c.args.waiting.now.items c.drop_all.new.waiting.items
    c.requires (ap g.E.Sink.seen c.drop_all.ensures.sink) c.drop_all.ensures.dropped c.drop_all.ensures.empty

pub returns-clause-writes : goal.returns-clause-writes
returns-clause-writes g c =
    let doc = c.args.self.now.doc in
    err_dropped_writes (g.D.Source.keeps doc doc) (g.met.D.Source.keeps_same doc) (g.D.Source.seen doc) c.args.self.now.most c.args.self.now.broken (g.E.Sink.seen c.args.self.now.err.sink) (g.E.Sink.seen c.drop_all.new.self.sink) (g.O.Sink.seen c.args.self.now.out.sink)
    c.args.self.now.err.dropped.bytes c.drop_all.new.self.dropped.bytes c.args.self.now.out.dropped.bytes c.args.waiting.now.items
    c.requires (ap g.E.Sink.seen c.drop_all.ensures.sink) c.drop_all.ensures.dropped
