use Rattle.std.proofs.Common.{ap}
use Rattle.outside.proofs.TwoPlaces.{err_failed, err_failed_writes, err_taken, err_taken_writes}
use Rattle.outside.proofs.traced_ports.TracedPorts.put_err.Goals as goal

pub returns-then-put-clause-spilled : goal.returns-then-put-clause-spilled
returns-then-put-clause-spilled g c =
    err_failed c.args.self.now.broken (g.E.Sink.seen c.args.self.now.err.sink) (g.E.Sink.seen c.put.new.self.sink) (g.O.Sink.seen c.args.self.now.out.sink) (g.O.Sink.seen c.forget_dropped.new.self.sink)
    c.args.self.now.err.dropped.bytes c.put.new.self.dropped.bytes c.args.self.now.out.dropped.bytes c.forget_dropped.new.self.dropped.bytes c.args.waiting.now.items c.put.new.waiting.items
    c.requires c.if-put.ensures.puts (ap g.O.Sink.seen c.forget_dropped.ensures.sink) c.forget_dropped.ensures.none c.put.ensures.empty

pub returns-then-put-clause-writes : goal.returns-then-put-clause-writes
returns-then-put-clause-writes g c =
    let doc = c.args.self.now.doc in
    err_failed_writes (g.D.Source.keeps doc doc) (g.met.D.Source.keeps_same doc) (g.D.Source.seen doc) c.args.self.now.most c.args.self.now.broken (g.E.Sink.seen c.args.self.now.err.sink) (g.E.Sink.seen c.put.new.self.sink) (g.O.Sink.seen c.args.self.now.out.sink) (g.O.Sink.seen c.forget_dropped.new.self.sink)
    c.args.self.now.err.dropped.bytes c.put.new.self.dropped.bytes c.args.self.now.out.dropped.bytes c.forget_dropped.new.self.dropped.bytes c.args.waiting.now.items
    c.requires c.if-put.ensures.puts (ap g.O.Sink.seen c.forget_dropped.ensures.sink) c.forget_dropped.ensures.none

pub returns-else-put-clause-spilled : goal.returns-else-put-clause-spilled
returns-else-put-clause-spilled g c =
    err_taken c.args.self.now.broken (g.E.Sink.seen c.args.self.now.err.sink) (g.E.Sink.seen c.put.new.self.sink) (g.O.Sink.seen c.args.self.now.out.sink)
    c.args.self.now.err.dropped.bytes c.put.new.self.dropped.bytes c.args.self.now.out.dropped.bytes c.args.waiting.now.items c.put.new.waiting.items
    c.requires c.if-put.ensures.puts c.put.ensures.empty

pub returns-else-put-clause-writes : goal.returns-else-put-clause-writes
returns-else-put-clause-writes g c =
    let doc = c.args.self.now.doc in
    err_taken_writes (g.D.Source.keeps doc doc) (g.met.D.Source.keeps_same doc) (g.D.Source.seen doc) c.args.self.now.most c.args.self.now.broken (g.E.Sink.seen c.args.self.now.err.sink) (g.E.Sink.seen c.put.new.self.sink) (g.O.Sink.seen c.args.self.now.out.sink)
    c.args.self.now.err.dropped.bytes c.put.new.self.dropped.bytes c.args.self.now.out.dropped.bytes c.args.waiting.now.items
    c.requires c.if-put.ensures.puts
