use Rattle.projector.proofs.Loosely.{settles_made}
use Rattle.projector.proofs.projector.Projector.settle.Goals as goal

pub make_all-requires-clause-names : goal.make_all-requires-clause-names
make_all-requires-clause-names g c = c.requires.stand.1.names

pub make_all-requires-clause-stands : goal.make_all-requires-clause-stands
make_all-requires-clause-stands g c = (c.requires.stand.0, c.requires.stand.1.buffer)

pub returns-clause-settles : goal.returns-clause-settles
returns-clause-settles g c =
    settles_made c.args.bytes.now c.args.self.now c.make_all.new.self c.args.buffer.now c.make_all.new.buffer c.make_all.result c.make_all.ensures.matcher c.make_all.ensures.none c.make_all.ensures.makes c.make_all.ensures.place
