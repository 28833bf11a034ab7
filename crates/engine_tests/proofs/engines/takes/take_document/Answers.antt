use Rattle.std.proofs.Common.{true, false, map}
use Rattle.gcx_base.specs.Limits.{full_limits}
use Rattle.doc_reader.specs.Standing.{said_of}
use Rattle.engine_tests.proofs.Taking.{took_read}
use Rattle.engine_tests.proofs.engines.takes.take_document.Goals as goal

pub take_next-requires : goal.take_next-requires
take_next-requires g c =
    let x = c.in_ok-reader.ensures in
    (true, took_read g.O.Outside.may g.O.Outside.most false true c.in_ok-reader.reader c.finish.new.self c.take_pieces.new.part c.take_pieces.new.to x _ (c.finish.ensures.stands full_limits x.read false x.given x.reader))

pub write_out-requires-clause-some : goal.write_out-requires-clause-some
write_out-requires-clause-some g c =
    let x = c.in_ok-reader.ensures in
    let y = c.in_ok-take_next.ensures true
    (took_read g.O.Outside.may g.O.Outside.most false true c.in_ok-reader.reader c.finish.new.self c.take_pieces.new.part c.take_pieces.new.to x _ (c.finish.ensures.stands full_limits x.read false x.given x.reader)) in
    (map said_of y.given, y.part)

pub write_out-requires-clause-places : goal.write_out-requires-clause-places
write_out-requires-clause-places g c =
    let x = c.in_ok-reader.ensures in
    (c.in_ok-take_next.ensures true
    (took_read g.O.Outside.may g.O.Outside.most false true c.in_ok-reader.reader c.finish.new.self c.take_pieces.new.part c.take_pieces.new.to x _ (c.finish.ensures.stands full_limits x.read false x.given x.reader))).places
