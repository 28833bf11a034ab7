use Rattle.std.proofs.Common.{[], true, false, subst}
use Rattle.gcx_base.specs.declared.limits.Limits.{Limits}
use Rattle.gcx_base.specs.Limits.{full_limits}
use Rattle.doc_reader.specs.Standing.{Stands}
use Rattle.engine_tests.proofs.Taking.{few_left, still_may, took_none, took_read}
use Rattle.engine_tests.proofs.engines.takes.take_pieces.Goals as goal

pub write_out-requires-clause-some : goal.write_out-requires-clause-some
write_out-requires-clause-some g c = ([], c.requires.stands)

pub write_out-requires-clause-places : goal.write_out-requires-clause-places
write_out-requires-clause-places g c = c.requires.places

pub loop-piece-init : goal.loop-piece-init
loop-piece-init g c =
    let v = c.args.to.now in
    let w = c.write_out.new.to in
    let q = c.write_out.new.self in
    let only = c.write_out.ensures.only in
    let most = g.O.Outside.most in
    took_none g.O.Outside.may most c.new-reader.result q w (subst (λ (limits : Limits). Stands c.new-reader.result limits [] false []) c.full.ensures c.new-reader.ensures.stands) (only.stand [] c.requires.stands)
    (still_may g.O.Outside.may c.args.part.now q v w only.kept (λ k. g.met.O.Outside.keeps_may v w k (g.met.O.Outside.writes_keeps v w c.write_out.ensures.writes)) c.requires.places)
    (few_left q (most w true) (most w false) (g.met.O.Outside.most_less w) c.write_out.ensures.few)

pub feed-requires : goal.feed-requires
feed-requires g c = c.loop-piece.invariant.reader.finished

pub take_next-requires : goal.take_next-requires
take_next-requires g c =
    let x = c.loop-piece.invariant in
    (false, took_read g.O.Outside.may g.O.Outside.most false false c.loop-piece.reader c.feed.new.self c.loop-piece.part c.loop-piece.to x _ (c.feed.ensures.stands full_limits x.read x.given x.reader))

pub loop-piece-preserved : goal.loop-piece-preserved
loop-piece-preserved g c =
    let x = c.loop-piece.invariant in
    c.in_ok-take_next.ensures false
    (took_read g.O.Outside.may g.O.Outside.most false false c.loop-piece.reader c.feed.new.self c.loop-piece.part c.loop-piece.to x _ (c.feed.ensures.stands full_limits x.read x.given x.reader))

pub returns : goal.returns
returns g c = c.loop-piece.invariant
