use Rattle.std.proofs.Common.{arith}
use Rattle.doc_reader.specs.Standing.{lent_next}
use Rattle.doc_reader.proofs.Behind.{lent_many}
use Rattle.outside.specs.Tokens.{said_lent}
use Rattle.engine_tests.proofs.Taking.{may_take, took_lent}
use Rattle.engine_tests.proofs.engines.takes.take_next.Goals as goal

pub take-requires-clause-within : goal.take-requires-clause-within
take-requires-clause-within g c = c.lent.ensures.parts

pub take-requires-clause-may : goal.take-requires-clause-may
take-requires-clause-may g c =
    may_take g.O.Outside.may g.O.Outside.most c.requires.0 c.args.reader.now c.args.part.now c.args.to.now c.requires.1 (said_lent c.lent.result.1.now c.lent.result.0.now) c.lent.ensures.tokens_are

pub take-requires-clause-places : goal.take-requires-clause-places
take-requires-clause-places g c = c.requires.1.places

pub take-requires-clause-few : goal.take-requires-clause-few
take-requires-clause-few g c = c.requires.1.few

pub take_lent-requires : goal.take_lent-requires
take_lent-requires g c =
    let many = lent_many (lent_next c.args.reader.now) c.lent.result.0.now c.lent.result.1.now c.lent.ensures in
    omega arith

pub returns : goal.returns
returns g c ended x =
    let v = c.args.to.now in
    let w = c.take.new.to in
    took_lent g.O.Outside.may g.O.Outside.most ended c.args.reader.now c.take_lent.new.self c.args.part.now c.take.new.self v w c.lent.result.0.now c.lent.result.1.now c.lent.ensures c.take_lent.ensures.takes
    (λ given s come. (c.in_ok-take.ensures.takes given s come).stand) c.in_ok-take.ensures.few c.take.ensures.leaves.kept
    (λ k. g.met.O.Outside.keeps_may v w k (g.met.O.Outside.writes_keeps v w c.take.ensures.leaves.wrote)) x
