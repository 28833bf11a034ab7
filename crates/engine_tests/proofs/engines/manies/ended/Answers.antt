use Rattle.std.proofs.Common.{false}
use Rattle.many_run.proofs.Turns.{may_go}
use Rattle.engine_tests.proofs.Manies.{count_end}
use Rattle.engine_tests.proofs.engines.manies.ended.Goals as goal

pub finish-requires : goal.finish-requires
finish-requires c = let s = c.requires.stands in (false, may_go (λ k P. Unit {0}) s.limits c.args.many.now s.read false s.of c.requires.fresh)

pub returns : goal.returns
returns c = record { count = count_end (λ k P. Unit {0}) c.args.many.now c.finish.new.self c.requires.fresh c.requires.stands c.finish.result c.finish.ensures.ended }
