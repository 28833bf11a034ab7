use Rattle.std.proofs.Common.{◌∙◌}
use Rattle.trace_check.proofs.TakenAll.{ended_on}
use Rattle.trace_check.proofs.timed.Timed.close.Goals as goal

pub ends-preserved : goal.ends-preserved
ends-preserved c = record {
  ended = ended_on c.args.self.now c.ends.self c.take.new.self c.ends.invariant.ended c.in_ok-take.ensures.taken;
  long = c.in_ok-take.ensures.long;
  told = c.in_ok-take.ensures.told ∙ c.ends.invariant.told;
}
