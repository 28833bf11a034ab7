use Rattle.std.proofs.Common.{drop}
use Rattle.cond_eval.proofs.Nexts.{Leads}
use Rattle.cond_eval.proofs.sets.reached.Given as goal

abbrev pub invariant-loop-step : goal.invariant-loop-step
invariant-loop-step g l = Leads l.buffer.rows l.fn.place.0 l.steps (drop l.step-index l.steps) l.set.items
