use Rattle.std.proofs.Common.{◌∙◌, List, length, sym, ap, subst}
use Rattle.gcx_model.specs.declared.plan.Plan.{Plan}
use Rattle.many_run.specs.Each.{OfEach}
use Rattle.run_part.specs.Part.{IsOfCore}
use Rattle.many_run.specs.View.{ManyView}
use Rattle.engine_tests.proofs.Manies.{stand_cleared}
use Rattle.engine_tests.proofs.engines.manies.each_output_is_its_own.Goals as goal

pub both-requires-clause-placed : goal.both-requires-clause-placed
both-requires-clause-placed g c = subst (λ (z : List Plan). OfEach IsOfCore z) (sym c.deref.ensures.value) c.in_ok-plans.ensures.placed

pub both-requires-clause-count : goal.both-requires-clause-count
both-requires-clause-count g c = ap length c.deref.ensures.value ∙ c.in_ok-plans.ensures.count

pub fed-requires-2-clause-fresh : goal.fed-requires-2-clause-fresh
fed-requires-2-clause-fresh g c = ap (λ (z : ManyView _). z.refused) c.clear_output.ensures.rest ∙ c.in_ok-fed.ensures.fresh

pub fed-requires-2-clause-stands : goal.fed-requires-2-clause-stands
fed-requires-2-clause-stands g c = stand_cleared (λ k P. Unit {0}) 0 c.fed.new.many c.clear_output.new.self c.clear_output.ensures c.in_ok-fed.ensures.stands
