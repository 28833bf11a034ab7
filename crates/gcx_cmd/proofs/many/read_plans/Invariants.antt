use Rattle.std.proofs.Common.{ℕ, List, take}
use Rattle.many_run.specs.Each.{OfEach}
use Rattle.run_part.specs.Part.{IsOfCore}
use Rattle.gcx_cmd.specs.ManyDoes.{AcceptsPlans, ManyKeeps}
use Rattle.gcx_cmd.proofs.many.read_plans.Given as goal

abbrev pub invariant-pairs : goal.invariant-pairs
invariant-pairs g l = record {
  accepted : AcceptsPlans (take l.pair-index l.pairs) (g.F.Shelf.seen l.fn.files) (g.F.Shelf.seen l.files) l.plans.items;
  placed : OfEach IsOfCore l.plans.items;
  keeps : (outs : List (List ℕ)) → ManyKeeps outs (g.F.Shelf.seen l.fn.files) (g.F.Shelf.seen l.files);
}
