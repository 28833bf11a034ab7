use Rattle.std.proofs.Common.{◌≡◌, length, take}
use Rattle.gcx_model.specs.Tree.{opening}
use Rattle.join_index.specs.Index.{IsIndex}
use Rattle.many_run.specs.Each.{OfEach}
use Rattle.gcx_cmd.proofs.many.conditions.Given as goal

abbrev pub invariant-plans : goal.invariant-plans
invariant-plans l = record {
  count : length l.conds.items ≡ length (take l.plan-index l.plans);
  stand : OfEach (λ c. IsIndex c opening) l.conds.items;
}
