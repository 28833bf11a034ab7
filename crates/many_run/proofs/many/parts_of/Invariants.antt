use Rattle.std.proofs.Common.{◌≡◌, ◌+◌, length, take}
use Rattle.std.specs.FinMap as map_of
use Rattle.std.specs.Vec.Iter.{into_iter_items, into_iter_len}
use Rattle.gcx_model.specs.Tree.{opening}
use Rattle.many_run.specs.Each.{OfEach}
use Rattle.many_run.specs.Parts.{BeginsParts}
use Rattle.many_run.proofs.many.parts_of.Given as goal

abbrev pub invariant-plans : goal.invariant-plans
invariant-plans g l = record {
  begins : BeginsParts g.C.Conds.stands (take l.plan-index l.plans) l.parts.items;
  stores : length (into_iter_items l.stores) + l.plan-index ≡ length l.plans;
  truths : length (into_iter_items l.truths) + l.plan-index ≡ length l.plans;
  stores_len : into_iter_len l.stores ≡ length (into_iter_items l.stores);
  truths_len : into_iter_len l.truths ≡ length (into_iter_items l.truths);
  empty : OfEach (λ n. g.N.NodeStore.rows n ≡ map_of.empty) (into_iter_items l.stores);
  conds : OfEach (λ c. g.C.Conds.stands c opening) (into_iter_items l.truths);
}
