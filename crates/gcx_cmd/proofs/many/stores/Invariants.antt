use Rattle.std.proofs.Common.{◌≡◌, length}
use Rattle.std.specs.FinMap as map_of
use Rattle.many_run.specs.Each.{OfEach}
use Rattle.gcx_cmd.proofs.many.stores.Given as goal

abbrev pub invariant-stores : goal.invariant-stores
invariant-stores l = record {
  count : length l.stores.items ≡ l._index;
  empty : OfEach (λ n. n.rows ≡ map_of.empty) l.stores.items;
}
