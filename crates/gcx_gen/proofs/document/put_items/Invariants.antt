use Rattle.std.proofs.Common.{◌≡◌, ◌-◌, ◌≤◌, ◌++◌}
use Rattle.gcx_gen.specs.Generated.{items}
use Rattle.gcx_gen.proofs.document.put_items.Given as goal

abbrev pub invariant-loop-index : goal.invariant-loop-index
invariant-loop-index l = record {
  low : l.from ≤ l.index;
  put : l.out.items ≡ l.initial.out.items ++ items l.seed l.from (l.index - l.from);
}
