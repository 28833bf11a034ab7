use Rattle.std.proofs.Common.{rules}
use Rattle.std.proofs.lemmas.List.Sorted.{IsNonDecreasingBy-from_sort_by_key}
use Rattle.path_states.specs.Branches.{branch_name}
use Rattle.path_states.proofs.Branching.{have_sorted}
use Rattle.path_states.proofs.branches.sorted_branches.Goals as goal

pub returns : goal.returns
returns c = record {
  have = λ up. have_sorted c.args.tree.now c.args.names.now c.args.numbers.now c.in_ok-branches.branches.items c.sort_by_key.new.self.items c.sort_by_key.ensures.permutation (c.in_ok-branches.ensures up);
  rise = IsNonDecreasingBy-from_sort_by_key branch_name _ c.in_ok-sort_by_key.ensures.sorted (λ a r q k. search rules);
}
