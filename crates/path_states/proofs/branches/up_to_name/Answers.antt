use Rattle.std.proofs.Common.{List, leb, sym, subst, rules}
use Rattle.std.proofs.lemmas.List.Sorted.{IsPartitionPoint-from_clause, IsPartitionedBy-leb}
use Rattle.gcx_model.specs.Members.{In}
use Rattle.path_states.specs.Branches.{branch_name}
use Rattle.path_states.specs.declared.branches.Branch.{Branch}
use Rattle.path_states.proofs.Branching.{in_up_to, of_take}
use Rattle.path_states.proofs.branches.up_to_name.Goals as goal

pub returns : goal.returns
returns c =
    let xs = c.args.branches.now in
    let name = c.args.name in
    let high = c.partition_point-high.result in
    record {
      of = λ b i. of_take xs high b (subst (λ (z : List Branch). In b z) c.split_at.ensures.front i);
      all = λ up b i l. subst (λ (z : List Branch). In b z) (sym c.split_at.ensures.front)
          (in_up_to xs name high (IsPartitionPoint-from_clause (λ (x : Branch). leb x.name name) xs high c.partition_point-high.ensures.partitioned (IsPartitionedBy-leb branch_name xs name up) (λ a r q k. search rules)) b i l);
    }
