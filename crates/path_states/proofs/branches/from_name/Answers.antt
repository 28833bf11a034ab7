use Rattle.std.proofs.Common.{List, ltb, sym, subst, rules}
use Rattle.std.proofs.lemmas.List.Sorted.{IsNonDecreasingBy-drop, IsPartitionPoint-from_clause, IsPartitionedBy-ltb}
use Rattle.gcx_model.specs.Members.{In}
use Rattle.path_states.specs.Branches.{Rise, branch_name}
use Rattle.path_states.specs.declared.branches.Branch.{Branch}
use Rattle.path_states.proofs.Branching.{in_from, of_drop}
use Rattle.path_states.proofs.branches.from_name.Goals as goal

pub returns : goal.returns
returns c =
    let xs = c.args.branches.now in
    let name = c.args.name in
    let low = c.partition_point-low.result in
    record {
      of = λ b i. of_drop xs low b (subst (λ (z : List Branch). In b z) c.split_at.ensures.back i);
      all = λ up b i l. subst (λ (z : List Branch). In b z) (sym c.split_at.ensures.back)
          (in_from xs name low (IsPartitionPoint-from_clause (λ (x : Branch). ltb x.name name) xs low c.partition_point-low.ensures.partitioned (IsPartitionedBy-ltb branch_name xs name up) (λ a r q k. search rules)) b i l);
      rise = λ up. subst Rise (sym c.split_at.ensures.back) (IsNonDecreasingBy-drop branch_name low xs up);
    }
