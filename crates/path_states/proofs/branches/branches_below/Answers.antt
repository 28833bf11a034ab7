use Rattle.std.proofs.Common.{ℕ, List, subst}
use Rattle.path_states.specs.Branches.{HaveBranches}
use Rattle.path_states.specs.declared.branches.Branches.{Branches}
use Rattle.path_states.proofs.Branching.{below_both}
use Rattle.path_states.proofs.branches.branches_below.Goals as goal

pub returns : goal.returns
returns c = λ up.
    let tree = c.args.tree.now in
    let names = c.args.names.now in
    let bs : Branches = record { child_edges = c.in_ok-child_edges.child_edges; descendant_edges = c.in_ok-descendant_edges.descendant_edges } in
    below_both tree names c.args.state.now bs
    (record { rise = c.in_ok-child_edges.ensures.rise; have = subst (λ (z : List ℕ). HaveBranches tree names z c.in_ok-child_edges.child_edges.items) c.deref.ensures.value (c.in_ok-child_edges.ensures.have up) })
    (record { rise = c.in_ok-descendant_edges.ensures.rise; have = subst (λ (z : List ℕ). HaveBranches tree names z c.in_ok-descendant_edges.descendant_edges.items) c.deref-2.ensures.value (c.in_ok-descendant_edges.ensures.have up) })
