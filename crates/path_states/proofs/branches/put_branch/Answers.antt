use Rattle.path_states.proofs.Branching.{puts_none, puts_one}
use Rattle.path_states.proofs.Looking.{none_at, read_at}
use Rattle.path_states.proofs.branches.put_branch.Goals as goal

pub returns-in_ok-push-in-Some : goal.returns-in_ok-push-in-Some
returns-in_ok-push-in-Some c = λ up.
    let at = read_at c.args.tree.now c.args.number c.in-Some.state.now c.in-Some.ensures.lookup.3.0 c.in-Some.ensures.lookup.1 in
    puts_one c.args.tree.now c.args.names.now c.args.number c.args.branches.now.items c.push.new.self.items c.in-Some.state.now c.branch_to-branch.result c.in_ok-push-in-Some.ensures.items at (c.branch_to-branch.ensures up)

pub returns-in-None : goal.returns-in-None
returns-in-None c = λ up. puts_none c.args.tree.now c.args.names.now c.args.number c.args.branches.now.items (λ s at. none_at c.args.tree.now c.args.number s c.in-None.ensures.lookup.3 at)
