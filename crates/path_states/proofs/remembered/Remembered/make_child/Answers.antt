use Rattle.std.proofs.Common.{subst}
use Rattle.path_states.specs.State.{StateView, MovesBelow}
use Rattle.path_states.proofs.Looking.{one_at, read_at}
use Rattle.path_states.proofs.remembered.Remembered.make_child.Goals as goal

pub returns-clause-ok : goal.returns-clause-ok
returns-clause-ok c = λ a.
    let above = c.index.result.now in
    let at = read_at c.args.self.now.states.items c.args.from above c.requires.known c.index.ensures in
    c.in_ok-to.ensures.ok c.args.tree.now c.args.steps.now.names.items (record {
      right = a.right;
      there = c.requires.known;
      made = c.in_ok-state.ensures.made (a.right.made c.args.from above at).climbs;
      step = λ up kind here is. subst (λ (z : StateView). MovesBelow c.args.tree.now z kind c.in_ok-state.state) (one_at c.args.self.now.states.items c.args.from above up at here) (c.in_ok-state.ensures.leads a.index kind is);
    })
