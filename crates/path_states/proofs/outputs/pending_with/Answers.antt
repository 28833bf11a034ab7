use Rattle.std.proofs.Common.{ℕ, List, subst}
use Rattle.path_states.specs.Active.{Waits}
use Rattle.path_states.specs.Lists.{From, Gains}
use Rattle.path_states.proofs.outputs.pending_with.Goals as goal

pub returns : goal.returns
returns c = subst (λ (z : List ℕ). Gains z c.put_all_pending.new.pending.items (From c.args.active.now (Waits c.args.tree.now))) c.in_ok-pending.ensures c.in_ok-put_all_pending.ensures
