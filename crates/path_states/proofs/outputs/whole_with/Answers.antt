use Rattle.std.proofs.Common.{ℕ, List, sym, subst}
use Rattle.path_states.specs.Active.{Tells}
use Rattle.path_states.specs.Lists.{Climbs, From, Gains}
use Rattle.path_states.specs.State.{whole_roles}
use Rattle.path_states.proofs.outputs.whole_with.Goals as goal

pub returns : goal.returns
returns c = record {
  gains = subst (λ (z : List ℕ). Gains z c.put_all_whole.new.numbers.items (From c.args.active.now (Tells whole_roles c.args.tree.now))) c.in_ok-whole.ensures c.in_ok-put_all_whole.ensures.gains;
  climbs = λ h. c.in_ok-put_all_whole.ensures.climbs (subst Climbs (sym c.in_ok-whole.ensures) h);
}
