use Rattle.std.proofs.Common.{ℕ, List, sym, subst}
use Rattle.path_states.specs.Active.{Tells}
use Rattle.path_states.specs.Lists.{Climbs, From, Gains}
use Rattle.path_states.specs.State.{own_roles}
use Rattle.path_states.proofs.outputs.given_with.Goals as goal

pub returns : goal.returns
returns c = record {
  holds = (let g = subst (λ (z : List ℕ). Gains z c.put_own.new.roles.items (From c.args.active.now (Tells own_roles c.args.tree.now))) c.in_ok-given.ensures c.in_ok-put_own.ensures.gains in record { has = g.has });
  climbs = λ h. c.in_ok-put_own.ensures.climbs (subst Climbs (sym c.in_ok-given.ensures) h);
}
