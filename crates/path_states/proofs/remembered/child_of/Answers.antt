use Rattle.std.proofs.Common.{ℕ, List, sym, subst}
use Rattle.path_states.specs.Active.{ActiveBelow}
use Rattle.path_states.specs.Lists.{Climbs, Holds}
use Rattle.path_states.specs.State.{Gathers}
use Rattle.path_states.proofs.remembered.child_of.Goals as goal

pub returns : goal.returns
returns c =
    let tree = c.args.tree.now in
    let above = c.args.above.now in
    let s = c.in_ok-state.state in
    record {
      made = λ h. c.in_ok-state.ensures.made (subst Climbs (sym c.whole.ensures) h);
      leads = λ index kind is. record {
        active = subst (λ (z : List ℕ). Holds z (ActiveBelow tree above.active above.pending kind)) (sym c.in_ok-state.ensures.active)
            (subst (λ (z : List ℕ). Holds c.in_ok-active.active.items (ActiveBelow tree above.active z kind)) c.pending.ensures
            (subst (λ (z : List ℕ). Holds c.in_ok-active.active.items (ActiveBelow tree z c.pending.result.now kind)) c.active.ensures (c.in_ok-active.ensures index kind is)));
        gathers = subst (λ (z : List ℕ). Gathers tree above.pending z s) c.whole.ensures (subst (λ (z : List ℕ). Gathers tree z c.whole.result.now s) c.pending-2.ensures c.in_ok-state.ensures.gathers);
      };
    }
