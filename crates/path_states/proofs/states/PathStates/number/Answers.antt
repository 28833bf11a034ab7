use Rattle.std.proofs.Common.{ℕ, List, sym, subst}
use Rattle.gcx_base.specs.declared.kind.Kind.TheVariants.{Element}
use Rattle.path_states.specs.Names.{AreOrdered, IsNameNumber}
use Rattle.path_states.specs.States.{StatesView}
use Rattle.path_states.proofs.states.PathStates.number.Goals as goal

pub returns : goal.returns
returns c = subst (λ (v : StatesView). IsNameNumber v.names (Element c.args.name.now) c.number_in.result) c.self.view_is
    (subst (λ (z : List (List ℕ)). IsNameNumber z (Element c.args.name.now) c.number_in.result) c.deref.ensures.value
    (c.number_in.ensures (subst AreOrdered (sym c.deref.ensures.value) c.self.invariant.known.index.ordered)))
