use Rattle.std.proofs.Common.{ℕ, List, [], sym, subst}
use Rattle.path_states.specs.Active.{Tells}
use Rattle.path_states.specs.Lists.{From, Gains}
use Rattle.path_states.specs.State.{context_roles}
use Rattle.path_states.proofs.Gaining.{gains_start, gains_next, gains_all, holds_from}
use Rattle.path_states.proofs.outputs.contexts_with.Goals as goal

pub loop-number-init : goal.loop-number-init
loop-number-init c = subst (λ (z : List ℕ). Gains [] z (From [] (Tells context_roles c.args.tree.now))) (sym c.new-contexts.ensures.items) (gains_start [] (Tells context_roles c.args.tree.now))

pub loop-number-preserved : goal.loop-number-preserved
loop-number-preserved c = gains_next [] c.loop-number.contexts.items c.put_contexts.new.numbers.items c.args.active.now (Tells context_roles c.args.tree.now) c.loop-number.number-index c.loop-number-test.true c.loop-number.invariant c.in_ok-put_contexts.ensures

pub returns : goal.returns
returns c = holds_from c.loop-number.contexts.items (From c.args.active.now (Tells context_roles c.args.tree.now))
    (gains_all [] c.loop-number.contexts.items c.args.active.now (Tells context_roles c.args.tree.now) c.loop-number.number-index c.loop-number-test.false c.loop-number.invariant)
