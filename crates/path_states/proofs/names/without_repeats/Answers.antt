use Rattle.std.proofs.Common.{ℕ, List, subst}
use Rattle.std.proofs.lemmas.List.{take_all}
use Rattle.path_states.specs.Names.{AreOnce}
use Rattle.path_states.proofs.Naming.{once_start, once_more}
use Rattle.path_states.proofs.names.without_repeats.Goals as goal

pub loop-name-init : goal.loop-name-init
loop-name-init c = λ up. once_start c.new-once.result.items c.new-once.ensures.items

pub loop-name-preserved : goal.loop-name-preserved
loop-name-preserved c = λ up. once_more c.args.names.now c.loop-name.name-index c.name-item.result c.loop-name-test.true c.name-item.is up c.loop-name.once.items c.put_new.new.names.items (c.loop-name.invariant up) (c.in_ok-put_new.ensures (c.loop-name.invariant up).ordered)

pub returns : goal.returns
returns c = λ up. subst (λ (z : List (List ℕ)). AreOnce z c.loop-name.once.items) (take_all c.loop-name.name-index c.args.names.now c.loop-name-test.false) (c.loop-name.invariant up)
