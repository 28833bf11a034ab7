use Rattle.std.proofs.Common.{List, sym, subst}
use Rattle.gcx_model.specs.Members.{In}
use Rattle.std.proofs.Common.{take, drop}
use Rattle.matcher.specs.Signs.{InTurn}
use Rattle.matcher.specs.declared.signs.Sign.{Sign}
use Rattle.path_states.proofs.Gaining.{gains_insert}
use Rattle.matcher.proofs.Turns.{turn_insert}
use Rattle.matcher.proofs.signs.put_sign.Goals as goal

pub returns-clause-ok : goal.returns-clause-ok
returns-clause-ok c = gains_insert c.args.signs.now.items c.insert.new.self.items c.place-place.result c.args.sign c.in_ok-insert.ensures.items

pub returns-clause-turn : goal.returns-clause-turn
returns-clause-turn c = λ t.
    turn_insert c.args.signs.now.items c.insert.new.self.items c.place-place.result c.args.sign c.in_ok-insert.ensures.items t
    (λ s i. c.place-place.ensures.before (subst InTurn (sym c.deref.ensures.value) t) s (subst (λ (z : List Sign). In s (take c.place-place.result z)) (sym c.deref.ensures.value) i))
    (λ s i. c.place-place.ensures.behind s (subst (λ (z : List Sign). In s (drop c.place-place.result z)) (sym c.deref.ensures.value) i))
