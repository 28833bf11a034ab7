use Rattle.std.proofs.Common.{List, arith, subst}
use Rattle.path_states.specs.Moves.{HasParts}
use Rattle.path_states.specs.State.{StateView}
use Rattle.path_states.proofs.Remembering.{leads_last, leads_same}
use Rattle.path_states.proofs.remembered.Remembered.add.Goals as goal

pub returns-then-self-len-clause-ok : goal.returns-then-self-len-clause-ok
returns-then-self-len-clause-ok c = λ tree names a. leads_last c.args.self.now c.add_last.new.self c.args.state c.args.from c.args.number c.in_ok-to.to c.in_ok-to.ensures.ok c.in_ok-to.ensures.number tree names a c.in_ok-to.ensures.kept c.in_ok-to.ensures.moves c.in_ok-to.ensures.bytes c.in_ok-to.ensures.bound

pub returns-in-Some-clause-ok : goal.returns-in-Some-clause-ok
returns-in-Some-clause-ok c = leads_same c.args.self.now c.remember.new.self c.args.state c.args.from c.args.number c.in-Some.to c.remember.ensures.room c.remember.ensures.bound c.remember.ensures.states c.remember.ensures.kept
    (λ l. let m = c.if-self-len.false in absurd (omega arith)) c.in-Some.ensures.kept
    (subst (λ (z : List StateView). HasParts z c.in-Some.to c.args.state) c.deref.ensures.value c.in-Some.ensures.same) c.remember.ensures.moves
