use Rattle.std.proofs.Common.{sym, ◌∙◌, refl}
use Rattle.std.proofs.lemmas.Bool.{false≢true}
use Rattle.role_set.proofs.Meeting.{meets_at, apart_next, apart_all}
use Rattle.role_set.proofs.numbers.has_one_of.Goals as goal

pub loop-number-init : goal.loop-number-init
loop-number-init c k a b = false≢true a

pub returns-then-has_number : goal.returns-then-has_number
returns-then-has_number c = ((λ _. meets_at c.args.numbers.now _ c.loop-number.number-index 0 c.loop-number-test.true (sym c.has_number.ensures ∙ c.if-has_number.true)), (λ _. refl))

pub loop-number-preserved : goal.loop-number-preserved
loop-number-preserved c = apart_next c.args.numbers.now _ c.loop-number.number-index 0 c.loop-number-test.true c.loop-number.invariant (sym c.has_number.ensures ∙ c.if-has_number.false)

pub returns : goal.returns
returns c = ((λ e. absurd (false≢true e)), (λ m. absurd (apart_all c.args.numbers.now _ c.loop-number.number-index c.loop-number-test.false c.loop-number.invariant m)))
