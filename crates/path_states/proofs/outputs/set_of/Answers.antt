use Rattle.std.proofs.Common.{◌≡◌, ◌+◌, ℕ, true, List, get_or, take, sym, ◌∙◌, ap, subst}
use Rattle.std.specs.Prelude.{◌↔◌}
use Rattle.std.specs.Ordering.{nat_cmp}
use Rattle.std.specs.FinSet.{FinSet, contains, insert, contains-empty}
use Rattle.std.proofs.lemmas.Bool.{false≢true}
use Rattle.std.proofs.lemmas.List.{take_more, take_all}
use Rattle.gcx_model.specs.Members.{In}
use Rattle.path_states.proofs.RoleSets.{inserted}
use Rattle.path_states.proofs.outputs.set_of.Goals as goal

pub loop-number-init : goal.loop-number-init
loop-number-init c = λ r. ((λ e. absurd (false≢true (sym (contains-empty nat_cmp r) ∙ (ap (λ (s : FinSet nat_cmp). contains s r) (sym c.new-roles.ensures) ∙ e)))), (λ i. absurd i))

pub loop-number-preserved : goal.loop-number-preserved
loop-number-preserved c = λ r.
    let i = c.loop-number.number-index in
    let x = get_or c.args.numbers.now i 0 in
    subst (λ (s : FinSet nat_cmp). contains s r ≡ true ↔ In r (take (i + 1) c.args.numbers.now)) (sym c.in_ok-give.ensures.ok)
    (subst (λ (z : List ℕ). contains (insert c.loop-number.roles x) r ≡ true ↔ In r z) (sym (take_more c.args.numbers.now i 0 c.loop-number-test.true))
    (inserted c.loop-number.roles (take i c.args.numbers.now) x c.loop-number.invariant r))

pub returns : goal.returns
returns c = λ r. subst (λ (z : List ℕ). contains c.loop-number.roles r ≡ true ↔ In r z) (take_all c.loop-number.number-index c.args.numbers.now c.loop-number-test.false) (c.loop-number.invariant r)
