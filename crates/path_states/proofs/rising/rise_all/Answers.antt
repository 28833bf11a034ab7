use Rattle.std.proofs.Common.{◌≡◌, ℕ, subst, refl}
use Rattle.gcx_model.specs.Members.{In}
use Rattle.path_states.specs.Lists.{From}
use Rattle.path_states.proofs.Gaining.{gains_start, gains_next, gains_all, gains_as}
use Rattle.path_states.proofs.rising.rise_all.Goals as goal

pub loop-number-init : goal.loop-number-init
loop-number-init c = (gains_start c.args.numbers.now.items (λ (x y : ℕ). x ≡ y), λ h. h)

pub loop-number-preserved : goal.loop-number-preserved
loop-number-preserved c = (gains_next c.args.numbers.now.items c.loop-number.numbers.items c.rise.new.numbers.items c.args.more.now (λ (x y : ℕ). x ≡ y) c.loop-number.number-index c.loop-number-test.true c.loop-number.invariant.0 c.in_ok-rise.ensures.gains, λ h. c.in_ok-rise.ensures.climbs (c.loop-number.invariant.1 h))

pub returns : goal.returns
returns c = record {
  gains = gains_as c.args.numbers.now.items c.loop-number.numbers.items (From c.args.more.now (λ (x y : ℕ). x ≡ y)) (λ (y : ℕ). In y c.args.more.now)
      (λ y f. subst (λ (z : ℕ). In z c.args.more.now) f.is f.member)
      (λ y i. record { of = y; member = i; is = refl })
      (gains_all c.args.numbers.now.items c.loop-number.numbers.items c.args.more.now (λ (x y : ℕ). x ≡ y) c.loop-number.number-index c.loop-number-test.false c.loop-number.invariant.0);
  climbs = c.loop-number.invariant.1;
}
