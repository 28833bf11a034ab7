use Rattle.std.proofs.Common.{ℕ, inl, inr, sym, subst}
use Rattle.path_states.specs.Active.{Tells}
use Rattle.path_states.specs.State.{first_roles}
use Rattle.path_states.proofs.Gaining.{in_more, from_all}
use Rattle.path_states.proofs.outputs.have_firsts.Goals as goal

pub loop-number-preserved : goal.loop-number-preserved
loop-number-preserved c = λ r f. elim (in_more c.args.active.now c.loop-number.number-index 0 f.of c.loop-number-test.true f.member) [
  | inl m ↦ c.loop-number.invariant r (record { of = f.of; member = m; is = f.is })
  | inr e ↦ c.has_firsts.ensures c.if-has_firsts.false r (subst (λ (z : ℕ). Tells first_roles c.args.tree.now z r) (sym e) f.is)
]

pub returns : goal.returns
returns c = λ h r f. c.loop-number.invariant r (from_all c.args.active.now (Tells first_roles c.args.tree.now) c.loop-number.number-index r c.loop-number-test.false f)
