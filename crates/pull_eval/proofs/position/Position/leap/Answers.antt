use Rattle.std.proofs.Common.{inl, refl}
use Rattle.pull_eval.proofs.position.Position.leap.Goals as goal

pub returns-then-not-may_leap-clause-leaps : goal.returns-then-not-may_leap-clause-leaps
returns-then-not-may_leap-clause-leaps g c = λ past k b a. (b, refl, tt, inl refl)
