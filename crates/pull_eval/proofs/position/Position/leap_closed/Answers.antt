use Rattle.std.proofs.Common.{inl, refl}
use Rattle.pull_eval.proofs.position.Position.leap_closed.Goals as goal

pub returns-in-None-clause-leaps : goal.returns-in-None-clause-leaps
returns-in-None-clause-leaps g c = λ past k b a. (b, refl, tt, inl refl)
