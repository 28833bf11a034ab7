use Rattle.std.proofs.Common.{ap}
use Rattle.std.proofs.lemmas.Bool.{false≢true}
use Rattle.role_set.specs.Pairs.{held_numbers}
use Rattle.role_set.proofs.Meeting.{none_meets}
use Rattle.role_set.proofs.high_roles.meets_high.Goals as goal

pub returns-in-None : goal.returns-in-None
returns-in-None c = ((λ e. absurd (false≢true e)), (λ m. absurd (none_meets _ _ (ap held_numbers c.in-None.is) m)))
