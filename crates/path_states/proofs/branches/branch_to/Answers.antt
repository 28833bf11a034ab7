use Rattle.std.proofs.Common.{refl}
use Rattle.path_states.proofs.branches.branch_to.Goals as goal

pub returns : goal.returns
returns c = λ up. record { leads = refl; asks = c.asked-name.ensures up }
