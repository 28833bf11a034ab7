use Rattle.placed_laws.proofs.Bindings as from
use Rattle.placed_laws.proofs.binding.copy_bound_law.Goals as goal

pub returns : goal.returns
returns c = from.copy_bound_law
