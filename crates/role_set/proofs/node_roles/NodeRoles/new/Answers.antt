use Rattle.role_set.proofs.Pairs.{same_sets}
use Rattle.role_set.proofs.Roles.{empty_roles}
use Rattle.role_set.proofs.node_roles.NodeRoles.new.Goals as goal

pub invariant_of-result : goal.invariant_of-result
invariant_of-result c = record { held = tt; signed = tt }

pub returns : goal.returns
returns c = same_sets _ _ empty_roles empty_roles
