use Rattle.std.proofs.Common.{ap, sym, subst, ◌∙◌, arith}
use Rattle.role_set.specs.Words.{roles_of, HighOnce}
use Rattle.role_set.proofs.Roles.{empty_roles}
use Rattle.role_set.proofs.RoleSet.new.Goals as goal

pub invariant_of-result : goal.invariant_of-result
invariant_of-result c = (omega (arith, c.new.ensures.capacity), subst HighOnce (sym c.new.ensures.items) tt)

pub returns : goal.returns
returns c = ap (roles_of 0) c.new.ensures.items ∙ empty_roles
