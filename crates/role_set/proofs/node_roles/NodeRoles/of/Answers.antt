use Rattle.std.proofs.Common.{ap, sym, subst, ◌∙◌}
use Rattle.std.proofs.lemmas.Bool.{false≢true}
use Rattle.std.specs.FinSet.{contains}
use Rattle.role_set.specs.Words.{roles_of, HighOnce}
use Rattle.role_set.proofs.Pairs.{same_sets}
use Rattle.role_set.proofs.Roles.{empty_roles, no_high}
use Rattle.role_set.proofs.node_roles.NodeRoles.of.Goals as goal

pub invariant_of-result : goal.invariant_of-result
invariant_of-result c =
    record {
      held = subst HighOnce (sym c.in_ok-high.ensures.held) c.roles.invariant.1;
      signed = subst HighOnce (sym c.in_ok-high.ensures.signed) tt;
    }

pub returns-clause-ok : goal.returns-clause-ok
returns-clause-ok c = same_sets _ _
    (ap (roles_of c.roles.inside.low) c.in_ok-high.ensures.held ∙ c.roles.view_is)
    (ap (roles_of 0) c.in_ok-high.ensures.signed ∙ empty_roles)

pub returns-in_err-high-clause-low : goal.returns-in_err-high-clause-low
returns-in_err-high-clause-low c low = absurd (false≢true (c.in_err-high.ensures.none
    (no_high c.roles.inside.low c.roles.inside.high.items c.roles.invariant.1 (λ k has. low k (ap (λ s. contains s k) (sym c.roles.view_is) ∙ has)))))
