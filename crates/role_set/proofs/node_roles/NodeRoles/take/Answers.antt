use Rattle.std.proofs.Common.{ap, sym, subst, ◌∙◌}
use Rattle.std.specs.FinSet.{remove}
use Rattle.role_set.specs.NodeRoles.{NodeSets}
use Rattle.role_set.specs.Pairs.{held_numbers}
use Rattle.role_set.specs.Words.{roles_of, HighOnce}
use Rattle.role_set.proofs.Pairs.{same_sets}
use Rattle.role_set.proofs.Roles.{remove_low, remove_high, high_once-filter}
use Rattle.role_set.proofs.node_roles.NodeRoles.take.Goals as goal

pub returns-then-role-lt-WORD_BITS : goal.returns-then-role-lt-WORD_BITS
returns-then-role-lt-WORD_BITS c = same_sets _ _
    (remove_low c.self.inside.held _ c.args.role.0 (held_numbers c.self.inside.high) c.self.invariant.held c.if-role-lt-WORD_BITS.true c.without_bit-self-inside.ensures
    ∙ ap (λ (v : NodeSets). remove v.held c.args.role.0) c.self.view_is)
    (ap (λ (v : NodeSets). v.signed) c.self.view_is)

pub returns-else-role-lt-WORD_BITS : goal.returns-else-role-lt-WORD_BITS
returns-else-role-lt-WORD_BITS c = same_sets _ _
    (ap (roles_of c.self.inside.held) c.take_high.ensures.held
    ∙ remove_high c.self.inside.held c.args.role.0 (held_numbers c.self.inside.high) c.if-role-lt-WORD_BITS.false
    ∙ ap (λ (v : NodeSets). remove v.held c.args.role.0) c.self.view_is)
    (ap (roles_of c.self.inside.signed) c.take_high.ensures.signed ∙ ap (λ (v : NodeSets). v.signed) c.self.view_is)

pub invariant_of-self-else-role-lt-WORD_BITS : goal.invariant_of-self-else-role-lt-WORD_BITS
invariant_of-self-else-role-lt-WORD_BITS c =
    record {
      held = subst HighOnce (sym c.take_high.ensures.held) (high_once-filter _ (held_numbers c.self.inside.high) c.self.invariant.held);
      signed = subst HighOnce (sym c.take_high.ensures.signed) c.self.invariant.signed;
    }
