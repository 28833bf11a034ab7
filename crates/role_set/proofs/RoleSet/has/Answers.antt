use Rattle.std.proofs.Common.{ap, sym, ◌∙◌}
use Rattle.std.specs.FinSet.{contains}
use Rattle.role_set.proofs.Roles.{low_bit, high_member}
use Rattle.role_set.proofs.RoleSet.has.Goals as goal

pub returns-then-role-lt-WORD_BITS : goal.returns-then-role-lt-WORD_BITS
returns-then-role-lt-WORD_BITS c =
    c.has_bit.ensures ∙ sym (low_bit c.self.inside.low _ c.args.role.0 c.self.invariant.1 c.if-role-lt-WORD_BITS.true) ∙ ap (λ s. contains s c.args.role.0) c.self.view_is

pub returns-else-role-lt-WORD_BITS : goal.returns-else-role-lt-WORD_BITS
returns-else-role-lt-WORD_BITS c =
    c.has_number.ensures ∙ sym (high_member c.self.inside.low _ c.args.role.0 c.if-role-lt-WORD_BITS.false) ∙ ap (λ s. contains s c.args.role.0) c.self.view_is
