use Rattle.std.proofs.Common.{ap, sym, subst, ◌∙◌, arith}
use Rattle.std.specs.FinSet.{remove}
use Rattle.role_set.specs.Words.{roles_of, HighOnce}
use Rattle.role_set.proofs.Roles.{remove_low, remove_high, high_once-filter}
use Rattle.role_set.proofs.RoleSet.take.Goals as goal

pub returns-then-role-lt-WORD_BITS : goal.returns-then-role-lt-WORD_BITS
returns-then-role-lt-WORD_BITS c =
    remove_low c.self.inside.low _ c.args.role.0 _ c.self.invariant.1 c.if-role-lt-WORD_BITS.true c.without_bit-self-inside.ensures ∙ ap (λ s. remove s c.args.role.0) c.self.view_is

pub returns-else-role-lt-WORD_BITS : goal.returns-else-role-lt-WORD_BITS
returns-else-role-lt-WORD_BITS c =
    ap (roles_of c.self.inside.low) c.remove_number.ensures.items ∙ remove_high c.self.inside.low c.args.role.0 _ c.if-role-lt-WORD_BITS.false ∙ ap (λ s. remove s c.args.role.0) c.self.view_is

pub invariant_of-self-else-role-lt-WORD_BITS : goal.invariant_of-self-else-role-lt-WORD_BITS
invariant_of-self-else-role-lt-WORD_BITS c = (omega (arith, c.self.invariant.0, c.remove_number.ensures.capacity), subst HighOnce (sym c.remove_number.ensures.items) (high_once-filter _ _ c.self.invariant.1))
