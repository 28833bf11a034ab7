use Rattle.std.proofs.Common.{rules, sym, ◌∙◌, ◌≡◌, [], arith}
use Rattle.role_set.specs.Words.{roles_of}
use Rattle.role_set.proofs.Roles.{empty_roles, parts_of_empty}
use Rattle.role_set.proofs.RoleSet.is_empty.Goals as goal

pub returns-then-self-eq0 : goal.returns-then-self-eq0
returns-then-self-eq0 c = (
  λ is. let none : c.self.inside.high.items ≡ [] = c.has_none.ensures.0 is in
      sym c.self.view_is ∙ (λ i. roles_of (c.if-self-eq0.true i) (none i)) ∙ empty_roles,
  λ is. let parts = parts_of_empty c.self.inside.low c.self.inside.high.items (omega arith) c.self.invariant.1 (c.self.view_is ∙ is) in
      c.has_none.ensures.1 parts.1,
)

pub returns-else-self-eq0 : goal.returns-else-self-eq0
returns-else-self-eq0 c = (
  λ is. let zero : c.self.inside.low ≡ 0 = search rules in absurd (c.if-self-eq0.false zero),
  λ is. let parts = parts_of_empty c.self.inside.low c.self.inside.high.items (omega arith) c.self.invariant.1 (c.self.view_is ∙ is) in
      absurd (c.if-self-eq0.false parts.0),
)
